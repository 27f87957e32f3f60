use Rattle.places.specs.LookingLaws.{within_out, place_inner, led_out, led_at, led-fits}
use Rattle.places.proofs.Map.place_of.Goals as goal

pub returns-then-v-depth : goal.returns-then-v-depth
returns-then-v-depth c = search place_inner

pub look-requires : goal.look-requires
look-requires c = search within_out

pub returns-in_default : goal.returns-in_default
returns-in_default c = search led_out

pub overflow_add-result : goal.overflow_add-result
overflow_add-result c = search led-fits

pub returns : goal.returns
returns c = search led_at
