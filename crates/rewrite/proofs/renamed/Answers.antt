use Rattle.rewrite.proofs.Renames.{renamed_inner, renamed_in, renamed_fits, renamed_outer}
use Rattle.rewrite.proofs.renamed.Goals as goal

pub returns-then-v-depth : goal.returns-then-v-depth
returns-then-v-depth c = search renamed_inner

pub bounds-map-position : goal.bounds-map-position
bounds-map-position c = search renamed_in

pub overflow_add-result : goal.overflow_add-result
overflow_add-result c = search renamed_fits

pub returns : goal.returns
returns c = search renamed_outer
