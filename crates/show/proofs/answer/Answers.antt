use Rattle.show.proofs.Answering.{answer-read, answer-counts, answer_ready, answered}
use Rattle.show.proofs.answer.Goals as goal

pub read-rec-requires : goal.read-rec-requires
read-rec-requires c = search answer-read

pub in_order-map-requires : goal.in_order-map-requires
in_order-map-requires c = search answer-counts

pub show_hole-requires : goal.show_hole-requires
show_hole-requires c = search answer_ready

pub returns : goal.returns
returns c = search answered
