use Rattle.records.proofs.Judging.{from_types, from_terms}
use Rattle.records.proofs.counted_from.Goals as goal

pub returns-then-element-le-TYPE_HIGH : goal.returns-then-element-le-TYPE_HIGH
returns-then-element-le-TYPE_HIGH c = from_types _ c.if-element-le-TYPE_HIGH.true

pub returns-else-element-le-TYPE_HIGH : goal.returns-else-element-le-TYPE_HIGH
returns-else-element-le-TYPE_HIGH c = from_terms _ c.if-element-le-TYPE_HIGH.false
