use Rattle.write.proofs.Ending.{above_most, above_table, broken_ends, short_file, records_ask, all-written}
use Rattle.write.proofs.try_write.Goals as goal
use Rattle.write.proofs.try_write.Goals.{then-n-gt2048-via-then-n-gt2048, then-n-gt2048-via-else-n-gt2048+then-table-n}

pub returns-then-n-gt2048 : goal.returns-then-n-gt2048
returns-then-n-gt2048 c = elim c.then-n-gt2048.branch [
  | then-n-gt2048-via-then-n-gt2048 w ↦ search above_most
  | then-n-gt2048-via-else-n-gt2048+then-table-n w ↦ search above_table
]

pub returns-in_err-refuse_broken : goal.returns-in_err-refuse_broken
returns-in_err-refuse_broken c =
    broken_ends _ _ _ c.if-n-gt2048.false c.if-table-n.false _ c.refuse_broken.ensures _ c.in_err-refuse_broken.was _ c.from_residual.ensures

pub returns-then-file-n : goal.returns-then-file-n
returns-then-file-n c =
    short_file _ _ _ c.if-n-gt2048.false c.if-table-n.false _ c.refuse_broken.ensures _ c.in_ok-refuse_broken.was c.if-file-n.true

pub write_records-requires : goal.write_records-requires
write_records-requires c =
    records_ask _ _ _ c.if-n-gt2048.false c.if-table-n.false _ c.refuse_broken.ensures _ c.in_ok-refuse_broken.was c.if-file-n.false

pub returns : goal.returns
returns c =
    all-written _ _ _ c.if-n-gt2048.false c.if-table-n.false _ c.refuse_broken.ensures _ c.in_ok-refuse_broken.was c.if-file-n.false _ c.write_records.ensures
