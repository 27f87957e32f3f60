pub mod Joined  -- tests in any order and over joined lists
pub mod Ranges  -- the kind of a record, as its mark tells it
pub mod Judging  -- one mark is read and judged
pub mod Earlier  -- types are new
pub mod Fresh  -- references one after the other
pub mod Uses  -- references are the first
pub mod Lengths  -- lists are short and not mixed
pub mod Holding  -- a field as the marks judge it
pub mod Fields  -- the fields of a record
pub mod Cells  -- a cell, by the marks
pub mod Keeping  -- a record keeps the rules
pub mod Noting  -- one more record is noted
pub mod Passing  -- the search
