pub mod Kinds  -- the kinds of fields
pub mod Ranges  -- the marks by name
pub mod Marks  -- what the marks of records mean
pub mod Chains  -- types in chains by their b
pub mod Notes  -- what a pass writes down
pub mod Rows  -- what is known of a record before and after it is looked at
pub mod Noting  -- the equations are noted
pub mod ZerosLaws  -- arrays of zeros serve
