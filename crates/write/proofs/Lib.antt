pub mod Storing  -- the bytes of a record, and of records one after another
pub mod Ending  -- each way that writing ends
