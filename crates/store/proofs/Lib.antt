pub mod LentOn  -- a write in a part is a write in the whole
pub mod Pushing  -- a record appended
pub mod Cells  -- cells for noted records, last first
pub mod Writing  -- variables and occurrences written from a map
pub mod Filled  -- so many words set
pub mod Unused  -- found by halves
