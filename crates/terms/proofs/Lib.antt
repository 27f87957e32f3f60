pub mod Occurrences  -- offending occurrences in a term and in a list
pub mod Arguments  -- an argument list, turn by turn
pub mod Terms  -- a term, turn by turn
