pub mod Right  -- one record keeps the rules
pub mod Sane  -- a record is appended
pub mod Added  -- terms and lists that are written
pub mod Lists  -- contexts, variables and occurrences that are written
pub mod Narrow  -- settling and narrowing
pub mod Parts  -- what a writer asks, and argument lists written anew
pub mod Rewriting  -- a term written anew
pub mod Copy  -- copying and expanding
pub mod Walk  -- the walk, and solving a hole
pub mod Turn  -- each step, and the run
pub mod Start  -- where the machine starts
pub mod Solved  -- AFTER SOLVING THE TABLE IS LEGAL AGAIN
pub mod SolvedWritten  -- and can be written to a file
