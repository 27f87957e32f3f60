pub mod Occurrences  -- one hole occurrence
