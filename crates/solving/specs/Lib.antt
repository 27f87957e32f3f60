pub mod Checking  -- an input within its words, and what is left behind for what is asked
