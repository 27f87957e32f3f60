pub mod Turns  -- what a turn of the pattern check has to show
