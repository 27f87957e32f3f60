pub mod Asks  -- what the functions ask, and what is said of one equation
pub mod Judging  -- answers 6 and 7 together
