pub mod Asks  -- what the functions ask and answer
