pub mod Turning  -- what a turn of the run's loop keeps
pub mod Starting  -- the equations enter, and the first is taken in hand
pub mod Pairs  -- how many pairs the queue words have room for
pub mod Written  -- to clear what was written is to clear all
pub mod Admitting  -- an admitted input where the machine starts
pub mod Ending  -- what is left behind
