pub mod Run  -- what the run comes to
pub mod Start  -- where the machine starts
pub mod Leaving  -- an admitted input, and what is left behind
pub mod MachineLaws  -- the machine where no record is given
