pub mod Said  -- what a step's answers say, over the rules
pub mod Expand  -- what step 1 asks and says
pub mod Meets  -- which of the steps 2 to 5 two sides ask for
pub mod Same  -- what step 4 asks and says
pub mod Stand  -- the pair in hand where two sides meet
