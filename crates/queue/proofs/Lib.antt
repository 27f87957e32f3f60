pub mod Joining  -- what joining does to a ring
pub mod Arguments  -- the argument pairs of two lists, joined in order
pub mod Equations  -- the equations that were noted, entered in order
