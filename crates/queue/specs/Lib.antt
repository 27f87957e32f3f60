pub mod Ring  -- what waits in a ring of words
pub mod RingLaws  -- what waits after a pair has left
pub mod Arguments  -- what joining the argument pairs of two lists asks and says
pub mod Equations  -- what entering the equations asks and says
