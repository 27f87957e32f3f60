pub mod Head  -- what a rigid head is written as
pub mod Walks  -- the walk's contracts
pub mod Ready  -- what the walk of a term, of a list and at an occurrence asks
pub mod Shared  -- the contracts of the parts of a walk, over what they share
pub mod Solution  -- what a copy of a solution asks and says
pub mod SolutionLaws  -- how high an occurrence's arguments lead
pub mod Assign  -- what step 5 asks and says
