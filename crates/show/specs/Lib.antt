pub mod Shows  -- the contracts of showing
pub mod Ready  -- what showing a term, a list or a hole asks
pub mod Answer  -- what the answer of an input hole asks and says
pub mod OutsideLaws  -- no word past the output's records is written
