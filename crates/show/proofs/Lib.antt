pub mod Shows  -- the big-step rules of showing
pub mod Ready  -- what showing asks still holds where the code goes on
pub mod Below  -- the same for the body below lambdas
pub mod Each  -- the same for an argument list, argument by argument
pub mod Answering  -- the answer of an input hole, over its context variables in order
