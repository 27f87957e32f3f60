pub mod Stack  -- binder types on a stack
pub mod Heads  -- what the functions answer
pub mod HeadsLaws  -- what the types of heads and binders give
