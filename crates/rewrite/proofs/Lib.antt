pub mod Renames  -- a variable that has a place is found there
pub mod Follows  -- the map of renamed arguments, filled one by one
pub mod Lambdas  -- lambdas are written one by one after a body
