pub mod Renamed  -- a variable that has a place, renamed
pub mod Renamings  -- the map that follows a hole's arguments, each of which has a place
pub mod LevelsLaws  -- one level of a term written anew, by the record read
pub mod PartsLaws  -- a term of a fine store, by the record read
pub mod Terms  -- what is known of a term of a fine table
pub mod TermsLaws  -- what is known of a term is known of its parts
pub mod Lambdas  -- lambdas written after a body
pub mod LambdasLaws  -- lambdas written one by one, and none
pub mod BelowLaws  -- what a loop that takes lambdas off keeps
pub mod Writes  -- the contracts of a writer with fuel
pub mod WritesLaws  -- the big-step rules of a writer with fuel
pub mod EachLaws  -- what a loop that writes the arguments of a list keeps
