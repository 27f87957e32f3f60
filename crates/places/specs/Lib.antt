pub mod Maps  -- the map by value, read as the rules' list of pairs, both ways
pub mod MapsLaws  -- a map read position by position
pub mod Looking  -- what looking a variable up asks and says
pub mod LookingLaws  -- where a map leads, alone and under lambdas
pub mod Lists  -- lists in the table: what reading them asks
pub mod ListsLaws  -- a list that can be read, and its rest
pub mod FillingLaws  -- an array of places filled along a list
pub mod AlongLaws  -- an array of places filled along arguments of each of which something holds
pub mod Arguments  -- a hole's arguments and a context's variables as maps
pub mod ArgumentsLaws  -- the map of arguments is the rules' map, both ways
pub mod Follow  -- the map that follows a hole's arguments
pub mod FollowLaws  -- the map that follows arguments, filled one by one
pub mod Agree  -- the positions at which two lists of arguments agree
