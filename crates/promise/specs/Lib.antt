pub mod Table  -- a table as types, trees, holes, equations and solutions, and the run's filling
pub mod Notation  -- the printed notation of a tree
pub mod Demand  -- DEMAND 3 AS STATEMENTS
pub mod Examples  -- the fillings of the document's examples
pub mod Reading  -- a table read as types and trees, and what later records leave as it was
pub mod Outcomes  -- a small logic of outcomes
pub mod Writing  -- what writing records does to readings
pub mod Maps  -- the maps of the rules as partial maps
pub mod Positions  -- a list that stands in another
pub mod Following  -- the map that follows a hole's arguments
pub mod Rewriting  -- terms written anew, level by level
pub mod Copying  -- a writer that copies
pub mod State  -- what a store says of holes and solutions
pub mod Narrowing  -- narrowing declares a hole and solves the old one
pub mod Walked  -- what the walk comes to
pub mod Agreeing  -- the agreeing positions of step 4
pub mod Waiting  -- pairs that wait, and what a step comes to
pub mod Meeting  -- steps 2 to 5: two sides meet
pub mod Parts  -- the parts of a term that reads
pub mod TermKnown  -- what is known of a term that is walked, copied or shown
pub mod CopyKnown  -- every position of a context has a place
pub mod SideKnown  -- what is known of a side of a pair
pub mod Readable  -- lists, types and holes of a sound table can be read
pub mod Types  -- a type is one record
pub mod Heads  -- the arguments that a head asks, and its final type
pub mod Typed  -- the checks mean typing
pub mod TableLaws  -- the functions of Table give what the readings say
pub mod Declares  -- what a sound table declares can be read
pub mod Admitting  -- an admitted table's equations have typed patterns as sides
pub mod Starting  -- where the machine starts
pub mod Known  -- what is known of the waiting pairs along the run
pub mod Levels  -- as many levels as there are records expand every solved hole
pub mod Ending  -- the machine's end
pub mod Showing  -- what is written of a hole reads as the run's filling of it
pub mod ShowKnown  -- what is known of a hole that is shown
