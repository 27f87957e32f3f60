pub mod Push  -- the invariant kept by what is appended
pub mod Write  -- the invariant kept by lists and terms that are appended
pub mod Narrow  -- the invariant kept by narrowing and by settling a hole
pub mod Rewriting  -- the invariant kept by a term written anew, and fuel enough for it
pub mod Keep  -- the walk keeps the invariant, and its fuel suffices
pub mod Copy  -- copying and expanding keep the invariant, and their fuel suffices
pub mod Assign  -- solving a hole keeps the invariant
pub mod Falls  -- what is ahead of a run falls
pub mod Turn  -- a step keeps the state of the run
pub mod Run  -- the run keeps the invariant, and its fuel suffices
pub mod Showing  -- showing an answer ends
pub mod Machine  -- the machine on an admitted input
pub mod Answers  -- what solving and show answer
pub mod Ends  -- the machine, show and printing never run out of fuel
