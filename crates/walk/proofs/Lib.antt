pub mod Head  -- the head that is written is the rule's
pub mod Walks  -- the walk's big-step rules
pub mod Ready  -- what the walk asks still holds where the code goes on
pub mod Below  -- the same for a term below its lambdas
pub mod Body  -- the same for a rigid head
pub mod First  -- the same for the first argument of a list
pub mod After  -- the same for the rest of a list after an argument was walked
pub mod Each  -- the same for an argument list, argument by argument
pub mod Solution  -- a copy of a solution
pub mod Assigning  -- step 5: the map at the start, the solution recorded
