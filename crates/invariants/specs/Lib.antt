pub mod Forms  -- the form of a term, by its tag; how many variables an occurrence has
pub mod Floor  -- the invariant of the walk
pub mod Grow  -- facts that hold on where the store has grown
pub mod Outside  -- what is outside stays
pub mod Push  -- what is appended, and the rule of a new record
pub mod Write  -- what is said of lists and terms that are appended
pub mod Places  -- how high a map leads
pub mod Rise  -- the floor rises below a solved hole
pub mod Keep  -- the map that follows an occurrence's arguments
pub mod Copy  -- a side after step 1
pub mod Extent  -- how many records a term takes up
pub mod Output  -- the output of show
pub mod Input  -- the records of a sound table keep the machine's rules
pub mod Running  -- a state of the run
pub mod Pairs  -- pairs of terms
pub mod Run  -- a result of which nothing is said
pub mod Start  -- where the machine starts
pub mod Admit  -- what an admitted input is
pub mod Machine  -- fuel that is not spent
pub mod Answers  -- what show answers
pub mod Printed  -- printing follows the rules without fuel
pub mod Length  -- how long a printed text is
