pub mod Copying  -- a copy reads as the renamed tree
pub mod Walking  -- the walk over records is a walk over trees
pub mod Expanding  -- step 1
pub mod Assigning  -- steps 4 and 5
pub mod Meeting  -- steps 2 to 5: two sides meet
pub mod Running  -- the machine runs
pub mod TermKnown  -- what is known of a term's parts
pub mod CopyKnown  -- that every position has a place where a term is copied or shown, and that a copy appends
pub mod SideKnown  -- what is known of a side of a pair
pub mod Checked  -- typing passes the checks
pub mod Admitting  -- typed patterns pass the checks
pub mod Known  -- what is known of the waiting pairs along the run
pub mod Ending  -- the machine's end
pub mod Solving  -- what the answers of solving mean
pub mod Order  -- the order of the equations that come last does not matter
pub mod ShowKnown  -- what is known of a hole that is shown
pub mod Printing  -- what is printed of a record is its tree's notation
pub mod Shown  -- what show's answer 0 means
pub mod Theorems  -- DEMAND 3 PROVED
pub mod Wrong  -- wrong solvers break it
pub mod Errors  -- errors that look right break it
