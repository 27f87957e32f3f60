pub mod Said  -- what the code's answers say, over the rules
pub mod SaidLaws  -- what holds of every answer, and of what follows it
pub mod EachLaws  -- arguments written one by one, and then their cells
pub mod Writing  -- what writing asks
pub mod FilledLaws  -- a part whose words were set, and what it makes of the whole
pub mod Clearing  -- table and solution words cleared
pub mod ClearingLaws  -- clearing, part by part
pub mod Unused  -- the first record that was not written
pub mod Solutions  -- the record of a hole's solution
pub mod SolutionsLaws  -- a hole's solution and the word that holds it
