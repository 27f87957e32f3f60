pub mod Said  -- answers of a step
pub mod Expanding  -- step 1
pub mod Choosing  -- what two sides ask for is the rule's step
pub mod Arguments  -- step 3
pub mod Same  -- step 4
pub mod Stand  -- what each of the steps 2 to 5 asks holds of the pair in hand
pub mod Taken  -- step 1 for the left side, then for the right side
