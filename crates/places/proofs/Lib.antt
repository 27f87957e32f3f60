pub mod Placed  -- whether every position has a place
pub mod Filled  -- the map of arguments filled position by position
pub mod Agree  -- two lists of arguments compared position by position
