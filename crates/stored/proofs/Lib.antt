pub mod Filling  -- one more word is filled
pub mod Printing  -- a line of words, one word after another
