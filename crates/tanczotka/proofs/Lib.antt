pub mod Gathering  -- the loop over the lines
