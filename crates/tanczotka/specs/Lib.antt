pub mod Gathering  -- the lines that are gathered in a buffer
