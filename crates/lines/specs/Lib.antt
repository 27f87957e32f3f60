pub mod Holes  -- the input holes are noted
pub mod Lines  -- the lines that a file gives, from what reading and solving it left
pub mod Making  -- one line, in a buffer that is long enough
