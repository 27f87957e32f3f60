pub mod Noting  -- one more record is noted if it is a hole
pub mod Beginning  -- what reading and solving leave gives the program's lines
pub mod Showing  -- a hole's line, from what solving left
pub mod Making  -- a line stands in the buffer whole
