pub mod Writing  -- a file record as a record of the table
pub mod Replied  -- the reply to reading, by what it came to
pub mod SingleLaws  -- two replies that the promise allows are equal
