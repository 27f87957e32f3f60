pub mod Asks  -- what is known where records are judged and written
pub mod SingleLaws  -- two replies that the promise allows are equal
pub mod SaysLaws  -- what writing replies
