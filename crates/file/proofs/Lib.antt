pub mod Marks  -- the tag of a mark, by its two bytes as one number; the tags noted
pub mod Writing  -- records written one after another
pub mod Reading  -- each way that reading ends
