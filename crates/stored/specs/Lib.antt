pub mod Words  -- the words that bytes hold
pub mod Lines  -- lines of words
