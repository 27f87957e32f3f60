pub mod Answering  -- what is written where show answers
pub mod Showing  -- what solve and show leave
