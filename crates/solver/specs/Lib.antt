pub mod Answering  -- a hole's answer after solving
pub mod AnsweringLaws  -- where solving answers 0, an answer can be written
pub mod UsedLaws  -- a reply's used is at most 4,096
pub mod SingleLaws  -- a promise allows one reply
