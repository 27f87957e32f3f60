pub mod Context  -- the context entries at kept positions
pub mod Narrowing  -- narrowing a hole, and keeping the arguments that have a place
pub mod NarrowingLaws  -- where narrowing may be called
