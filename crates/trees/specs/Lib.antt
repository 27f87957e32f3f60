-- Tree, Moves and Statements hold definitions and statements only; proofs/Theorems proves each statement.
pub mod Tree
pub mod Moves
pub mod Statements
pub mod Renaming
pub mod Free
pub mod Partial
pub mod Filling
pub mod Size
pub mod Narrow
pub mod Typing
pub mod Places
pub mod Pairs
pub mod Update
pub mod Order
pub mod Scopes
