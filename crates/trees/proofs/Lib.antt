-- The theorems over trees, and the lemmas that they rest on beside those of specs/; Theorems proves each statement.
pub mod Filling
pub mod Typing
pub mod Order
pub mod Leads
pub mod Read
pub mod Stuck
pub mod Walk
pub mod Expand
pub mod Demand
pub mod Theorems
pub mod Examples
pub mod Failures
