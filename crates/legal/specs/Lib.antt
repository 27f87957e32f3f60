pub mod Uses  -- what a record refers to
pub mod Stay  -- records keep the rules while the words stay
pub mod Right  -- one record by itself
pub mod Cells  -- one list cell by itself
pub mod Reading  -- what lists hold, and how long they are
pub mod Scope  -- terms in scope
pub mod Sane  -- a store whose records keep the rules, and what is kept of it
pub mod Added  -- terms and lists that were written
pub mod Ran  -- what a part of the machine comes to
pub mod Places  -- how high a map leads, exactly
pub mod Parts  -- what is said of terms that were written anew
pub mod Typed  -- typed trees are in scope
