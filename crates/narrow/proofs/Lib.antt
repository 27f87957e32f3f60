pub mod Context  -- the entries are noted position by position
pub mod Narrowing  -- the parts of narrowing, one after another, are the rule's
