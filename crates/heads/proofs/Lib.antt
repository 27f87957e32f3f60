pub mod Stack  -- one more binder, and a binder read
pub mod Binders  -- a lambda's binder on the stack
pub mod Bare  -- a hole's argument that is a bare variable
pub mod Finals  -- final types
