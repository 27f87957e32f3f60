pub mod Noted  -- the equations in a list
pub mod Equations  -- the equations, one after another
