pub mod Refusals  -- a refusal is made of its parts, in order
pub mod Order  -- the checks alone say what solving asks before the machine
