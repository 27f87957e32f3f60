pub mod Refusing  -- the parts of a refusal, in order
pub mod RefusingLaws  -- what an input that is refused, or admitted, is
pub mod Order  -- answers 4 to 7 in their order
