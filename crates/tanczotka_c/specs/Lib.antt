pub mod Packed  -- a reply in one number
pub mod FieldsLaws  -- answer, place and used are read back from the number
