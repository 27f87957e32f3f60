pub mod Packed  -- the words left behind and the packed reply are the definition's
