pub mod Digits  -- a number written digit by digit
pub mod Printable  -- a term that can be printed, and its parts
pub mod Printed  -- a term's text part by part, whatever the fuel
pub mod Falling  -- what a call inside printing asks
pub mod Parts  -- a term, from what its parts write
pub mod Lines  -- the lines of a reply and of a hole
