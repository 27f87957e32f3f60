pub mod Tests  -- what a passed test says
pub mod Sound  -- a table without a broken record, field by field
pub mod Lists  -- lists cell by cell
pub mod Members  -- what every element of a context or of an argument list is
pub mod Forms  -- the rules of typing and of patterns, form by form
pub mod Unrolled  -- the same rules without fuel: it never runs out
pub mod Search  -- a search record by record
pub mod Places  -- a type, a term, a list of a legal table
pub mod Noted  -- numbers that pass a test, noted in order
pub mod Digits  -- decimal digits, whatever the fuel
pub mod Rows  -- rows of one length, one after another
pub mod FileRows  -- a file's records as rows
pub mod FileRecords  -- the bytes and the words of one record give each other back
pub mod Files  -- reading and writing a file undo one another
pub mod FileRefused  -- writing refuses the records that solving refuses
