pub mod Written  -- a text written into a lent buffer
pub mod WrittenLaws  -- a text written byte by byte, and one after another
pub mod Notation  -- the parts of the printed notation
pub mod Printable  -- a table whose terms can be printed
pub mod LinesLaws  -- the text of a hole's line is the document's
