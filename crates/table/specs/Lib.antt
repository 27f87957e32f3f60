pub mod Reading  -- a record's words as code reads them
