pub mod Lists  -- a list cell by cell, as its iterator goes
