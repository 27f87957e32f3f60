pub mod Leaving  -- what is refused, and what is admitted
