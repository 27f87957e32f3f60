-- The reply to reading, by what it came to.
use Rattle.std.specs.Prelude.{ℕ, Result, Ok, Err}
use Rattle.rules.specs.declared.Reply.{Reply}
use Rattle.rules.specs.declared.Unread.{Unread}
use Rattle.rules.specs.Answers.{reply, unreading}

-- a file's n records are read, or it is not read
abbrev pub replied : Result ℕ Unread → Reply
replied (Ok n) = reply 0 0 n
replied (Err e) = unreading e
