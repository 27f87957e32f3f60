-- Notes for at most N records: all four arrays of them have N places.
use Rattle.std.specs.Prelude.{ℕ, replicate}
use Rattle.records.specs.declared.Notes.{Notes}

-- nothing is written down
abbrev pub blank : (N : ℕ) → Notes N
blank N = record { marks = replicate N 0; last = replicate N 0; before = replicate N 0; equations = replicate N 0 }
