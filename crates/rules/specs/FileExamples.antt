-- Examples of our own, by computation: every byte that writing a file leaves, what is refused, at which place, and what comes first.
use Rattle.std.specs.Prelude.{ℕ, ◌≡◌, refl, List, [], ◌∷◌, ◌++◌, map, replicate}
use Rattle.rules.specs.Words.{NONE, BT, LA, CA, EQ}
use Rattle.rules.specs.Answers.{reply}
use Rattle.rules.specs.Solve.{solve}
use Rattle.rules.specs.File.{read}
use Rattle.rules.specs.FileWrite.{Wrote, write}
use Rattle.rules.specs.Table.{◌·◌, named, P7}
use Rattle.rules.specs.Examples.{Q1, file}
use Rattle.rules.specs.Written.{old}
use Rattle.rules.specs.All.{everything}

-- writing the input of Q1, which has every mark, gives the file of the document; a record past n is not written, and bytes past the file stay
pub file-written : write (Q1 ++ ((BT, 1, 0, 0) · [])) 14 (replicate 199 old) ≡ record { file = file ++ replicate 3 old; said = reply 0 0 14 }
unfolding everything
file-written = refl

-- the lowest byte of a word comes first
pub little_endian : write ((BT, 67305985, 0, 0) · []) 1 (replicate 14 old)
    ≡ record { file = 66 ∷ 84 ∷ 1 ∷ 2 ∷ 3 ∷ 4 ∷ replicate 8 0; said = reply 0 0 1 }
unfolding everything
little_endian = refl

-- a base type, then a lambda whose body is no lower record, then half a record
abbrev faulty : List ℕ
faulty = (BT, 0, 0, 0) · (LA, 1, 0, 0) · old ∷ old ∷ []

-- writing its first n records to 13 bytes
abbrev writing : ℕ → Wrote
writing n = write faulty n (replicate 13 old)

-- answer a at place p, and every byte as it was
abbrev unwritten_at : ℕ → ℕ → Wrote
unwritten_at a p = record { file = replicate 13 old; said = reply a p 0 }

-- 4, 5, 14: each stands before all that come after it, which its input breaks too; nothing is written, and nothing used
pub order_of_unwritten : map writing (3 ∷ 2 ∷ 1 ∷ 0 ∷ []) ≡ unwritten_at 4 0 ∷ unwritten_at 5 1 ∷ unwritten_at 14 0 ∷ unwritten_at 0 0 ∷ []
unfolding everything
order_of_unwritten = refl

-- 14 bytes are enough for one record, and only the first n records are judged
pub first-records-judged : write faulty 1 (replicate 14 old) ≡ record { file = 66 ∷ 84 ∷ replicate 12 0; said = reply 0 0 1 }
unfolding everything
first-records-judged = refl

-- no record is written to no byte, from no word
pub nothing_written : write [] 0 [] ≡ record { file = []; said = reply 0 0 0 }
unfolding everything
nothing_written = refl

-- 2,049 records are 4, although the table has them; 2,048 are not, here they are 5 since tag 0 is none
pub most-records : map (λ n. (write (replicate 8196 0) n []).said) (2049 ∷ 2048 ∷ []) ≡ reply 4 0 0 ∷ reply 5 0 0 ∷ []
unfolding everything
most-records = refl

-- a base type whose unused fields are not 0
abbrev bad_fields : List ℕ
bad_fields = 66 ∷ 84 ∷ replicate 12 1

-- a file with bad fields reads
pub bad_fields_read : read bad_fields (replicate 4 old) ≡ record { table = BT ∷ replicate 3 16843009; said = reply 0 0 1 }
unfolding everything
bad_fields_read = refl

-- but is not written back
pub bad_fields_not_written : write (read bad_fields (replicate 4 old)).table 1 (replicate 14 old) ≡ record { file = replicate 14 old; said = reply 5 0 0 }
unfolding everything
bad_fields_not_written = refl

-- f = f, of which no side checks
abbrev ill_typed : List ℕ
ill_typed = named ((CA, 4, NONE, 0) · (CA, 4, NONE, 0) · (EQ, 6, 7, 0) · [])

-- solving refuses an ill-typed table (6) and one that is no pattern (7); both keep the records section's rules and are written
pub written_though_refused : (solve ill_typed (replicate 9 old) [] 9).said ∷ (write ill_typed 9 (replicate 126 old)).said ∷
    (solve P7 (replicate 18 old) [] 18).said ∷ (write P7 18 (replicate 252 old)).said ∷ []
    ≡ reply 6 8 0 ∷ reply 0 0 9 ∷ reply 7 13 0 ∷ reply 0 0 18 ∷ []
unfolding everything
written_though_refused = refl
