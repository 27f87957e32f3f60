-- Examples of our own, by computation: what is refused, at which place, and what comes first.
use Rattle.std.specs.Prelude.{ℕ, zero, suc, ◌+◌, ◌≡◌, refl, List, [], ◌∷◌, ◌++◌, map, replicate}
use Rattle.rules.specs.Words.{NONE, BT, AR, HO, CE, LA, CA, VA, HA, EQ}
use Rattle.rules.specs.Answers.{reply}
use Rattle.rules.specs.Solve.{solve}
use Rattle.rules.specs.Show.{Shown, show}
use Rattle.rules.specs.File.{Read, read}
use Rattle.rules.specs.Table.{◌·◌, example, given, told, named, P7}
use Rattle.rules.specs.Examples.{Q1}
use Rattle.rules.specs.Written.{old}
use Rattle.rules.specs.All.{everything}

-- what solving gives for these records with R = 40 and C = 4 is answer a at place p
abbrev Refuses : ℕ → ℕ → List ℕ → Type 0
Refuses a p ws = given (example ws 40 4 a p 0) ≡ told (example ws 40 4 a p 0)

-- k cells of type 0, the first being record r
unfoldable pub chain : ℕ → ℕ → List ℕ → List ℕ
chain r zero ws = ws
chain r (suc k) ws = (CE, 0, r, 0) · chain (r + 1) k ws

-- a context of so many variables
abbrev context : ℕ → List ℕ → List ℕ
context k ws = (BT, 0, 0, 0) · (CE, 0, NONE, 0) · chain 1 k ws

-- 16 cells are allowed
pub list_of_16 : given (example (context 15 ((HO, 16, 0, 0) · [])) 40 4 0 0 0) ≡ reply 0 0 18
unfolding given chain everything
list_of_16 = refl

-- 17 are not, and break at the seventeenth counted from the end, whether or not anything refers to the list
pub list_of_17 : Refuses 5 17 (context 17 [])
unfolding given told chain everything
list_of_17 = refl

-- record 0 is a variable; no base number, variable number or unused field refers to it
pub no_reference_no_use : given (example ((VA, 0, NONE, 0) · (LA, 0, 0, 0) · (BT, 0, 0, 0) · (AR, 2, 2, 0) · (VA, 0, NONE, 0) · (LA, 4, 0, 0) · (EQ, 1, 5, 3) · []) 40 4 0 0 0)
    ≡ reply 0 0 7
unfolding given everything
no_reference_no_use = refl

-- the second reference to a term breaks its record, here the later of two lambdas
pub second_use : Refuses 5 2 ((VA, 0, NONE, 0) · (LA, 0, 0, 0) · (LA, 0, 0, 0) · [])
unfolding given told everything
second_use = refl

-- two references in one record break that record
pub used_twice_at_once : Refuses 5 8 (named ((CA, 3, NONE, 0) · (CA, 3, NONE, 0) · (EQ, 6, 6, 0) · []))
unfolding given told everything
used_twice_at_once = refl

-- of two equal types the later breaks
pub equal_types : Refuses 5 6 (named ((AR, 0, 1, 0) · []))
unfolding given told everything
equal_types = refl

-- types of different tags with equal fields differ
pub types_by_tag : given (example ((BT, 0, 0, 0) · (AR, 0, 0, 0) · []) 40 4 0 0 0) ≡ reply 0 0 2
unfolding given everything
types_by_tag = refl

-- a list of a term and a type is mixed from its first cell on
pub mixed_list : Refuses 5 8 (named ((CA, 3, NONE, 0) · (CE, 0, NONE, 0) · (CE, 6, 7, 0) · []))
unfolding given told everything
mixed_list = refl

-- a list of types where terms are asked breaks at the record that refers to it
pub types_for_terms : Refuses 5 7 (named ((CE, 0, NONE, 0) · (CA, 4, 6, 0) · []))
unfolding given told everything
types_for_terms = refl

-- a hole's type is a base type record
pub hole_of_arrow : Refuses 5 6 (named ((HO, NONE, 1, 0) · []))
unfolding given told everything
hole_of_arrow = refl

-- a reference goes to a lower record, not to the record itself
pub reference_to_itself : Refuses 5 0 ((LA, 0, 0, 0) · [])
unfolding given told everything
reference_to_itself = refl

-- unused fields are 0
pub unused_field : Refuses 5 1 ((BT, 0, 0, 0) · (BT, 1, 0, 1) · [])
unfolding given told everything
unused_field = refl

-- tag 11 is none
pub unknown_tag : Refuses 5 0 ((11, 0, 0, 0) · [])
unfolding given told everything
unknown_tag = refl

-- variable numbers are below 4,096
pub largest_variable : Refuses 5 1 ((VA, 4095, NONE, 0) · (VA, 4096, NONE, 0) · [])
unfolding given told everything
largest_variable = refl

-- the lowest equation with a side that does not check: f without its argument, before f with two
pub lowest_ill_typed : Refuses 6 11 (named (
    (CA, 3, NONE, 0) · (CA, 3, NONE, 0) · (EQ, 6, 7, 0) · (CA, 4, NONE, 0) · (CA, 4, NONE, 0) · (EQ, 9, 10, 0) · (CA, 3, NONE, 0)
    · (CA, 3, NONE, 0) · (CA, 3, NONE, 0) · (CE, 14, NONE, 0) · (CE, 13, 15, 0) · (CA, 4, 16, 0) · (EQ, 12, 17, 0) · []
    ))
unfolding given told everything
lowest_ill_typed = refl

-- what no equation reaches is not checked
pub unreached_is_free : given (example (named ((CA, 4, NONE, 0) · [])) 40 4 0 0 0) ≡ reply 0 0 7
unfolding given everything
unreached_is_free = refl

-- \x.U[V[f x]] = \x.a: both occurrences offend, the inner one is lower
pub nested_offence : Refuses 7 14 (named (
    (CE, 0, NONE, 0) · (HO, 6, 0, 0) · (CE, 0, NONE, 0) · (HO, 8, 0, 0) · (VA, 0, NONE, 0) · (CE, 10, NONE, 0) · (CA, 4, 11, 0)
    · (CE, 12, NONE, 0) · (HA, 9, 13, 0) · (CE, 14, NONE, 0) · (HA, 7, 15, 0) · (LA, 16, 0, 0) · (CA, 3, NONE, 0) · (LA, 18, 0, 0)
    · (EQ, 17, 19, 1) · []
    ))
unfolding given told everything
nested_offence = refl

-- \x.U[] = \x.g a x
abbrev late : List ℕ
late =
    named (
    (HO, NONE, 0, 0) · (HA, 6, NONE, 0) · (LA, 7, 0, 0) · (CA, 3, NONE, 0) · (VA, 0, NONE, 0) · (CE, 10, NONE, 0) · (CE, 9, 11, 0)
    · (CA, 5, 12, 0) · (LA, 13, 0, 0) · (EQ, 8, 14, 1) · []
    )

-- the first argument is written before the second is looked at
pub full_before_escape : map given (example late 16 1 9 0 0 ∷ example late 17 1 2 0 0 ∷ []) ≡ reply 9 0 0 ∷ reply 2 0 0 ∷ []
unfolding given everything
full_before_escape = refl

-- \k.U[] = \k.k a: a head is looked at before its arguments
pub head_before_arguments : given (example (named (
    (AR, 1, 0, 0) · (HO, NONE, 0, 0) · (HA, 7, NONE, 0) · (LA, 8, 0, 0) · (CA, 3, NONE, 0) · (CE, 10, NONE, 0) · (VA, 0, 11, 0)
    · (LA, 12, 0, 0) · (EQ, 9, 13, 6) · []
    )) 15 1 2 0 0) ≡ reply 2 0 0
unfolding given everything
head_before_arguments = refl

-- V[] = f U[]; U[] = f V[]: the hole lies below a solved hole
pub occurs_below-solved : Refuses 3 0 (named (
    (HO, NONE, 0, 0) · (HO, NONE, 0, 0) · (HA, 7, NONE, 0) · (HA, 6, NONE, 0) · (CE, 9, NONE, 0) · (CA, 4, 10, 0) · (EQ, 8, 11, 0)
    · (HA, 6, NONE, 0) · (HA, 7, NONE, 0) · (CE, 14, NONE, 0) · (CA, 4, 15, 0) · (EQ, 13, 16, 0) · []
    ))
unfolding given told everything
occurs_below-solved = refl

-- \xy.U[x] = \xy.f U[y]: the hole itself, before its argument without a place
pub occurs_before_escape : Refuses 3 0 (named (
    (CE, 0, NONE, 0) · (HO, 6, 0, 0) · (VA, 1, NONE, 0) · (CE, 8, NONE, 0) · (HA, 7, 9, 0) · (LA, 10, 0, 0) · (LA, 11, 0, 0)
    · (VA, 0, NONE, 0) · (CE, 13, NONE, 0) · (HA, 7, 14, 0) · (CE, 15, NONE, 0) · (CA, 4, 16, 0) · (LA, 17, 0, 0) · (LA, 18, 0, 0)
    · (EQ, 12, 19, 2) · []
    ))
unfolding given told everything
occurs_before_escape = refl

-- more equations than C are refused at once
pub equations-all_enter : given (example Q1 20 0 8 0 0) ≡ reply 8 0 0
unfolding given everything
equations-all_enter = refl

-- 4: n above R, also where the table has words for 4,097 records
pub room_for_4096 : (solve (replicate 16388 0) (replicate 4097 0) [] 4097).said ≡ reply 4 0 0
unfolding everything
room_for_4096 = refl

-- P7, then f = f, of which no side checks, then a record with an unknown tag
abbrev worst : List ℕ
worst = P7 ++ ((CA, 4, NONE, 0) · (CA, 4, NONE, 0) · (EQ, 18, 19, 0) · (11, 0, 0, 0) · [])

-- showing record h of the first n records, with so many solution words
abbrev asked : ℕ → ℕ → ℕ → Shown
asked n h k = show worst (replicate k old) (replicate 5 old) (replicate 6 old) n h

-- answer a at place p, and every word as it was
abbrev refused_at : ℕ → ℕ → ℕ → Shown
refused_at a p k =
    record {
      behind = record { table = worst; solutions = replicate k old; queue = replicate 5 old; said = reply a p 0 };
      output = replicate 6 old;
    }

-- 4, 5, 10, 6, 7: each stands before all that come after it, which its input breaks too; nothing is written
pub order_of_refusals : asked 22 3 21 ∷ asked 22 3 22 ∷ asked 21 3 22 ∷ asked 21 8 22 ∷ asked 18 8 22 ∷ []
    ≡ refused_at 4 0 21 ∷ refused_at 5 21 22 ∷ refused_at 10 0 22 ∷ refused_at 6 20 22 ∷ refused_at 7 13 22 ∷ []
unfolding everything
order_of_refusals = refl

-- record 18 is no input hole where n is 18, although a hole stands there
pub hole_past_input : (show (P7 ++ ((HO, NONE, 0, 0) · [])) (replicate 19 0) [] [] 18 18).behind.said ≡ reply 10 0 0
unfolding everything
hole_past_input = refl

-- three words that a refused reading leaves, and its reply
abbrev unread : ℕ → Read
unread a = record { table = old ∷ old ∷ old ∷ []; said = reply a 0 0 }

-- files of 13 and 28,686 bytes are 12, the latter also without room for it; one of 28,672 bytes is not, and is 4 before 13
pub files_refused : map (λ k. read (replicate k 66) (old ∷ old ∷ old ∷ [])) (13 ∷ 28686 ∷ 28672 ∷ []) ≡ unread 12 ∷ unread 12 ∷ unread 4 ∷ []
unfolding everything
files_refused = refl

-- marks are judged in record order and nothing is written: a good record, then two that begin `BB`
pub unknown_mark : read (66 ∷ 84 ∷ replicate 12 0 ++ replicate 28 66) (replicate 12 old) ≡ record { table = replicate 12 old; said = reply 13 1 0 }
unfolding everything
unknown_mark = refl
