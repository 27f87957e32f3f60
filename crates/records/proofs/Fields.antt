-- The fields of a record: each fits and its reference is marked, one after the other, and then its own mark is its tag.
use Prim.Native.Nat.{ℕ, ◌+◌, ◌≤◌}
use mathlib.Core.Path.{◌≡◌, refl, sym, ap, ◌∙◌}
use mathlib.Core.Bool.{Bool, true, false, not}
use mathlib.Core.List.{List, ◌∷◌, ◌++◌}
use native.Mathlib.Omega.{arith}
use native.Mathlib.Numerals.{add-one}
use borrow.Author.Tests.{not-true, not-false}
use lib.ListN.{length, set}
use lib.Seq.{get_or-set_same}
use Rattle.rules.specs.Lists.{both, either, among}
use Rattle.rules.specs.Records.{fits, shaped, reference, uses, first_use}
use Rattle.laws.specs.Tests.{false_true}
use Rattle.table.specs.declared.Record.{Record}
use Rattle.table.specs.Reading.{IsRecord}
use Rattle.records.specs.declared.Field.{Field}
use Rattle.records.specs.Kinds.{field}
use Rattle.records.specs.Marks.{counts, Marked, used, fresh, one, reference-of, FieldSays}
use Rattle.records.specs.Rows.{RowAsks, RowSays}
use Rattle.records.proofs.Joined.{among-append, both_swap}
use Rattle.laws.specs.Noted.{those-append}
use Rattle.records.proofs.Fresh.{first_use_is}
use Rattle.records.proofs.Uses.{one_is, marked_same, marked-own}
use Rattle.records.proofs.Holding.{field-answer, field_next}

fresh-append : (b : Bool) (x : ℕ) (u ys : List ℕ) → fresh u (one b x ++ ys) ≡ both (fresh u (one b x)) (fresh (one b x ++ u) ys)
unfolding fresh one both
fresh-append false x u ys = refl
fresh-append true x u ys = go (not (among u x))
  where
    go : (a : Bool) → both a (fresh (x ∷ u) ys) ≡ both (both a true) (fresh (x ∷ u) ys)
    go true = refl
    go false = refl

module _ (ws ms : List ℕ) (r : ℕ) (a b c : Field) (p : RowAsks ws ms r a b c) (x : Record) (w : IsRecord ws r x) where
  abbrev A : List ℕ
  A = reference-of ws a x.a

  abbrev B : List ℕ
  B = reference-of ws b x.b

  abbrev C : List ℕ
  C = reference-of ws c x.c

  abbrev U : List ℕ
  U = used ws r

  uses_is : uses ws r ≡ A ++ (B ++ C)
  unfolding uses counts
  uses_is =
      rw (p.row, ← w.a_is, ← w.b_is, ← w.c_is)
      (those-append (counts ws) (reference (field a) x.a) (reference (field b) x.b ++ reference (field c) x.c) ∙
      rw (those-append (counts ws) (reference (field b) x.b) (reference (field c) x.c), one_is ws a x.a, one_is ws b x.b, one_is ws c x.c))

  first_use_parts : first_use ws r ≡ both (fresh U A) (both (fresh (A ++ U) B) (fresh (B ++ (A ++ U)) C))
  first_use_parts =
      first_use_is ws r ∙ ap (fresh U) uses_is ∙ fresh-append _ x.a U (B ++ C) ∙
      ap (both (fresh U A)) (fresh-append _ x.b (A ++ U) C)

  shaped_parts : shaped ws r ≡ both (fits ws r (field a) x.a) (both (fits ws r (field b) x.b) (fits ws r (field c) x.c))
  unfolding shaped
  shaped_parts = rw (p.row, w.a_is, w.b_is, w.c_is)

  row_parts : both (shaped ws r) (first_use ws r)
      ≡ both (both (fits ws r (field a) x.a) (fresh U A)) (both (both (fits ws r (field b) x.b) (fresh (A ++ U) B)) (both (fits ws r (field c) x.c) (fresh (B ++ (A ++ U)) C)))
  row_parts =
      rw (shaped_parts, first_use_parts)
      (both_swap (fits ws r (field a) x.a) (both (fits ws r (field b) x.b) (fits ws r (field c) x.c)) (fresh U A) (both (fresh (A ++ U) B) (fresh (B ++ (A ++ U)) C)) ∙
      ap (both (both (fits ws r (field a) x.a) (fresh U A))) (both_swap (fits ws r (field b) x.b) (fits ws r (field c) x.c) (fresh (A ++ U) B) (fresh (B ++ (A ++ U)) C)))

  few : r ≤ 4096
  few = let h = p.above.few in omega arith

  unkept : (ms₁ : List ℕ) → both (shaped ws r) (first_use ws r) ≡ false → RowSays ws ms₁ r false
  unkept ms₁ e = record { answer = sym e; next = λ y. absurd (false_true y); own = λ y. absurd (false_true y) }

  module _ (ms₁ : List ℕ) (i : Bool) (hi : FieldSays ms ms₁ r a x.a i) where
    is_a : both (fits ws r (field a) x.a) (fresh U A) ≡ i
    is_a = sym (field-answer ws ms U r p.known p.above.lower few ms₁ a x.a i hi)

    pub row_a : not i ≡ true → RowSays ws ms₁ r false
    unfolding both
    row_a t = unkept ms₁ (row_parts ∙ rw (is_a, not-true i t))

    module _ (t : not i ≡ false) (ms₂ : List ℕ) (j : Bool) (hj : FieldSays ms₁ ms₂ r b x.b j) where
      after_a : Marked ws ms₁ (A ++ U) r
      after_a = field_next ws ms U r p.known p.above.lower few ms₁ a x.a i hi (not-false i t)

      is_b : both (fits ws r (field b) x.b) (fresh (A ++ U) B) ≡ j
      is_b = sym (field-answer ws ms₁ (A ++ U) r after_a p.above.lower few ms₂ b x.b j hj)

      pub row_b : not j ≡ true → RowSays ws ms₂ r false
      unfolding both
      row_b u = unkept ms₂ (row_parts ∙ rw (is_a, not-false i t, is_b, not-true j u))

      module _ (u : not j ≡ false) (ms₃ : List ℕ) (k : Bool) (hk : FieldSays ms₂ ms₃ r c x.c k) where
        after_b : Marked ws ms₂ (B ++ (A ++ U)) r
        after_b = field_next ws ms₁ (A ++ U) r after_a p.above.lower few ms₂ b x.b j hj (not-false j u)

        is_c : both (fits ws r (field c) x.c) (fresh (B ++ (A ++ U)) C) ≡ k
        is_c = sym (field-answer ws ms₂ (B ++ (A ++ U)) r after_b p.above.lower few ms₃ c x.c k hk)

        pub row_c : not k ≡ true → RowSays ws ms₃ r false
        unfolding both
        row_c v = unkept ms₃ (row_parts ∙ rw (is_a, not-false i t, is_b, not-false j u, is_c, not-true k v))

        pub row_answer : not k ≡ false → true ≡ both (shaped ws r) (first_use ws r)
        unfolding both
        row_answer v = sym (row_parts ∙ rw (is_a, not-false i t, is_b, not-false j u, is_c, not-false k v))

        pub row_next : not k ≡ false → Marked ws ms₃ (used ws (r + 1)) r
        row_next v = marked_same ws ms₃ _ _ r together (field_next ws ms₂ (B ++ (A ++ U)) r after_b p.above.lower few ms₃ c x.c k hk (not-false k v))
          where
            order : (g h j k : Bool) → either j (either h (either g k)) ≡ either (either g (either h j)) k
            order true true true k = unfold either in refl
            order true true false k = unfold either in refl
            order true false true k = unfold either in refl
            order true false false k = unfold either in refl
            order false true true k = unfold either in refl
            order false true false k = unfold either in refl
            order false false true k = unfold either in refl
            order false false false k = unfold either in refl

            now-used : used ws (r + 1) ≡ (A ++ (B ++ C)) ++ U
            now-used = rw add-one (unfold used in rw uses_is)

            together : (v : ℕ) → among (C ++ (B ++ (A ++ U))) v ≡ among (used ws (r + 1)) v
            together v =
                rw (
                  now-used,
                  among-append C (B ++ (A ++ U)) v,
                  among-append B (A ++ U) v,
                  among-append A U v,
                  among-append (A ++ (B ++ C)) U v,
                  among-append A (B ++ C) v,
                  among-append B C v,
                )
                (order (among A v) (among B v) (among C v) (among U v))

        pub row_end : not k ≡ false → length ms₃ ≡ length ms → RowSays ws (set ms₃ r x.tag) r true
        row_end v l =
            let h = p.room in
            record {
              answer = row_answer v;
              next = λ _. marked-own ws ms₃ _ r (row_next v) x.tag;
              own = λ _. get_or-set_same ms₃ r x.tag 0 (omega arith) ∙ w.tag_is;
            }
