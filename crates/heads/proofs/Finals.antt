-- Final types and their count of domains, as they are read.
use Prim.Native.Nat.{ℕ, ◌+◌, ◌*◌, ◌-◌, ◌<◌}
use mathlib.Core.Path.{◌≡◌, refl, sym, ◌∙◌}
use mathlib.Core.List.{List}
use native.Mathlib.Omega.{arith}
use borrow.Author.Tests.{ne_eqb}
use lib.ListN.{length, take}
use lib.Seq.{take_all}
use Rattle.table.specs.declared.Record.{Record}
use Rattle.table.specs.Reading.{IsRecord}
use Rattle.rules.specs.Lists.{enough}
use Rattle.rules.specs.Words.{AR, tag, field_b, has}
use Rattle.rules.specs.Typing.{final_type}
use Rattle.laws.specs.Unrolled.{final_unrolled}
use Rattle.laws.specs.Places.{TypeAt, placed_inside, placed_few, result_at, result_low}
use Rattle.heads.specs.declared.Final.{Final}
use Rattle.heads.specs.Heads.{IsFinal}
use Rattle.heads.specs.HeadsLaws.{domains_arrow, domains_base}

-- the table as it is lent on: the part that starts at its first word
abbrev whole : List ℕ → List ℕ
whole ws = take (length ws - 0) ws

all : (ws : List ℕ) → whole ws ≡ ws
all ws = take_all (length ws - 0) ws (omega arith)

pub type_lent : (ws : List ℕ) (ty : ℕ) → TypeAt ws ty → TypeAt (whole ws) ty
type_lent ws ty p = rw (all ws) p

module _ {ws : List ℕ} {ty : ℕ} (p : TypeAt ws ty) where
  final_arrow : tag ws ty ≡ AR → final_type enough ws ty ≡ final_type enough ws (field_b ws ty)
  unfolding has
  final_arrow e = final_unrolled ws p.top p.legal ty p.low ∙ rw e

  module _ {x : Record} (j : IsRecord ws ty x) where
    pub final_here : (x.tag ≡ AR → ⊥) → IsFinal ws ty (record { base = ty; count = 0 })
    unfolding has
    final_here z = let n : tag ws ty ≡ AR → ⊥ = λ e. z (j.tag_is ∙ e) in record {
      base_is = sym (final_unrolled ws p.top p.legal ty p.low ∙ rw (ne_eqb _ _ n));
      count_is = rw (domains_base p n);
      few = omega arith;
    }

    module _ (e : x.tag ≡ AR) where
      arrow : tag ws ty ≡ AR
      arrow = sym j.tag_is ∙ e

      result_less : x.b < ty
      result_less = rw j.b_is (result_low ws ty p arrow)

      result_type : TypeAt ws x.b
      result_type = rw j.b_is (result_at ws ty p arrow)

      final_more : {f : Final} → IsFinal ws x.b f → IsFinal ws ty (record { base = f.base; count = f.count + 1 })
      final_more i =
          let lo = result_less in
          let few = i.few in
          let n = i.count_is in
          record {
            base_is = i.base_is ∙ rw (j.b_is, final_arrow arrow);
            count_is = rw (domains_arrow p arrow, ← j.b_is) (omega arith);
            few = omega arith;
          }

-- two arrows, one after the other
module _ {ws : List ℕ} {ty : ℕ} (p : TypeAt ws ty) {x : Record} (j : IsRecord ws ty x) (e : x.tag ≡ AR) where
  pub result_inside : 4 * x.b + 3 < length ws
  result_inside = placed_inside _ ws _ (result_type p j e)

  module _ {y : Record} (k : IsRecord ws x.b y) where
    pub final_one : (y.tag ≡ AR → ⊥) → IsFinal ws ty (record { base = x.b; count = 1 })
    final_one z = final_more p j e (final_here (result_type p j e) k z)

    module _ (d : y.tag ≡ AR) where
      pub second_less : (n : ℕ) → ty ≡ n → y.b < n
      second_less n is = let a = result_less p j e in let b = result_less (result_type p j e) k d in omega arith

      pub second_type : TypeAt ws y.b
      second_type = result_type (result_type p j e) k d

      module _ {f : Final} (i : IsFinal (whole ws) y.b f) where
        pub final_room : f.count < 4096
        final_room = let few = i.few in let lo = second_less ty refl in let top = placed_few _ ws ty p in omega arith

        pub final_two : IsFinal ws ty (record { base = f.base; count = f.count + 2 })
        final_two =
            let q : f.count + 1 + 1 ≡ f.count + 2 = omega arith in
            rw q at (final_more p j e (final_more (result_type p j e) k d (rw (all ws) at i)))
