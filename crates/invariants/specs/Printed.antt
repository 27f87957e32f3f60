-- Printing follows the rules without fuel: a number's digits, and a term of an output.
use Prim.Native.Nat.{ℕ, zero, suc, ◌+◌, ◌/◌, ◌%◌, ◌<◌, ◌≤◌}
use Rattle.std.specs.Prelude.{◌≡◌, refl, List, [], ◌∷◌, ◌++◌, map, true, false, ltb}
use Rattle.std.proofs.Common.{arith, le_refl, lt-ltb, le-ltb}
use Rattle.std.proofs.Math.Decide.{dec_lt, ℕ_discrete}
use Rattle.rules.specs.Lists.{enough}
use Rattle.rules.specs.Words.{tag, field_a, field_b, elements, arguments, LA, CA, VA}
use Rattle.rules.specs.Store.{Store}
use Rattle.rules.specs.Text.{Bytes, decimal, print_term, printed}
use Rattle.laws.specs.Digits.{decimal_small, decimal-more}
use Rattle.invariants.specs.Forms.{form_6, form_7, form_8, form_9}
use Rattle.invariants.specs.Floor.{Sub, All}
use Rattle.invariants.specs.Grow.{all_map, sub_less}
use Rattle.invariants.specs.Output.{plain, Line, Outputs, ATerm}

-- the digits of a number below 2 to the 64th
pub decimal_unrolls : (x : ℕ) → x < enough → decimal x ≡ elim (ltb x 10) [ true ↦ (48 + x) ∷ [] | false ↦ decimal (x / 10) ++ ((48 + x % 10) ∷ []) ]
decimal_unrolls x h = go (dec_lt x 10)
  where
    go : Dec (x < 10) → decimal x ≡ elim (ltb x 10) [ true ↦ (48 + x) ∷ [] | false ↦ decimal (x / 10) ++ ((48 + x % 10) ∷ []) ]
    go (yes l) = rw (lt-ltb _ _ l) (decimal_small x l)
    go (no l) = let le : 10 ≤ x = omega arith in rw (le-ltb _ _ le) (decimal-more x le h)

-- a list of which both writers print the same
map_same : (f g : ℕ → Bytes) (xs : List ℕ) → All (λ x. f x ≡ g x) xs → map f xs ≡ map g xs
map_same f g [] h = refl
map_same f g (x ∷ xs) h = rw (h.0, map_same f g xs h.1)

module _ (O : ℕ) (s : Store) (o : Outputs O s) where
  -- one level: printers that agree on lower terms print the same
  level_same : (f g : ℕ → Bytes) (r : ℕ) → ATerm s r → ((x : ℕ) → x < r → ATerm s x → f x ≡ g x) → print_term f s.words r ≡ print_term g s.words r
  unfolding print_term arguments
  level_same f g r p h = go (ℕ_discrete (tag s.words r) LA) (ℕ_discrete (tag s.words r) CA) (ℕ_discrete (tag s.words r) VA)
    where
      line : Line s.words r
      line = o.good r p.below

      lower : (x : ℕ) → Sub s.words plain 0 r x → f x ≡ g x
      lower x q = h x q.below (sub_less s.words plain 0 0 r s.used x q (le_refl _) (omega arith))

      args : 7 ≤ tag s.words r → map f (elements s.words (field_b s.words r)) ≡ map g (elements s.words (field_b s.words r))
      args lo = map_same f g (elements s.words (field_b s.words r)) (all_map (Sub s.words plain 0 r) (λ x. f x ≡ g x) lower (elements s.words (field_b s.words r)) (line.app lo p.term.high).all)

      go : Dec (tag s.words r ≡ LA) → Dec (tag s.words r ≡ CA) → Dec (tag s.words r ≡ VA) → print_term f s.words r ≡ print_term g s.words r
      go (yes t) c e = rw (print_term, form_6 _ _ t, lower (field_a s.words r) (line.lam t))
      go (no t) (yes c) e = rw (print_term, form_7 _ _ c, args (omega arith))
      go (no t) (no c) (yes e) = rw (print_term, form_8 _ _ e, args (omega arith))
      go (no t) (no c) (no e) =
          rw (print_term, form_9 s.words r (omega arith), args (omega arith))

  printed_same : (f g r : ℕ) → ATerm s r → r < f → r < g → printed f s.words r ≡ printed g s.words r
  unfolding printed
  printed_same zero g r p h k = absurd (omega arith)
  printed_same (suc f) zero r p h k = absurd (omega arith)
  printed_same (suc f) (suc g) r p h k =
      level_same (λ x. printed f s.words x) (λ x. printed g s.words x) r p (λ x lt q. printed_same f g x q (omega arith) (omega arith))

  printed_unroll : (f g r : ℕ) → ATerm s r → r ≤ f → r ≤ g → printed (suc f) s.words r ≡ print_term (λ x. printed g s.words x) s.words r
  unfolding printed
  printed_unroll f g r p h k = level_same (λ x. printed f s.words x) (λ x. printed g s.words x) r p (λ x lt q. printed_same f g x q (omega arith) (omega arith))

  -- a term of the output, level by level
  pub printed_unrolls : (r : ℕ) → ATerm s r → printed enough s.words r ≡ print_term (λ x. printed enough s.words x) s.words r
  printed_unrolls r p =
      printed_unroll 18446744073709551615 enough r p (omega arith) (omega arith)
