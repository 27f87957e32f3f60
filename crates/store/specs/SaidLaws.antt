-- What holds of every answer, and of what follows it.
use Rattle.std.specs.Prelude.{ℕ, ◌≤◌, ◌≡◌, refl, List, Result, Ok, Err}
use Rattle.std.specs.Result.{IsErrAnd}
use Rattle.std.proofs.Common.{arith, ap, ◌∙◌}
use Rattle.std.proofs.lemmas.Result.{err_from_is_err_and}
use Rattle.rules.specs.declared.Failure.{Failure}
use Rattle.store.specs.declared.Written.{Written}
use Rattle.rules.specs.Store.{Store, Out, goes, fails, spent, ◌>>=◌}
use Rattle.store.specs.Said.{Answer, Since, Does}

pub since_root : (n : ℕ) (w : Written) → n ≤ w.used → Since n (Ok w)
since_root n w h = record { since = λ w' e. let z : w.used ≡ w'.used = cc in omega arith }

pub since_failed : (n : ℕ) (e : Failure) → Since n (Err e)
since_failed n e = record { since = λ w p. let z : ◌≡◌ {A = ℕ} 0 1 = cc in absurd (omega arith) }

-- what leaves at a `?` is the failure that came
pub failure_passed : {T : Type 0} (x : Result T Failure) (e : Failure) → IsErrAnd x (λ d. d ≡ e) → x ≡ Err e
failure_passed x e h = let p = err_from_is_err_and x h in p.1 ∙ ap (λ (d : Failure). Err d) p.2

-- what follows is grouped as one likes
pub bind_assoc : (o : Out ℕ) (f g : Store × ℕ → Out ℕ) → (o >>= λ p. f p >>= g) ≡ ((o >>= f) >>= g)
unfolding ◌>>=◌
bind_assoc (goes s x) f g = refl
bind_assoc (fails ws ss e) f g = refl
bind_assoc spent f g = refl

-- one rule after another, as the code has them around a `?`: the first fails, or the second runs from what the first wrote
module _ (n : ℕ) (f : Store → Out ℕ) (k : Store × ℕ → Out ℕ) (ws : List ℕ) (u : ℕ) (ws₁ : List ℕ) (x : Answer) (p : Does n f ws u ws₁ x) where
  pub bind_stops : (e : Failure) (y : Answer) → x ≡ Err e → y ≡ Err e → Does n (λ s. f s >>= k) ws u ws₁ y
  unfolding ◌>>=◌
  bind_stops e y q r = rw r (record { run = λ ss. rw (p.run ss, q); grown = since_failed _ _ })

  pub bind_goes : (w : Written) (ws₂ : List ℕ) (y : Answer) → x ≡ Ok w → Does n (λ s. k (s, w.root)) ws₁ w.used ws₂ y → Does n (λ s. f s >>= k) ws u ws₂ y
  unfolding ◌>>=◌
  bind_goes w ws₂ y q r = record { run = λ ss. rw (p.run ss, q) (r.run ss); grown = r.grown }
