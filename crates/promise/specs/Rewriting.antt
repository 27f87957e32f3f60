-- Terms written anew, level by level: what copying, walking and showing share.
use Rattle.std.specs.Prelude.{ℕ, zero, suc, ◌+◌, ◌≡◌, refl}
use Rattle.std.proofs.Common.{ap, ◌∙◌}
use mathlib.Core.List.{List, [], ◌∷◌}
use Rattle.std.proofs.Math.Option.{some}
use Rattle.rules.specs.Words.{tag, CE, LA, CA, VA, HA, has, lambda, constant, variable, hole, form}
use Rattle.rules.specs.Store.{Store, Out, ◌>>=◌, push}
use Rattle.rules.specs.Map.{Map}
use Rattle.rules.specs.Rewrite.{Writer, write_all}
use Rattle.trees.specs.Tree.{Tree, lam, con, var, nil, cons, lift, lift_p, All}
use Rattle.trees.specs.Moves.{omap}
use Rattle.trees.specs.Free.{All-map}
use Rattle.promise.specs.Reading.{Listed, l_none, many, Reads, r_nil, r_cons, reads_later, one}
use Rattle.promise.specs.Outcomes.{Ends, ended, bind_ends, map_ends, OnlyFull, Fits, Appends, appends_refl, appends_trans}
use Rattle.promise.specs.Writing.{Pushed, pushed_appends, pushed_last, pushed_cell, pushed_lambda, pushed_constant, pushed_variable, push_ends, Wrote, Plain}
use Rattle.promise.specs.Maps.{place, place-lift}

-- the form of a record, by its tag
module _ (ws : List ℕ) (r : ℕ) where
  pub form_lam : tag ws r ≡ LA → form ws r ≡ lambda
  unfolding form has
  form_lam e = rw (e, form)

  pub form_con : tag ws r ≡ CA → form ws r ≡ constant
  unfolding form has
  form_con e = rw (e, form, e)

  pub form_var : tag ws r ≡ VA → form ws r ≡ variable
  unfolding form has
  form_var e = rw (e, form, e, e)

  pub form_hol : tag ws r ≡ HA → form ws r ≡ hole
  unfolding form has
  form_hol e = rw (e, form, e, e)

-- every free variable has a place, which f gives
abbrev pub Placed : Map → ℕ → (ℕ → ℕ) → Tree → Type 0
Placed m d f t = All (λ j. place m d j ≡ some (f j)) t

pub placed_lam : (m : Map) (d : ℕ) (f : ℕ → ℕ) (t : Tree) → All (lift_p (λ j. place m d j ≡ some (f j))) t → Placed m (d + 1) (lift f) t
placed_lam m d f t h = All-map under_lam t h
  where
    under_lam : (j : ℕ) → lift_p (λ i. place m d i ≡ some (f i)) j → place m (d + 1) j ≡ some (lift f j)
    under_lam zero e = ap (λ p. p 0) (place-lift m d)
    under_lam (suc j) e = ap (λ p. p (suc j)) (place-lift m d) ∙ ap (omap suc) e

-- an argument list that reads as this tree was appended
pub record WroteAll (R : ℕ) (a : Tree) (s s₁ : Store) (l : ℕ) : Type 0 where
  pub appends : Appends R s s₁
  pub records : List ℕ
  pub listed : Listed s₁.words s₁.used l records
  pub reads : Reads s₁.words s₁.used (many records) a

module _ (R : ℕ) where
  -- from s on, the writer writes the records as the trees of an argument list
  pub data Each (write : Writer) (m : Map) (d : ℕ) (s : Store) : List ℕ → Tree → Type 0 where
    each_nil : Each write m d s [] nil
    each_cons : {x : ℕ} {xs : List ℕ} {t a : Tree} → ((s₁ : Store) → Appends R s s₁ → Ends (Wrote R t s₁) OnlyFull (write m d x s₁)) → Each write m d s xs a
        → Each write m d s (x ∷ xs) (cons t a)

  each_later : {write : Writer} {m : Map} {d : ℕ} {s s₁ : Store} {xs : List ℕ} {a : Tree} → Appends R s s₁ → Each write m d s xs a → Each write m d s₁ xs a
  each_later g each_nil = each_nil
  each_later g (each_cons w e) = each_cons (λ s₂ k. w s₂ (appends_trans g k)) (each_later g e)

  pub all-written : (write : Writer) (m : Map) (d : ℕ) (xs : List ℕ) {a : Tree} (s : Store) → Fits R s → Each write m d s xs a
      → Ends (WroteAll R a s) OnlyFull (write_all write R m d xs s)
  unfolding write_all
  all-written write m d [] s i each_nil = ended (record { appends = appends_refl i; records = []; listed = l_none refl; reads = r_nil })
  all-written write m d (x ∷ xs) s i (each_cons {t = t} {a} w e) =
      bind_ends _ (w s (appends_refl i)) (λ _ z. z) λ s₁ y p.
      bind_ends _ (all-written write m d xs s₁ p.appends.grew.fits (each_later p.appends e)) (λ _ z. z) λ s₂ l v.
      map_ends (λ _ z. z) (λ s₃ k u. wrote s₁ y p s₂ l v s₃ k u) (push_ends R CE y l s₂ v.appends.grew.fits)
    where
      wrote : (s₁ : Store) (y : ℕ) → Wrote R t s s₁ y → (s₂ : Store) (l : ℕ) → WroteAll R a s₁ s₂ l → (s₃ : Store) (k : ℕ) → Pushed R CE y l s₂ s₃ k
          → WroteAll R (cons t a) s s₃ k
      wrote s₁ y p s₂ l v s₃ k u =
          let b = appends_trans v.appends (pushed_appends u tt) in
          record {
            appends = appends_trans p.appends b;
            records = y ∷ v.records;
            listed = pushed_cell u v.listed;
            reads = r_cons (reads_later b.grew.same b.grew.grown p.reads) (reads_later u.grew.same u.grew.grown v.reads);
          }

  -- children first, then the head record
  pub lam_written : {t : Tree} {s : Store} {o : Out ℕ} → Ends (Wrote R t s) OnlyFull o → Ends (Wrote R (lam t) s) OnlyFull (o >>= λ (s₁, b). push R LA b 0 s₁)
  lam_written h =
      bind_ends _ h (λ _ z. z) λ s₁ b w.
      map_ends (λ _ z. z) (λ s₂ k u. record { appends = appends_trans w.appends (pushed_appends u tt); last = pushed_last u; reads = pushed_lambda u w.reads })
      (push_ends R LA b 0 s₁ w.appends.grew.fits)

  -- an applied head of tag k, number v
  applied-written : (k v : ℕ) (t : Tree) {a : Tree} {s : Store} {o : Out ℕ} → Plain k
      → ((s₁ s₂ : Store) (r b : ℕ) (xs : List ℕ) → Pushed R k v b s₁ s₂ r → Listed s₁.words s₁.used b xs → Reads s₁.words s₁.used (many xs) a
      → Reads s₂.words s₂.used (one r) t)
      → Ends (WroteAll R a s) OnlyFull o → Ends (Wrote R t s) OnlyFull (o >>= λ (s₁, xs). push R k v xs s₁)
  applied-written k v t p reads h =
      bind_ends _ h (λ _ z. z) λ s₁ b w.
      map_ends (λ _ z. z) (λ s₂ r u. record { appends = appends_trans w.appends (pushed_appends u p); last = pushed_last u; reads = reads s₁ s₂ r b w.records u w.listed w.reads })
      (push_ends R k v b s₁ w.appends.grew.fits)

  pub con_written : (c : ℕ) {a : Tree} {s : Store} {o : Out ℕ} → Ends (WroteAll R a s) OnlyFull o
      → Ends (Wrote R (con c a) s) OnlyFull (o >>= λ (s₁, xs). push R CA c xs s₁)
  con_written c {a} h = applied-written CA c (con c a) tt (λ _ _ _ _ _. pushed_constant) h

  pub var_written : (v : ℕ) {a : Tree} {s : Store} {o : Out ℕ} → Ends (WroteAll R a s) OnlyFull o
      → Ends (Wrote R (var v a) s) OnlyFull (o >>= λ (s₁, xs). push R VA v xs s₁)
  var_written v {a} h = applied-written VA v (var v a) tt (λ _ _ _ _ _. pushed_variable) h
