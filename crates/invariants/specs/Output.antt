-- The output of show: every record refers to lower records of the right kind, and what is appended keeps that.
use Prim.Native.Nat.{ℕ, zero, suc, ◌+◌, ◌*◌, ◌<◌, ◌≤◌}
use Rattle.std.specs.Prelude.{◌≡◌, refl, List, [], ◌∷◌}
use Rattle.std.proofs.Common.{sym, ap, ◌∙◌, lt-ltb, le-ltb}
use native.Mathlib.Omega.{arith}
use Rattle.std.proofs.Math.Nat.{le_refl}
use Rattle.std.proofs.Math.Decide.{dec_lt, ℕ_discrete}
use Rattle.std.proofs.Math.ListN.{length}
use Rattle.rules.specs.Words.{NONE, tag, field_a, field_b, elements, VA, HA, CE, LA}
use Rattle.rules.specs.Store.{Store, Out, goes, fails, spent, fail, ◌>>=◌, put, push, push_variables, push_occurrence}
use Rattle.laws.specs.Lists.{Cell, Listed, elements_none, elements_cell, elements-kept}
use Rattle.invariants.specs.Floor.{Sub, Args, Ext}
use Rattle.invariants.specs.Grow.{all_map, tag-kept, a-kept, b_kept, sub_less, sub-kept}
use Rattle.invariants.specs.Push.{put-length, put-kept, put-tag, put_a, put_b, ext_refl, ext_trans}
use Rattle.invariants.specs.Copy.{Nobody}
use Rattle.invariants.specs.Extent.{extent, extents, extent_lambda, extent-applied, extents_same}

-- in an output no home is said
abbrev pub plain : ℕ → ℕ
plain i = 0

-- output record r
pub record Line (ws : List ℕ) (r : ℕ) : Type 0 where
  pub lam : tag ws r ≡ LA → Sub ws plain 0 r (field_a ws r)
  pub app : 7 ≤ tag ws r → tag ws r ≤ 9 → Args ws plain 0 r (field_b ws r)
  pub cell : tag ws r ≡ CE → Cell ws r
  pub item : tag ws r ≡ CE → Sub ws plain 0 r (field_a ws r)

-- an output of O records
pub record Outputs (O : ℕ) (s : Store) : Type 0 where
  pub room : 4 * O ≤ length s.words
  pub few : O ≤ 4096
  pub within : s.used ≤ O
  pub good : (r : ℕ) → r < s.used → Line s.words r

-- what was written stays, the solutions are these, and the result is as said
pub record Wrote {A : Type 0} (O : ℕ) (ss : List ℕ) (Q : Store → A → Type 0) (s s₁ : Store) (x : A) : Type 0 where
  pub ext : Ext Nobody plain s plain s₁
  pub outputs : Outputs O s₁
  pub sols : s₁.solutions ≡ ss
  pub root : Q s₁ x

abbrev pub Writes : {A : Type 0} → ℕ → List ℕ → (Store → A → Type 0) → Store → Out A → Type 0
Writes O ss Q s (goes s₁ x) = Wrote O ss Q s s₁ x
Writes O ss Q s (fails ws e f) = Unit {0}
Writes O ss Q s spent = ⊥

-- a term in an output
abbrev pub ATerm : Store → ℕ → Type 0
ATerm s x = Sub s.words plain 0 s.used x

-- a term whose head is the last record, and which takes up no more than the records from b on
pub record ARoot (b : ℕ) (s : Store) (x : ℕ) : Type 0 where
  pub term : ATerm s x
  pub last : s.used ≡ suc x
  pub takes : (f : ℕ) → b + extent f s.words x ≤ s.used

-- a list in an output, which takes up no more than the records from b on
pub record AList (b : ℕ) (s : Store) (l : ℕ) : Type 0 where
  pub list : Args s.words plain 0 s.used l
  pub takes : (f : ℕ) → b + extents (λ x. extent f s.words x) (elements s.words l) ≤ s.used

pub bind_writes : {A B : Type 0} (O : ℕ) (ss : List ℕ) (P : Store → A → Type 0) (Q : Store → B → Type 0) (s : Store) (o : Out A) (k : Store × A → Out B)
    → Writes O ss P s o → ((s₁ : Store) (x : A) → Ext Nobody plain s plain s₁ → Outputs O s₁ → s₁.solutions ≡ ss → P s₁ x → Writes O ss Q s₁ (k (s₁, x))) → Writes O ss Q s (o >>= k)
unfolding ◌>>=◌
bind_writes {B = B} O ss P Q s (goes s₁ x) k w g = after (k (s₁, x)) (g s₁ x w.ext w.outputs w.sols w.root)
  where
    after : (o : Out B) → Writes O ss Q s₁ o → Writes O ss Q s o
    after (goes s₂ y) h = record { ext = ext_trans Nobody plain s plain s₁ plain s₂ w.ext h.ext; outputs = h.outputs; sols = h.sols; root = h.root }
    after (fails ws e f) h = tt
    after spent h = h
bind_writes {B = B} O ss P Q s (fails ws e f) k w g = tt
bind_writes {B = B} O ss P Q s spent k w g = w

-- a list has the elements that it had
elements_stay : (O : ℕ) (s s₁ : Store) (r l : ℕ) → Outputs O s → Ext Nobody plain s plain s₁ → r ≤ s.used → Args s.words plain 0 r l → elements s₁.words l ≡ elements s.words l
elements_stay O s s₁ r l o e h p =
    elements-kept s.words s₁.words s.used l e.kept (λ c lt five. (o.good c lt).cell five) (λ q. let a = (p.here q).0 in (omega arith, (p.here q).1))

-- a list is as it was
args_stay : (O : ℕ) (s s₁ : Store) (r v l : ℕ) → Outputs O s → Ext Nobody plain s plain s₁ → r ≤ s.used → r ≤ v → Args s.words plain 0 r l → Args s₁.words plain 0 v l
args_stay O s s₁ r v l o e h lv p =
    let k = elements_stay O s s₁ r l o e h p in
    record {
      here = λ q. let a = (p.here q).0 in (omega arith, tag-kept Nobody 0 0 plain s plain s₁ l e (omega arith) ∙ (p.here q).1);
      all = rw k (all_map (Sub s.words plain 0 r) (Sub s₁.words plain 0 v) (λ x t. sub-kept Nobody 0 0 plain s plain s₁ 0 r v x e h lv t) (elements s.words l) p.all);
    }

line_stays : (O : ℕ) (s s₁ : Store) (r : ℕ) → Outputs O s → Ext Nobody plain s plain s₁ → r < s.used → Line s₁.words r
line_stays O s s₁ r o e h =
    let g = o.good r h in
    let t = tag-kept Nobody 0 0 plain s plain s₁ r e h in
    let a = a-kept Nobody 0 0 plain s plain s₁ r e h in
    let b = b_kept Nobody 0 0 plain s plain s₁ r e h in
    record {
      lam = λ i. rw a (sub-kept Nobody 0 0 plain s plain s₁ 0 r r _ e (omega arith) (le_refl _) (g.lam (sym t ∙ i)));
      app = λ i j. rw b (args_stay O s s₁ r r _ o e (omega arith) (le_refl _) (g.app (omega arith) (omega arith)));
      cell = λ i.
          let c = g.cell (sym t ∙ i) in
          record { elem = rw a c.elem; rest = rw b (λ q. let x = c.rest q in let x₀ = x.0 in (x₀, tag-kept Nobody 0 0 plain s plain s₁ _ e (omega arith) ∙ x.1)) };
      item = λ i. rw a (sub-kept Nobody 0 0 plain s plain s₁ 0 r r _ e (omega arith) (le_refl _) (g.item (sym t ∙ i)));
    }

-- a term takes up what it took up, and so does a list
extent_stays : (O : ℕ) (s s₁ : Store) → Outputs O s → Ext Nobody plain s plain s₁ → (f x : ℕ) → ATerm s x → extent f s₁.words x ≡ extent f s.words x
unfolding extent
extent_stays O s s₁ o e zero x p = refl
extent_stays O s s₁ o e (suc f) x p = go (λ y q. extent_stays O s s₁ o e f y q) (ℕ_discrete (tag s.words x) LA)
  where
    low : x < s.used
    low = p.below

    same : tag s₁.words x ≡ tag s.words x
    same = tag-kept Nobody 0 0 plain s plain s₁ x e low

    lower : (y : ℕ) → Sub s.words plain 0 x y → ATerm s y
    lower y q = sub_less s.words plain 0 0 x s.used y q (le_refl _) (omega arith)

    go : ((y : ℕ) → ATerm s y → extent f s₁.words y ≡ extent f s.words y) → Dec (tag s.words x ≡ LA) → extent (suc f) s₁.words x ≡ extent (suc f) s.words x
    go part (yes t) =
        rw (extent_lambda f s₁.words x (same ∙ t), extent_lambda f s.words x t, a-kept Nobody 0 0 plain s plain s₁ x e low)
        (ap suc (part (field_a s.words x) (lower _ ((o.good x low).lam t))))
    go part (no t) =
        let lo = p.term.low in
        let hi = p.term.high in
        let same₁ = same in
        let args = (o.good x low).app (omega arith) hi in
        rw (extent-applied f s₁.words x (omega arith) (omega arith), extent-applied f s.words x (omega arith) hi, b_kept Nobody 0 0 plain s plain s₁ x e low, elements_stay O s s₁ x (field_b s.words x) o e (omega arith) args)
        (ap suc (extents_same (λ y. extent f s₁.words y) (λ y. extent f s.words y) (Sub s.words plain 0 x) (λ y q. part y (lower y q)) (elements s.words (field_b s.words x)) args.all))

extents_stay : (O : ℕ) (s s₁ : Store) (f r l : ℕ) → Outputs O s → Ext Nobody plain s plain s₁ → r ≤ s.used → Args s.words plain 0 r l
    → extents (λ x. extent f s₁.words x) (elements s₁.words l) ≡ extents (λ x. extent f s.words x) (elements s.words l)
extents_stay O s s₁ f r l o e h p =
    rw (elements_stay O s s₁ r l o e h p)
    (extents_same (λ y. extent f s₁.words y) (λ y. extent f s.words y) (Sub s.words plain 0 r)
    (λ y q. extent_stays O s s₁ o e f y (sub_less s.words plain 0 0 r s.used y q (le_refl _) h)) (elements s.words l) p.all)

-- one record more
module _ (O : ℕ) (ss : List ℕ) (s : Store) (o : Outputs O s) (sols : s.solutions ≡ ss) where
  abbrev more : ℕ → ℕ → ℕ → Store
  more t a c = record { words = put s.words s.used t a c; solutions = s.solutions; used = s.used + 1 }

  more_ext : (t a c : ℕ) → Ext Nobody plain s plain (more t a c)
  more_ext t a c = record { grown = omega arith; kept = λ i k. put-kept _ _ _ _ _ i k; labels = λ r k. refl; none = λ q l k i z. z }

  more_good : (t a c : ℕ) → Line (more t a c).words s.used → (r : ℕ) → r < s.used + 1 → Line (more t a c).words r
  more_good t a c new r k = dec (dec_lt r s.used)
    where
      dec : Dec (r < s.used) → Line (more t a c).words r
      dec (yes l) = line_stays O s (more t a c) r o (more_ext t a c) l
      dec (no l) = let z : r ≡ s.used = omega arith in rw z new

  -- a record is appended that keeps the rules, and is as said
  push_writes : (Q : Store → ℕ → Type 0) (t a c : ℕ) → (4 * s.used + 3 < length s.words → Line (more t a c).words s.used)
      → (4 * s.used + 3 < length s.words → Outputs O (more t a c) → Q (more t a c) s.used) → Writes O ss Q s (push O t a c s)
  unfolding push fail
  push_writes Q t a c line said = go (dec_lt s.used O)
    where
      go : Dec (s.used < O) → Writes O ss Q s (push O t a c s)
      go (yes h) =
          let ro = o.room in
          let l : 4 * s.used + 3 < length s.words = omega arith in
          let all : Outputs O (more t a c) = record { room = rw (put-length s.words s.used t a c) ro; few = o.few; within = omega arith; good = more_good t a c (line l) } in
          rw (lt-ltb _ _ h, push) (record { ext = more_ext t a c; outputs = all; sols = sols; root = said l all })
      go (no h) = let k : O ≤ s.used = omega arith in rw (le-ltb _ _ k, push) tt

  -- a term whose head is the record appended
  rooted : (b t a c : ℕ) → 6 ≤ t → t ≤ 9 → 4 * s.used + 3 < length s.words → b ≤ s.used → ((f : ℕ) → b + extent (suc f) (more t a c).words s.used ≤ s.used + 1)
      → ARoot b (more t a c) s.used
  unfolding extent
  rooted b t a c lo hi l start size =
      let e = put-tag s.words s.used t a c l in
      record { term = record { below = omega arith; term = record { low = omega arith; high = omega arith }; up = le_refl _ }; last = omega arith; takes = takes }
    where
      takes : (f : ℕ) → b + extent f (more t a c).words s.used ≤ s.used + 1
      takes zero = omega arith
      takes (suc f) = size f

  pub push_lambda : (b a : ℕ) → ARoot b s a → Writes O ss (ARoot b) s (push O 6 a 0 s)
  push_lambda b a p =
      push_writes (ARoot b) 6 a 0
      (λ l.
      let t = put-tag s.words s.used 6 a 0 l in
      let i = put_a s.words s.used 6 a 0 l in
      record { lam = λ z. rw i (sub-kept Nobody 0 0 plain s plain (more 6 a 0) 0 s.used s.used a (more_ext 6 a 0) (le_refl _) (le_refl _) p.term); app = λ i j. absurd (omega arith); cell = λ i. absurd (omega arith); item = λ i. absurd (omega arith) })
      λ l all.
      let z = p.takes 0 in
      rooted b 6 a 0 (omega arith) (omega arith) l (omega arith) λ f.
      let k = p.takes f in
      rw (extent_lambda f (more 6 a 0).words s.used (put-tag s.words s.used 6 a 0 l), put_a s.words s.used 6 a 0 l, extent_stays O s (more 6 a 0) o (more_ext 6 a 0) f a p.term)
      (omega arith)

  pub push-applied : (b t a c : ℕ) → 7 ≤ t → t ≤ 9 → AList b s c → Writes O ss (ARoot b) s (push O t a c s)
  push-applied b t a c lo hi p =
      push_writes (ARoot b) t a c
      (λ l.
      let e = put-tag s.words s.used t a c l in
      let i = put_b s.words s.used t a c l in
      record { lam = λ z. absurd (omega arith); app = λ j k. rw i (args_stay O s (more t a c) s.used s.used c o (more_ext t a c) (le_refl _) (le_refl _) p.list); cell = λ z. absurd (omega arith); item = λ z. absurd (omega arith) })
      λ l all.
      let z = p.takes 0 in
      rooted b t a c (omega arith) hi l (omega arith) λ f.
      let e = put-tag s.words s.used t a c l in
      let k = p.takes f in
      rw (extent-applied f (more t a c).words s.used (omega arith) (omega arith), put_b s.words s.used t a c l, extents_stay O s (more t a c) f s.used c o (more_ext t a c) (le_refl _) p.list)
      (omega arith)

  pub push_element : (b a c : ℕ) → ATerm s a → Args s.words plain 0 s.used c → ((f : ℕ) → b + (extent f s.words a + extents (λ x. extent f s.words x) (elements s.words c)) ≤ s.used)
      → Writes O ss (AList b) s (push O 5 a c s)
  unfolding extents
  push_element b a c p q size =
      push_writes (AList b) 5 a c
      (λ l.
      let e = put-tag s.words s.used 5 a c l in
      let i = put_a s.words s.used 5 a c l in
      let j = put_b s.words s.used 5 a c l in
      let pb = p.below in
      record {
        lam = λ z. absurd (omega arith);
        app = λ x y. absurd (omega arith);
        cell = λ z. record { elem = rw i pb; rest = rw j (λ ne. let h = q.here ne in let h₀ = h.0 in (h₀, tag-kept Nobody 0 0 plain s plain (more 5 a c) c (more_ext 5 a c) h₀ ∙ h.1)) };
        item = λ z. rw i (sub-kept Nobody 0 0 plain s plain (more 5 a c) 0 s.used s.used a (more_ext 5 a c) (le_refl _) (le_refl _) p);
      })
      λ l all.
      let e = put-tag s.words s.used 5 a c l in
      let real : s.used ≡ NONE → ⊥ = omega arith in
      let here : (s.used ≡ NONE → ⊥) → (s.used < s.used + 1) × (tag (more 5 a c).words s.used ≡ CE) = λ ne. (omega arith, e) in
      let li : Listed (more 5 a c).words s.used = record { top = s.used + 1; inside = omega arith; few = omega arith; good = λ x lt five. (all.good x lt).cell five; here = here } in
      let el : elements (more 5 a c).words s.used ≡ a ∷ elements (more 5 a c).words c = elements_cell (more 5 a c).words s.used real li ∙ rw (put_a s.words s.used 5 a c l, put_b s.words s.used 5 a c l) in
      let tail = args_stay O s (more 5 a c) s.used (s.used + 1) c o (more_ext 5 a c) (le_refl _) (omega arith) q in
      record {
        list = record { here = here; all = rw el (sub-kept Nobody 0 0 plain s plain (more 5 a c) 0 s.used (s.used + 1) a (more_ext 5 a c) (le_refl _) (omega arith) p, tail.all) };
        takes = λ f.
            let k = size f in
            rw (el, extents, extent_stays O s (more 5 a c) o (more_ext 5 a c) f a p, extents_stay O s (more 5 a c) f s.used c o (more_ext 5 a c) (le_refl _) q) (omega arith);
      }

-- no list
pub none_list : (s : Store) → AList s.used s NONE
unfolding extents
none_list s =
    let e : elements s.words NONE ≡ [] = elements_none s.words NONE refl in
    record { list = record { here = λ ne. absurd (ne refl); all = rw e tt }; takes = λ f. rw e (omega arith) }

-- a term, and then the list of what follows it
pub then_element : (O : ℕ) (ss : List ℕ) (b : ℕ) (s₁ : Store) (x : ℕ) (s₂ : Store) (y : ℕ) → Outputs O s₁ → Outputs O s₂ → s₂.solutions ≡ ss → Ext Nobody plain s₁ plain s₂ → ARoot b s₁ x → AList s₁.used s₂ y
    → Writes O ss (AList b) s₂ (push O 5 x y s₂)
then_element O ss b s₁ x s₂ y o₁ o₂ h e p q =
    push_element O ss s₂ o₂ h b x y (sub-kept Nobody 0 0 plain s₁ plain s₂ 0 s₁.used s₂.used x e (le_refl _) e.grown p.term) q.list λ f.
    let i = p.takes f in
    let j = q.takes f in
    rw (extent_stays O s₁ s₂ o₁ e f x p.term) (omega arith)

variables-write : (O : ℕ) (ss vs : List ℕ) (s : Store) → Outputs O s → s.solutions ≡ ss → Writes O ss (AList s.used) s (push_variables O vs s)
unfolding push_variables
variables-write O ss [] s o h = record { ext = ext_refl Nobody plain s; outputs = o; sols = h; root = none_list s }
variables-write O ss (v ∷ vs) s o h =
    bind_writes O ss (ARoot s.used) (AList s.used) s (push O VA v NONE s) _ (push-applied O ss s o h s.used 8 v NONE (omega arith) (omega arith) (none_list s)) λ s₁ x e₁ o₁ h₁ p₁.
    bind_writes O ss (AList s₁.used) (AList s.used) s₁ (push_variables O vs s₁) _ (variables-write O ss vs s₁ o₁ h₁) λ s₂ y e₂ o₂ h₂ p₂. then_element O ss s.used s₁ x s₂ y o₁ o₂ h₂ e₂ p₁ p₂

pub occurrence_writes : (O : ℕ) (ss : List ℕ) (g : ℕ) (vs : List ℕ) (s : Store) → Outputs O s → s.solutions ≡ ss → Writes O ss (ARoot s.used) s (push_occurrence O g vs s)
unfolding push_occurrence
occurrence_writes O ss g vs s o h =
    bind_writes O ss (AList s.used) (ARoot s.used) s (push_variables O vs s) _ (variables-write O ss vs s o h) λ s₁ x e₁ o₁ h₁ p₁. push-applied O ss s₁ o₁ h₁ s.used HA g x (omega arith) (omega arith) p₁
