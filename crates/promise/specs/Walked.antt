-- What the walk over records comes to: a walk over trees that went on, or one that is lost; and argument lists.
use Rattle.std.specs.Prelude.{ℕ, zero, suc, ◌≡◌, refl, ◌≢◌}
use mathlib.Core.List.{List, [], ◌∷◌}
use Rattle.std.proofs.Math.Option.{Option, none}
use Rattle.rules.specs.declared.Failure.{Failure}
use Rattle.rules.specs.declared.Failure.TheVariants.{Clash, Escape, Occurs, QueueFull, TableFull}
use Rattle.rules.specs.Words.{CE}
use Rattle.rules.specs.Store.{Store}
use Rattle.rules.specs.Map.{Map}
use Rattle.rules.specs.Rewrite.{Writer, write_all}
use Rattle.trees.specs.Tree.{Tree, lam, con, var, hol, nil, cons, Holes, Sig}
use Rattle.trees.specs.Moves.{Grows, Solutions, NoneFrozen, Walk, w_nil, w_cons, Lost, l_first, l_rest}
use Rattle.trees.specs.Typing.{Declared}
use Rattle.trees.proofs.Walk.{declared_later}
use Rattle.promise.specs.Reading.{Listed, l_none, one, many, Reads, r_nil, r_cons, reads_later}
use Rattle.promise.specs.Outcomes.{Ends, ended, bind_ends, map_ends, OnlyFull}
use Rattle.promise.specs.Writing.{Pushed, pushed_appends, pushed_cell, push_ends}
use Rattle.promise.specs.Maps.{place}
use Rattle.promise.specs.State.{Later, later_refl, later_trans, grew_later, Holds, holds_appends}

-- the walk of t for u went on: the record r reads as what a derivation writes
pub record Walked (R u : ℕ) (D : Sig) (σ : Solutions) (p : ℕ → Option ℕ) (t : Tree) (s s₁ : Store) (r : ℕ) : Type 0 where
  pub sig : Sig
  pub sols : Solutions
  pub tree : Tree
  pub walk : Walk NoneFrozen u D σ p t sig sols tree
  pub holds : Holds R s₁ sig sols
  pub reads : Reads s₁.words s₁.used (one r) tree
  pub later : Later s s₁
  pub declares : Grows D sig

-- the same of an argument list
pub record WalkedAll (R u : ℕ) (D : Sig) (σ : Solutions) (p : ℕ → Option ℕ) (a : Tree) (s s₁ : Store) (l : ℕ) : Type 0 where
  pub sig : Sig
  pub sols : Solutions
  pub tree : Tree
  pub walk : Walk NoneFrozen u D σ p a sig sols tree
  pub holds : Holds R s₁ sig sols
  pub records : List ℕ
  pub listed : Listed s₁.words s₁.used l records
  pub reads : Reads s₁.words s₁.used (many records) tree
  pub later : Later s s₁
  pub declares : Grows D sig

-- the walk failed: by escape or occurs it is lost; a full table says nothing
abbrev pub LostBy : ℕ → ℕ → Sig → Solutions → (ℕ → Option ℕ) → Tree → Failure → Type 0
LostBy u k D σ p t Clash = ⊥
LostBy u k D σ p t Escape = Lost NoneFrozen u k D σ p t
LostBy u k D σ p t Occurs = Lost NoneFrozen u k D σ p t
LostBy u k D σ p t QueueFull = ⊥
LostBy u k D σ p t TableFull = Unit {0}

-- a failure that passes on; a full table
pub lost_map : (u j k : ℕ) {D E : Sig} {σ τ : Solutions} {p q : ℕ → Option ℕ} {t a : Tree}
    → (Lost NoneFrozen u j D σ p t → Lost NoneFrozen u k E τ q a) → (e : Failure) → LostBy u j D σ p t e → LostBy u k E τ q a e
lost_map u j k f Clash x = x
lost_map u j k f Escape x = f x
lost_map u j k f Occurs x = f x
lost_map u j k f QueueFull x = x
lost_map u j k f TableFull x = x

pub lost_full : (u k : ℕ) (D : Sig) (σ : Solutions) (p : ℕ → Option ℕ) (t : Tree) (e : Failure) → OnlyFull e → LostBy u k D σ p t e
lost_full u k D σ p t Clash x = x
lost_full u k D σ p t Escape x = absurd x
lost_full u k D σ p t Occurs x = absurd x
lost_full u k D σ p t QueueFull x = x
lost_full u k D σ p t TableFull x = x

-- at the top (k is 0) the tree is neither u nor a solved hole
abbrev pub Starts : ℕ → ℕ → Solutions → Tree → Type 0
Starts u zero σ (lam t) = Unit {0}
Starts u zero σ (con c a) = Unit {0}
Starts u zero σ (var v a) = Unit {0}
Starts u zero σ (hol v xs) = (v ≢ u) × (σ v ≡ none)
Starts u zero σ nil = Unit {0}
Starts u zero σ (cons t a) = Unit {0}
Starts u (suc k) σ t = Unit {0}

module _ (R u : ℕ) where
  -- a writer that walks
  abbrev pub Walks : Writer → Type 0
  Walks write = (k : ℕ) (m : Map) (d r : ℕ) (s : Store) (D : Sig) (σ : Solutions) (t : Tree) → Holds R s D σ → Reads s.words s.used (one r) t
      → Holes (Declared D) t → Starts u k σ t → Ends (Walked R u D σ (place m d) t s) (LostBy u k D σ (place m d) t) (write m d r s)

  pub all_walked : (write : Writer) → Walks write → (m : Map) (d : ℕ) (xs : List ℕ) (s : Store) (D : Sig) (σ : Solutions) (a : Tree) → Holds R s D σ
      → Reads s.words s.used (many xs) a → Holes (Declared D) a
      → Ends (WalkedAll R u D σ (place m d) a s) (LostBy u 1 D σ (place m d) a) (write_all write R m d xs s)
  unfolding write_all
  all_walked write c m d [] s D σ nil i r_nil n = ended (record {
    sig = D;
    sols = σ;
    tree = nil;
    walk = w_nil;
    holds = i;
    records = [];
    listed = l_none refl;
    reads = r_nil;
    later = later_refl;
    declares = λ _ _ e. e;
  })
  all_walked write c m d [] s D σ (lam _) i q n = elim q [ ]
  all_walked write c m d [] s D σ (con _ _) i q n = elim q [ ]
  all_walked write c m d [] s D σ (var _ _) i q n = elim q [ ]
  all_walked write c m d [] s D σ (hol _ _) i q n = elim q [ ]
  all_walked write c m d [] s D σ (cons _ _) i q n = elim q [ ]
  all_walked write c m d (x ∷ xs) s D σ (lam _) i q n = elim q [ ]
  all_walked write c m d (x ∷ xs) s D σ (con _ _) i q n = elim q [ ]
  all_walked write c m d (x ∷ xs) s D σ (var _ _) i q n = elim q [ ]
  all_walked write c m d (x ∷ xs) s D σ (hol _ _) i q n = elim q [ ]
  all_walked write c m d (x ∷ xs) s D σ nil i q n = elim q [ ]
  all_walked write c m d (x ∷ xs) s D σ (cons t a) i (r_cons q r) n =
      bind_ends _ (c 1 m d x s D σ t i q n.0 tt) (lost_map u 1 1 l_first) λ s₁ y w.
      bind_ends _
      (all_walked write c m d xs s₁ w.sig w.sols a w.holds (reads_later w.later.same w.later.grown r) (declared_later D w.sig w.declares a n.1))
      (lost_map u 1 1 (l_rest w.walk)) λ s₂ l v.
      map_ends (lost_full u 1 D σ (place m d) (cons t a)) (λ s₃ k z. wrote s₁ y w s₂ l v s₃ k z) (push_ends R CE y l s₂ v.holds.fits)
    where
      wrote : (s₁ : Store) (y : ℕ) (w : Walked R u D σ (place m d) t s s₁ y) (s₂ : Store) (l : ℕ) → WalkedAll R u w.sig w.sols (place m d) a s₁ s₂ l
          → (s₃ : Store) (k : ℕ) → Pushed R CE y l s₂ s₃ k → WalkedAll R u D σ (place m d) (cons t a) s s₃ k
      wrote s₁ y w s₂ l v s₃ k z =
          let b = later_trans v.later (grew_later z.grew) in
          record {
            sig = v.sig;
            sols = v.sols;
            tree = cons w.tree v.tree;
            walk = w_cons w.walk v.walk;
            holds = holds_appends v.holds (pushed_appends z tt);
            records = y ∷ v.records;
            listed = pushed_cell z v.listed;
            reads = r_cons (reads_later b.same b.grown w.reads) (reads_later z.grew.same z.grew.grown v.reads);
            later = later_trans w.later b;
            declares = λ h e q. v.declares h e (w.declares h e q);
          }
