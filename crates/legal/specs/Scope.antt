-- Terms in scope: under b variables every variable is one of them or bound inside, every hole has as many arguments as its context
-- has entries, and no hole stands under more than c variables.
use Rattle.std.specs.Prelude.{ℕ, zero, suc, ◌+◌, ◌<◌, ◌≤◌, ◌≡◌, List, [], ◌∷◌, true, length}
use Rattle.std.proofs.Common.{sym, ◌∙◌, arith}
use Rattle.rules.specs.Words.{HO, LA, VA, HA, tag, field_a, is_term, arguments, variables}
use Rattle.rules.specs.Store.{Store}
use Rattle.laws.specs.Tests.{tag_is}
use Rattle.laws.specs.Sound.{lambda_field, hole_head}
use Rattle.laws.specs.Members.{Legal}
use Rattle.invariants.specs.Floor.{All}
use Rattle.invariants.specs.Grow.{all_map}
use Rattle.promise.specs.Reading.{Same}
use Rattle.legal.specs.Stay.{tag_same, a_same, term_same}
use Rattle.legal.specs.Reading.{all_both, arity, arguments_terms, arguments_same, variables_same, arity_same}

-- one level of a term
pub record Level (Deeper : ℕ → ℕ → Type 0) (ws : List ℕ) (c b x : ℕ) : Type 0 where
  pub body : tag ws x ≡ LA → Deeper (b + 1) (field_a ws x)
  pub number : tag ws x ≡ VA → field_a ws x < b
  pub parts : 7 ≤ tag ws x → tag ws x ≤ 8 → All (Deeper b) (arguments ws x)
  pub names : tag ws x ≡ HA → All (λ v. v < b) (variables ws x)
  pub count : tag ws x ≡ HA → length (variables ws x) ≡ arity ws (field_a ws x)
  pub cap : tag ws x ≡ HA → b ≤ c

-- as far as f levels go
abbrev Scoped : ℕ → List ℕ → ℕ → ℕ → ℕ → Type 0
Scoped zero ws c b x = Unit {0}
Scoped (suc f) ws c b x = Level (λ b₁ x₁. Scoped f ws c b₁ x₁) ws c b x

-- however far one looks
abbrev pub Scopes : List ℕ → ℕ → ℕ → ℕ → Type 0
Scopes ws c b x = (f : ℕ) → Scoped f ws c b x

all_always : (P : ℕ → ℕ → Type 0) (xs : List ℕ) → ((f : ℕ) → All (P f) xs) → All (λ x. (f : ℕ) → P f x) xs
all_always P [] h = tt
all_always P (x ∷ xs) h = (λ f. (h f).0, all_always P xs (λ f. (h f).1))

pub scope_level : (ws : List ℕ) (c b x : ℕ) → Scopes ws c b x → Level (Scopes ws c) ws c b x
scope_level ws c b x h =
    record {
      body = λ e f. (h (suc f)).body e;
      number = λ e. (h 1).number e;
      parts = λ lo hi. all_always (λ f y. Scoped f ws c b y) (arguments ws x) (λ f. (h (suc f)).parts lo hi);
      names = λ e. (h 1).names e;
      count = λ e. (h 1).count e;
      cap = λ e. (h 1).cap e;
    }

level_scope : (ws : List ℕ) (c b x : ℕ) → Level (Scopes ws c) ws c b x → Scopes ws c b x
level_scope ws c b x h zero = tt
level_scope ws c b x h (suc f) =
    record {
      body = λ e. h.body e f;
      number = h.number;
      parts = λ lo hi. all_map (Scopes ws c b) (Scoped f ws c b) (λ y k. k f) (arguments ws x) (h.parts lo hi);
      names = h.names;
      count = h.count;
      cap = h.cap;
    }

-- by the form of the term
module _ (ws : List ℕ) (c b x : ℕ) where
  pub lambda_scope : tag ws x ≡ LA → Scopes ws c (b + 1) (field_a ws x) → Scopes ws c b x
  lambda_scope e h =
      level_scope ws c b x
      (record { body = λ z. h; number = λ z. absurd (omega arith); parts = λ lo hi. absurd (omega arith); names = λ z. absurd (omega arith); count = λ z. absurd (omega arith); cap = λ z. absurd (omega arith) })

  pub applied_scope : 7 ≤ tag ws x → tag ws x ≤ 8 → (tag ws x ≡ VA → field_a ws x < b) → All (Scopes ws c b) (arguments ws x) → Scopes ws c b x
  applied_scope lo hi low h =
      level_scope ws c b x
      (record { body = λ z. absurd (omega arith); number = low; parts = λ i j. h; names = λ z. absurd (omega arith); count = λ z. absurd (omega arith); cap = λ z. absurd (omega arith) })

  pub hole_scope : tag ws x ≡ HA → All (λ v. v < b) (variables ws x) → length (variables ws x) ≡ arity ws (field_a ws x) → b ≤ c → Scopes ws c b x
  hole_scope e low n le =
      level_scope ws c b x
      (record { body = λ z. absurd (omega arith); number = λ z. absurd (omega arith); parts = λ lo hi. absurd (omega arith); names = λ z. low; count = λ z. n; cap = λ z. le })

-- a higher bound
scoped_more : (f : ℕ) (ws : List ℕ) (c k b x : ℕ) → c ≤ k → Scoped f ws c b x → Scoped f ws k b x
scoped_more zero ws c k b x le h = tt
scoped_more (suc f) ws c k b x le h =
    record {
      body = λ e. scoped_more f ws c k (b + 1) (field_a ws x) le (h.body e);
      number = h.number;
      parts = λ lo hi. all_map (Scoped f ws c b) (Scoped f ws k b) (λ y i. scoped_more f ws c k b y le i) (arguments ws x) (h.parts lo hi);
      names = h.names;
      count = h.count;
      cap = λ e. let z = h.cap e in omega arith;
    }

scopes_more : (ws : List ℕ) (c k b x : ℕ) → c ≤ k → Scopes ws c b x → Scopes ws k b x
scopes_more ws c k b x le h f = scoped_more f ws c k b x le (h f)

-- a term in scope stays so while the words of the records stay
module _ (ws ws₁ : List ℕ) (n : ℕ) (t : Legal ws n) (s : Same n ws ws₁) where
  scoped_same : (f c b x : ℕ) → x < n → is_term ws x ≡ true → Scoped f ws c b x → Scoped f ws₁ c b x
  scoped_same zero c b x lt i h = tt
  scoped_same (suc f) c b x lt i h =
      let e = tag_same ws ws₁ n t s x lt in
      let a = a_same ws ws₁ n t s x lt in
      record {
        body = λ z.
            let p = lambda_field ws n t.sound x lt (sym e ∙ z) in
            let l = p.0 in
            rw a (scoped_same f c (b + 1) (field_a ws x) (omega arith) p.1 (h.body (sym e ∙ z)));
        number = λ z. rw a (h.number (sym e ∙ z));
        parts = λ lo hi.
            rw (arguments_same ws n t ws₁ s x lt (omega arith) (omega arith))
            (all_both (λ y. (y < x) × (is_term ws y ≡ true)) (Scoped f ws c b) (Scoped f ws₁ c b) (arguments ws x) (λ y p k. let l = p.0 in scoped_same f c b y (omega arith) p.1 k)
            (arguments_terms ws n t x lt (omega arith) (omega arith)) (h.parts (omega arith) (omega arith)));
        names = λ z. rw (variables_same ws n t ws₁ s x lt (sym e ∙ z)) (h.names (sym e ∙ z));
        count = λ z.
            let p = hole_head ws n t.sound x lt (sym e ∙ z) in
            let l = p.0 in
            rw (variables_same ws n t ws₁ s x lt (sym e ∙ z), a, arity_same ws n t ws₁ s (field_a ws x) (omega arith) (tag_is ws (field_a ws x) HO p.1)) (h.count (sym e ∙ z));
        cap = λ z. h.cap (sym e ∙ z);
      }

  scopes_same : (c b x : ℕ) → x < n → is_term ws x ≡ true → Scopes ws c b x → Scopes ws₁ c b x
  scopes_same c b x lt i h f = scoped_same f c b x lt i (h f)

-- a term of the store, in scope under b variables
pub record Part (s : Store) (c b x : ℕ) : Type 0 where
  pub below : x < s.used
  pub term : is_term s.words x ≡ true
  pub scope : Scopes s.words c b x

-- it stays one where the store grows, with a higher bound
pub part_on : {s s₁ : Store} (c k b x : ℕ) → Legal s.words s.used → Same s.used s.words s₁.words → s.used ≤ s₁.used → c ≤ k → Part s c b x → Part s₁ k b x
part_on {s} {s₁} c k b x t on g le p =
    let l = p.below in
    record {
      below = omega arith;
      term = rw (term_same s.words s₁.words s.used t on x l) p.term;
      scope = scopes_more s₁.words c k b x le (scopes_same s.words s₁.words s.used t on c b x l p.term p.scope);
    }
