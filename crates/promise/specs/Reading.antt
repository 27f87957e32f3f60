-- A table read as types and trees, by relations: every reference goes to a lower record of the right kind, and later records leave a reading as it is.
use Rattle.std.specs.Prelude.{ℕ, zero, suc, ◌+◌, ◌*◌, ◌<◌, ◌≤◌, ◌≡◌, refl, List, [], ◌∷◌, map, get_or}
use Rattle.std.proofs.Common.{ap, ap₂, ◌∙◌, arith, le_refl}
use Rattle.rules.specs.Lists.{enough}
use Rattle.rules.specs.Words.{tag, field_a, field_b, NONE, BT, AR, HO, CE, LA, CA, VA, HA, cells, elements, arguments, variables}
use Rattle.laws.specs.Lists.{cells_none, cells-more}
use Rattle.trees.specs.Tree.{Ty, base, arr, Tree, lam, con, var, hol, nil, cons}

-- the list l, all of whose cells are below n, holds these records
pub data Listed (ws : List ℕ) : ℕ → ℕ → List ℕ → Type 0 where
  l_none : {n l : ℕ} → l ≡ NONE → Listed ws n l []
  l_cell : {n l x b : ℕ} {xs : List ℕ} → l < n → l < NONE → tag ws l ≡ CE → field_a ws l ≡ x → field_b ws l ≡ b → Listed ws l b xs → Listed ws n l (x ∷ xs)

-- these records, below n, are bare variables of these numbers
pub data Bares (ws : List ℕ) (n : ℕ) : List ℕ → List ℕ → Type 0 where
  b_nil : Bares ws n [] []
  b_cons : {x v : ℕ} {xs vs : List ℕ} → x < n → tag ws x ≡ VA → field_a ws x ≡ v → field_b ws x ≡ NONE → Bares ws n xs vs → Bares ws n (x ∷ xs) (v ∷ vs)

-- one record, or the records of an argument list
pub data Node : Type 0 where
  one : ℕ → Node
  many : List ℕ → Node

pub data Reads (ws : List ℕ) : ℕ → Node → Tree → Type 0 where
  r_lam : {n r a : ℕ} {t : Tree} → r < n → tag ws r ≡ LA → field_a ws r ≡ a → Reads ws r (one a) t → Reads ws n (one r) (lam t)
  r_con : {n r c b : ℕ} {xs : List ℕ} {a : Tree} → r < n → tag ws r ≡ CA → field_a ws r ≡ c → field_b ws r ≡ b → Listed ws r b xs → Reads ws r (many xs) a
      → Reads ws n (one r) (con c a)
  r_var : {n r v b : ℕ} {xs : List ℕ} {a : Tree} → r < n → tag ws r ≡ VA → field_a ws r ≡ v → field_b ws r ≡ b → Listed ws r b xs → Reads ws r (many xs) a
      → Reads ws n (one r) (var v a)
  r_hol : {n r h b : ℕ} {xs vs : List ℕ} → r < n → tag ws r ≡ HA → field_a ws r ≡ h → field_b ws r ≡ b → Listed ws r b xs → Bares ws r xs vs
      → Reads ws n (one r) (hol h vs)
  r_nil : {n : ℕ} → Reads ws n (many []) nil
  r_cons : {n x : ℕ} {xs : List ℕ} {t a : Tree} → Reads ws n (one x) t → Reads ws n (many xs) a → Reads ws n (many (x ∷ xs)) (cons t a)

-- record r, below n, reads as a type; records read as the types of a context
pub data ReadsTy (ws : List ℕ) : ℕ → ℕ → Ty → Type 0 where
  ty_base : {n r b : ℕ} → r < n → tag ws r ≡ BT → field_a ws r ≡ b → ReadsTy ws n r (base b)
  ty_arr : {n r a b : ℕ} {A B : Ty} → r < n → tag ws r ≡ AR → field_a ws r ≡ a → field_b ws r ≡ b → ReadsTy ws r a A → ReadsTy ws r b B
      → ReadsTy ws n r (arr A B)

pub data ReadsTys (ws : List ℕ) (n : ℕ) : List ℕ → List Ty → Type 0 where
  ty_nil : ReadsTys ws n [] []
  ty_cons : {x : ℕ} {xs : List ℕ} {A : Ty} {C : List Ty} → ReadsTy ws n x A → ReadsTys ws n xs C → ReadsTys ws n (x ∷ xs) (A ∷ C)

-- record h, below n, is a hole of this context and base type
pub record HoleAt (ws : List ℕ) (n h : ℕ) (C : List Ty) (b : ℕ) : Type 0 where
  pub low : h < n
  pub is : tag ws h ≡ HO
  pub list : ℕ
  pub first : field_a ws h ≡ list
  pub entries : List ℕ
  pub listed : Listed ws h list entries
  pub context : ReadsTys ws h entries C
  pub at : ℕ
  pub second : field_b ws h ≡ at
  pub result : ReadsTy ws h at (base b)

-- the words of the records below n are the same
pub record Same (n : ℕ) (ws vs : List ℕ) : Type 0 where
  pub word : (i : ℕ) → i < 4 * n → get_or vs i 0 ≡ get_or ws i 0

pub under : {r n m : ℕ} → r < n → n ≤ m → r < m
under h k = omega arith

pub lower : {r n : ℕ} → r < n → r ≤ n
lower h = omega arith

pub same_less : {m n : ℕ} {ws vs : List ℕ} → m ≤ n → Same n ws vs → Same m ws vs
same_less h s = record { word = λ i k. s.word i (omega arith) }

pub same_refl : {n : ℕ} {ws : List ℕ} → Same n ws ws
same_refl = record { word = λ i k. refl }

pub same_trans : {m n : ℕ} {ws vs us : List ℕ} → m ≤ n → Same m ws vs → Same n vs us → Same m ws us
same_trans h s t = record { word = λ i k. t.word i (omega arith) ∙ s.word i k }

module _ {ws vs : List ℕ} {n : ℕ} (s : Same n ws vs) {r : ℕ} (h : r < n) where
  pub same_tag : {k : ℕ} → tag ws r ≡ k → tag vs r ≡ k
  same_tag e = s.word (4 * r) (omega arith) ∙ e

  pub same_a : {k : ℕ} → field_a ws r ≡ k → field_a vs r ≡ k
  same_a e = s.word (4 * r + 1) (omega arith) ∙ e

  pub same_b : {k : ℕ} → field_b ws r ≡ k → field_b vs r ≡ k
  same_b e = s.word (4 * r + 2) (omega arith) ∙ e

-- readings are kept where the words below the bound are, and the bound may grow
pub listed_later : {ws vs : List ℕ} {n m l : ℕ} {xs : List ℕ} → Same n ws vs → n ≤ m → Listed ws n l xs → Listed vs m l xs
listed_later s k (l_none e) = l_none e
listed_later s k (l_cell h q t a b d) =
    l_cell (under h k) q (same_tag s h t) (same_a s h a) (same_b s h b) (listed_later (same_less (lower h) s) (le_refl _) d)

pub bares_later : {ws vs : List ℕ} {n m : ℕ} {xs ys : List ℕ} → Same n ws vs → n ≤ m → Bares ws n xs ys → Bares vs m xs ys
bares_later s k b_nil = b_nil
bares_later s k (b_cons h t a b d) = b_cons (under h k) (same_tag s h t) (same_a s h a) (same_b s h b) (bares_later s k d)

pub reads_later : {ws vs : List ℕ} {n m : ℕ} {x : Node} {t : Tree} → Same n ws vs → n ≤ m → Reads ws n x t → Reads vs m x t
reads_later s k (r_lam h e a d) = r_lam (under h k) (same_tag s h e) (same_a s h a) (reads_later (same_less (lower h) s) (le_refl _) d)
reads_later s k (r_con h e a b l d) =
    let z = same_less (lower h) s in
    r_con (under h k) (same_tag s h e) (same_a s h a) (same_b s h b) (listed_later z (le_refl _) l) (reads_later z (le_refl _) d)
reads_later s k (r_var h e a b l d) =
    let z = same_less (lower h) s in
    r_var (under h k) (same_tag s h e) (same_a s h a) (same_b s h b) (listed_later z (le_refl _) l) (reads_later z (le_refl _) d)
reads_later s k (r_hol h e a b l d) =
    let z = same_less (lower h) s in
    r_hol (under h k) (same_tag s h e) (same_a s h a) (same_b s h b) (listed_later z (le_refl _) l) (bares_later z (le_refl _) d)
reads_later s k r_nil = r_nil
reads_later s k (r_cons d e) = r_cons (reads_later s k d) (reads_later s k e)

pub type_later : {ws vs : List ℕ} {n m r : ℕ} {A : Ty} → Same n ws vs → n ≤ m → ReadsTy ws n r A → ReadsTy vs m r A
type_later s k (ty_base h e a) = ty_base (under h k) (same_tag s h e) (same_a s h a)
type_later s k (ty_arr h e a b d f) =
    let z = same_less (lower h) s in
    ty_arr (under h k) (same_tag s h e) (same_a s h a) (same_b s h b) (type_later z (le_refl _) d) (type_later z (le_refl _) f)

pub types_later : {ws vs : List ℕ} {n m : ℕ} {xs : List ℕ} {C : List Ty} → Same n ws vs → n ≤ m → ReadsTys ws n xs C → ReadsTys vs m xs C
types_later s k ty_nil = ty_nil
types_later s k (ty_cons d e) = ty_cons (type_later s k d) (types_later s k e)

pub hole_later : {ws vs : List ℕ} {n m h : ℕ} {C : List Ty} {b : ℕ} → Same n ws vs → n ≤ m → HoleAt ws n h C b → HoleAt vs m h C b
hole_later s k d =
    let h = d.low in
    let z = same_less (lower h) s in
    record {
      low = under h k;
      is = same_tag s h d.is;
      list = d.list;
      first = same_a s h d.first;
      entries = d.entries;
      listed = listed_later z (le_refl _) d.listed;
      context = types_later z (le_refl _) d.context;
      at = d.at;
      second = same_b s h d.second;
      result = type_later z (le_refl _) d.result;
    }

-- the elements of a list, as the rules read them
listed-cells : {ws : List ℕ} (k : ℕ) {n l : ℕ} {xs : List ℕ} → n ≤ k → Listed ws n l xs → cells k ws l ≡ xs
listed-cells {ws} k {l = l} h (l_none e) = cells_none k ws l e
listed-cells zero h (l_cell q z t a b d) = absurd (omega arith)
listed-cells {ws} (suc k) {l = l} h (l_cell q z t a b d) = cells-more k ws l (omega arith) ∙ ap₂ ◌∷◌ a (ap (cells k ws) b ∙ listed-cells k (omega arith) d)

listed_top : (k : ℕ) {ws : List ℕ} {n l : ℕ} {xs : List ℕ} → NONE ≤ k → Listed ws n l xs → cells k ws l ≡ xs
listed_top k h (l_none e) = listed-cells k {n = 0} (omega arith) (l_none e)
listed_top k h (l_cell q z t a b d) = listed-cells k h (l_cell z z t a b d)

pub listed-elements : {ws : List ℕ} {n l : ℕ} {xs : List ℕ} → Listed ws n l xs → elements ws l ≡ xs
unfolding elements
listed-elements d = listed_top enough (omega arith) d

pub listed-arguments : {ws : List ℕ} {n b : ℕ} {xs : List ℕ} (r : ℕ) → field_b ws r ≡ b → Listed ws n b xs → arguments ws r ≡ xs
unfolding arguments
listed-arguments {ws} r e d = ap (elements ws) e ∙ listed-elements d

bares_numbers : {ws : List ℕ} {n : ℕ} {xs vs : List ℕ} → Bares ws n xs vs → map (λ x. field_a ws x) xs ≡ vs
bares_numbers b_nil = refl
bares_numbers (b_cons h t a b d) = ap₂ ◌∷◌ a (bares_numbers d)

pub listed-variables : {ws : List ℕ} {n b : ℕ} {xs vs : List ℕ} (r : ℕ) → field_b ws r ≡ b → Listed ws n b xs → Bares ws n xs vs → variables ws r ≡ vs
unfolding variables
listed-variables {ws} r e l d = ap (map (λ x. field_a ws x)) (listed-arguments r e l) ∙ bares_numbers d
