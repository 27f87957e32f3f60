-- What is printed of a record is the notation of the tree that it reads as.
use Rattle.std.specs.Prelude.{ℕ, zero, suc, ◌≤◌, ◌≡◌, refl, List, ◌∷◌, ◌++◌, map}
use Rattle.std.proofs.Common.{ap, ap₂, append-nil, arith}
use Rattle.rules.specs.Lists.{enough}
use Rattle.rules.specs.Text.{decimal, brackets, print_term, printed}
use Rattle.trees.specs.Tree.{Tree}
use Rattle.promise.specs.Notation.{notation, notations}
use Rattle.promise.specs.Reading.{l_none, Bares, b_nil, b_cons, Node, one, many, Reads, r_lam, r_con, r_var, r_hol, r_nil, r_cons, listed-arguments}
use Rattle.promise.specs.Rewriting.{form_lam, form_con, form_var, form_hol}

-- bare variables
bares_printed : (f : ℕ) {ws : List ℕ} {n : ℕ} {xs vs : List ℕ} → n ≤ f → Bares ws n xs vs → map (λ x. printed f ws x) xs ≡ map (λ v. 118 ∷ decimal v) vs
unfolding printed print_term brackets
bares_printed f h b_nil = refl
bares_printed zero h (b_cons l e x y d) = absurd (omega arith)
bares_printed (suc f) {ws} h (b_cons {x} {v} l e z y d) =
    ap₂ ◌∷◌ (rw (form_var ws x e, print_term, z, listed-arguments {n = 0} x y (l_none refl)) (ap (118 ∷◌) (append-nil (decimal v)))) (bares_printed (suc f) h d)

-- what is to be shown of a record and of the records of an argument list
abbrev Prints : ℕ → List ℕ → Node → Tree → Type 0
Prints f ws (one r) t = printed f ws r ≡ notation t
Prints f ws (many xs) a = map (λ x. printed f ws x) xs ≡ notations a

node_printed : {ws : List ℕ} (f : ℕ) {n : ℕ} {x : Node} {t : Tree} → n ≤ f → Reads ws n x t → Prints f ws x t
unfolding printed print_term notation
node_printed zero h (r_lam l e x d) = absurd (omega arith)
node_printed {ws} (suc f) h (r_lam {r = r} l e x d) = rw (form_lam ws r e, print_term, x) (ap (92 ∷◌) (node_printed f (omega arith) d))
node_printed zero h (r_con l e x y g d) = absurd (omega arith)
node_printed {ws} (suc f) h (r_con {r = r} {c = c} l e x y g d) =
    rw (form_con ws r e, print_term, x, listed-arguments r y g) (ap (λ z. 99 ∷ (decimal c ++ brackets z)) (node_printed f (omega arith) d))
node_printed zero h (r_var l e x y g d) = absurd (omega arith)
node_printed {ws} (suc f) h (r_var {r = r} {v = v} l e x y g d) =
    rw (form_var ws r e, print_term, x, listed-arguments r y g) (ap (λ z. 118 ∷ (decimal v ++ brackets z)) (node_printed f (omega arith) d))
node_printed zero h (r_hol l e x y g d) = absurd (omega arith)
node_printed {ws} (suc f) h (r_hol {r = r} {h = v} l e x y g d) =
    rw (form_hol ws r e, print_term, x, listed-arguments r y g) (ap (λ z. 104 ∷ (decimal v ++ brackets z)) (bares_printed f (omega arith) d))
node_printed f h r_nil = refl
node_printed f h (r_cons d e) = ap₂ ◌∷◌ (node_printed f h d) (node_printed f h e)

pub tree_printed : {ws : List ℕ} {n r : ℕ} {t : Tree} → n ≤ enough → Reads ws n (one r) t → printed enough ws r ≡ notation t
tree_printed h d = node_printed enough h d
