-- Show: solves, then writes one input hole's answer with all solved holes expanded into the output.
use Rattle.std.specs.Prelude.{ℕ, zero, suc, ◌*◌, true, false, List, [], length, ltb}
use Rattle.rules.specs.declared.Reply.{Reply}
use Rattle.rules.specs.Lists.{both, below, enough}
use Rattle.rules.specs.Words.{field_a, HO, has, elements, variables}
use Rattle.rules.specs.Answers.{reply, too_few, records}
use Rattle.rules.specs.Store.{Store, Out, goes, fails, spent, push_occurrence, solved, solution}
use Rattle.rules.specs.Map.{Map, targets, to_variables, follow}
use Rattle.rules.specs.Rewrite.{Writer, write_term}
use Rattle.rules.specs.Solve.{Behind, unsaid, refusal, leaves, filled}

-- a hole under a map of its context: a solved hole is expanded, an unsolved one is written
unfoldable pub show_hole : Writer → ℕ → ℕ → Map → Store → Out ℕ
show_hole write O h m s = elim (solved s h) [ true ↦ write m 0 (solution s h) s | false ↦ push_occurrence O h (targets m) s ]

-- a hole met in a term of table ws, with the map that follows its arguments
unfoldable pub expand_hole : Writer → ℕ → List ℕ → Writer
expand_hole write O ws m d r s = show_hole write O (field_a ws r) (follow m d 0 (variables ws r)) s

-- a term of table ws written to an output of O records; the store holds output words and the table's solutions; fuel as in the walk
unfoldable pub show_term : ℕ → ℕ → List ℕ → Writer
show_term zero O ws m d r s = spent
show_term (suc f) O ws m d r s =
    let go : Writer = λ m' d' r' s'. show_term f O ws m' d' r' s' in
    write_term (expand_hole go O ws) go O ws m d r s

-- the answer of input hole h, over its context variables in order
unfoldable pub answer : ℕ → List ℕ → ℕ → Store → Out ℕ
answer O ws h s =
    show_hole (λ m d r s'. show_term enough O ws m d r s') O h (to_variables 0 (below (length (elements ws (field_a ws h))))) s

-- what solving leaves behind, with show's reply, and the output words
pub record Shown : Type 0 where
  pub behind : Behind
  pub output : List ℕ

-- the same words with another reply
abbrev pub answering : Behind → Reply → Behind
answering l r = record { table = l.table; solutions = l.solutions; queue = l.queue; said = r }

-- only where solving answers 0 the output is written: unused counted records zero; too few records (11): all counted records zero
unfoldable pub shows : Behind → List ℕ → ℕ → Shown
shows l os h =
    let blank = filled 0 (4 * records os) 0 os in
    elim l.said.answer [
      | zero ↦
          elim (answer (records os) l.table h (record { words = blank; solutions = l.solutions; used = 0 })) [
            | goes s r ↦ record { behind = answering l (reply 0 0 s.used); output = s.words }
            | fails ws ss e ↦ record { behind = answering l too_few; output = blank }
            | spent ↦ record { behind = unsaid; output = [] }
          ]
      | suc k ↦ record { behind = l; output = os }
    ]

-- showing record h of the first n records; 10 where it is no input hole
unfoldable pub show : List ℕ → List ℕ → List ℕ → List ℕ → ℕ → ℕ → Shown
show ws ss qs os n h = shows (leaves (refusal (both (ltb h n) (has ws h HO)) ws ss n) ws ss qs n) os h
