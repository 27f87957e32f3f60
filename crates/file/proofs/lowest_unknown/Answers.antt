-- The records passed have known marks, and their tags are noted.
use Rattle.std.proofs.Common.{arith, ap, ◌∙◌}
use Rattle.std.specs.Option.{unwrap_or}
use Rattle.laws.specs.Search.{ahead-start, ahead_on, ahead_stop, ahead_end}
use Rattle.file.proofs.Marks.{known_by, unknown_by, tag_fits, noted_more}
use Rattle.file.proofs.lowest_unknown.Goals as goal

pub overflow_cast-tags : goal.overflow_cast-tags
overflow_cast-tags c = let h = tag_fits _ _ _ _ c.tag_at.ensures c.in-Some.is in omega arith

pub loop-r-init : goal.loop-r-init
loop-r-init c = (omega arith, ahead-start _ _, λ j h. absurd (omega arith))

pub loop-r-preserved : goal.loop-r-preserved
loop-r-preserved c = (
  omega arith,
  c.loop-r.invariant.1 ∙ ahead_on _ _ _ c.loop-r-test.true (known_by _ _ _ _ c.tag_at.ensures c.in-Some.is),
  noted_more _ _ _ _ _ (search arith) c.loop-r.invariant.2 c.tag_at.ensures c.in-Some.is,
)

pub returns-in-None-clause-lowest : goal.returns-in-None-clause-lowest
returns-in-None-clause-lowest c = ap (λ f. unwrap_or f c.args.n) (c.loop-r.invariant.1 ∙ ahead_stop _ _ _ c.loop-r-test.true (unknown_by _ _ _ c.tag_at.ensures c.in-None.is))

pub returns-clause-lowest : goal.returns-clause-lowest
returns-clause-lowest c = ap (λ f. unwrap_or f c.args.n) (c.loop-r.invariant.1 ∙ ahead_end _ _ _ c.loop-r-test.false)
