use mathlib.Core.Path.{refl}
use Rattle.rules.specs.File.{marks}
use Rattle.rules.specs.FileWrite.{mark_bytes}
use Rattle.write.proofs.Storing.{mark_is}
use Rattle.write.proofs.mark_of.Goals as goal

pub returns-in-1 : goal.returns-in-1
unfolding marks mark_bytes
returns-in-1 c = mark_is _ 1 _ c.in-1.is refl

pub returns-in-2 : goal.returns-in-2
unfolding marks mark_bytes
returns-in-2 c = mark_is _ 2 _ c.in-2.is refl

pub returns-in-3 : goal.returns-in-3
unfolding marks mark_bytes
returns-in-3 c = mark_is _ 3 _ c.in-3.is refl

pub returns-in-4 : goal.returns-in-4
unfolding marks mark_bytes
returns-in-4 c = mark_is _ 4 _ c.in-4.is refl

pub returns-in-5 : goal.returns-in-5
unfolding marks mark_bytes
returns-in-5 c = mark_is _ 5 _ c.in-5.is refl

pub returns-in-6 : goal.returns-in-6
unfolding marks mark_bytes
returns-in-6 c = mark_is _ 6 _ c.in-6.is refl

pub returns-in-7 : goal.returns-in-7
unfolding marks mark_bytes
returns-in-7 c = mark_is _ 7 _ c.in-7.is refl

pub returns-in-8 : goal.returns-in-8
unfolding marks mark_bytes
returns-in-8 c = mark_is _ 8 _ c.in-8.is refl

pub returns-in-9 : goal.returns-in-9
unfolding marks mark_bytes
returns-in-9 c = mark_is _ 9 _ c.in-9.is refl

pub returns-in-10 : goal.returns-in-10
unfolding marks mark_bytes
returns-in-10 c = mark_is _ 10 _ c.in-10.is refl
