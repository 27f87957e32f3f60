-- What a sound table declares: its constants' types and its holes, as Table gives them, can be read.
use Rattle.std.specs.Prelude.{ℕ, ◌<◌, ◌≤◌, ◌≡◌, List}
use Rattle.std.proofs.Common.{ap, ◌∙◌, arith}
use Rattle.std.proofs.Math.Option.{some}
use Rattle.rules.specs.Lists.{enough}
use Rattle.rules.specs.Words.{tag, field_a, KO, HO}
use Rattle.laws.specs.Sound.{Sound, constant_field}
use Rattle.trees.specs.Tree.{Ty}
use Rattle.promise.specs.Table.{constants, holes}
use Rattle.promise.specs.Reading.{ReadsTy, HoleAt, same_refl, type_later}
use Rattle.promise.specs.Readable.{type_at, hole_at}
use Rattle.promise.specs.TableLaws.{type_reads, constants_some, holes_some}

module _ (ws : List ℕ) (n : ℕ) (g : Sound ws n) (low : n ≤ 4096) where
  pub constants-read : (c : ℕ) → c < n → tag ws c ≡ KO → (A : Ty) × (constants ws n c ≡ some A) × ReadsTy ws n (field_a ws c) A
  constants-read c h e =
      let k = constant_field ws n g c h e in
      let t = type_at ws n g low (field_a ws c) (omega (arith, k.0)) k.1 in
      (t.0, constants_some ws n c h e ∙ ap some (type_reads enough (omega (arith, k.0, low)) t.1), type_later same_refl (omega (arith, k.0)) t.1)

  pub holes-read : (h : ℕ) → h < n → tag ws h ≡ HO → (C : List Ty) × (b : ℕ) × (holes ws n h ≡ some (C, b)) × HoleAt ws n h C b
  holes-read h l e = let x = hole_at ws n g low h l e in (x.0, x.1, holes_some (omega (arith, low)) x.2, x.2)
