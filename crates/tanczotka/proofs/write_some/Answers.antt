-- Each call moves no more bytes than there are, and leaves as many.
use Rattle.std.proofs.Common.{rules, ◌≤◌, length, le_refl}
use Rattle.std.proofs.lemmas.Fn.{answers_by}
use Rattle.tanczotka.proofs.write_some.Goals as goal

pub returns : goal.returns
returns g c =
    c.uninterrupted.ensures (length c.args.bytes.now)
    (answers_by _ _ (λ call. length call.1.now ≤ length c.args.bytes.now) (λ call a moved after k le. (search rules, search rules)) _ (le_refl _))
