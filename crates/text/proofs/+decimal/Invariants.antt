use Rattle.text.proofs.+decimal.Given as goal

-- The number falls.
abbrev pub decreases-decimal : goal.decreases-decimal
decreases-decimal l = l.x
