use Rattle.heads.proofs.+final_type.Given as goal

abbrev pub decreases-final_type : goal.decreases-final_type
decreases-final_type l = l.ty
