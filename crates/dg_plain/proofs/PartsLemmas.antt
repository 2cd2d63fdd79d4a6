-- The first value among parts.
use Rattle.std.proofs.Common.{◌≡◌, List, [], ◌∷◌, ◌++◌, refl}
use Rattle.dg_base.specs.Tree as tree
use Rattle.dg_base.specs.Tree.{Part, Parts, Value, parts_of}
use Rattle.dg_plain.specs.Plain.{first_value}
use Rattle.dg_plain.specs.State.{first_or}

pub first_push : (done : List Part) (p : Part) (d : Value) → first_or (parts_of (done ++ p ∷ [])) d ≡ first_or (parts_of done) (first_or (tree.part p tree.no_parts) d)
first_push [] p d = refl
first_push (tree.part_word w ∷ done) p d = first_push done p d
first_push (tree.part_value v ∷ done) p d = refl

pub first_else : (ps : Parts) → first_or ps (tree.plain_list tree.no_values) ≡ first_value ps
first_else tree.no_parts = refl
first_else (tree.part (tree.part_word w) ps) = first_else ps
first_else (tree.part (tree.part_value v) ps) = refl
