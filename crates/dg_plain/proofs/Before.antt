-- Lists of the tree, some of whose elements are made already.
use Rattle.std.proofs.Common.{◌≡◌, List, [], ◌∷◌, ◌++◌, refl, ap}
use Rattle.dg_base.specs.Tree as tree
use Rattle.dg_base.specs.Tree.{Stmts, Body, branches_of}

abbrev pub branches_before : List Stmts → Body → Body
branches_before [] b = b
branches_before (d ∷ done) b = tree.branch d (branches_before done b)

pub branches_end : (done : List Stmts) → branches_before done tree.no_branches ≡ branches_of done
branches_end [] = refl
branches_end (d ∷ done) = ap (λ (b : Body). tree.branch d b) (branches_end done)

pub branches_push : (done : List Stmts) (ss : Stmts) (b : Body) → branches_before (done ++ ss ∷ []) b ≡ branches_before done (tree.branch ss b)
branches_push [] ss b = refl
branches_push (d ∷ done) ss b = ap (λ (b : Body). tree.branch d b) (branches_push done ss b)
