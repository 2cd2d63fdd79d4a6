-- Branches are seen one by one.
use Rattle.std.proofs.Common.{◌≡◌, List, map}
use Rattle.std.proofs.lemmas.Simd.{map-map}
use Rattle.dg_base.specs.Tree as tree
use Rattle.dg_base.specs.TreeView.{stmt_view, branch_view}
use Rattle.dg_base.specs.declared.tree.Stmt.{Stmt}

pub each_branch : (bs : List (List Stmt)) → map (λ ss. tree.stmts_of ss) (map (λ ss. map stmt_view ss) bs) ≡ map branch_view bs
each_branch bs = simp map-map
