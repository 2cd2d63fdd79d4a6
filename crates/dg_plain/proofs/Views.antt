-- What the branches of a body or a select stand for.
use Rattle.std.proofs.Common.{◌≡◌, List, map, ap}
use Rattle.std.proofs.lemmas.Simd.{map-map}
use Rattle.dg_base.specs.Tree as tree
use Rattle.dg_base.specs.TreeView.{stmt_view, branch_view, branches_view}
use Rattle.dg_base.specs.declared.tree.Stmt
use Rattle.dg_base.specs.declared.tree.Stmt.{Stmt}
use Rattle.dg_base.specs.declared.program.Mode.{Mode}
use Rattle.dg_base.proofs.Views.{body_seen, select_seen}
use Rattle.dg_plain.specs.State.{selected}

pub each_branch : (bs : List (List Stmt)) → branches_view (map (map stmt_view) bs) ≡ tree.branches_of (map branch_view bs)
each_branch bs = ap (λ (l : List tree.Stmts). tree.branches_of l) (simp map-map)

pub selected_seen : (mode : Mode) (bs : List (List Stmt)) → selected (stmt_view (Stmt.Select mode bs)) ≡ branches_view (map (map stmt_view) bs)
selected_seen mode bs = ap (λ (s : tree.Stmt). selected s) (select_seen mode bs)

-- what a body and a select are of their branches
pub ruleset branches_seen = (each_branch, body_seen, select_seen)
