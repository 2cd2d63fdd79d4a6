use Rattle.std.proofs.Common.{◌≡◌, ◌≤◌, [], ◌∷◌, false, List, length, map, refl, arith}
use Rattle.dg_base.specs.Tree.{stmts_of}
use Rattle.dg_base.specs.TreeView.{stmt_view}
use Rattle.dg_base.specs.declared.tree.Stmt.{Stmt}
use Rattle.dg_lint.specs.Slips as spec
use Rattle.dg_lint.proofs.slips.is_blank.Goals as goal

some : (ss : List Stmt) → 1 ≤ length ss → false ≡ spec.is_blank (stmts_of (map stmt_view ss))
some [] h = absurd (omega (arith, h))
some (s ∷ ss) h = refl

pub returns-in_default : goal.returns-in_default
returns-in_default c = some c.args.branch.now c.in_default.len_at_least
