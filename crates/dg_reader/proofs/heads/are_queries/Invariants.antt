use Rattle.std.proofs.Common.{◌≡◌, drop, map}
use Rattle.dg_base.specs.Tree.{stmts_of}
use Rattle.dg_base.specs.TreeView.{stmt_view}
use Rattle.dg_reader.specs.Heads as spec
use Rattle.dg_reader.proofs.heads.are_queries.Given as goal

abbrev pub invariant-loop-stmt : goal.invariant-loop-stmt
invariant-loop-stmt l = spec.are_queries (stmts_of (map stmt_view l.stmts)) ≡ spec.are_queries (stmts_of (map stmt_view (drop l.stmt-index l.stmts)))
