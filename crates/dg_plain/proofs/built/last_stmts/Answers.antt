use Rattle.std.proofs.Common.{◌∙◌, ap, map}
use Rattle.dg_base.specs.TreeView.{stmt_view}
use Rattle.dg_plain.proofs.BuildLemmas.{front_map, behind_map}
use Rattle.dg_plain.proofs.built.last_stmts.Goals as goal

pub returns-clause-last : goal.returns-clause-last
returns-clause-last c = ap (map stmt_view) c.in_ok-last_of.ensures.last ∙ behind_map stmt_view c.args.count c.args.from.now.items

pub returns-clause-front : goal.returns-clause-front
returns-clause-front c = ap (map stmt_view) c.in_ok-last_of.ensures.front ∙ front_map stmt_view c.args.count c.args.from.now.items
