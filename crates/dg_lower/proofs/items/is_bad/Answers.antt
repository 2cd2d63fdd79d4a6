use Rattle.dg_lower.specs.Lowered as spec
use Rattle.dg_lower.specs.inside.Left.{rules_view}
use Rattle.dg_lower.specs.inside.View.{names_in, items_in}
use Rattle.dg_lower.proofs.LeftLemmas.{head_answers}
use Rattle.dg_lower.proofs.items.is_bad.Goals as goal

pub returns-in-Rule : goal.returns-in-Rule
returns-in-Rule c =
    let s = spec.sight_of (names_in c.args.around.now) (items_in c.args.around.now) c.args.quiet.now in
    head_answers s c.args.said.now c.in-Rule.head c.args.declared.now (rules_view c.args.rows.now.items) c.is_bad_rule.result (rules_view c.is_bad_rule.new.rows.items) c.requires.distinct c.in-Rule.is c.is_bad_rule.ensures
