use Rattle.dg_base.specs.TreeView.{said_view}
use Rattle.dg_core.specs.inside.View.{scope_view, before_view}
use Rattle.dg_core.proofs.MakeLemmas.{on_ok}
use Rattle.dg_core.proofs.PredLemmas.{denied_adds, topic_has_none, access_has_none, variable_has_none, no_rule_added}
use Rattle.dg_core.proofs.program.add_item.Goals as goal

pub returns-in_ok-failing-in-Deny-clause-preds : goal.returns-in_ok-failing-in-Deny-clause-preds
returns-in_ok-failing-in-Deny-clause-preds c =
    on_ok c.add_with-in-Deny.result
    (denied_adds (scope_view c.args.around.now) (before_view c.args.rules.now.before) c.args.said.now c.in-Deny.head c.in-Deny.body c.in_ok-failing-in-Deny.field-0 c.args.rules.now.preds.items c.add_with-in-Deny.new.rules.preds.items c.in-Deny.is c.in_ok-failing-in-Deny.ensures)
    c.add_with-in-Deny.ensures.preds

pub returns-in-Topic-clause-preds : goal.returns-in-Topic-clause-preds
returns-in-Topic-clause-preds c =
    no_rule_added (scope_view c.args.around.now) (before_view c.args.rules.now.before) (said_view c.args.said.now) c.args.rules.now.preds.items (topic_has_none c.args.said.now c.in-Topic.field-0 c.in-Topic.is)

pub returns-in-Access-clause-preds : goal.returns-in-Access-clause-preds
returns-in-Access-clause-preds c =
    no_rule_added (scope_view c.args.around.now) (before_view c.args.rules.now.before) (said_view c.args.said.now) c.args.rules.now.preds.items (access_has_none c.args.said.now c.in-Access.field-0 c.in-Access.field-1 c.in-Access.is)

pub returns-in-Variable-clause-preds : goal.returns-in-Variable-clause-preds
returns-in-Variable-clause-preds c =
    no_rule_added (scope_view c.args.around.now) (before_view c.args.rules.now.before) (said_view c.args.said.now) c.args.rules.now.preds.items (variable_has_none c.args.said.now c.in-Variable.field-0 c.in-Variable.is)
