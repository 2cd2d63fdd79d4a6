use Rattle.dg_base.specs.TreeView.{head_view, body_view}
use Rattle.dg_core.specs.inside.View.{scope_view}
use Rattle.dg_core.proofs.KeptLemmas.{one_kept}
use Rattle.dg_core.proofs.MakeLemmas.{on_ok}
use Rattle.dg_core.proofs.program.add_with.Goals as goal

pub returns-clause-kept : goal.returns-clause-kept
returns-clause-kept c =
    on_ok c.add_rule.result (λ added. one_kept (scope_view c.args.around.now) c.args.rules.now.before.closures (head_view c.args.head.now) (body_view c.args.body.now) c.in_ok-rule.kept c.args.rules.now.kept.items c.push.new.self.items c.in_ok-rule.ensures.kept c.in_ok-push.ensures.items) c.add_rule.ensures
