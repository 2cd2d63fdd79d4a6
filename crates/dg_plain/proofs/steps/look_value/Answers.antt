use Rattle.std.proofs.Common.{◌∙◌, ap}
use Rattle.dg_base.specs.TreeView.{value_view}
use Rattle.dg_base.proofs.Views.{closure_seen}
use Rattle.dg_plain.specs.Building.{built_view}
use Rattle.dg_plain.specs.State.{setting_view}
use Rattle.dg_plain.proofs.BuildLemmas.{closure_built}
use Rattle.dg_plain.proofs.StepLemmas.{on_ok, value_off}
use Rattle.dg_plain.proofs.steps.look_value.Goals as goal

pub returns-in-Closure : goal.returns-in-Closure
returns-in-Closure c = on_ok c.put_off.result _ _ c.put_off.ensures (λ put. value_off (setting_view c.args.setting) c.args.puts c.args.value.now _ (built_view c.args.built.now) c.args.left.now.items _ _ _ (ap value_view c.in-Closure.is ∙ closure_seen _) put (closure_built (setting_view c.args.setting) c.args.puts _ (built_view c.args.built.now)))
