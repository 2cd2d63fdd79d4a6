use Rattle.std.proofs.Common.{sym, ◌∙◌, ap}
use Rattle.dg_plain.specs.Building.{built_view, does, run}
use Rattle.dg_plain.specs.State.{setting_view}
use Rattle.dg_plain.specs.declared.work.Work.{Work}
use Rattle.dg_plain.proofs.StepLemmas.{on_ok, body_off}
use Rattle.dg_plain.proofs.steps.step.Goals as goal

pub returns-in-Body : goal.returns-in-Body
returns-in-Body c = on_ok c.put_off.result _ _ c.put_off.ensures (λ put. body_off _ _ _ c.args.left.now.items _ c.as_slice.ensures c.len.ensures put (setting_view c.args.setting) (built_view c.args.built.now) ∙ ap (λ (w : Work). run (setting_view c.args.setting) c.args.left.now.items (does (setting_view c.args.setting) w (built_view c.args.built.now))) (sym c.in-Body.is))
