use Rattle.std.proofs.Common.{refl}
use Rattle.dg_plain.proofs.StepLemmas.{on_ok}
use Rattle.dg_put.proofs.StepLemmas.{nested_off}
use Rattle.dg_put.proofs.steps.look_nested.Goals as goal

pub returns : goal.returns
returns c = on_ok c.put_off.result _ _ c.put_off.ensures (nested_off c.args.at c.args.parts _ c.args.left.now.items _ refl)
