use Rattle.dg_plain.proofs.StepLemmas.{on_ok}
use Rattle.std.proofs.Common.{refl}
use Rattle.dg_put.proofs.StepLemmas.{choice_off, else_off}
use Rattle.dg_put.proofs.steps.look_choice.Goals as goal

pub returns-in-None : goal.returns-in-None
returns-in-None c = on_ok c.put_off.result _ _ c.put_off.ensures (choice_off c.args.at c.args.arms c.args.other.now _ c.args.left.now.items _ c.in-None.is refl)

pub returns-in-Some : goal.returns-in-Some
returns-in-Some c = on_ok c.put_off_two.result _ _ c.put_off_two.ensures (else_off c.args.at c.args.arms c.args.other.now _ _ c.args.left.now.items _ c.in-Some.is refl)
