use Rattle.dg_plain.proofs.StepLemmas.{on_ok}
use Rattle.std.proofs.Common.{Some, refl, sym, ◌∙◌, ap}
use Rattle.dg_put.proofs.StepLemmas.{list_off, tailed_off}
use Rattle.dg_put.proofs.steps.look_list.Goals as goal

pub returns-in-None : goal.returns-in-None
returns-in-None c = on_ok c.put_off.result _ _ c.put_off.ensures (list_off c.args.at c.args.values c.args.tail.now _ c.args.left.now.items _ c.in-None.is refl)

pub returns-in-Some : goal.returns-in-Some
returns-in-Some c = on_ok c.put_off_two.result _ _ c.put_off_two.ensures (tailed_off c.args.at c.args.values c.args.tail.now _ _ c.args.left.now.items _ (c.in-Some.is ∙ ap Some (sym c.get.ensures)) refl)
