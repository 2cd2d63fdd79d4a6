use Rattle.std.proofs.Common.{Some, sym, ◌∙◌, ap}
use Rattle.dg_base.proofs.WalkLemmas.{plain_then, list_then, put_next}
use Rattle.dg_base.proofs.walk.take_list.Goals as goal

pub returns-in-Some : goal.returns-in-Some
returns-in-Some c = put_next _ _ _ _ _ c.put_three.ensures (list_then c.args.twice c.args.values c.args.tail.now _ (c.in-Some.is ∙ ap Some (sym c.get.ensures)))

pub returns-in-None : goal.returns-in-None
returns-in-None c = put_next _ _ _ _ _ c.put_two.ensures (plain_then c.args.twice c.args.values c.args.tail.now c.in-None.is)
