use Rattle.dg_base.proofs.WalkLemmas.{arms_alone, choice_then, put_next}
use Rattle.dg_base.proofs.walk.take_choice.Goals as goal

pub returns-in-Some : goal.returns-in-Some
returns-in-Some c = put_next _ _ _ _ _ c.put_three.ensures (choice_then c.args.twice c.args.arms c.args.other.now _ c.in-Some.is)

pub returns-in-None : goal.returns-in-None
returns-in-None c = put_next _ _ _ _ _ c.put_two.ensures (arms_alone c.args.twice c.args.arms c.args.other.now c.in-None.is)
