use Rattle.dg_base.proofs.WalkLemmas.{parted, branches_then, put_next}
use Rattle.dg_base.proofs.walk.take_branches.Goals as goal

pub returns-in-len1-up : goal.returns-in-len1-up
returns-in-len1-up c = put_next _ _ _ _ _ c.put_two.ensures (branches_then c.args.twice c.args.branches.now c.first-item.result _ _ (parted c.args.branches.now c.first-item.result c.in-len1-up.len_at_least c.first-item.is) c.as_slice.ensures)
