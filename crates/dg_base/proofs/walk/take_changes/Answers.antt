use Rattle.dg_base.proofs.Views.{change_seen}
use Rattle.dg_base.proofs.WalkLemmas.{parted, changes_then, put_next}
use Rattle.dg_base.proofs.walk.take_changes.Goals as goal

pub returns-in-len1-up : goal.returns-in-len1-up
returns-in-len1-up c = put_next _ _ _ _ _ c.put_three.ensures (changes_then c.args.twice c.args.changes.now c.first-item.result _ _ _ (parted c.args.changes.now c.first-item.result c.in-len1-up.len_at_least c.first-item.is) (change_seen c.first-item.result) c.as_slice.ensures)
