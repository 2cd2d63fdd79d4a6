use Rattle.dg_base.proofs.WalkLemmas.{parted, word_then, part_then, put_next}
use Rattle.dg_base.proofs.walk.take_parts.Goals as goal

pub returns-in-Word : goal.returns-in-Word
returns-in-Word c = put_next _ _ _ _ _ c.put_one.ensures (word_then c.args.twice c.args.parts.now c.first-item.result _ _ (parted c.args.parts.now c.first-item.result c.in-len1-up.len_at_least c.first-item.is) c.in-Word.is)

pub returns-in-Value : goal.returns-in-Value
returns-in-Value c = put_next _ _ _ _ _ c.put_two.ensures (part_then c.args.twice c.args.parts.now c.first-item.result _ _ (parted c.args.parts.now c.first-item.result c.in-len1-up.len_at_least c.first-item.is) c.in-Value.is)
