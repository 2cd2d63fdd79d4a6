use Rattle.dg_base.proofs.WalkLemmas.{parted, nested_word_then, nested_part_then, put_next}
use Rattle.dg_base.proofs.walk.take_nested.Goals as goal

pub returns-in-Word : goal.returns-in-Word
returns-in-Word c = put_next _ _ _ _ _ c.put_one.ensures (nested_word_then c.args.twice c.args.parts.now c.first-item.result _ _ (parted c.args.parts.now c.first-item.result c.in-len1-up.len_at_least c.first-item.is) c.in-Word.is)

pub returns-in-Value : goal.returns-in-Value
returns-in-Value c = put_next _ _ _ _ _ c.put_two.ensures (nested_part_then c.args.twice c.args.parts.now c.first-item.result _ _ (parted c.args.parts.now c.first-item.result c.in-len1-up.len_at_least c.first-item.is) c.in-Value.is)
