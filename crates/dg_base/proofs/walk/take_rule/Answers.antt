use Rattle.std.proofs.Common.{false}
use Rattle.dg_base.specs.declared.mentions.Mention.{Mention}
use Rattle.dg_base.specs.declared.mentions.Work.{Work}
use Rattle.dg_base.proofs.WalkLemmas.{put_walk, three, rule_walk}
use Rattle.dg_base.proofs.walk.take_rule.Goals as goal

pub returns : goal.returns
returns c =
    put_walk _ _ (three (Work.Met (Mention.Query c.args.role c.args.head)) (Work.Parts false c.as_slice.result) (Work.Body false c.args.body)) _ c.put_three.ensures
    (rule_walk c.args.role c.args.head c.args.body c.as_slice.result c.as_slice.ensures)
