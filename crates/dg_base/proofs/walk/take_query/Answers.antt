use Rattle.dg_base.proofs.WalkLemmas.{query_then, put_next}
use Rattle.dg_base.proofs.walk.take_query.Goals as goal

pub returns : goal.returns
returns c = put_next _ _ _ _ _ c.put_two.ensures (query_then c.args.twice c.args.role c.args.head _ c.as_slice.ensures)
