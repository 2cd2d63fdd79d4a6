use Rattle.dg_reader.proofs.HeadLemmas.{not_three}
use Rattle.dg_reader.proofs.heads.declared_query.Goals as goal

pub returns-else-parts-eq3 : goal.returns-else-parts-eq3
returns-else-parts-eq3 c = not_three c.args.parts.now c.if-parts-eq3.false
