use Rattle.dg_emit.proofs.Names.{name_text}
use Rattle.dg_emit.proofs.texts.text_of.Goals as goal

pub returns-in-Err : goal.returns-in-Err
returns-in-Err c = absurd (c.in-Err.ensures.cases.0 (name_text c.args.name.now c.requires))
