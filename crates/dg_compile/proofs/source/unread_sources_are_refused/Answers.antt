use Rattle.dg_base.specs.declared.refusal.ReadFault.TheVariants.{Refused}
use Rattle.dg_compile.proofs.SourceLemmas.{no_items}
use Rattle.dg_compile.proofs.source.unread_sources_are_refused.Goals as goal

pub returns : goal.returns
returns c = λ source r h. no_items source (Refused r) h
