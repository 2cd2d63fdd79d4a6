use Rattle.dg_compile.proofs.SourceLemmas.{too_long}
use Rattle.dg_compile.proofs.source.long_sources_are_refused.Goals as goal

pub returns : goal.returns
returns c = too_long
