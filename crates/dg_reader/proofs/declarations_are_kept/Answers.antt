use Rattle.dg_reader.proofs.DeclarationLemmas.{declarations_kept}
use Rattle.std.proofs.Common.{[], false}
use Rattle.dg_reader.proofs.declarations_are_kept.Goals as goal

pub returns : goal.returns
returns c = λ ts is. declarations_kept false ts is []
