use Rattle.dg_names.proofs.MemberLemmas.{firsts_are}
use Rattle.dg_names.proofs.laws.firsts_are_names.Goals as goal

pub returns : goal.returns
returns c = firsts_are
