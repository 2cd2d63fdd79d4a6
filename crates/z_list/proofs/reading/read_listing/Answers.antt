use Rattle.std.proofs.Common.{◌≡◌, subst}
use Rattle.z_list.specs.Reads.{IsBadAt}
use Rattle.z_list.proofs.Lines.{bad_first}
use Rattle.z_list.proofs.reading.read_listing.Goals as goal

pub returns-in_default-clause-bad : goal.returns-in_default-clause-bad
returns-in_default-clause-bad c = λ line e. let same : 1 ≡ line = cc in subst (IsBadAt c.args.text.now) same (bad_first c.args.text.now c.in_default.ensures)
