use Rattle.std.proofs.Common.{◌∙◌}
use Rattle.dg_names.proofs.SetLemmas.{any_listed}
use Rattle.dg_lint.proofs.slips.is_among.Goals as goal

pub returns : goal.returns
returns c = c.contains.ensures ∙ any_listed c.args.name.now c.args.names.now.keys
