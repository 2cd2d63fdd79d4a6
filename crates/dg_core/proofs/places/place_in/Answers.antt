use Rattle.std.proofs.Common.{◌∙◌}
use Rattle.dg_names.proofs.SetLemmas.{place_listed}
use Rattle.dg_core.proofs.places.place_in.Goals as goal

pub returns : goal.returns
returns c = c.get_index_of.ensures.index ∙ place_listed c.args.name.now c.args.names.now.keys
