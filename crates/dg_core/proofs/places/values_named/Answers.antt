use Rattle.std.proofs.Common.{arith}
use Rattle.std.proofs.lemmas.List.{drop_more, drop_all}
use Rattle.dg_core.proofs.PlaceLemmas.{named_next}
use Rattle.dg_core.proofs.places.values_named.Goals as goal

ruleset steps = (drop_more, drop_all, named_next)

pub loop-character-preserved : goal.loop-character-preserved
loop-character-preserved c = grind (arith, steps)
