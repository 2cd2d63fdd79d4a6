use Rattle.std.specs.Prelude.{◌≡◌, map, replicate}
use Rattle.dg_choose.specs.Site.{picks_of}
use Rattle.dg_meaning.specs.Choosing.{no_picks}
use Rattle.dg_lasting.proofs.lasting.new_sites.Given as goal

abbrev pub invariant-loop : goal.invariant-loop
invariant-loop l = map picks_of l.sites.items ≡ replicate l.counter no_picks
