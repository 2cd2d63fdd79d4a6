use Rattle.std.proofs.Common.{◌≡◌, ◌+◌, drop}
use Rattle.dg_turn.specs.Sites.{place_of}
use Rattle.dg_emit.proofs.numbers.Numbers.place.Given as goal

abbrev pub invariant-loop-other : goal.invariant-loop-other
invariant-loop-other l = (l.place + place_of l.site (drop l.other-index l.self.sites) ≡ place_of l.site l.self.sites) × (l.place ≡ l.other-index)
