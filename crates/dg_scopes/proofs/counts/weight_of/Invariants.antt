use Rattle.std.proofs.Common.{◌≡◌, ◌+◌, drop}
use Rattle.dg_base.specs.Mentions as spec
use Rattle.dg_base.specs.Walk.{seen, things_at}
use Rattle.dg_scopes.specs.State.{weight_at}
use Rattle.dg_scopes.proofs.counts.weight_of.Given as goal

abbrev pub invariant-loop-mention : goal.invariant-loop-mention
invariant-loop-mention l = l.weight + spec.weight_of (weight_at l.sort) (things_at (seen (drop l.mention-index l.mentions))) ≡ spec.weight_of (weight_at l.sort) (things_at (seen l.mentions))
