use Rattle.std.proofs.Common.{◌≡◌, drop}
use Rattle.dg_base.specs.Walk.{seen, things_at}
use Rattle.dg_names.specs.State.{told, tally_view}
use Rattle.dg_names.proofs.tally.tell_all.Given as goal

abbrev pub invariant-loop-mention : goal.invariant-loop-mention
invariant-loop-mention l = told (things_at (seen (drop l.mention-index l.mentions))) (tally_view l.tally) ≡ told (things_at (seen l.mentions)) (tally_view l.initial.tally)
