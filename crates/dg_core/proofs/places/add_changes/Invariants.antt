use Rattle.std.proofs.Common.{◌≡◌, drop}
use Rattle.dg_base.specs.Mentions.{names_in}
use Rattle.dg_base.specs.Walk.{seen, things_at}
use Rattle.dg_names.specs.Scopes.{with_names}
use Rattle.dg_names.specs.State.{listed}
use Rattle.dg_core.specs.Places.{changed_in}
use Rattle.dg_core.proofs.places.add_changes.Given as goal

abbrev pub invariant-loop-mention : goal.invariant-loop-mention
invariant-loop-mention l = with_names (listed l.names) (names_in changed_in (things_at (seen (drop l.mention-index l.mentions)))) ≡ with_names (listed l.initial.names) (names_in changed_in (things_at (seen l.mentions)))
