use Rattle.std.proofs.Common.{◌≡◌, drop}
use Rattle.std.specs.List.{list_any}
use Rattle.dg_base.specs.Walk.{seen, things_at}
use Rattle.dg_names.specs.Counts.{is_excess}
use Rattle.dg_names.proofs.variables.has_excess.Given as goal

abbrev pub invariant-loop-mention : goal.invariant-loop-mention
invariant-loop-mention l = list_any is_excess (things_at (seen (drop l.mention-index l.mentions))) ≡ list_any is_excess (things_at (seen l.mentions))
