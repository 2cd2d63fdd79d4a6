use Rattle.std.proofs.Common.{◌≡◌, drop}
use Rattle.std.specs.List.{list_any}
use Rattle.dg_base.specs.Walk.{seen, things_at}
use Rattle.dg_reader.specs.Profile.{is_refused}
use Rattle.dg_reader.proofs.profile.has_refused.Given as goal

abbrev pub invariant-loop-mention : goal.invariant-loop-mention
invariant-loop-mention l = list_any is_refused (things_at (seen (drop l.mention-index l.mentions))) ≡ list_any is_refused (things_at (seen l.mentions))
