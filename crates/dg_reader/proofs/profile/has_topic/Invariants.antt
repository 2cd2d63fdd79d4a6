use Rattle.std.proofs.Common.{◌≡◌, drop}
use Rattle.std.specs.List.{list_any}
use Rattle.dg_base.specs.Walk.{seen, things_at}
use Rattle.dg_reader.specs.Profile.{is_topic}
use Rattle.dg_reader.proofs.profile.has_topic.Given as goal

abbrev pub invariant-loop-mention : goal.invariant-loop-mention
invariant-loop-mention l = list_any is_topic (things_at (seen (drop l.mention-index l.mentions))) ≡ list_any is_topic (things_at (seen l.mentions))
