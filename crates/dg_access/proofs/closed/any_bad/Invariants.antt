use Rattle.std.proofs.Common.{◌≡◌, drop, map}
use Rattle.std.specs.List.{list_any}
use Rattle.dg_base.specs.Walk.{seen, things_at}
use Rattle.dg_items.specs.Expanded.{is_misplaced}
use Rattle.dg_put.specs.inside.Putting.{access_view}
use Rattle.dg_access.proofs.closed.any_bad.Given as goal

abbrev pub invariant-loop-mention : goal.invariant-loop-mention
invariant-loop-mention l = list_any (is_misplaced (map access_view l.rules.all.now)) (things_at (seen (drop l.mention-index l.mentions))) ≡ list_any (is_misplaced (map access_view l.rules.all.now)) (things_at (seen l.mentions))
