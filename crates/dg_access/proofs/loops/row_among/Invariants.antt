use Rattle.std.proofs.Common.{◌≡◌, ◌++◌, drop, map}
use Rattle.dg_base.specs.Walk.{seen, things_at}
use Rattle.dg_put.specs.inside.Putting.{access_view}
use Rattle.dg_access.specs.inside.Rows.{asked}
use Rattle.dg_access.proofs.loops.row_among.Given as goal

abbrev pub invariant-loop-mention : goal.invariant-loop-mention
invariant-loop-mention l = l.row.items ++ asked (map access_view l.rules.all.now) (things_at (seen (drop l.mention-index l.mentions))) ≡ asked (map access_view l.rules.all.now) (things_at (seen l.mentions))
