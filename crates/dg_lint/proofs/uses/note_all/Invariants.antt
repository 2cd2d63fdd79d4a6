use Rattle.std.proofs.Common.{◌≡◌, drop}
use Rattle.dg_base.specs.Walk.{seen, things_at}
use Rattle.dg_lint.specs.inside.View.{used, uses_view}
use Rattle.dg_lint.proofs.uses.note_all.Given as goal

abbrev pub invariant-loop-mention : goal.invariant-loop-mention
invariant-loop-mention l = used l.all (things_at (seen (drop l.mention-index l.mentions))) (uses_view l.uses) ≡ used l.all (things_at (seen l.mentions)) (uses_view l.initial.uses)
