use Rattle.std.proofs.Common.{◌≡◌, drop}
use Rattle.dg_story.specs.inside.World as spec
use Rattle.dg_story.proofs.world.flag_by.Given as goal

abbrev pub invariant-loop-start : goal.invariant-loop-start
invariant-loop-start l = spec.flag_by (drop l.start-index l.starts) l.object ≡ spec.flag_by l.starts l.object
