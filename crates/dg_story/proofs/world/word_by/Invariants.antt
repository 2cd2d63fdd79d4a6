use Rattle.std.proofs.Common.{◌≡◌, drop}
use Rattle.dg_story.specs.inside.World as spec
use Rattle.dg_story.proofs.world.word_by.Given as goal

abbrev pub invariant-loop-start : goal.invariant-loop-start
invariant-loop-start l = spec.word_by (drop l.start-index l.starts) l.object ≡ spec.word_by l.starts l.object
