use Rattle.std.proofs.Common.{◌≡◌, ◌-◌, ◌++◌}
use Rattle.dg_story.specs.inside.World.{flags_by}
use Rattle.dg_story.proofs.world.put_flags.Given as goal

abbrev pub invariant-loop-object : goal.invariant-loop-object
invariant-loop-object l = l.bytes ++ flags_by l.starts l.object (l.objects - l.object) ≡ l.initial.bytes ++ flags_by l.starts 0 l.objects
