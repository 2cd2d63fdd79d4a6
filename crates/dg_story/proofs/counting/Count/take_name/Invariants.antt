use Rattle.std.proofs.Common.{drop, ◌*◌}
use Rattle.dg_meaning.specs.Render.{characters}
use Rattle.dg_story.specs.inside.Counting.{GoesOn}
use Rattle.dg_story.proofs.counting.Count.take_name.Given as goal

abbrev pub invariant-loop-byte : goal.invariant-loop-byte
invariant-loop-byte l = GoesOn (6 * characters (l.name)) (6 * characters (drop l.byte-index l.name)) l.initial.self l.self
