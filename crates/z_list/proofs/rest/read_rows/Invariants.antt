use Rattle.std.proofs.Common.{length}
use Rattle.z_list.specs.inside.Turned.{ReadRows}
use Rattle.z_list.proofs.rest.read_rows.Given as goal

abbrev pub invariant-loop-full : goal.invariant-loop-full
invariant-loop-full l = ReadRows l.initial.story.items l.text l.count l.full l.story.items l.rest

abbrev pub decreases-loop-full : goal.decreases-loop-full
decreases-loop-full l = length l.rest
