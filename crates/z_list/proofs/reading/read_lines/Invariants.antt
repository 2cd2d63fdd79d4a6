use Rattle.std.proofs.Common.{◌++◌, length}
use Rattle.z_list.specs.Texts.{story_line}
use Rattle.z_list.specs.inside.Turned.{Reads}
use Rattle.z_list.proofs.reading.read_lines.Given as goal

abbrev pub invariant-loop-rest : goal.invariant-loop-rest
invariant-loop-rest l = Reads l.count (story_line l.count ++ l.text) l.place l.story.items l.rest l.line

abbrev pub decreases-loop-rest : goal.decreases-loop-rest
decreases-loop-rest l = length l.rest
