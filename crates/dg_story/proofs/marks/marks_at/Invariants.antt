use Rattle.std.proofs.Common.{◌≡◌, ◌++◌, drop}
use Rattle.dg_story.specs.inside.Marked.{marks_at}
use Rattle.dg_story.proofs.marks.marks_at.Given as goal

abbrev pub invariant-loop-k : goal.invariant-loop-k
invariant-loop-k l = l.marks.items ++ marks_at (drop l.k l.rules) (drop l.k l.places) ≡ marks_at l.rules l.places
