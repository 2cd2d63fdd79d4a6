use Rattle.std.proofs.Common.{◌≡◌, ◌++◌, drop}
use Rattle.dg_emit.specs.inside.Left.{those}
use Rattle.dg_emit.proofs.counting.all_of.Given as goal

abbrev pub invariant-loop-term : goal.invariant-loop-term
invariant-loop-term l = those l.made ++ drop l.term-index l.terms ≡ l.terms
