use Rattle.std.proofs.Common.{◌≡◌, ◌+◌, ◌-◌, ◌++◌}
use Rattle.dg_turn.specs.Turns.{match_acts}
use Rattle.dg_emit.proofs.rules.put_matches.Given as goal

abbrev pub invariant-loop-index : goal.invariant-loop-index
invariant-loop-index l = l.acts ++ match_acts (l.arguments + l.index) (l.terms + l.index) (l.count - l.index) ≡ l.initial.acts ++ match_acts l.arguments l.terms l.count
