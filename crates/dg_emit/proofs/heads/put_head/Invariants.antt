use Rattle.std.proofs.Common.{◌≡◌, ◌+◌, ◌≤◌, ◌++◌, length, drop}
use Rattle.dg_turn.specs.Turns.{matchers, unifying_acts, unified_acts}
use Rattle.dg_emit.specs.inside.Left.{those}
use Rattle.dg_emit.proofs.heads.put_head.Given as goal

abbrev pub invariant-loop-term : goal.invariant-loop-term
invariant-loop-term l =
    (l.acts ++ unifying_acts l.argument l.word (matchers l.number (those (drop l.term-index l.head))) ≡ l.initial.acts ++ unified_acts (those l.head))
    × (l.argument ≤ 32 + l.term-index) × (l.word ≤ 64 + l.term-index) × (length l.head ≤ 12)
