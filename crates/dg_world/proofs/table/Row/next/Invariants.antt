use Rattle.std.proofs.Common.{◌≡◌, ℕ, ◌-◌, ◌≤◌, ◌<◌, None, length, get_or}
use Rattle.dg_world.proofs.table.Row.next.Given as goal

abbrev pub invariant-loop-number : goal.invariant-loop-number
invariant-loop-number l = record { from : l.from ≤ l.number; none : (n : ℕ) → l.from ≤ n → n < l.number → get_or l.self.slots n None ≡ None }

abbrev pub decreases-loop-number : goal.decreases-loop-number
decreases-loop-number l = length l.self.slots - l.number
