use Rattle.std.proofs.Common.{◌≡◌, ◌-◌, length}
use Rattle.dg_plain.specs.Items as spec
use Rattle.dg_plain.specs.State.{seen}
use Rattle.dg_plain.proofs.numbers.first_free.Given as goal

abbrev pub invariant-loop-number : goal.invariant-loop-number
invariant-loop-number l = spec.first_free (seen l.names) l.number (length l.names - l.number) ≡ spec.first_free (seen l.names) 0 (length l.names)
