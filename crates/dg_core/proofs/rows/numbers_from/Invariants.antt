use Rattle.std.proofs.Common.{◌≡◌, ◌+◌, ◌++◌, ℕ, drop, map}
use Rattle.dg_core.proofs.rows.numbers_from.Given as goal

abbrev pub invariant-loop-place : goal.invariant-loop-place
invariant-loop-place l = l.numbers.items ++ map (λ (p : ℕ). l.first + p) (drop l.place-index l.places) ≡ map (λ (p : ℕ). l.first + p) l.places
