use Rattle.std.proofs.Common.{◌≡◌, ◌++◌, ℕ, Vec, Global, drop, map}
use Rattle.dg_core.proofs.program.copied.Given as goal

abbrev pub invariant-loop-name : goal.invariant-loop-name
invariant-loop-name l = l.copies ++ map (λ (n : Vec ℕ Global). n.items) (drop l.name-index l.name-items) ≡ map (λ (n : Vec ℕ Global). n.items) l.names.keys
