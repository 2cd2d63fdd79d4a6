use Rattle.std.proofs.Common.{◌≡◌, ℕ, List, ◌++◌, length}
use Rattle.z_list.specs.Texts.{all_spaced}
use Rattle.z_list.proofs.fronts.put_bytes.Given as goal

abbrev pub invariant-loop-byte : goal.invariant-loop-byte
invariant-loop-byte l = (bs : List ℕ) × (l.bytes.items ≡ l.initial.bytes.items ++ bs) × (l.text ≡ all_spaced bs ++ l.rest)

abbrev pub decreases-loop-byte : goal.decreases-loop-byte
decreases-loop-byte l = length l.rest
