-- A number only grows with further digits.
use Rattle.std.proofs.Common.{◌≡◌, ◌≤◌, ◌<◌, ◌+◌, ◌*◌, ◌-◌, ℕ, List, [], ◌∷◌, None, arith}
use Rattle.std.proofs.lemmas.Grind.{common_steps}
use Rattle.std.proofs.lemmas.Bool.Decides.{nat_tests}
use Rattle.dialog_tool.specs.Command.{value_behind, number_within}

grows : (high : ℕ) (cs : List ℕ) → high ≤ value_behind high cs
grows high [] = omega arith
grows high (c ∷ cs) = omega (arith, grows (10 * high + (c - 48)) cs)

-- what is too great stays so
pub too_great : (least most high : ℕ) (word rest : List ℕ) → value_behind 0 word ≡ value_behind high rest → most < high → number_within least most word ≡ None
too_great least most high word rest same lt = let more : most < value_behind 0 word = omega (arith, grows high rest) in grind (arith, common_steps, nat_tests)
