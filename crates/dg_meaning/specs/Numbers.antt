-- What is calculated and compared. Hold it against docs/LANGUAGE.md, "Built-in queries".
use Rattle.std.specs.Prelude.{ℕ, ◌+◌, ◌-◌, ◌*◌, ◌/◌, ◌%◌, eqb, nat_lt, nat_le, List, [], ◌∷◌, Option, Some, None, Bool, false, if◌then◌else◌}
use Rattle.std.specs.Option.{option_and_then}
use Rattle.dg_base.specs.declared.program.ArithOp.{ArithOp}
use Rattle.dg_base.specs.declared.program.ArithOp.TheVariants.{Plus, Minus, Times, Divide, Modulo}
use Rattle.dg_base.specs.declared.program.CompareOp.{CompareOp}
use Rattle.dg_base.specs.declared.program.CompareOp.TheVariants.{Less, Greater}
use Rattle.dg_meaning.specs.Values.{Num, Value, Node}

-- A number, if it is no greater than 16,383.
abbrev pub in_range : ℕ → Option ℕ
in_range n = if nat_le n 16383 then Some n else None

-- What comes of two values that were looked up, if both are numbers.
abbrev pub of_numbers : (ℕ → ℕ → Option ℕ) → Value → Value → Option ℕ
of_numbers f (Node (Num m) ms) (Node (Num n) ns) = f m n
of_numbers f v u = None

-- What an operation makes of two numbers, if it makes a number.
abbrev pub calculated : ArithOp → ℕ → ℕ → Option ℕ
calculated Plus m n = in_range (m + n)
calculated Minus m n = if nat_lt m n then None else Some (m - n)
calculated Times m n = in_range (m * n)
calculated Divide m n = if eqb n 0 then None else Some (m / n)
calculated Modulo m n = if eqb n 0 then None else Some (m % n)

-- The number from m to n that a dice word comes to.
abbrev pub thrown : ℕ → ℕ → ℕ → Option ℕ
thrown word m n = if nat_lt n m then None else Some (m + word % (n - m + 1))

-- Two numbers stand in an order.
abbrev pub in_order : CompareOp → ℕ → ℕ → Bool
in_order Less m n = nat_lt m n
in_order Greater m n = nat_lt n m

-- Two values that were looked up are numbers in an order.
abbrev pub are_in_order : CompareOp → Value → Value → Bool
are_in_order op (Node (Num m) ms) (Node (Num n) ns) = in_order op m n
are_in_order op v u = false

-- One number more, if there is a sum.
abbrev pub plus : ℕ → Option ℕ → Option ℕ
plus n None = None
plus n (Some sum) = Some (n + sum)

-- The sum of values, if all are numbers.
abbrev pub sum_of : List Value → Option ℕ
sum_of [] = Some 0
sum_of (Node (Num n) ns ∷ vs) = plus n (sum_of vs)
sum_of (v ∷ vs) = None

-- The sum of what was gathered, if all are numbers and it is no greater than 16,383.
abbrev pub total : List Value → Option ℕ
total vs = option_and_then in_range (sum_of vs)
