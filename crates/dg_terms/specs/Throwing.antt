-- Which values are numbers, and what the throw of a die comes to. Hold it against docs/LANGUAGE.md, "Built-in queries" on random numbers.
use Rattle.std.specs.Prelude.{◌≡◌, ◌+◌, ℕ, List, Option, Some, None}
use Rattle.dg_meaning.specs.Values.{Num, Value, Node}
use Rattle.dg_choose.specs.Dice.{HasDrawn}
use Rattle.dg_choose.specs.declared.dice.Dice.{Dice}

-- The number that a value is.
abbrev pub number_in : Value → Option ℕ
number_in (Node (Num n) vs) = Some n
number_in v = None

-- The number that is meant, after so many dice words were drawn, is the one that came; where there is one, one more word was drawn.
abbrev pub Throws : Option ℕ → List ℕ → ℕ → Option ℕ → Dice → Type 0
Throws None words drawn came dice = HasDrawn dice words drawn × (came ≡ None)
Throws (Some n) words drawn came dice = HasDrawn dice words (drawn + 1) × (came ≡ Some n)
