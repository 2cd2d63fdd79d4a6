-- How far dice words were drawn. Hold it against docs/LANGUAGE.md, "Choosing".
use Rattle.std.specs.Prelude.{ℕ, ◌≡◌, ◌%◌, List, length}
use Rattle.dg_choose.specs.declared.dice.Dice.{Dice}

-- They are these words, of which so many were drawn.
pub record HasDrawn (dice : Dice) (all : List ℕ) (n : ℕ) : Type 0 where
  pub words : dice.words.now ≡ all
  pub place : dice.at ≡ n % length all
