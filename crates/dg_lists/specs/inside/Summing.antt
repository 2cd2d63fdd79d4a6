-- The sum of what stands in cells. Hold it against dg_meaning/specs/Numbers.antt.
use Rattle.std.specs.Prelude.{ℕ, List, [], ◌∷◌, Option, Some, None}
use Rattle.std.specs.Option.{option_and_then}
use Rattle.dg_base.specs.declared.cells.Cell.{Cell}
use Rattle.dg_base.specs.declared.cells.Cell.TheVariants as cell
use Rattle.dg_meaning.specs.Numbers.{in_range, plus}

-- The sum of the numbers in cells, if all are numbers.
abbrev pub sum_in : List Cell → Option ℕ
sum_in [] = Some 0
sum_in (cell.Num n ∷ cells) = plus n (sum_in cells)
sum_in (c ∷ cells) = None

-- The same with so much more, if that is no greater than a number of the language may be.
abbrev pub total_from : ℕ → List Cell → Option ℕ
total_from s cells = option_and_then in_range (plus s (sum_in cells))
