-- Which values are values of the language. Hold it against docs/LANGUAGE.md, where it says what a value is.
use Rattle.std.specs.Prelude.{◌≡◌, ◌≤◌, length}
use Rattle.dg_meaning.specs.Values.{Label, Unknown, Pair, Closure, Value, Var, Node, Values, NoMore, More}
use Rattle.dg_meaning.specs.ValueCells.{count_of}

-- A pair has two parts, a closure any number, and no other label has parts; an unknown word has at most 200 letters.
abbrev pub Fits : Label → Values → Type 0
Fits (Unknown spelling) vs = (vs ≡ NoMore) × (length spelling ≤ 200)
Fits Pair vs = count_of vs ≡ 2
Fits (Closure place) vs = Unit {0}
Fits f vs = vs ≡ NoMore

-- Each label in a value fits its parts.
abbrev mutual
  pub IsFormed : Value → Type 0
  IsFormed (Var x) = Unit {0}
  IsFormed (Node f vs) = Fits f vs × AreFormed vs

  pub AreFormed : Values → Type 0
  AreFormed NoMore = Unit {0}
  AreFormed (More v vs) = IsFormed v × AreFormed vs
