-- The tests of what a value is. Hold it against the chapter of the Dialog manual on values, where it says what (number $), (list $) and their kin ask for.
use Rattle.std.specs.Prelude.{Bool, true, false, ◌&&◌}
use Rattle.dg_base.specs.declared.program.TestKind.{TestKind}
use Rattle.dg_base.specs.declared.program.TestKind.TheVariants as test
use Rattle.dg_meaning.specs.Values.{Num, Word, Unknown, Nil, Pair, Value, Var, Node, Values, NoMore, More}
use Rattle.dg_meaning.specs.Substitutions.{Substitution, walk, resolved}

-- No variable stands in a value, those that a closure captures included.
abbrev mutual
  pub is_fully_bound : Value → Bool
  is_fully_bound (Var x) = false
  is_fully_bound (Node f vs) = are_fully_bound vs

  pub are_fully_bound : Values → Bool
  are_fully_bound NoMore = true
  are_fully_bound (More v vs) = is_fully_bound v && are_fully_bound vs

-- A value that was looked up passes a test by what stands at its top.
abbrev pub top_passes : TestKind → Value → Bool
top_passes test.Number (Node (Num n) vs) = true
top_passes test.Word (Node (Word n) vs) = true
top_passes test.Word (Node (Unknown spelling) vs) = true
top_passes test.UnknownWord (Node (Unknown spelling) vs) = true
top_passes test.List (Node Nil vs) = true
top_passes test.List (Node Pair vs) = true
top_passes test.Empty (Node Nil vs) = true
top_passes test.NonEmpty (Node Pair vs) = true
top_passes test.Bound (Node f vs) = true
top_passes test.Unbound (Var x) = true
top_passes kind v = false

-- A value passes a test.
abbrev pub passes : Substitution → TestKind → Value → Bool
passes S test.FullyBound v = is_fully_bound (resolved S v)
passes S kind v = top_passes kind (walk S v)
