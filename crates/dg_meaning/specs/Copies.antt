-- Values that are made outside the terms of a program: what is copied out of the world, and lists. Hold it against docs/LANGUAGE.md, "Search", on
-- what is gathered, and "Limits", on what a copied value counts.
use Rattle.std.specs.Prelude.{ℕ, ◌+◌, ◌*◌, List, [], ◌∷◌, length}
use Rattle.dg_meaning.specs.Values.{Label, Unknown, Nil, Pair, Closure, Value, Var, Node, Values, NoMore, More, leaf, pair}
use Rattle.dg_meaning.specs.ValueCells.{count_of}

-- The list of some values.
abbrev pub list_of : List Value → Value
list_of [] = leaf Nil
list_of (v ∷ vs) = pair v (list_of vs)

-- The parts of a value as a list.
abbrev pub values_of : Values → List Value
values_of NoMore = []
values_of (More v vs) = v ∷ values_of vs

-- The places of variables in a value.
abbrev mutual
  pub vars_in : Value → ℕ
  vars_in (Var x) = 1
  vars_in (Node f vs) = vars_in_all vs

  pub vars_in_all : Values → ℕ
  vars_in_all NoMore = 0
  vars_in_all (More v vs) = vars_in v + vars_in_all vs

-- A copy of a value: each place of a variable has a new one, numbered from n on, the last place first.
abbrev mutual
  pub copy_from : ℕ → Value → Value
  copy_from n (Var x) = Var n
  copy_from n (Node f vs) = Node f (copies_from n vs)

  pub copies_from : ℕ → Values → Values
  copies_from n NoMore = NoMore
  copies_from n (More v vs) = More (copy_from (n + vars_in_all vs) v) (copies_from n vs)

-- The heap cells of a label with so many parts: 3 for a pair, 3 with one more for each captured value for a closure, and 3 with 3 more for each
-- letter for an unknown word.
abbrev pub label_weight : Label → ℕ → ℕ
label_weight (Unknown spelling) parts = 3 + 3 * length spelling
label_weight Pair parts = 3
label_weight (Closure place) parts = 3 + parts
label_weight f parts = 0

-- The heap cells of a copy of a value; a variable is one.
abbrev mutual
  pub copy_cells : Value → ℕ
  copy_cells (Var x) = 1
  copy_cells (Node f vs) = label_weight f (count_of vs) + all_copy_cells vs

  pub all_copy_cells : Values → ℕ
  all_copy_cells NoMore = 0
  all_copy_cells (More v vs) = copy_cells v + all_copy_cells vs
