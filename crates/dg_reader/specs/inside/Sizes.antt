-- What is left to be looked at of values in lists. The proofs alone rest on it.
use Rattle.std.specs.Prelude.{ℕ, ◌+◌, ◌&&◌, List, [], ◌∷◌, Bool, true, false, Option, Some, None, map}
use Rattle.std.specs.Borrow.{Bor}
use Rattle.dg_base.specs.Tree as tree
use Rattle.dg_base.specs.Tree.{plain_list, Values, no_values, value, values_of}
use Rattle.dg_base.specs.TreeView.{value_view}
use Rattle.dg_base.specs.declared.tree.Value.{Value}
use Rattle.dg_reader.specs.Heads.{are_constants}

-- a number, a word or an object
abbrev pub is_atom : tree.Value → Bool
is_atom (tree.num n) = true
is_atom (tree.dict_word w) = true
is_atom (tree.object_name w) = true
is_atom v = false

-- the elements of a list without a tail
abbrev pub elements_of : tree.Value → Option Values
elements_of (plain_list vs) = Some vs
elements_of v = None

-- the values of several lists are constants
abbrev pub all_constant : List (Bor (List Value)) → Bool
all_constant [] = true
all_constant (l ∷ ls) = are_constants (values_of (map value_view l.now)) && all_constant ls

abbrev mutual
  -- the values in a value and the lists that they stand in
  pub value_size : tree.Value → ℕ
  value_size (plain_list vs) = 2 + values_size vs
  value_size v = 1

  pub values_size : Values → ℕ
  values_size no_values = 0
  values_size (value v vs) = value_size v + values_size vs

-- those of several lists
abbrev pub work : List (Bor (List Value)) → ℕ
work [] = 0
work (l ∷ ls) = (1 + values_size (values_of (map value_view l.now))) + work ls
