-- Variables of a head as they are met, with the names of those before them. The proofs alone rest on it.
use Rattle.std.specs.Prelude.{ℕ, List, [], ◌∷◌, ◌++◌, ◌&&◌, Bool, true, false, not, map, Vec}
use Rattle.std.specs.List.{list_any}
use Rattle.std.specs.Str.{bytes_eq}
use Rattle.indexmap.specs.IndexSet.{IndexSet}
use Rattle.dg_base.specs.Tree.{Part, part_word, part_value, Parts, no_parts, part, variable}
use Rattle.dg_reader.specs.Heads.{has_variable}

-- A word, or a variable that has none of these names.
abbrev pub is_new : List (List ℕ) → Part → Bool
is_new names (part_word w) = true
is_new names (part_value (variable w)) = not (list_any (bytes_eq w) names)
is_new names (part_value v) = false

-- These names, and that of one more variable.
abbrev pub names_behind : List (List ℕ) → Part → List (List ℕ)
names_behind names (part_value (variable w)) = names ++ w ∷ []
names_behind names p = names

-- Words, and variables that have neither these names nor one another's.
abbrev pub are_new : List (List ℕ) → Parts → Bool
are_new names no_parts = true
are_new names (part p ps) = is_new names p && are_new (names_behind names p) ps

-- None of these names is a variable's among these parts.
abbrev pub stand_not_in : List (List ℕ) → Parts → Bool
stand_not_in [] ps = true
stand_not_in (n ∷ names) ps = not (has_variable n ps) && stand_not_in names ps

-- The names in a set, in order.
abbrev pub listed : {A B S : Type 0} → IndexSet (Vec A B) S → List (List A)
listed set = map (λ n. n.items) set.keys
