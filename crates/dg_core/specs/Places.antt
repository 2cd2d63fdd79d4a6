-- The places of the world: hold them against docs/LANGUAGE.md, "The world", and the chapter of the Dialog manual on it.
use Rattle.std.specs.Prelude.{ℕ, zero, suc, List, [], ◌∷◌, ◌++◌, Bool, map, codes, nat_eq, if◌then◌else◌}
use Rattle.std.specs.List.{list_any}
use Rattle.std.specs.Str.{bytes_eq}
use Rattle.dg_base.specs.Heads.{name_of}
use Rattle.dg_base.specs.Mentions.{Thing, query, mentioned, names_in}
use Rattle.dg_base.specs.Tree.{Parts, no_parts, part, part_word, part_value, Value, Said, global_variable, Item}
use Rattle.dg_base.specs.declared.mentions.Role.TheVariants as role
use Rattle.dg_base.specs.declared.program.PlaceKind.{PlaceKind}
use Rattle.dg_base.specs.declared.program.PlaceKind.TheVariants.{Flag, ObjectFlag, ObjectVar, Parent, Global}
use Rattle.dg_names.specs.Named.{firsts}

-- The name of the place of parents, which every program has.
abbrev pub parent_name : List ℕ
parent_name = codes "($ has parent $)"

-- A name is one of these.
abbrev pub is_among : List ℕ → List (List ℕ) → Bool
is_among name names = list_any (bytes_eq name) names

-- The heads of declarations.
abbrev pub declaration_in : Said → List Parts
declaration_in (global_variable ps) = ps ∷ []
declaration_in said = []

abbrev pub declarations : List Item → List Parts
declarations [] = []
declarations (i ∷ is) = declaration_in i.said ++ declarations is

-- The declared names of a tree in order of first appearance.
abbrev pub declared_names : List Item → List (List ℕ)
declared_names is = firsts (map name_of (declarations is))

-- The name of what is changed.
abbrev pub changed_in : Thing → List (List ℕ)
changed_in (query (role.Changed set) ps) = name_of ps ∷ []
changed_in t = []

-- The names of the places of a rewritten tree: that of parents, those that are declared, and those that are changed, in order of first appearance.
abbrev pub place_names : List Item → List (List ℕ)
place_names is = firsts (parent_name ∷ (map name_of (declarations is) ++ names_in changed_in (mentioned is)))

abbrev mutual
  -- The number of values that the heads of a name have: its dollar signs that stand behind no backslash.
  pub values_named : List ℕ → ℕ
  values_named [] = 0
  values_named (c ∷ cs) = if nat_eq c 92 then values_behind cs else (if nat_eq c 36 then suc (values_named cs) else values_named cs)

  -- The same behind a backslash.
  pub values_behind : List ℕ → ℕ
  values_behind [] = 0
  values_behind (c ∷ cs) = values_named cs

-- What a place of heads with so many values keeps, where it isn't declared.
abbrev pub kind_by : ℕ → PlaceKind
kind_by zero = Flag
kind_by (suc zero) = ObjectFlag
kind_by (suc (suc n)) = ObjectVar

-- What the place of a name keeps, some names being declared.
abbrev pub kind_of : List (List ℕ) → List ℕ → PlaceKind
kind_of declared name = if bytes_eq parent_name name then Parent else (if is_among name declared then Global else kind_by (values_named name))

-- The values of a head, from left to right.
abbrev pub head_values : Parts → List Value
head_values no_parts = []
head_values (part (part_word w) ps) = head_values ps
head_values (part (part_value v) ps) = v ∷ head_values ps

-- The names of a tree's places, and which of them are declared.
pub record Placed : Type 0 where
  pub names : List (List ℕ)
  pub declared : List (List ℕ)

abbrev pub placed_of : List Item → Placed
placed_of is = record { names = place_names is; declared = declared_names is }
