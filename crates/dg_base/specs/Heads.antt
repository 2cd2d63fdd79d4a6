-- The names of predicates: hold it against docs/LANGUAGE.md, "Reserved names", on how a name is written.
use Rattle.std.specs.Prelude.{ℕ, List, [], ◌∷◌, ◌++◌, Bool, false, Option, Some, None, nat_eq, if◌then◌else◌}
use Rattle.std.specs.List.{list_any}
use Rattle.std.specs.Str.{bytes_eq}
use Rattle.dg_base.specs.Tree.{Part, part_word, part_value, Parts, no_parts, part}

-- # $ @ ~ * | \ ( ) [ ] { }
abbrev pub is_special : ℕ → Bool
is_special c = list_any (nat_eq c) (35 ∷ 36 ∷ 64 ∷ 126 ∷ 42 ∷ 124 ∷ 92 ∷ 40 ∷ 41 ∷ 91 ∷ 93 ∷ 123 ∷ 125 ∷ [])

-- a word with a backslash before each special character
abbrev pub escaped : List ℕ → List ℕ
escaped [] = []
escaped (c ∷ cs) = if is_special c then 92 ∷ c ∷ escaped cs else c ∷ escaped cs

-- a word, or a dollar sign for a place
abbrev pub part_name : Part → List ℕ
part_name (part_word w) = escaped w
part_name (part_value v) = 36 ∷ []

-- parts behind another one, each behind a space
abbrev pub parts_behind : Parts → List ℕ
parts_behind no_parts = []
parts_behind (part p ps) = 32 ∷ (part_name p ++ parts_behind ps)

-- the name of a head: its parts in parentheses
abbrev pub name_of : Parts → List ℕ
name_of no_parts = 40 ∷ 41 ∷ []
name_of (part p ps) = 40 ∷ (part_name p ++ (parts_behind ps ++ 41 ∷ []))

-- ---- a name that is compared: the proofs alone rest on it

-- what stands behind the front of a text, where the text begins so
abbrev pub behind : List ℕ → List ℕ → Option (List ℕ)
behind [] name = Some name
behind (c ∷ front) [] = None
behind (c ∷ front) (d ∷ name) = if nat_eq d c then behind front name else None

-- the name of a head without the parenthesis at its end
abbrev pub open_name : Parts → List ℕ
open_name no_parts = 40 ∷ []
open_name (part p ps) = 40 ∷ (part_name p ++ parts_behind ps)

-- whether the parenthesis at the end of a name is all that is left
abbrev pub is_close : Option (List ℕ) → Bool
is_close None = false
is_close (Some rest) = bytes_eq rest (41 ∷ [])
