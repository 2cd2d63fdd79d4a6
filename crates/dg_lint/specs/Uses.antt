-- What a source does with its predicates: hold it against docs/LINT.md, "Asked, given, changed".
use Rattle.std.specs.Prelude.{ℕ, ◌||◌, List, [], ◌∷◌, ◌++◌, Bool, true, false, not, if◌then◌else◌}
use Rattle.dg_base.specs.Heads.{name_of}
use Rattle.dg_base.specs.Tree.{Said, access, Item}
use Rattle.dg_base.specs.Mentions.{Thing, query, names_in, things_in}
use Rattle.dg_base.specs.declared.mentions.Role.{Role}
use Rattle.dg_base.specs.declared.mentions.Role.TheVariants as role
use Rattle.dg_names.specs.Named.{firsts}

-- A query asks its predicate, also where it stands as a value.
abbrev pub asks : Role → Bool
asks role.Asked = true
asks role.AskedAll = true
asks role.AskedNot = true
asks role.Nested = true
asks r = false

-- The head of a rule, a declaration and a change give their predicate something to answer with.
abbrev pub gives : Role → Bool
gives r = not (asks r)

-- A change of the world changes its predicate.
abbrev pub changes : Role → Bool
changes (role.Changed set) = true
changes r = false

abbrev pub is_access : Said → Bool
is_access (access ps b) = true
is_access said = false

-- The name of a predicate of which this is done, or of any where all is done.
abbrev pub named_where : Bool → (Role → Bool) → Thing → List (List ℕ)
named_where all does (query r ps) = if all || does r then name_of ps ∷ [] else []
named_where all does t = []

-- The names of the predicates of which items do this; an access rule does all of it to each predicate that it names, since its head and the queries of
-- its body may come to stand for each other.
abbrev pub names_where : (Role → Bool) → List Item → List (List ℕ)
names_where does [] = []
names_where does (i ∷ is) = names_in (named_where (is_access i.said) does) (things_in i.said) ++ names_where does is

-- The names of the predicates that are asked, given and changed, each once.
pub record Uses : Type 0 where
  pub asked : List (List ℕ)
  pub given : List (List ℕ)
  pub changed : List (List ℕ)

-- What items do with predicates.
abbrev pub uses_of : List Item → Uses
uses_of is = record { asked = firsts (names_where asks is); given = firsts (names_where gives is); changed = firsts (names_where changes is) }
