-- The names of a tree in order of first appearance: hold them against docs/LANGUAGE.md, "Names".
use Rattle.std.specs.Prelude.{ℕ, ◌&&◌, List, [], ◌∷◌, Bool, not, filter, codes, if◌then◌else◌}
use Rattle.std.specs.Option.{is_some}
use Rattle.std.specs.Str.{bytes_eq}
use Rattle.dg_base.specs.Heads.{name_of}
use Rattle.dg_base.specs.Names.{builtin_named}
use Rattle.dg_base.specs.Tree.{Item}
use Rattle.dg_base.specs.Mentions.{Thing, topic_line, query, object, word, word_choice, mentioned, names_in}

-- Each name at its first place.
abbrev pub firsts : List (List ℕ) → List (List ℕ)
firsts [] = []
firsts (n ∷ ns) = n ∷ filter (λ m. not (bytes_eq m n)) (firsts ns)

-- A built-in query, but for that of parents.
abbrev pub is_fixed : List ℕ → Bool
is_fixed name = is_some (builtin_named name) && not (bytes_eq (codes "($ has parent $)") name)

-- The predicate of a head, a query or a change.
abbrev pub predicate_in : Thing → List (List ℕ)
predicate_in (query _ ps) = if is_fixed (name_of ps) then [] else name_of ps ∷ []
predicate_in t = []

-- The name of an object.
abbrev pub object_in : Thing → List (List ℕ)
object_in (topic_line n) = n ∷ []
object_in (object n) = n ∷ []
object_in t = []

-- A word, or the words of a choice.
abbrev pub thing_words : Thing → List (List ℕ)
thing_words (word w) = w ∷ []
thing_words (word_choice ws) = ws
thing_words t = []

-- Predicates, objects and words.
pub record Named : Type 0 where
  pub preds : List (List ℕ)
  pub objects : List (List ℕ)
  pub words : List (List ℕ)

-- The names of these items, in order of first appearance.
abbrev pub names_of : List Item → Named
names_of is = record {
  preds = firsts (names_in predicate_in (mentioned is));
  objects = firsts (names_in object_in (mentioned is));
  words = firsts (names_in thing_words (mentioned is));
}
