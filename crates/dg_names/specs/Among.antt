-- What a source mentions, seen by its names: hold it against docs/LANGUAGE.md, "Names", "Characters and tokens" and "Limits".
use Rattle.std.specs.Prelude.{ℕ, ◌≤◌, List, Option, Some, None, All, Contains, length}
use Rattle.std.specs.List.{IsDistinct}
use Rattle.std.specs.Str.{bytes_eq}
use Rattle.dg_base.specs.Heads.{name_of}
use Rattle.dg_base.specs.Names.{builtin_named}
use Rattle.dg_base.specs.Mentions.{Thing, topic_line, query, number, word, object, word_choice, text, branches, select}
use Rattle.dg_base.specs.Sound.{IsName}
use Rattle.dg_base.specs.declared.names.Builtin.{Builtin}
use Rattle.dg_names.specs.Counts.{places_in}
use Rattle.dg_names.specs.Named.{Named}

-- Names, each once, that are those that are given: no list that has all of these is shorter.
pub record AreFirsts (given names : List (List ℕ)) : Type 0 where
  pub differ : IsDistinct bytes_eq names
  pub all : (n : List ℕ) → Contains given n → Contains names n
  pub none_else : (n : List ℕ) → Contains names n → Contains given n
  pub fewest : (others : List (List ℕ)) → ((n : List ℕ) → Contains given n → Contains others n) → length names ≤ length others

-- The name of a query that is no built-in one is among those of predicates.
abbrev pub HasPred : Named → List ℕ → Option Builtin → Type 0
HasPred names name (Some b) = Unit {0}
HasPred names name None = Contains names.preds name

-- A name is among these, a number is in its range, and a text can be printed.
abbrev pub IsAmong : Named → Thing → Type 0
IsAmong names (topic_line n) = Contains names.objects n
IsAmong names (query _ ps) = HasPred names (name_of ps) (builtin_named (name_of ps))
IsAmong names (number n) = n ≤ 16383
IsAmong names (word w) = Contains names.words w
IsAmong names (object n) = Contains names.objects n
IsAmong names (word_choice ws) = All (λ w. Contains names.words w) ws
IsAmong names (text w) = IsName w
IsAmong names t = Unit {0}

-- A predicate has few places, and a body or a select few branches.
abbrev pub IsSmall : Thing → Type 0
IsSmall (query _ ps) = places_in ps ≤ 12
IsSmall (branches n) = n ≤ 500
IsSmall (select n) = n ≤ 500
IsSmall t = Unit {0}

-- Each name can be printed.
pub record ArePrintable (names : Named) : Type 0 where
  pub preds : All IsName names.preds
  pub objects : All IsName names.objects
  pub words : All IsName names.words

-- No more names than a source may have.
pub record AreFew (names : Named) : Type 0 where
  pub preds : length names.preds ≤ 4000
  pub objects : length names.objects ≤ 1000
  pub words : length names.words ≤ 4000
