-- The letters of words that are no words of the program. Hold it against docs/LANGUAGE.md, where it says what a word is.
use Rattle.std.specs.Prelude.{ℕ, zero, suc, ◌+◌, [], ◌∷◌, ◌++◌, length}
use Rattle.dg_meaning.specs.Values.{Label, Unknown, Value, Var, Node, Values, NoMore, More}
use Rattle.dg_meaning.specs.Substitutions.{Substitution, walk}
use Rattle.dg_meaning.specs.Unify.{Equations, Turn, Goes, Binds, Clashes, turn, size, enough}

-- The letters of an unknown word.
abbrev pub letters_at : Label → ℕ
letters_at (Unknown spelling) = length spelling
letters_at f = 0

-- The letters of the unknown words in a value.
abbrev mutual
  pub letters_in : Value → ℕ
  letters_in (Var x) = 0
  letters_in (Node f vs) = letters_at f + letters_in_all vs

  pub letters_in_all : Values → ℕ
  letters_in_all NoMore = 0
  letters_in_all (More v vs) = letters_in v + letters_in_all vs

-- What is copied with a value: its nodes and letters.
abbrev pub copied : Value → ℕ
copied v = size v + letters_in v

-- ## Comparing

-- The letters of two unknown words that are compared.
abbrev pub labels_compared : Label → Label → ℕ
labels_compared (Unknown m) (Unknown n) = length m + length n
labels_compared f g = 0

-- The same for two walked values.
abbrev pub values_compared : Value → Value → ℕ
values_compared (Node f vs) (Node g us) = labels_compared f g
values_compared v u = 0

-- How it goes on behind a turn, with these equations left.
abbrev pub compared_behind : (Substitution → Equations → ℕ) → Substitution → Equations → Turn → ℕ
compared_behind go S rest (Goes parts) = go S (parts ++ rest)
compared_behind go S rest (Binds x v) = go ((x, v) ∷ S) rest
compared_behind go S rest Clashes = 0

-- The letters that are compared in at most n turns of a unification.
abbrev pub compared_in : ℕ → Substitution → Equations → ℕ
compared_in zero S es = 0
compared_in (suc n) S [] = 0
compared_in (suc n) S (e ∷ es) = values_compared (walk S e.0) (walk S e.1) + compared_behind (compared_in n) S es (turn S e.0 e.1)

-- The letters that are compared up to a clash.
unfoldable pub compared : Substitution → Equations → ℕ
compared S es = compared_in (enough S es) S es
