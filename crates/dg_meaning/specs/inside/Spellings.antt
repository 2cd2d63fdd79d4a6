-- That it makes no difference whether a word of the program is named by its number or by its spelling. Hold it against docs/LANGUAGE.md, where it
-- says what a dictionary word and an unknown word are.
use Rattle.std.specs.Prelude.{◌≡◌, ℕ, ◌<◌, List, [], ◌∷◌, length, get_or}
use Rattle.dg_meaning.specs.Values.{Label, Word, Unknown, Value, Var, Node, Values, NoMore, More}
use Rattle.dg_meaning.specs.Substitutions.{Substitution}
use Rattle.dg_meaning.specs.inside.Substitutions.{IsSubstitution}
use Rattle.dg_meaning.specs.Unify.{Unified}
use Rattle.dg_meaning.specs.inside.Unify.{unify}

-- The spelling of a word, by its number.
abbrev pub spelling_of : List (List ℕ) → ℕ → List ℕ
spelling_of words n = get_or words n []

-- No two words have one spelling.
abbrev pub Differ : List (List ℕ) → Type 0
Differ words = (m n : ℕ) → m < length words → n < length words → spelling_of words m ≡ spelling_of words n → m ≡ n

-- The words have a place for a word that is named by its number, and none of them is spelled as one that isn't.
abbrev pub HaveLabel : List (List ℕ) → Label → Type 0
HaveLabel words (Word n) = n < length words
HaveLabel words (Unknown spelling) = (n : ℕ) → n < length words → spelling_of words n ≡ spelling → ⊥
HaveLabel words other = Unit {0}

-- So it is with each word in a value.
abbrev mutual
  pub Have : List (List ℕ) → Value → Type 0
  Have words (Var x) = Unit {0}
  Have words (Node f vs) = HaveLabel words f × HaveAll words vs

  pub HaveAll : List (List ℕ) → Values → Type 0
  HaveAll words NoMore = Unit {0}
  HaveAll words (More v vs) = Have words v × HaveAll words vs

-- So it is in a substitution.
abbrev pub HavePairs : List (List ℕ) → Substitution → Type 0
HavePairs words [] = Unit {0}
HavePairs words (p ∷ S) = Have words p.1 × HavePairs words S

-- A label, with a word by its spelling.
abbrev pub spelled_label : List (List ℕ) → Label → Label
spelled_label words (Word n) = Unknown (spelling_of words n)
spelled_label words other = other

-- A value, with each word by its spelling.
abbrev mutual
  pub spelled : List (List ℕ) → Value → Value
  spelled words (Var x) = Var x
  spelled words (Node f vs) = Node (spelled_label words f) (all_spelled words vs)

  pub all_spelled : List (List ℕ) → Values → Values
  all_spelled words NoMore = NoMore
  all_spelled words (More v vs) = More (spelled words v) (all_spelled words vs)

-- A substitution, with each word by its spelling.
abbrev pub spelled_pairs : List (List ℕ) → Substitution → Substitution
spelled_pairs words [] = []
spelled_pairs words (p ∷ S) = (p.0, spelled words p.1) ∷ spelled_pairs words S

-- What came of a unification, with each word by its spelling.
abbrev pub spelled_answer : List (List ℕ) → Unified → Unified
spelled_answer words u = record u { subst = spelled_pairs words u.subst }

-- Values with words by their spellings unify as those with words by their numbers do.
abbrev pub SpellingsUnify : Type 0
SpellingsUnify = (words : List (List ℕ)) → Differ words → (S : Substitution) → (a b : Value) → IsSubstitution S →
    HavePairs words S → Have words a →
    Have words b → unify (spelled_pairs words S) (spelled words a) (spelled words b) ≡ spelled_answer words (unify S a b)
