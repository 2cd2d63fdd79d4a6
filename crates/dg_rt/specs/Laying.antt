-- How a copy of a value lies in the heap. Its parts lie in front of its own box, the last of them lowest: since a copy's variables are numbered from the
-- last place on, they stand in the order of their numbers. Hold it against dg_meaning/specs/Copies.antt.
use Rattle.std.specs.Prelude.{◌≡◌, ℕ, suc, ◌+◌, ◌<◌, List, [], ◌∷◌, ◌==◌, nat_lt, if◌then◌else◌, Option, Some, None, length}
use Rattle.dg_meaning.specs.Values.{Label, Num, Word, Unknown, Object, Nil, Pair, Closure, Value, Var, Node, Values, NoMore, More}
use Rattle.dg_meaning.specs.ValueCells.{count_of}
use Rattle.dg_meaning.specs.Copies.{vars_in_all, copies_from, all_copy_cells}
use Rattle.dg_rt.specs.Shapes.{ArePrinted}

-- ## Which values have a word

-- A label with such parts, where it is told how many values the closure of each place captures: a number, word, object or empty list without any, an
-- unknown word of letters that a story prints, a head and a tail, or what a closure captures.
abbrev pub FormedAs : (ℕ → ℕ) → Label → Values → Type 0
FormedAs captures (Num n) NoMore = n < 16384
FormedAs captures (Word n) NoMore = n < 8192
FormedAs captures (Object n) NoMore = n < 4096
FormedAs captures Nil NoMore = Unit {0}
FormedAs captures (Unknown letters) NoMore = ArePrinted letters
FormedAs captures Pair (More h (More t NoMore)) = Unit {0}
FormedAs captures (Closure place) vs = (place < 16384) × (count_of vs ≡ captures place) × (captures place < 256)
FormedAs captures f vs = ⊥

abbrev mutual
  pub Formed : (ℕ → ℕ) → Value → Type 0
  Formed captures (Var x) = Unit {0}
  Formed captures (Node f vs) = FormedAs captures f vs × AllFormed captures vs

  pub AllFormed : (ℕ → ℕ) → Values → Type 0
  AllFormed captures NoMore = Unit {0}
  AllFormed captures (More v vs) = Formed captures v × AllFormed captures vs

-- ## Its words

-- The word of a label whose box would begin at a place.
abbrev pub label_word : Label → ℕ → ℕ
label_word (Num n) k = n
label_word (Word n) k = 16384 + n
label_word (Object n) k = 24576 + n
label_word Nil k = 28672
label_word f k = 49152 + k

-- The word of a copy that lies from a place on.
abbrev pub copy_word : ℕ → Value → ℕ
copy_word lo (Var x) = 32768 + lo
copy_word lo (Node f vs) = label_word f (lo + all_copy_cells vs)

-- The words of parts stand in a row.
abbrev pub WordsLie : (ℕ → ℕ) → ℕ → ℕ → Values → Type 0
WordsLie at i lo NoMore = Unit {0}
WordsLie at i lo (More v vs) = (at i ≡ copy_word (lo + all_copy_cells vs) v) × WordsLie at (suc i) lo vs

-- Letters stand in a row.
abbrev pub LettersLie : (ℕ → ℕ) → ℕ → List ℕ → Type 0
LettersLie at i [] = Unit {0}
LettersLie at i (x ∷ xs) = (at i ≡ x) × LettersLie at (suc i) xs

-- What stands in a box that begins at k.
abbrev pub BoxLies : (ℕ → ℕ) → ℕ → ℕ → Label → Values → Type 0
BoxLies at k lo Pair vs = (at k ≡ 0) × WordsLie at (k + 1) lo vs
BoxLies at k lo (Closure place) vs = (at k ≡ 1 + place) × (at (k + 1) ≡ count_of vs) × WordsLie at (k + 3) lo vs
BoxLies at k lo (Unknown letters) vs = (at k ≡ 32768 + length letters) × LettersLie at (k + 3) letters
BoxLies at k lo f vs = Unit {0}

-- A copy lies from a place on.
abbrev mutual
  pub Lies : (ℕ → ℕ) → ℕ → Value → Type 0
  Lies at lo (Var x) = at lo ≡ 32768 + lo
  Lies at lo (Node f vs) = BoxLies at (lo + all_copy_cells vs) lo f vs × AllLie at lo vs

  pub AllLie : (ℕ → ℕ) → ℕ → Values → Type 0
  AllLie at lo NoMore = Unit {0}
  AllLie at lo (More v vs) = Lies at (lo + all_copy_cells vs) v × AllLie at lo vs

-- ## Its variables and boxes

-- Where its variable with a number stands, those of the copy being numbered from n on.
abbrev mutual
  pub place_in : ℕ → ℕ → Value → ℕ → ℕ
  place_in lo n (Var y) x = lo
  place_in lo n (Node f vs) x = places_in lo n vs x

  pub places_in : ℕ → ℕ → Values → ℕ → ℕ
  places_in lo n NoMore x = lo
  places_in lo n (More v vs) x =
      if nat_lt x (n + vars_in_all vs) then places_in lo n vs x else place_in (lo + all_copy_cells vs) (n + vars_in_all vs) v x

-- The value of a box, for labels that have one.
abbrev pub boxed_as : Label → Value → Option Value
boxed_as (Num n) v = None
boxed_as (Word n) v = None
boxed_as (Object n) v = None
boxed_as Nil v = None
boxed_as f v = Some v

-- Which box of it begins at a place.
abbrev mutual
  pub box_in : ℕ → ℕ → Value → ℕ → Option Value
  box_in lo n (Var y) k = None
  box_in lo n (Node f vs) k =
      if nat_lt k (lo + all_copy_cells vs) then boxes_in lo n vs k else (if k == lo + all_copy_cells vs then boxed_as f (Node f (copies_from n vs)) else None)

  pub boxes_in : ℕ → ℕ → Values → ℕ → Option Value
  boxes_in lo n NoMore k = None
  boxes_in lo n (More v vs) k = if nat_lt k (lo + all_copy_cells vs) then boxes_in lo n vs k else box_in (lo + all_copy_cells vs) (n + vars_in_all vs) v k
