-- Typed lines, and the words and numbers that letters spell. Hold it against docs/LANGUAGE.md, "Typed lines and words", and "Built-in queries" on
-- splitting and joining words.
use Rattle.std.specs.Prelude.{ℕ, zero, suc, ◌+◌, ◌-◌, ◌*◌, eqb, nat_le, List, [], ◌∷◌, ◌++◌, Option, Some, None, Bool, false, ◌&&◌, map, take, length, get_or, encode_utf8_all, if◌then◌else◌}
use Rattle.std.specs.Str.{chars}
use Rattle.std.specs.List.{list_any, list_all}
use Rattle.std.specs.Fmt.{decimal}
use Rattle.dg_base.specs.Units.{units_of}
use Rattle.dg_base.specs.Typed.{longest, typed}
use Rattle.dg_meaning.specs.Values.{Num, Word, Unknown, Nil, Pair, Value, Node, NoMore, More, leaf}
use Rattle.dg_meaning.specs.Unify.{same_spelling}
use Rattle.dg_meaning.specs.Copies.{list_of}

-- ## A typed line

-- The bytes before the first newline, or at most so many.
abbrev pub line_within : ℕ → List ℕ → List ℕ
line_within zero bytes = []
line_within (suc n) [] = []
line_within (suc n) (b ∷ bytes) = if eqb b 10 then [] else b ∷ line_within n bytes

-- The bytes behind that newline, or behind so many.
abbrev pub behind_line : ℕ → List ℕ → List ℕ
behind_line zero bytes = bytes
behind_line (suc n) [] = []
behind_line (suc n) (b ∷ bytes) = if eqb b 10 then bytes else behind_line n bytes

-- Bytes without a carriage return at their end.
abbrev pub without_return : List ℕ → List ℕ
without_return [] = []
without_return (b ∷ []) = if eqb b 13 then [] else b ∷ []
without_return (b ∷ c ∷ bytes) = b ∷ without_return (c ∷ bytes)

-- The bytes of the first line.
abbrev pub first_line : List ℕ → List ℕ
first_line bytes = without_return (line_within longest bytes)

-- The bytes that are left behind it.
abbrev pub behind_first : List ℕ → List ℕ
behind_first bytes = behind_line longest bytes

-- ## Its letters

-- A typed character, or a question mark.
abbrev pub or_question : Option ℕ → ℕ
or_question None = 63
or_question (Some c) = c

-- The letter of a unit; a unit that is no character that may be typed is a question mark.
abbrev pub letter_of : Option ℕ → ℕ
letter_of None = 63
letter_of (Some c) = or_question (typed c)

-- The letters of a line, of which no more than 200 are kept.
abbrev pub letters_of : List ℕ → List ℕ
letters_of line = take 200 (map letter_of (units_of line))

-- ## Its words

-- . , " ; * ( )
abbrev pub is_alone : ℕ → Bool
is_alone c = list_any (eqb c) (46 ∷ 44 ∷ 34 ∷ 59 ∷ 42 ∷ 40 ∷ 41 ∷ [])

-- A spelling that has letters.
abbrev pub if_spelled : List ℕ → List (List ℕ)
if_spelled [] = []
if_spelled (c ∷ cs) = (c ∷ cs) ∷ []

-- The spellings of letters, of which the first goes on with these; spaces separate them, and some letters are spellings of their own.
abbrev pub spellings_behind : List ℕ → List ℕ → List (List ℕ)
spellings_behind begun [] = if_spelled begun
spellings_behind begun (c ∷ cs) =
    if eqb c 32 then if_spelled begun ++ spellings_behind [] cs
    else if is_alone c then if_spelled begun ++ (c ∷ []) ∷ spellings_behind [] cs else spellings_behind (begun ++ c ∷ []) cs

-- The spellings of letters.
abbrev pub spellings_of : List ℕ → List (List ℕ)
spellings_of letters = spellings_behind [] letters

-- ## What a spelling is

-- A digit.
abbrev pub is_digit : ℕ → Bool
is_digit c = nat_le 48 c && nat_le c 57

-- The number that digits behind others write.
abbrev pub number_behind : ℕ → List ℕ → ℕ
number_behind n [] = n
number_behind n (c ∷ cs) = number_behind (10 * n + (c - 48)) cs

-- A spelling is a number: it is of digits alone, and no greater than 16,383.
abbrev pub is_number : List ℕ → Bool
is_number [] = false
is_number (c ∷ cs) = list_all is_digit (c ∷ cs) && nat_le (number_behind 0 (c ∷ cs)) 16383

-- The word of a spelling among those that are numbered from n on: the first that is spelled so, or an unknown word.
abbrev pub word_from : ℕ → List (List ℕ) → List ℕ → Value
word_from n [] spelling = leaf (Unknown spelling)
word_from n (word ∷ words) spelling = if same_spelling word (encode_utf8_all spelling) then leaf (Word n) else word_from (suc n) words spelling

-- The value of a spelling, where a program has these words.
abbrev pub spelled_value : List (List ℕ) → List ℕ → Value
spelled_value words spelling = if is_number spelling then leaf (Num (number_behind 0 spelling)) else word_from 0 words spelling

-- The list of the values of spellings.
abbrev pub spelled_list : List (List ℕ) → List (List ℕ) → Value
spelled_list words spellings = list_of (map (spelled_value words) spellings)

-- The value of a typed line.
abbrev pub line_value : List (List ℕ) → List ℕ → Value
line_value words line = spelled_list words (spellings_of (letters_of line))

-- ## Splitting and joining

-- The letters of a word or number.
abbrev pub letters_in_word : List (List ℕ) → Value → Option (List ℕ)
letters_in_word words (Node (Num n) vs) = Some (decimal n)
letters_in_word words (Node (Word n) vs) = Some (chars (get_or words n []))
letters_in_word words (Node (Unknown spelling) vs) = Some spelling
letters_in_word words v = None

-- Each letter as a spelling.
abbrev pub each_alone : List ℕ → List (List ℕ)
each_alone letters = map (λ c. c ∷ []) letters

-- Letters in front of others, if there are both.
abbrev pub followed_by : Option (List ℕ) → Option (List ℕ) → Option (List ℕ)
followed_by (Some front) (Some back) = Some (front ++ back)
followed_by front back = None

-- The letters of a list of words and numbers, one after another.
abbrev pub letters_in_list : List (List ℕ) → Value → Option (List ℕ)
letters_in_list words (Node Nil vs) = Some []
letters_in_list words (Node Pair (More head (More tail NoMore))) = followed_by (letters_in_word words head) (letters_in_list words tail)
letters_in_list words v = None

-- Letters that aren't too many to be one word.
abbrev pub few_enough : Option (List ℕ) → Option (List ℕ)
few_enough None = None
few_enough (Some letters) = if nat_le (length letters) 200 then Some letters else None

-- The letters of a list that isn't empty, if they can be joined.
abbrev pub joined_letters : List (List ℕ) → Value → Option (List ℕ)
joined_letters words (Node Pair vs) = few_enough (letters_in_list words (Node Pair vs))
joined_letters words v = None

-- ## What it costs

-- The work of reading so many letters: each is compared with each word.
abbrev pub reading : List (List ℕ) → ℕ → ℕ
reading words letters = letters * (1 + length words)
