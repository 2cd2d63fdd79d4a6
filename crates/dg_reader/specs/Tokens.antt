-- Tokens as the grammar sees them, numbers, and choices of words: hold them against the chapters of the Dialog manual on the syntax and on values.
use Rattle.std.specs.Prelude.{◌&&◌, ◌+◌, ◌*◌, ◌-◌, ◌++◌, ℕ, List, [], ◌∷◌, Bool, true, false, not, Option, Some, None, nat_eq, nat_le, if◌then◌else◌}

-- A token: its kind, and for a word or a name its text without escapes.
pub data Tok : Type 0 where
  word : List ℕ → Tok
  dict : List ℕ → Tok
  object : List ℕ → Tok
  var : List ℕ → Tok
  anon : Tok
  at : Tok
  hash : Tok
  open_round : Tok
  close_round : Tok
  open_square : Tok
  close_square : Tok
  open_brace : Tok
  close_brace : Tok
  bar : Tok
  star : Tok
  tilde : Tok

-- Whether a word is of decimal digits alone.
abbrev pub are_digits : List ℕ → Bool
are_digits [] = true
are_digits (c ∷ cs) = (nat_le 48 c && nat_le c 57) && are_digits cs

-- The value of digits behind a number that is so far this.
abbrev pub digits_value : ℕ → List ℕ → ℕ
digits_value high [] = high
digits_value high (c ∷ cs) = digits_value (10 * high + (c - 48)) cs

-- The number that a word of digits spells, where it isn't too great.
abbrev pub digits_number : List ℕ → Option ℕ
digits_number w = if nat_le (digits_value 0 w) 16383 then Some (digits_value 0 w) else None

abbrev pub slash : ℕ
slash = 47

-- Whether a text begins with another character than a slash.
abbrev pub begins_otherwise : List ℕ → Bool
begins_otherwise [] = false
begins_otherwise (c ∷ cs) = not (nat_eq c slash)

-- Whether a character, between one before it and a text behind it, is a slash between two others.
abbrev pub is_slash_cut : ℕ → ℕ → List ℕ → Bool
is_slash_cut before c behind = nat_eq c slash && (not (nat_eq before slash) && begins_otherwise behind)

-- The parts of a text that stands behind this character and this begin of a part.
abbrev pub cut_parts : ℕ → List ℕ → List ℕ → List (List ℕ)
cut_parts before part [] = part ∷ []
cut_parts before part (c ∷ cs) = if is_slash_cut before c cs then part ∷ cut_parts slash [] cs else cut_parts c (part ++ c ∷ []) cs

-- A word, cut at each slash that stands between two other characters.
abbrev pub word_parts : List ℕ → List (List ℕ)
word_parts w = cut_parts slash [] w

-- Whether these are several.
abbrev pub are_several : List (List ℕ) → Bool
are_several [] = false
are_several (w ∷ []) = false
are_several (w ∷ u ∷ ws) = true

-- Whether a word of a rule's head is a choice of words.
abbrev pub is_choice : List ℕ → Bool
is_choice w = are_several (word_parts w)
