-- The characters of a source: hold it against the chapter of the Dialog manual on the syntax, and docs/LANGUAGE.md, "Characters and tokens".
use Rattle.std.specs.Prelude.{ℕ, ◌&&◌, ◌||◌, List, [], ◌∷◌, Bool, false, not, nat_eq, nat_le, nat_lt}
use Rattle.std.specs.List.{list_any}

abbrev pub tab : ℕ
tab = 9

abbrev pub newline : ℕ
newline = 10

abbrev pub carriage_return : ℕ
carriage_return = 13

abbrev pub space : ℕ
space = 32

abbrev pub percent : ℕ
percent = 37

abbrev pub backslash : ℕ
backslash = 92

-- what separates tokens
abbrev pub is_blank : ℕ → Bool
is_blank c = (nat_eq c space || nat_eq c tab) || (nat_eq c newline || nat_eq c carriage_return)

-- # $ @ ~ * | \ ( ) [ ] { }
abbrev pub is_special : ℕ → Bool
is_special c = list_any (nat_eq c) (35 ∷ 36 ∷ 64 ∷ 126 ∷ 42 ∷ 124 ∷ 92 ∷ 40 ∷ 41 ∷ 91 ∷ 93 ∷ 123 ∷ 125 ∷ [])

-- the control characters but for the blank ones
abbrev pub is_control : ℕ → Bool
is_control c = (nat_lt c space && not (is_blank c)) || nat_eq c 127

-- a byte that begins or continues a character past ASCII
abbrev pub is_past_ascii : ℕ → Bool
is_past_ascii c = nat_le 128 c

-- a byte that begins a character above U+FFFF
abbrev pub begins_too_high : ℕ → Bool
begins_too_high c = nat_le 240 c

abbrev pub is_digit : ℕ → Bool
is_digit c = nat_le 48 c && nat_le c 57

abbrev pub is_letter : ℕ → Bool
is_letter c = (nat_le 65 c && nat_le c 90) || (nat_le 97 c && nat_le c 122)

-- a letter, a digit, + - _ or a byte past ASCII
abbrev pub is_name_char : ℕ → Bool
is_name_char c = (is_letter c || is_digit c) || (list_any (nat_eq c) (43 ∷ 45 ∷ 95 ∷ []) || is_past_ascii c)

-- the text begins with a character that passes
abbrev pub begins_with : (ℕ → Bool) → List ℕ → Bool
begins_with p [] = false
begins_with p (c ∷ cs) = p c

-- two percent signs begin here
abbrev pub opens_comment : ℕ → List ℕ → Bool
opens_comment c behind = nat_eq c percent && begins_with (nat_eq percent) behind
