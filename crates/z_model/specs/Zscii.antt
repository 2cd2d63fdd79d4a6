-- The character codes of a story and what they print (Z-Machine Standard 1.1, section 3.8; the extra characters of the codes from 155 on stand in dg_base).
use Rattle.std.specs.Option.{option_map}
use Rattle.std.specs.Prelude.{ℕ, ◌+◌, ◌-◌, List, [], ◌∷◌, Option, Some, Bool, true, not, nat_lt, ◌==◌, ◌&&◌, ◌||◌, if◌then◌else◌, slice_index, encode_utf8}
use Rattle.dg_base.specs.Typed.{extra, place_of}

-- Nothing, a newline, ASCII and the extra characters have codes.
abbrev pub is_printed : ℕ → Bool
is_printed c = (c == 0) || ((c == 13) || ((nat_lt 31 c && nat_lt c 127) || (nat_lt 154 c && nat_lt c 224)))

-- the character of a code other than 0, in Unicode
abbrev pub character_of : ℕ → ℕ
character_of c = if c == 13 then 10 else if nat_lt c 127 then c else slice_index extra (c - 155)

-- what a code prints, in UTF-8
unfoldable pub code_utf8 : ℕ → List ℕ
code_utf8 c = if c == 0 then [] else encode_utf8 (character_of c)

-- a character that is printed by its number in Unicode
abbrev pub is_character : ℕ → Bool
is_character c = nat_lt 31 c && (not (c == 127) && not (nat_lt 0xD7FF c && nat_lt c 0xE000))

-- Each of the codes is printed.
unfoldable pub are_printable : List ℕ → Bool
are_printable [] = true
are_printable (c ∷ cs) = is_printed c && are_printable cs

-- the code of a character, where it is of ASCII's printed part or one of the extra characters
abbrev pub zscii_of : ℕ → Option ℕ
zscii_of c = if nat_lt 31 c && nat_lt c 127 then Some c else option_map (λ place. place + 155) (place_of c extra)
