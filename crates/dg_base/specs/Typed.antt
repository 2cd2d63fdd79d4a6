-- Typed characters: which are kept, and as what (the Z-Machine Standard 1.1, section 3.8, has the table of extra characters; what becomes of the
-- others is this project's profile).
use Rattle.std.specs.Prelude.{ℕ, ◌+◌, List, [], ◌∷◌, Option, Some, None, Bool, is_some, nat_lt, ◌==◌, ◌&&◌, ◌||◌, if◌then◌else◌}

-- The 69 characters past ASCII, in Unicode:
-- äöüÄÖÜß»«ëïÿËÏáéíóúýÁÉÍÓÚÝàèìòùÀÈÌÒÙâêîôûÂÊÎÔÛåÅøØãñõÃÑÕæÆçÇþðÞÐ£œŒ¡¿
abbrev pub extra : List ℕ
extra =
    0xE4 ∷ 0xF6 ∷ 0xFC ∷ 0xC4 ∷ 0xD6 ∷ 0xDC ∷ 0xDF ∷ 0xBB ∷ 0xAB ∷ 0xEB ∷ 0xEF ∷ 0xFF ∷ 0xCB ∷ 0xCF ∷ 0xE1 ∷ 0xE9 ∷
    0xED ∷ 0xF3 ∷ 0xFA ∷ 0xFD ∷ 0xC1 ∷ 0xC9 ∷ 0xCD ∷ 0xD3 ∷ 0xDA ∷ 0xDD ∷ 0xE0 ∷ 0xE8 ∷ 0xEC ∷ 0xF2 ∷ 0xF9 ∷ 0xC0 ∷
    0xC8 ∷ 0xCC ∷ 0xD2 ∷ 0xD9 ∷ 0xE2 ∷ 0xEA ∷ 0xEE ∷ 0xF4 ∷ 0xFB ∷ 0xC2 ∷ 0xCA ∷ 0xCE ∷ 0xD4 ∷ 0xDB ∷ 0xE5 ∷ 0xC5 ∷
    0xF8 ∷ 0xD8 ∷ 0xE3 ∷ 0xF1 ∷ 0xF5 ∷ 0xC3 ∷ 0xD1 ∷ 0xD5 ∷ 0xE6 ∷ 0xC6 ∷ 0xE7 ∷ 0xC7 ∷ 0xFE ∷ 0xF0 ∷ 0xDE ∷ 0xD0 ∷
    0xA3 ∷ 0x153 ∷ 0x152 ∷ 0xA1 ∷ 0xBF ∷ []

-- the first place of a value in a table, whose entries are counted from here
unfoldable pub place_from : ℕ → ℕ → List ℕ → Option ℕ
place_from value here [] = None
place_from value here (entry ∷ table) = if entry == value then Some here else place_from value (here + 1) table

abbrev pub place_of : ℕ → List ℕ → Option ℕ
place_of value table = place_from value 0 table

-- How many bytes a typed line has at most.
abbrev pub longest : ℕ
longest = 65536

-- A letter of ASCII, a letter of the first extra block, or the ligature OE, each as a capital.
abbrev pub is_capital : ℕ → Bool
is_capital c = (nat_lt 64 c && nat_lt c 91) || (nat_lt 191 c && nat_lt c 223)

-- the small letter of a capital; the others stay
abbrev pub lowered : ℕ → ℕ
lowered c = if is_capital c then c + 32 else if c == 0x152 then 0x153 else c

-- ASCII's printed part, or one of the extra characters
abbrev pub is_kept : ℕ → Bool
is_kept c = (nat_lt 31 c && nat_lt c 127) || is_some (place_of c extra)

-- A tab becomes a space; ASCII's printed part and the extra characters are kept, capitals as small letters; no other character is.
abbrev pub typed : ℕ → Option ℕ
typed c = if c == 9 then Some 32 else if is_kept c then Some (lowered c) else None
