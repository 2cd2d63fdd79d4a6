-- The codes of a string (Z-Machine Standard 1.1, sections 3.1 to 3.6; abbreviations are refused).
use Rattle.std.specs.Prelude.{ℕ, ◌+◌, ◌-◌, ◌*◌, ◌/◌, ◌%◌, List, [], ◌∷◌, drop, codes, flat_map, is_some, Option, Some, None, Bool, true, false, nat_lt, ◌==◌, if◌then◌else◌, slice_index}
use Rattle.z_model.specs.declared.fault.ZFault.{ZFault}
use Rattle.z_model.specs.declared.fault.ZFault.TheVariants.{BadString, BadCharacter}
use Rattle.z_model.specs.declared.text.Alphabet.{Alphabet}
use Rattle.z_model.specs.declared.text.Alphabet.TheVariants.{Lower, Upper, Punctuation, High, Low}
use Rattle.z_model.specs.declared.text.Reading.{Reading}
use Rattle.z_model.specs.declared.text.Reading.TheVariants.{Gives, Turns, Refuses}
use Rattle.z_model.specs.Decode.{text_end}
use Rattle.z_model.specs.Zscii.{are_printable, code_utf8}

-- The Z-characters of the words up to the one that is marked as the last, or up to the end of the bytes.
unfoldable pub z_characters : List ℕ → List ℕ
z_characters [] = []
z_characters (high ∷ []) = []
z_characters (high ∷ low ∷ bytes) = (high / 4 % 32) ∷ (high % 4 * 8 + low / 32) ∷ (low % 32) ∷ (if nat_lt high 128 then z_characters bytes else [])

-- the signs of alphabet A2, from 8 on
abbrev pub punctuation : List ℕ
punctuation = codes "0123456789.,!?_#'\"/\\-:()"

-- Z-characters from 6 on: a letter, a code of ten bits in the next two, a newline or a sign
abbrev pub letter : Alphabet → ℕ → Reading
letter Lower z = Gives (z + 91)
letter Upper z = Gives (z + 59)
letter Punctuation z = if z == 6 then Turns High else if z == 7 then Gives 13 else Gives (slice_index punctuation (z - 8))
letter High z = Turns (Low z)
letter (Low high) z = Gives (32 * high + z)

-- 0 is a space, 1 to 3 are abbreviations, 4 and 5 take the next one from A1 and A2.
abbrev pub in_alphabet : Alphabet → ℕ → Reading
in_alphabet alphabet z =
    if z == 0 then Gives 32 else if nat_lt z 4 then Refuses
    else if z == 4 then Turns Upper else if z == 5 then Turns Punctuation else letter alphabet z

unfoldable pub read_character : Alphabet → ℕ → Reading
read_character Lower z = in_alphabet Lower z
read_character Upper z = in_alphabet Upper z
read_character Punctuation z = in_alphabet Punctuation z
read_character High z = letter High z
read_character (Low high) z = letter (Low high) z

-- Codes, up to an abbreviation if they aren't whole.
pub record CodesRead : Type 0 where
  pub codes : List ℕ
  pub whole : Bool

abbrev pub more_codes : (Alphabet → CodesRead) → Reading → CodesRead
more_codes rest (Gives code) = record { codes = code ∷ (rest Lower).codes; whole = (rest Lower).whole }
more_codes rest (Turns alphabet) = rest alphabet
more_codes rest Refuses = record { codes = []; whole = false }

-- the codes of Z-characters; an end in the middle of a code gives none
unfoldable pub decoded_codes : Alphabet → List ℕ → CodesRead
decoded_codes alphabet [] = record { codes = []; whole = true }
decoded_codes alphabet (z ∷ zs) = more_codes (λ next. decoded_codes next zs) (read_character alphabet z)

-- The codes of a string up to its end, or up to an abbreviation or the end of the bytes; and its end, if it has one.
pub record Text : Type 0 where
  pub codes : List ℕ
  pub end : Option ℕ

abbrev pub text_read : CodesRead → Option ℕ → Text
text_read c end = record { codes = c.codes; end = if c.whole then end else None }

-- the string that stands at a place
unfoldable pub string_at : List ℕ → ℕ → Text
string_at bytes at = text_read (decoded_codes Lower (z_characters (drop at bytes))) (text_end (drop at bytes) at)

-- A text may be printed where each code is printed and it has an end; the earlier fault comes first.
unfoldable pub print_fault : Text → Option ZFault
print_fault text = if are_printable text.codes then (if is_some text.end then None else Some BadString) else Some BadCharacter

-- what a text prints, in UTF-8
abbrev pub text_bytes : Text → List ℕ
text_bytes text = flat_map code_utf8 text.codes
