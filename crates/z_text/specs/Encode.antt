-- How a text is written as a string (Z-Machine Standard 1.1, sections 3.2 to 3.6, read from the text to its bytes).
use Rattle.std.specs.Prelude.{◌≡◌, ◌<◌, ◌+◌, ◌-◌, ◌*◌, ◌/◌, ◌%◌, ℕ, List, [], ◌∷◌, ◌++◌, length, flat_map, All, Option, Some, None, Bool, true, false, ◌==◌, ◌&&◌, ◌||◌, nat_lt, IsTrue, if◌then◌else◌}
use Rattle.z_model.specs.Zscii.{code_utf8}
use Rattle.dg_base.specs.Typed.{place_of}
use Rattle.z_model.specs.Text.{punctuation, string_at}

-- a code in two Z-characters behind a shift: one of A2, or the two halves of a code of ten bits
abbrev pub sign_characters : ℕ → Option ℕ → List ℕ
sign_characters code (Some place) = 5 ∷ (place + 8) ∷ []
sign_characters code None = 5 ∷ 6 ∷ (code / 32) ∷ (code % 32) ∷ []

-- the Z-characters of a code
unfoldable pub code_characters : ℕ → List ℕ
code_characters code =
    if code == 32 then 0 ∷ []
    else if code == 13 then 5 ∷ 7 ∷ []
    else if nat_lt 96 code && nat_lt code 123 then (code - 91) ∷ []
    else if nat_lt 64 code && nat_lt code 91 then 4 ∷ (code - 59) ∷ []
    else sign_characters code (place_of code punctuation)

-- three Z-characters in two bytes, of which the first is marked if they are the last
abbrev pub word_bytes : ℕ → ℕ → ℕ → ℕ → List ℕ
word_bytes mark x y z = (128 * mark + 4 * x + y / 8) ∷ (y % 8 * 32 + z) ∷ []

-- Each is one of five bits.
abbrev pub AreSmall : List ℕ → Type 0
AreSmall zs = All (λ z. z < 32) zs

abbrev pub is_empty : List ℕ → Bool
is_empty [] = true
is_empty (z ∷ zs) = false

-- Z-characters as words, filled up with 5
unfoldable pub packed : List ℕ → List ℕ
packed [] = word_bytes 1 5 5 5
packed (x ∷ []) = word_bytes 1 x 5 5
packed (x ∷ y ∷ []) = word_bytes 1 x y 5
packed (x ∷ y ∷ z ∷ more) = if is_empty more then word_bytes 1 x y z else word_bytes 0 x y z ++ packed more

-- the string of these codes
unfoldable pub string_of : List ℕ → List ℕ
string_of codes = packed (flat_map code_characters codes)

-- a newline, ASCII's printed part, or one of the extra characters
abbrev pub has_code : ℕ → Bool
has_code code = (code == 13) || ((nat_lt 31 code && nat_lt code 127) || (nat_lt 154 code && nat_lt code 224))

-- A text is what these codes print.
pub record IsTextOf (codes text : List ℕ) : Type 0 where
  pub coded : All (λ code. IsTrue (has_code code)) codes
  pub printed : text ≡ flat_map code_utf8 codes

-- A text that some codes print.
pub record IsPrintable (text : List ℕ) : Type 0 where
  pub codes : List ℕ
  pub is : IsTextOf codes text

-- A string gives its codes again, and its end, whatever stands before and behind.
pub record StringAgain (codes front rest : List ℕ) : Type 0 where
  pub again : All (λ code. IsTrue (has_code code)) codes → string_at (front ++ (string_of codes ++ rest)) (length front) ≡ record {
    codes = codes;
    end = Some (length front + length (string_of codes));
  }
