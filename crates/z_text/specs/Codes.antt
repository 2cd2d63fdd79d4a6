-- The codes of a text, byte by byte; a character is one byte or two.
use Rattle.std.specs.Prelude.{ℕ, ◌+◌, ◌*◌, ◌%◌, List, [], ◌∷◌, ◌++◌, ◌≡◌, flat_map, Option, Some, None, ◌==◌, nat_lt, if◌then◌else◌}
use Rattle.dg_base.specs.Typed.{extra}
use Rattle.z_text.specs.Encode.{code_characters}
use Rattle.dg_base.specs.Typed.{place_of}

abbrev pub ascii_code : ℕ → ℕ
ascii_code byte = if byte == 10 then 13 else byte

-- the character of two bytes
abbrev pub wide_character : ℕ → ℕ → ℕ
wide_character lead byte = lead % 32 * 64 + byte % 64

abbrev pub extra_code : Option ℕ → ℕ
extra_code (Some place) = place + 155
extra_code None = 63

abbrev pub wide_code : ℕ → ℕ → ℕ
wide_code lead byte = extra_code (place_of (wide_character lead byte) extra)

-- the codes from here on, behind the first byte of a character or not
unfoldable pub codes_from : Option ℕ → List ℕ → List ℕ
codes_from lead [] = []
codes_from None (byte ∷ text) = if nat_lt byte 128 then ascii_code byte ∷ codes_from None text else codes_from (Some byte) text
codes_from (Some lead) (byte ∷ text) = wide_code lead byte ∷ codes_from None text

-- A byte is taken, and the Z-characters of what it ends are written.
abbrev pub PutsByte : List ℕ → List ℕ → Option ℕ → ℕ → Option ℕ → List ℕ → Type 0
PutsByte old new lead byte next rest =
    old ++ flat_map code_characters (codes_from lead (byte ∷ rest)) ≡ new ++ flat_map code_characters (codes_from next rest)
