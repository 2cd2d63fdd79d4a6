-- The characters of spellings in UTF-8 (the Unicode Standard, section 3.9), by their bytes.
use Rattle.std.specs.Prelude.{◌≡◌, ◌<◌, ◌≤◌, ℕ, List, Bool, true, false, not, slice_index, encode_utf8_all}
use Rattle.dg_base.specs.Units.{is_tail}

-- A byte begins a character.
abbrev pub begins : ℕ → Bool
begins byte = not (is_tail byte)

-- From one place back to another the bytes go on with a character, up to one that begins it, or the first.
pub record GoesBackTo (bytes : List ℕ) (at start : ℕ) : Type 0 where
  pub order : start ≤ at
  pub tails : (i : ℕ) → start < i → i ≤ at → is_tail (slice_index bytes i) ≡ true
  pub begins : 0 < start → is_tail (slice_index bytes start) ≡ false

-- Bytes spell some characters.
pub record IsSpelling (bytes : List ℕ) : Type 0 where
  pub letters : List ℕ
  pub is : bytes ≡ encode_utf8_all letters
