-- Bytes with the rights to read and to write them, and their words (Z-Machine Standard 1.1, section 1.1 on the memory of a story).
use Rattle.std.specs.Prelude.{ℕ, zero, suc, ◌+◌, ◌*◌, ◌/◌, ◌%◌, List, [], ◌∷◌, length, Result, Ok, Err, Bool, true, false, nat_lt, ◌==◌, if◌then◌else◌, slice_index, slice_set}
use Rattle.z_model.specs.declared.fault.ZFault.{ZFault}
use Rattle.z_model.specs.declared.fault.ZFault.TheVariants.{BadAddress, BadWrite}
use Rattle.z_model.specs.declared.story.Layout.{Layout}
use Rattle.z_model.specs.Decode.{◌>>=◌}

-- Bytes, and the addresses at which they may be read and written.
pub record Memory : Type 0 where
  pub bytes : List ℕ
  pub may_read : ℕ → Bool
  pub may_write : ℕ → Bool

-- A story's byte may be written in the flags at 16 and 17 and from 64 up to the static base.
abbrev pub is_writable : Layout → ℕ → Bool
is_writable layout a = if a == 16 then true else if a == 17 then true else if nat_lt a 64 then false else nat_lt a layout.base

-- The memory of a story: a byte may be read below the length; an address is below 65,536.
abbrev pub guarded : Layout → List ℕ → Memory
guarded layout bytes = record { bytes = bytes; may_read = λ a. nat_lt a (length bytes); may_write = is_writable layout }

unfoldable pub byte_in : Memory → ℕ → Result ℕ ZFault
byte_in mem a = if mem.may_read a then Ok (slice_index mem.bytes a) else Err BadAddress

unfoldable pub with_byte : Memory → ℕ → ℕ → Result Memory ZFault
with_byte mem a b = if mem.may_write a then Ok (record mem { bytes = slice_set mem.bytes a b }) else Err BadWrite

abbrev pub word_of : ℕ → ℕ → ℕ
word_of high low = 256 * high + low

-- the word at an address; behind 65,535 comes 0
unfoldable pub memory_word : Memory → ℕ → Result ℕ ZFault
memory_word mem a = do
  high ← byte_in mem a
  low ← byte_in mem ((a + 1) % 65536)
  Ok (word_of high low)

unfoldable pub with_word : Memory → ℕ → ℕ → Result Memory ZFault
with_word mem a x = do
  first ← with_byte mem a (x / 256)
  with_byte first ((a + 1) % 65536) (x % 256)

-- bytes from an address on
unfoldable pub with_bytes : Memory → ℕ → List ℕ → Result Memory ZFault
with_bytes mem a [] = Ok mem
with_bytes mem a (b ∷ bs) = with_byte mem a b >>= λ first. with_bytes first ((a + 1) % 65536) bs

-- So many addresses from one on have a right.
unfoldable pub have_right : (ℕ → Bool) → ℕ → ℕ → Bool
have_right may a zero = true
have_right may a (suc n) = if may a then have_right may ((a + 1) % 65536) n else false
