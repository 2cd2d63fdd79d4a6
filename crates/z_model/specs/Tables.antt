-- Tables that are searched and copied (Z-Machine Standard 1.1, section 15, scan_table and copy_table).
use Rattle.std.specs.Prelude.{ℕ, zero, suc, ◌+◌, ◌-◌, ◌*◌, ◌/◌, ◌%◌, List, [], ◌∷◌, Option, Some, None, Result, Ok, Err, nat_lt, ◌==◌, if◌then◌else◌}
use Rattle.z_model.specs.declared.fault.ZFault.{ZFault}
use Rattle.z_model.specs.Decode.{◌>>=◌}
use Rattle.z_model.specs.Memory.{Memory, byte_in, with_byte, memory_word, with_bytes}

-- An entry is a word where bit 7 of the form is set, else a byte; the other bits are its length.
abbrev pub entry_in : Memory → ℕ → ℕ → Result ℕ ZFault
entry_in mem form at = if form / 128 % 2 == 1 then memory_word mem at else byte_in mem at

-- the place of the first of so many entries that is x
unfoldable pub scanned : Memory → ℕ → ℕ → ℕ → ℕ → Result (Option ℕ) ZFault
scanned mem x form zero at = Ok None
scanned mem x form (suc more) at = do
  entry ← entry_in mem form at
  if entry == x then Ok (Some at) else scanned mem x form more ((at + form % 128) % 65536)

-- the form of an entry where none is given: a word, of two bytes
abbrev pub usual_form : ℕ
usual_form = 130

abbrev pub found_or_zero : Option ℕ → ℕ
found_or_zero None = 0
found_or_zero (Some at) = at

-- the same, with 0 where there is none
abbrev pub scanned_or_zero : Memory → ℕ → ℕ → ℕ → ℕ → Result ℕ ZFault
scanned_or_zero mem x form n at = scanned mem x form n at >>= λ found. Ok (found_or_zero found)

-- so many bytes from a place on
unfoldable pub bytes_in : Memory → ℕ → ℕ → Result (List ℕ) ZFault
bytes_in mem at zero = Ok []
bytes_in mem at (suc more) = do
  byte ← byte_in mem at
  bytes ← bytes_in mem ((at + 1) % 65536) more
  Ok (byte ∷ bytes)

-- so many bytes become 0
unfoldable pub cleared : Memory → ℕ → ℕ → Result Memory ZFault
cleared mem at zero = Ok mem
cleared mem at (suc more) = with_byte mem at 0 >>= λ first. cleared first ((at + 1) % 65536) more

-- byte by byte, from the first on
unfoldable pub copied_on : Memory → ℕ → ℕ → ℕ → Result Memory ZFault
copied_on mem a b zero = Ok mem
copied_on mem a b (suc more) = do
  byte ← byte_in mem a
  first ← with_byte mem b byte
  copied_on first ((a + 1) % 65536) ((b + 1) % 65536) more

-- as if through a buffer
abbrev pub copied_whole : Memory → ℕ → ℕ → ℕ → Result Memory ZFault
copied_whole mem a b n = bytes_in mem a n >>= λ bytes. with_bytes mem b bytes

-- A size is a number with a sign: this is how far it is from 0.
abbrev pub table_size : ℕ → ℕ
table_size n = if nat_lt n 32768 then n else 65536 - n

-- The bytes at a become those at b, as if through a buffer, or byte by byte where the size is below 0; with b of 0 they become 0.
unfoldable pub table_copied : Memory → ℕ → ℕ → ℕ → Result Memory ZFault
table_copied mem a b n =
    if b == 0 then cleared mem a (table_size n)
    else if nat_lt n 32768 then copied_whole mem a b n else copied_on mem a b (table_size n)
