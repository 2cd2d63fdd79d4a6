-- The properties of objects (Z-Machine Standard 1.1, sections 12.4 and 15).
use Rattle.std.specs.Prelude.{ℕ, zero, suc, ◌+◌, ◌*◌, ◌/◌, ◌%◌, Option, Some, None, Result, Ok, Err, nat_lt, ◌==◌, if◌then◌else◌}
use Rattle.z_model.specs.declared.fault.ZFault.{ZFault}
use Rattle.z_model.specs.declared.fault.ZFault.TheVariants.{BadProperty}
use Rattle.z_model.specs.declared.property.Property.{Property}
use Rattle.z_model.specs.Decode.{◌>>=◌}
use Rattle.z_model.specs.Memory.{Memory, byte_in, with_byte, memory_word, with_word}
use Rattle.z_model.specs.Objects.{entry_at, some_object}

abbrev pub property_end : Property → ℕ
property_end p = (p.at + p.size) % 65536

-- the length in a second byte, where 0 means 64
abbrev pub long_length : ℕ → ℕ
long_length byte = if byte % 64 == 0 then 64 else byte % 64

abbrev pub short_length : ℕ → ℕ
short_length byte = if byte / 64 % 2 == 1 then 2 else 1

-- With bit 7 clear the size byte has the number and a length of 1 or 2; else the length stands in a second byte.
unfoldable pub sized : Memory → ℕ → ℕ → Result Property ZFault
sized mem byte place =
    if nat_lt byte 128 then Ok (record { number = byte % 64; at = (place + 1) % 65536; size = short_length byte })
    else (byte_in mem ((place + 1) % 65536) >>= λ second. Ok (record { number = byte % 64; at = (place + 2) % 65536; size = long_length second }))

-- its number is below that of the entry before it
abbrev pub below : ℕ → Property → Result (Option Property) ZFault
below limit p = if nat_lt p.number limit then Ok (Some p) else Err BadProperty

-- The property at a place, where numbers are below a limit; a byte 0 ends the list.
unfoldable pub property_at : Memory → ℕ → ℕ → Result (Option Property) ZFault
property_at mem limit place = do
  byte ← byte_in mem place
  if byte == 0 then Ok None else (sized mem byte place >>= λ p. below limit p)

abbrev pub or_later : ℕ → (ℕ → ℕ → Result (Option Property) ZFault) → Option Property → Result (Option Property) ZFault
or_later number more None = Ok None
or_later number more (Some p) = if p.number == number then Ok (Some p) else more p.number (property_end p)

-- The property of a number, among those from a place on; their numbers fall, so that no list is longer than 64.
unfoldable pub property_from : Memory → ℕ → ℕ → ℕ → ℕ → Result (Option Property) ZFault
property_from mem number zero limit place = Err BadProperty
property_from mem number (suc more) limit place = property_at mem limit place >>= λ found. or_later number (property_from mem number more) found

-- behind the short name, whose first byte is its length in words
unfoldable pub first_place : Memory → ℕ → ℕ → Result ℕ ZFault
first_place mem objects n = some_object n (do
  table ← memory_word mem ((entry_at objects n + 12) % 65536)
  words ← byte_in mem table
  Ok ((table + 1 + 2 * words) % 65536))

-- where the short name of an object stands, if it has one; its end is marked in it
unfoldable pub name_place : Memory → ℕ → ℕ → Result (Option ℕ) ZFault
name_place mem objects n = some_object n (do
  table ← memory_word mem ((entry_at objects n + 12) % 65536)
  words ← byte_in mem table
  Ok (if words == 0 then None else Some ((table + 1) % 65536)))

unfoldable pub property_of : Memory → ℕ → ℕ → ℕ → Result (Option Property) ZFault
property_of mem objects n number = first_place mem objects n >>= λ place. property_from mem number 65 64 place

-- ---- what the instructions answer

-- a property of one byte or of two
abbrev pub value_in_property : Memory → Property → Result ℕ ZFault
value_in_property mem p = if p.size == 1 then byte_in mem p.at else if p.size == 2 then memory_word mem p.at else Err BadProperty

-- the default word of a number, which need not be there
abbrev pub value_or_default : Memory → ℕ → ℕ → Option Property → Result ℕ ZFault
value_or_default mem objects number None = memory_word mem ((objects + 2 * (number + 65535)) % 65536)
value_or_default mem objects number (Some p) = value_in_property mem p

unfoldable pub property_value : Memory → ℕ → ℕ → ℕ → Result ℕ ZFault
property_value mem objects n number = property_of mem objects n number >>= λ found. value_or_default mem objects number found

abbrev pub place_or_zero : Option Property → ℕ
place_or_zero None = 0
place_or_zero (Some p) = p.at

unfoldable pub property_place : Memory → ℕ → ℕ → ℕ → Result ℕ ZFault
property_place mem objects n number = property_of mem objects n number >>= λ found. Ok (place_or_zero found)

abbrev pub number_or_zero : Option Property → ℕ
number_or_zero None = 0
number_or_zero (Some p) = p.number

-- the number of the property at a place, where numbers are below a limit
abbrev pub number_at : Memory → ℕ → ℕ → Result ℕ ZFault
number_at mem limit place = property_at mem limit place >>= λ found. Ok (number_or_zero found)

-- the number of the property behind one
abbrev pub following_number : Memory → Option Property → Result ℕ ZFault
following_number mem None = Err BadProperty
following_number mem (Some p) = number_at mem p.number (property_end p)

-- the number of the property behind that of a number, or of the first for 0; 0 behind the last
unfoldable pub next_number : Memory → ℕ → ℕ → ℕ → Result ℕ ZFault
next_number mem objects n number =
    if number == 0 then (first_place mem objects n >>= λ place. number_at mem 64 place)
    else (property_of mem objects n number >>= λ found. following_number mem found)

abbrev pub with_value : Memory → ℕ → Option Property → Result Memory ZFault
with_value mem x None = Err BadProperty
with_value mem x (Some p) = if p.size == 1 then with_byte mem p.at (x % 256) else if p.size == 2 then with_word mem p.at x else Err BadProperty

unfoldable pub with_property : Memory → ℕ → ℕ → ℕ → ℕ → Result Memory ZFault
with_property mem objects n number x = property_of mem objects n number >>= λ found. with_value mem x found

-- the length of the property whose bytes begin at a place; that of place 0 is 0
unfoldable pub length_before : Memory → ℕ → Result ℕ ZFault
length_before mem at =
    if at == 0 then Ok 0 else (byte_in mem ((at + 65535) % 65536) >>= λ byte. Ok (if nat_lt byte 128 then short_length byte else long_length byte))
