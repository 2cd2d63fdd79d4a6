-- Typed bytes as units: a well-formed UTF-8 character where one begins, and otherwise a single byte (the Unicode Standard, section 3.9, table 3-7).
use Rattle.std.specs.Prelude.{ℕ, zero, suc, ◌+◌, ◌-◌, ◌*◌, ◌%◌, List, [], ◌∷◌, Option, Some, None, Bool, nat_lt, ◌==◌, ◌&&◌, if◌then◌else◌, slice_index}
use Rattle.dg_base.specs.declared.units.Unit.{Unit}

-- from a number to another
abbrev pub is_within : ℕ → ℕ → ℕ → Bool
is_within low high b = nat_lt (low - 1) b && nat_lt b (high + 1)

-- a byte that continues a character
abbrev pub is_tail : ℕ → Bool
is_tail b = is_within 0x80 0xBF b

-- the byte behind the first of three or four, which is narrower behind some
abbrev pub is_second : ℕ → ℕ → Bool
is_second first b =
    if first == 0xE0 then is_within 0xA0 0xBF b
    else if first == 0xED then is_within 0x80 0x9F b
    else if first == 0xF0 then is_within 0x90 0xBF b
    else if first == 0xF4 then is_within 0x80 0x8F b else is_tail b

abbrev pub is_two : ℕ → List ℕ → Bool
is_two first bytes = is_within 0xC2 0xDF first && is_tail (slice_index bytes 0)

abbrev pub is_three : ℕ → List ℕ → Bool
is_three first bytes = is_within 0xE0 0xEF first && (is_second first (slice_index bytes 0) && is_tail (slice_index bytes 1))

abbrev pub is_four : ℕ → List ℕ → Bool
is_four first bytes =
    is_within 0xF0 0xF4 first && (is_second first (slice_index bytes 0) && (is_tail (slice_index bytes 1) && is_tail (slice_index bytes 2)))

-- the low six bits of a byte
abbrev pub six : List ℕ → ℕ → ℕ
six bytes place = slice_index bytes place % 64

-- a character of so many bytes
abbrev pub character : ℕ → ℕ → Unit
character c size = record { character = Some c; size = size }

-- the unit that begins with this byte, before these
unfoldable pub unit_at : ℕ → List ℕ → Unit
unit_at first bytes =
    if nat_lt first 128 then character first 1
    else if is_two first bytes then character (64 * (first % 32) + six bytes 0) 2
    else if is_three first bytes then character (4096 * (first % 16) + 64 * six bytes 0 + six bytes 1) 3
    else if is_four first bytes then character (262144 * (first % 8) + 4096 * six bytes 0 + 64 * six bytes 1 + six bytes 2) 4
    else record { character = None; size = 1 }

-- The units of bytes of which so many belong to the unit before; each is its character, if it is one.
unfoldable pub units_behind : ℕ → List ℕ → List (Option ℕ)
units_behind skipped [] = []
units_behind zero (byte ∷ bytes) = (unit_at byte bytes).character ∷ units_behind ((unit_at byte bytes).size - 1) bytes
units_behind (suc skipped) (byte ∷ bytes) = units_behind skipped bytes

-- the units of bytes, from left to right
abbrev pub units_of : List ℕ → List (Option ℕ)
units_of bytes = units_behind 0 bytes
