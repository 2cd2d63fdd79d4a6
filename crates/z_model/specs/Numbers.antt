-- Words as numbers with a sign, and shifts (Z-Machine Standard 1.1, sections 2.2 to 2.4 and 15).
use Rattle.std.specs.Prelude.{ℕ, ◌-◌, ◌*◌, ◌/◌, ◌%◌, ◌^◌, Result, Ok, Err, Bool, nat_lt, ◌==◌, ◌&&◌, ◌||◌, if◌then◌else◌, pos, int_div, int_rem}
use lib.IntN.{ℤ, ◌-ℤ◌, negsuc}
use Rattle.z_model.specs.declared.fault.ZFault.{ZFault}
use Rattle.z_model.specs.declared.fault.ZFault.TheVariants.{DivideByZero}
use Rattle.z_model.specs.declared.end.Args.{Args}

-- a word as a number with a sign
abbrev pub signed_16 : ℕ → ℤ
signed_16 n = if nat_lt n 32768 then pos n else pos n -ℤ pos 65536

-- the word of such a number, which wraps
abbrev pub wrapped_word : ℤ → ℕ
wrapped_word (pos n) = n % 65536
wrapped_word (negsuc n) = 65535 - n % 65536

-- truncated towards zero
unfoldable pub quotient : ℕ → ℕ → Result ℕ ZFault
quotient a b = if b == 0 then Err DivideByZero else Ok (wrapped_word (int_div (signed_16 a) (signed_16 b)))

-- with the sign of the dividend
unfoldable pub remainder : ℕ → ℕ → Result ℕ ZFault
remainder a b = if b == 0 then Err DivideByZero else Ok (wrapped_word (int_rem (signed_16 a) (signed_16 b)))

-- bits that are shifted by 16 places or more are all out
abbrev pub left_by : ℕ → ℕ → ℕ
left_by a n = if nat_lt n 16 then a * 2 ^ n % 65536 else 0

abbrev pub right_by : ℕ → ℕ → ℕ
right_by a n = if nat_lt n 16 then a / 2 ^ n else 0

-- by a number with a sign, below 0 to the right, which fills with 0
abbrev pub log_shifted : ℕ → ℕ → ℕ
log_shifted a n = if nat_lt n 32768 then left_by a n else right_by a (65536 - n)

-- the same, filled with the sign: a number below 0 is turned over, shifted and turned back
abbrev pub art_shifted : ℕ → ℕ → ℕ
art_shifted a n =
    if nat_lt n 32768 then left_by a n
    else if nat_lt a 32768 then right_by a (65536 - n) else 65535 - right_by (65535 - a) (65536 - n)

-- the first operand is one of the others
abbrev pub equals_one : Args → Bool
equals_one a = (a.first == a.second) || ((nat_lt 2 a.count && (a.first == a.third)) || (nat_lt 3 a.count && (a.first == a.fourth)))
