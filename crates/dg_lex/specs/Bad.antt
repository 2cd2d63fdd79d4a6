-- The first character that no source may hold: hold it against docs/LANGUAGE.md, "Characters and tokens".
use Rattle.std.specs.Prelude.{ℕ, ◌+◌, ◌&&◌, ◌||◌, List, [], ◌∷◌, Bool, false, not, nat_eq, nat_lt, take, length, Option, Some, None, count_by, if◌then◌else◌}
use Rattle.std.specs.Option.{option_or}
use Rattle.std.specs.Str.Lossy.{utf8_valid_len}
use Rattle.dg_base.specs.declared.refusal.Refusal.{Refusal}
use Rattle.dg_base.specs.declared.refusal.Kind.TheVariants.{BadByte, SourceTooLong}
use Rattle.dg_lex.specs.Chars.{newline, backslash, is_special, is_control, begins_too_high, begins_with, opens_comment}
use Rattle.dg_lex.specs.declared.bad.Place.{Place}
use Rattle.dg_lex.specs.declared.bad.Place.TheVariants.{Outside, Escaped, Comment}

-- where the text behind a character stands: an escape is one character long, a comment ends with its line
abbrev pub place_behind : Place → ℕ → List ℕ → Place
place_behind Outside c behind = if nat_eq c backslash then Escaped else (if opens_comment c behind then Comment else Outside)
place_behind Escaped c behind = Outside
place_behind Comment c behind = if nat_eq c newline then Outside else Comment

-- a backslash outside a comment that no special character follows
abbrev pub is_lone : Place → ℕ → List ℕ → Bool
is_lone Outside c behind = nat_eq c backslash && not (begins_with is_special behind)
is_lone Escaped c behind = false
is_lone Comment c behind = false

-- a control character, a character above U+FFFF, or a lone backslash
abbrev pub is_bad : Place → ℕ → List ℕ → Bool
is_bad place c behind = (is_control c || begins_too_high c) || is_lone place c behind

-- the first bad character of a text that begins in this place, counted from this number on
abbrev pub bad_from : Place → ℕ → List ℕ → Option ℕ
bad_from place at [] = None
bad_from place at (c ∷ cs) = if is_bad place c cs then Some at else bad_from (place_behind place c cs) (at + 1) cs

-- the first byte at which a source isn't UTF-8
abbrev pub first_invalid : List ℕ → Option ℕ
first_invalid source = if nat_lt (utf8_valid_len source) (length source) then Some (utf8_valid_len source) else None

-- the first bad character of a source
abbrev pub first_bad : List ℕ → Option ℕ
first_bad source = option_or (bad_from Outside 0 (take (utf8_valid_len source) source)) (first_invalid source)

-- the newlines of a stretch
abbrev pub lines : List ℕ → ℕ
lines cs = count_by (λ c. nat_eq c newline) cs

-- a source is refused where it is too long, or else at its first bad character
abbrev pub refusal_at : List ℕ → Option ℕ → Option Refusal
refusal_at source None = None
refusal_at source (Some at) = Some (record { kind = BadByte; line = 1 + lines (take at source) })

abbrev pub lex_refusal : List ℕ → Option Refusal
lex_refusal source = if nat_lt 1048576 (length source) then Some (record { kind = SourceTooLong; line = 1 }) else refusal_at source (first_bad source)
