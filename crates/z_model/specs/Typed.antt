-- Typed lines, as they are read into a buffer (Z-Machine Standard 1.1, section 15, aread, and section 10.1;
-- which characters are kept is this project's profile).
use Rattle.std.specs.Prelude.{ℕ, zero, suc, List, [], ◌∷◌, take, map, Option, Some, None, unwrap_or, ◌==◌, if◌then◌else◌}
use Rattle.dg_base.specs.Typed.{typed}
use Rattle.dg_base.specs.Units.{units_of}
use Rattle.z_model.specs.Zscii.{zscii_of}

-- No line is longer than this.
abbrev pub line_limit : ℕ
line_limit = 65536

-- the bytes before the first newline, of at most so many
unfoldable pub line_within : ℕ → List ℕ → List ℕ
line_within zero bytes = []
line_within (suc most) [] = []
line_within (suc most) (byte ∷ bytes) = if byte == 10 then [] else byte ∷ line_within most bytes

-- what is left behind them and their newline
unfoldable pub left_within : ℕ → List ℕ → List ℕ
left_within zero bytes = bytes
left_within (suc most) [] = []
left_within (suc most) (byte ∷ bytes) = if byte == 10 then bytes else left_within most bytes

-- A carriage return at the end of a line is no part of it.
unfoldable pub without_return : List ℕ → List ℕ
without_return [] = []
without_return (byte ∷ []) = if byte == 13 then [] else byte ∷ []
without_return (byte ∷ next ∷ line) = byte ∷ without_return (next ∷ line)

-- the bytes of the next typed line
unfoldable pub typed_bytes : List ℕ → List ℕ
typed_bytes bytes = without_return (line_within line_limit bytes)

-- the code of a character, or a question mark
abbrev pub code_or_question : Option ℕ → ℕ
code_or_question None = 63
code_or_question (Some c) = unwrap_or (zscii_of c) 63

-- the code of a unit: a character that isn't kept and a byte that belongs to none are question marks
abbrev pub typed_code : Option ℕ → ℕ
typed_code None = 63
typed_code (Some c) = code_or_question (typed c)

-- the codes of a line's units
abbrev pub typed_codes : List ℕ → List ℕ
typed_codes bytes = map typed_code (units_of bytes)

-- the codes of the next typed line, of at most so many
unfoldable pub typed_line : ℕ → List ℕ → List ℕ
typed_line most bytes = take most (typed_codes (typed_bytes bytes))

-- the typed bytes behind it
unfoldable pub typed_left : List ℕ → List ℕ
typed_left bytes = left_within line_limit bytes
