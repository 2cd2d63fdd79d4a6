-- The text of each line, and of a whole listing (hold it against docs/LISTING.md).
use Rattle.std.specs.Prelude.{ℕ, ◌+◌, ◌/◌, ◌%◌, List, [], ◌∷◌, ◌++◌, length, Option, Some, None, Result, Ok, Err, Bool, true, false, nat_lt, if◌then◌else◌, codes, decimal, flat_map}
use Rattle.z_model.specs.declared.fault.ZFault.{ZFault}
use Rattle.z_model.specs.declared.op.Operand.{Operand}
use Rattle.z_model.specs.declared.op.Operand.TheVariants as operands
use Rattle.z_model.specs.declared.op.Operands.{Operands}
use Rattle.z_model.specs.declared.op.Found.{Found}
use Rattle.z_model.specs.Table.{player_rows}
use Rattle.z_model.specs.Decode.{op_at}
use Rattle.z_model.specs.Names.{name_of}
use Rattle.z_list.specs.declared.mark.Mark.{Mark}
use Rattle.z_list.specs.Listing.{Line, Data, Rule, Locals, Does, End, lines}

-- a hexadecimal digit, in lower case
abbrev pub hex_digit : ℕ → ℕ
hex_digit n = if nat_lt n 10 then 48 + n else 87 + n

-- a byte as two digits, behind a space
abbrev pub spaced : ℕ → List ℕ
spaced byte = 32 ∷ hex_digit (byte / 16) ∷ hex_digit (byte % 16) ∷ []

-- bytes, each behind a space
abbrev pub all_spaced : List ℕ → List ℕ
all_spaced bytes = flat_map spaced bytes

-- an operand, behind a space: a variable has a v before its number
abbrev pub operand_text : Operand → List ℕ
operand_text (operands.Large n) = codes " " ++ decimal n
operand_text (operands.Small n) = codes " " ++ decimal n
operand_text (operands.Variable n) = codes " v" ++ decimal n

-- an operand, if it is there
abbrev pub text_if : Bool → Operand → List ℕ
text_if true x = operand_text x
text_if false x = []

abbrev pub operands_text : Operands → List ℕ
operands_text o =
    text_if (nat_lt 0 o.count) o.first
    ++ (text_if (nat_lt 1 o.count) o.second ++ (text_if (nat_lt 2 o.count) o.third ++ text_if (nat_lt 3 o.count) o.fourth))

-- An instruction that was decoded: its name and its operands.
abbrev pub found_text : Result Found ZFault → List ℕ
found_text (Ok x) = name_of x.row.instr ++ operands_text x.op.operands
found_text (Err fault) = []

abbrev pub newline : List ℕ
newline = 10 ∷ []

-- The first line, of a story of so many bytes.
abbrev pub story_line : ℕ → List ℕ
story_line count = codes "story " ++ (decimal count ++ newline)

-- Each other line, with its newline.
abbrev pub line_text : Line → List ℕ
line_text (Data at bytes) = codes "data " ++ (decimal at ++ (all_spaced bytes ++ newline))
line_text (Rule at pred rule) = codes "rule " ++ (decimal at ++ (codes " " ++ (decimal pred ++ (codes "." ++ (decimal rule ++ newline)))))
line_text (Locals at byte) = codes "locals " ++ (decimal at ++ (spaced byte ++ newline))
line_text (Does at bytes) = codes "op " ++ (decimal at ++ (all_spaced bytes ++ (codes " ; " ++ (found_text (op_at player_rows bytes 0) ++ newline))))
line_text (End at) = codes "end " ++ (decimal at ++ newline)

abbrev pub texts : List Line → List ℕ
texts ls = flat_map line_text ls

abbrev pub end_of : Result Found ZFault → Option ℕ
end_of (Ok x) = Some x.end
end_of (Err fault) = None

-- The length of the instruction of the table with which bytes begin, if they begin with a whole one.
abbrev pub first_length : List ℕ → Option ℕ
first_length bytes = end_of (op_at player_rows bytes 0)

-- The listing of a story with these marks.
abbrev pub listed : List ℕ → List Mark → List ℕ
listed story marks = story_line (length story) ++ texts (lines first_length 0 story marks)
