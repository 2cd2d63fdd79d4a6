-- The instruction that stands at a place, or the first fault, byte by byte (Z-Machine Standard 1.1, sections 4.1 to 4.8).
use Rattle.std.specs.Prelude.{ℕ, zero, suc, ◌+◌, ◌-◌, ◌*◌, ◌/◌, ◌%◌, List, [], ◌∷◌, drop, Option, Some, None, Result, Ok, Err, Bool, true, false, nat_lt, ◌==◌, if◌then◌else◌, slice_get, pos}
use lib.IntN.{ℤ, ◌-ℤ◌}
use Rattle.z_model.specs.declared.fault.ZFault.{ZFault}
use Rattle.z_model.specs.declared.fault.ZFault.TheVariants.{BadOpcode, OffEnd}
use Rattle.z_model.specs.declared.op.Form.{Form}
use Rattle.z_model.specs.declared.op.Form.TheVariants as forms
use Rattle.z_model.specs.declared.op.OperandType.{OperandType}
use Rattle.z_model.specs.declared.op.OperandType.TheVariants.{Large, Small, Variable, Omitted}
use Rattle.z_model.specs.declared.op.OperandTypes.{OperandTypes}
use Rattle.z_model.specs.declared.op.Operand.{Operand}
use Rattle.z_model.specs.declared.op.Operand.TheVariants as operands
use Rattle.z_model.specs.declared.op.Branch.{Branch}
use Rattle.z_model.specs.declared.op.Op.{Op}
use Rattle.z_model.specs.declared.op.Found.{Found}
use Rattle.z_model.specs.declared.table.Kind.{Kind}
use Rattle.z_model.specs.declared.table.Kind.TheVariants as kinds
use Rattle.z_model.specs.declared.table.Row.{Row}
use Rattle.z_model.specs.Table.{Rows, row_at}

infixl 10 ◌>>=◌
abbrev pub ◌>>=◌ : {A B : Type 0} → Result A ZFault → (A → Result B ZFault) → Result B ZFault
(Ok x) >>= f = f x
(Err e) >>= f = Err e

-- the value, or this fault
abbrev pub or_fault : {A : Type 0} → ZFault → Option A → Result A ZFault
or_fault fault None = Err fault
or_fault fault (Some x) = Ok x

abbrev pub byte_at : List ℕ → ℕ → Result ℕ ZFault
byte_at bytes at = or_fault OffEnd (slice_get bytes at)

-- the row, where the table has one
abbrev pub known : Rows → Kind → ℕ → Result Row ZFault
known rows kind number = or_fault BadOpcode (row_at rows kind number)

-- two bits of a type byte
abbrev pub type_of : ℕ → OperandType
type_of zero = Large
type_of (suc zero) = Small
type_of (suc (suc zero)) = Variable
type_of (suc (suc (suc n))) = Omitted

-- one bit of a long form
abbrev pub long_type : ℕ → OperandType
long_type zero = Small
long_type (suc n) = Variable

abbrev pub long_types : ℕ → OperandTypes
long_types first = record { first = long_type (first / 64 % 2); second = long_type (first / 32 % 2); third = Omitted; fourth = Omitted }

abbrev pub one_type : OperandType → OperandTypes
one_type kind = record { first = kind; second = Omitted; third = Omitted; fourth = Omitted }

abbrev pub types_of : ℕ → OperandTypes
types_of byte = record { first = type_of (byte / 64 % 4); second = type_of (byte / 16 % 4); third = type_of (byte / 4 % 4); fourth = type_of (byte % 4) }

abbrev pub present : OperandType → ℕ
present Large = 1
present Small = 1
present Variable = 1
present Omitted = 0

-- how many there are, where none stands behind one that is omitted
unfoldable pub operand_count : OperandTypes → Result ℕ ZFault
operand_count s =
    if nat_lt (present s.first) (present s.second) then Err BadOpcode
    else if nat_lt (present s.second) (present s.third) then Err BadOpcode
    else if nat_lt (present s.third) (present s.fourth) then Err BadOpcode
    else Ok (present s.first + present s.second + present s.third + present s.fourth)

-- how many there are, where the row allows it
unfoldable pub count_in_row : Row → OperandTypes → Result ℕ ZFault
count_in_row row types = do
  count ← operand_count types
  if nat_lt count row.fewest then Err BadOpcode else if nat_lt row.most count then Err BadOpcode else Ok count

-- an operand, and the place behind it
unfoldable pub operand_at : List ℕ → OperandType → ℕ → Result (Operand × ℕ) ZFault
operand_at bytes Large at = do
  high ← byte_at bytes at
  low ← byte_at bytes (at + 1)
  Ok (operands.Large (256 * high + low), at + 2)
operand_at bytes Small at = do
  byte ← byte_at bytes at
  Ok (operands.Small byte, at + 1)
operand_at bytes Variable at = do
  byte ← byte_at bytes at
  Ok (operands.Variable byte, at + 1)
operand_at bytes Omitted at = Ok (operands.Small 0, at)

unfoldable pub store_at : List ℕ → Bool → ℕ → Result (Option ℕ × ℕ) ZFault
store_at bytes false at = Ok (None, at)
store_at bytes true at = do
  byte ← byte_at bytes at
  Ok (Some byte, at + 1)

-- 14 bits with a sign
abbrev pub signed_14 : ℕ → ℤ
signed_14 n = if nat_lt n 8192 then pos n else pos n -ℤ pos 16384

-- whether the branch is on true
abbrev pub on_true : ℕ → Bool
on_true byte = byte / 128 == 1

abbrev pub short_branch : ℕ → ℕ → Result (Option Branch × ℕ) ZFault
short_branch byte at = Ok (Some (record { when = on_true byte; offset = pos (byte % 64); short = true }), at + 1)

abbrev pub long_branch : List ℕ → ℕ → ℕ → Result (Option Branch × ℕ) ZFault
long_branch bytes byte at = do
  low ← byte_at bytes (at + 1)
  Ok (Some (record { when = on_true byte; offset = signed_14 (256 * (byte % 64) + low); short = false }), at + 2)

unfoldable pub branch_at : List ℕ → Bool → ℕ → Result (Option Branch × ℕ) ZFault
branch_at bytes false at = Ok (None, at)
branch_at bytes true at = do
  byte ← byte_at bytes at
  if byte / 64 % 2 == 1 then short_branch byte at else long_branch bytes byte at

-- the end of a text, behind the first word that is marked as the last
unfoldable pub text_end : List ℕ → ℕ → Option ℕ
text_end [] at = None
text_end (high ∷ []) at = None
text_end (high ∷ low ∷ bytes) at = if nat_lt high 128 then text_end bytes (at + 2) else Some (at + 2)

-- the length of a text, and the place behind it
unfoldable pub text_at : List ℕ → Bool → ℕ → Result (ℕ × ℕ) ZFault
text_at bytes false at = Ok (0, at)
text_at bytes true at = do
  end ← or_fault OffEnd (text_end (drop at bytes) at)
  Ok (end - at, end)

-- an op of a row, and the place behind it
abbrev pub op_found : Row → Op → ℕ → Found
op_found row op end = record { row = row; op = op; end = end }

-- the instruction of a row, once what stands behind the types is read
unfoldable pub body_at : List ℕ → Form → ℕ → Row → OperandTypes → ℕ → Result Found ZFault
body_at bytes form number row types at = do
  count ← count_in_row row types
  first ← operand_at bytes types.first at
  second ← operand_at bytes types.second first.1
  third ← operand_at bytes types.third second.1
  fourth ← operand_at bytes types.fourth third.1
  store ← store_at bytes row.store fourth.1
  branch ← branch_at bytes row.branch store.1
  text ← text_at bytes row.text branch.1
  Ok (op_found row (record {
    form = form;
    number = number;
    store = store.0;
    branch = branch.0;
    text = text.0;
    operands = record { count = count; first = first.0; second = second.0; third = third.0; fourth = fourth.0 };
  }) text.1)

abbrev pub short_kind : OperandType → Kind
short_kind Large = kinds.One
short_kind Small = kinds.One
short_kind Variable = kinds.One
short_kind Omitted = kinds.Zero

-- The instructions of a table.
module _ (rows : Rows) where
  -- an instruction of the long form, whose first byte this is
  unfoldable pub long_at : List ℕ → ℕ → ℕ → Result Found ZFault
  long_at bytes at first = do
    row ← known rows kinds.Two (first % 32)
    body_at bytes forms.Long (first % 32) row (long_types first) (at + 1)

  unfoldable pub short_at : List ℕ → ℕ → ℕ → Result Found ZFault
  short_at bytes at first = do
    row ← known rows (short_kind (type_of (first / 16 % 4))) (first % 16)
    body_at bytes forms.Short (first % 16) row (one_type (type_of (first / 16 % 4))) (at + 1)

  -- those with two operands, and from 32 on those with several
  abbrev pub variable_row : ℕ → Result Row ZFault
  variable_row number = if nat_lt number 32 then known rows kinds.Two number else known rows kinds.Several (number - 32)

  unfoldable pub variable_at : List ℕ → ℕ → ℕ → Result Found ZFault
  variable_at bytes at first = do
    row ← variable_row (first % 64)
    types ← byte_at bytes (at + 1)
    body_at bytes forms.Variable (first % 64) row (types_of types) (at + 2)

  unfoldable pub extended_at : List ℕ → ℕ → Result Found ZFault
  extended_at bytes at = do
    number ← byte_at bytes (at + 1)
    row ← known rows kinds.Extended number
    types ← byte_at bytes (at + 2)
    body_at bytes forms.Extended number row (types_of types) (at + 3)

  -- the instruction at a place
  unfoldable pub op_at : List ℕ → ℕ → Result Found ZFault
  op_at bytes at = do
    first ← byte_at bytes at
    if nat_lt first 128 then long_at bytes at first
        else if first == 190 then extended_at bytes at
        else if nat_lt first 192 then short_at bytes at first else variable_at bytes at first
