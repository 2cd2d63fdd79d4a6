-- How an instruction of the table is written (Z-Machine Standard 1.1, sections 4.1 to 4.8, read from the instruction to its bytes).
use Rattle.std.specs.Prelude.{◌≡◌, ◌≢◌, ℕ, ◌+◌, ◌-◌, ◌*◌, ◌/◌, ◌%◌, ◌<◌, ◌≤◌, List, [], ◌∷◌, ◌++◌, length, Option, Some, None, Result, Ok, Bool, true, false, nat_lt, slice_get, pos}
use lib.IntN.{ℤ, negsuc}
use Rattle.z_model.specs.declared.fault.ZFault.{ZFault}
use Rattle.z_model.specs.declared.op.Form.{Form}
use Rattle.z_model.specs.declared.op.Form.TheVariants as forms
use Rattle.z_model.specs.declared.op.Operand.{Operand}
use Rattle.z_model.specs.declared.op.Operand.TheVariants as operands
use Rattle.z_model.specs.declared.op.Operands.{Operands}
use Rattle.z_model.specs.declared.op.Branch.{Branch}
use Rattle.z_model.specs.declared.op.Op.{Op}
use Rattle.z_model.specs.declared.table.Kind.TheVariants as kinds
use Rattle.z_model.specs.declared.table.Row.{Row}
use Rattle.z_model.specs.declared.op.OperandType.{OperandType}
use Rattle.z_model.specs.declared.op.OperandType.TheVariants.{Large, Small, Variable, Omitted}
use Rattle.z_model.specs.declared.op.OperandTypes.{OperandTypes}
use Rattle.z_model.specs.Table.{Rows}
use Rattle.z_model.specs.Decode.{known, op_found, variable_row, short_kind, count_in_row, text_at, text_end, op_at}

abbrev pub type_of_operand : Operand → OperandType
type_of_operand (operands.Large w) = Large
type_of_operand (operands.Small b) = Small
type_of_operand (operands.Variable b) = Variable

-- the type of an operand, if it is one of the first so many
abbrev pub type_if : Bool → Operand → OperandType
type_if true x = type_of_operand x
type_if false x = Omitted

abbrev pub types_in : Operands → OperandTypes
types_in o = record {
  first = type_if (nat_lt 0 o.count) o.first;
  second = type_if (nat_lt 1 o.count) o.second;
  third = type_if (nat_lt 2 o.count) o.third;
  fourth = type_if (nat_lt 3 o.count) o.fourth;
}

abbrev pub type_code : OperandType → ℕ
type_code Large = 0
type_code Small = 1
type_code Variable = 2
type_code Omitted = 3

abbrev pub type_byte : OperandTypes → ℕ
type_byte s = 64 * type_code s.first + 16 * type_code s.second + 4 * type_code s.third + type_code s.fourth

-- the bit of a long form
abbrev pub long_bit : OperandType → ℕ
long_bit Large = 0
long_bit Small = 0
long_bit Variable = 1
long_bit Omitted = 0

abbrev pub head_bytes : Form → ℕ → OperandTypes → List ℕ
head_bytes forms.Long number s = (64 * long_bit s.first + 32 * long_bit s.second + number) ∷ []
head_bytes forms.Short number s = (128 + 16 * type_code s.first + number) ∷ []
head_bytes forms.Variable number s = (192 + number) ∷ type_byte s ∷ []
head_bytes forms.Extended number s = 190 ∷ number ∷ type_byte s ∷ []

abbrev pub operand_bytes : OperandType → Operand → List ℕ
operand_bytes Omitted x = []
operand_bytes Large (operands.Large w) = (w / 256) ∷ (w % 256) ∷ []
operand_bytes Large (operands.Small b) = []
operand_bytes Large (operands.Variable b) = []
operand_bytes Small (operands.Small b) = b ∷ []
operand_bytes Small (operands.Large b) = []
operand_bytes Small (operands.Variable b) = []
operand_bytes Variable (operands.Variable b) = b ∷ []
operand_bytes Variable (operands.Small b) = []
operand_bytes Variable (operands.Large b) = []

abbrev pub store_bytes : Option ℕ → List ℕ
store_bytes None = []
store_bytes (Some b) = b ∷ []

abbrev pub bit : Bool → ℕ
bit true = 1
bit false = 0

-- 14 bits of an offset
abbrev pub unsigned_14 : ℤ → ℕ
unsigned_14 (pos n) = n
unsigned_14 (negsuc n) = 16383 - n

abbrev pub offset_bytes : Bool → ℕ → ℕ → List ℕ
offset_bytes true when n = (128 * when + 64 + n) ∷ []
offset_bytes false when n = (128 * when + n / 256) ∷ (n % 256) ∷ []

abbrev pub branch_bytes : Option Branch → List ℕ
branch_bytes None = []
branch_bytes (Some b) = offset_bytes b.short (bit b.when) (unsigned_14 b.offset)

abbrev pub all_operand_bytes : OperandTypes → Operands → List ℕ
all_operand_bytes s o = operand_bytes s.first o.first ++ (operand_bytes s.second o.second ++ (operand_bytes s.third o.third ++ operand_bytes s.fourth o.fourth))

-- The bytes of an instruction, before its literal text.
abbrev pub spelling : Op → List ℕ
spelling op = let s = types_in op.operands in
    head_bytes op.form op.number s ++ (operand_bytes s.first op.operands.first ++ (operand_bytes s.second op.operands.second
    ++ (operand_bytes s.third op.operands.third ++ (operand_bytes s.fourth op.operands.fourth ++ (store_bytes op.store ++ branch_bytes op.branch)))))

-- ---- what has a spelling

abbrev pub row_of : Rows → Form → ℕ → OperandTypes → Result Row ZFault
row_of rows forms.Long number s = known rows kinds.Two number
row_of rows forms.Short number s = known rows (short_kind s.first) number
row_of rows forms.Variable number s = variable_row rows number
row_of rows forms.Extended number s = known rows kinds.Extended number

abbrev pub IsByteType : OperandType → Type 0
IsByteType Large = ⊥
IsByteType Small = Unit {0}
IsByteType Variable = Unit {0}
IsByteType Omitted = ⊥

-- the number, and the types that the form can say
abbrev pub FitsForm : Form → ℕ → OperandTypes → Type 0
FitsForm forms.Long number s = (number < 32) × IsByteType s.first × IsByteType s.second × (s.third ≡ Omitted) × (s.fourth ≡ Omitted)
FitsForm forms.Short number s =
    (number < 16) × (s.second ≡ Omitted) × (s.third ≡ Omitted) × (s.fourth ≡ Omitted) × (128 + 16 * type_code s.first + number ≢ 190)
FitsForm forms.Variable number s = number < 64
FitsForm forms.Extended number s = number < 256

-- an operand within its width, and 0 where there is none
abbrev pub FitsType : OperandType → Operand → Type 0
FitsType Omitted (operands.Small b) = b ≡ 0
FitsType Omitted (operands.Large b) = ⊥
FitsType Omitted (operands.Variable b) = ⊥
FitsType Large (operands.Large w) = w < 65536
FitsType Large (operands.Small b) = ⊥
FitsType Large (operands.Variable b) = ⊥
FitsType Small (operands.Small b) = b < 256
FitsType Small (operands.Large b) = ⊥
FitsType Small (operands.Variable b) = ⊥
FitsType Variable (operands.Variable b) = b < 256
FitsType Variable (operands.Large b) = ⊥
FitsType Variable (operands.Small b) = ⊥

abbrev pub FitsStore : Bool → Option ℕ → Type 0
FitsStore true (Some b) = b < 256
FitsStore true None = ⊥
FitsStore false (Some b) = ⊥
FitsStore false None = Unit {0}

abbrev pub FitsOffset : Bool → ℤ → Type 0
FitsOffset true (pos n) = n < 64
FitsOffset true (negsuc n) = ⊥
FitsOffset false (pos n) = n < 8192
FitsOffset false (negsuc n) = n < 8192

abbrev pub FitsBranch : Bool → Option Branch → Type 0
FitsBranch true (Some b) = FitsOffset b.short b.offset
FitsBranch true None = ⊥
FitsBranch false (Some b) = ⊥
FitsBranch false None = Unit {0}

-- an op of the table, but for its literal text
pub record IsOp (rows : Rows) (row : Row) (op : Op) : Type 0 where
  pub known : row_of rows op.form op.number (types_in op.operands) ≡ Ok row
  pub form : FitsForm op.form op.number (types_in op.operands)
  pub count : count_in_row row (types_in op.operands) ≡ Ok op.operands.count
  pub first : FitsType (types_in op.operands).first op.operands.first
  pub second : FitsType (types_in op.operands).second op.operands.second
  pub third : FitsType (types_in op.operands).third op.operands.third
  pub fourth : FitsType (types_in op.operands).fourth op.operands.fourth
  pub store : FitsStore row.store op.store
  pub branch : FitsBranch row.branch op.branch

-- these bytes stand at a place
abbrev pub BytesAt : List ℕ → ℕ → List ℕ → Type 0
BytesAt bytes at [] = Unit {0}
BytesAt bytes at (b ∷ bs) = (slice_get bytes at ≡ Some b) × BytesAt bytes (at + 1) bs

-- An instruction of the table stands at a place, and ends there.
pub record IsInstruction (rows : Rows) (bytes : List ℕ) (at : ℕ) (op : Op) (end : ℕ) : Type 0 where
  pub row : Row
  pub is : IsOp rows row op
  pub stands : BytesAt bytes at (spelling op)
  pub text : text_at bytes row.text (at + length (spelling op)) ≡ Ok (op.text, end)

-- the length of a literal text: that of one or more words, where the row has a text
abbrev pub FitsText : Bool → ℕ → Type 0
FitsText true n = (2 ≤ n) × (n % 2 ≡ 0)
FitsText false n = n ≡ 0

-- an op of the table
pub record IsOfTable (rows : Rows) (op : Op) : Type 0 where
  pub row : Row
  pub is : IsOp rows row op
  pub text : FitsText row.text op.text

-- a literal text of so many bytes: words of which the last alone is marked
abbrev pub IsText : Bool → ℕ → List ℕ → Type 0
IsText true n text = (length text ≡ n) × (text_end text 0 ≡ Some n)
IsText false n text = (text ≡ []) × (n ≡ 0)

abbrev pub AreBytes : List ℕ → Type 0
AreBytes bytes = (i b : ℕ) → slice_get bytes i ≡ Some b → b < 256

-- What is written for an op, and its literal text behind it, is decoded as that op, whatever stands before and behind.
pub record Written (rows : Rows) (op : Op) (front text rest : List ℕ) : Type 0 where
  pub written : (is : IsOfTable rows op) → IsText is.row.text op.text text →
      op_at rows (front ++ (spelling op ++ (text ++ rest))) (length front) ≡ Ok (op_found is.row op (length front + length (spelling op) + length text))

-- What is written so is decoded again, and no bytes are two instructions.
pub record Again (rows : Rows) (bytes : List ℕ) (at : ℕ) : Type 0 where
  pub again : (op : Op) (end : ℕ) (i : IsInstruction rows bytes at op end) → op_at rows bytes at ≡ Ok (op_found i.row op end)
  pub one : (op op' : Op) (end end' : ℕ) → IsInstruction rows bytes at op end → IsInstruction rows bytes at op' end' → (op ≡ op') × (end ≡ end')
  pub there : AreBytes bytes → (row : Row) (op : Op) (end : ℕ) → op_at rows bytes at ≡ Ok (op_found row op end) → IsInstruction rows bytes at op end
