-- What is spelled so is decoded again, whatever follows it.
use Rattle.std.proofs.Common.{◌≡◌, ◌≢◌, ℕ, suc, ◌+◌, ◌-◌, ◌*◌, ◌/◌, ◌%◌, ◌<◌, ◌≤◌, Bool, true, false, ltb, eqb, List, [], ◌∷◌, ◌++◌, length, Option, Some, None, Ok, refl, sym, ap, subst, ◌∙◌, arith, add-zero, length-append}
use Rattle.std.specs.Prelude.{slice_get, pos}
use lib.IntN.{ℤ, negsuc}
use Rattle.std.proofs.lemmas.Bool.{le-ltb, lt-ltb, ne_eqb}
use Rattle.std.proofs.lemmas.Int.{ints}
use Rattle.z_model.specs.Table.{Rows}
use Rattle.z_model.specs.declared.op.Form.{Form}
use Rattle.z_model.specs.declared.op.Form.TheVariants as forms
use Rattle.z_model.specs.declared.op.Operand.{Operand}
use Rattle.z_model.specs.declared.op.Operand.TheVariants as operands
use Rattle.z_model.specs.declared.op.Branch.{Branch}
use Rattle.z_model.specs.declared.op.Op.{Op}
use Rattle.z_model.specs.declared.table.Kind.TheVariants as kinds
use Rattle.z_model.specs.declared.table.Row.{Row}
use Rattle.z_model.specs.declared.op.OperandType.{OperandType}
use Rattle.z_model.specs.declared.op.OperandType.TheVariants.{Large, Small, Variable, Omitted}
use Rattle.z_model.specs.declared.op.OperandTypes.{OperandTypes}
use Rattle.z_model.specs.Decode.{byte_at, known, variable_row, short_kind, text_at, operand_at, store_at, branch_at, body_at, op_found, long_at, short_at, variable_at, extended_at, op_at, type_of, long_type, long_types, one_type, types_of, on_true, signed_14}
use Rattle.z_model.specs.Spelling.{types_in, type_code, type_byte, long_bit, head_bytes, operand_bytes, store_bytes, branch_bytes, bit, row_of, IsByteType, FitsForm, FitsType, FitsStore, FitsBranch, FitsOffset, unsigned_14, offset_bytes, IsOp, BytesAt, IsInstruction}

-- ---- lists that stand at a place

pub front_stands : (bytes : List ℕ) (at : ℕ) (xs ys : List ℕ) → BytesAt bytes at (xs ++ ys) → BytesAt bytes at xs
front_stands bytes at [] ys h = tt
front_stands bytes at (x ∷ xs) ys h = (h.0, front_stands bytes (at + 1) xs ys h.1)

pub rest_stands : (bytes : List ℕ) (at : ℕ) (xs ys : List ℕ) → BytesAt bytes at (xs ++ ys) → BytesAt bytes (at + length xs) ys
rest_stands bytes at [] ys h = subst (λ (k : ℕ). BytesAt bytes k ys) (sym (add-zero at)) h
rest_stands bytes at (x ∷ xs) ys h =
    let e : at + 1 + length xs ≡ at + suc (length xs) = omega arith in
    subst (λ (k : ℕ). BytesAt bytes k ys) e (rest_stands bytes (at + 1) xs ys h.1)

byte_again : (bytes : List ℕ) (at b : ℕ) → slice_get bytes at ≡ Some b → byte_at bytes at ≡ Ok b
byte_again bytes at b h = rw h refl

-- ---- the parts

operand_again : (bytes : List ℕ) (at : ℕ) (s : OperandType) (x : Operand) → FitsType s x → BytesAt bytes at (operand_bytes s x) → operand_at bytes s at ≡ Ok (x, at + length (operand_bytes s x))
unfolding operand_at
operand_again bytes at Omitted (operands.Small b) fits h = rw (fits, add-zero) refl
operand_again bytes at Omitted (operands.Large b) fits h = absurd fits
operand_again bytes at Omitted (operands.Variable b) fits h = absurd fits
operand_again bytes at Large (operands.Large w) fits h =
    let e : 256 * (w / 256) + w % 256 ≡ w = omega arith in
    rw (h.0, h.1.0, e) refl
operand_again bytes at Large (operands.Small b) fits h = absurd fits
operand_again bytes at Large (operands.Variable b) fits h = absurd fits
operand_again bytes at Small (operands.Small b) fits h = rw h.0 refl
operand_again bytes at Small (operands.Large b) fits h = absurd fits
operand_again bytes at Small (operands.Variable b) fits h = absurd fits
operand_again bytes at Variable (operands.Variable b) fits h = rw h.0 refl
operand_again bytes at Variable (operands.Small b) fits h = absurd fits
operand_again bytes at Variable (operands.Large b) fits h = absurd fits

store_again : (bytes : List ℕ) (at : ℕ) (wanted : Bool) (o : Option ℕ) → FitsStore wanted o → BytesAt bytes at (store_bytes o) → store_at bytes wanted at ≡ Ok (o, at + length (store_bytes o))
unfolding store_at
store_again bytes at true (Some b) fits h = rw h.0 refl
store_again bytes at true None fits h = absurd fits
store_again bytes at false (Some b) fits h = absurd fits
store_again bytes at false None fits h = rw add-zero refl

when_again : (when : Bool) (n : ℕ) → n < 128 → on_true (128 * bit when + n) ≡ when
when_again true n lt =
    let e : (128 + n) / 128 ≡ 1 = omega arith in
    rw e refl
when_again false n lt =
    let e : (0 + n) / 128 ≡ 0 = omega arith in
    rw e refl

bit_below : (when : Bool) → bit when < 2
bit_below true = omega arith
bit_below false = omega arith

signed_again_pos : (n : ℕ) → n < 8192 → signed_14 n ≡ pos n
signed_again_pos n lt = rw (lt-ltb n 8192 lt) refl

signed_again_neg : (n : ℕ) → n < 8192 → signed_14 (16383 - n) ≡ negsuc n
signed_again_neg n lt = rw (le-ltb (16383 - n) 8192 (omega arith)) (omega (arith, ints))

offset_again : (z : ℤ) → FitsOffset false z → signed_14 (unsigned_14 z) ≡ z
offset_again (pos n) fits = signed_again_pos n fits
offset_again (negsuc n) fits = signed_again_neg n fits

offset_below : (z : ℤ) → FitsOffset false z → unsigned_14 z < 16384
offset_below (pos n) fits = omega arith
offset_below (negsuc n) fits = omega arith

short_again : (bytes : List ℕ) (at : ℕ) (when : Bool) (offset : ℤ) → FitsOffset true offset → BytesAt bytes at (offset_bytes true (bit when) (unsigned_14 offset)) → branch_at bytes true at ≡ Ok (Some (record { when = when; offset = offset; short = true }), at + 1)
unfolding branch_at
short_again bytes at when (pos n) fits h =
    let two = bit_below when in
    let low : (128 * bit when + 64 + n) / 64 % 2 ≡ 1 = omega arith in
    let group : 128 * bit when + 64 + n ≡ 128 * bit when + (64 + n) = omega arith in
    let on : on_true (128 * bit when + 64 + n) ≡ when = ap on_true group ∙ when_again when (64 + n) (omega arith) in
    let six : (128 * bit when + 64 + n) % 64 ≡ n = omega arith in
    rw (h.0, low, on, six) refl
short_again bytes at when (negsuc n) fits h = absurd fits

long_branch_again : (bytes : List ℕ) (at : ℕ) (when : Bool) (offset : ℤ) → FitsOffset false offset → BytesAt bytes at (offset_bytes false (bit when) (unsigned_14 offset)) → branch_at bytes true at ≡ Ok (Some (record { when = when; offset = offset; short = false }), at + 2)
unfolding branch_at
long_branch_again bytes at when offset fits h =
    let two = bit_below when in
    let n : ℕ = unsigned_14 offset in
    let below : unsigned_14 offset < 16384 = offset_below offset fits in
    let low : (128 * bit when + unsigned_14 offset / 256) / 64 % 2 ≡ 0 = omega arith in
    let on : on_true (128 * bit when + unsigned_14 offset / 256) ≡ when = when_again when (unsigned_14 offset / 256) (omega arith) in
    let whole : 256 * ((128 * bit when + unsigned_14 offset / 256) % 64) + unsigned_14 offset % 256 ≡ unsigned_14 offset = omega arith in
    rw (h.0, low, h.1.0, on, whole, offset_again offset fits) refl

branch_again : (bytes : List ℕ) (at : ℕ) (wanted : Bool) (o : Option Branch) → FitsBranch wanted o → BytesAt bytes at (branch_bytes o) → branch_at bytes wanted at ≡ Ok (o, at + length (branch_bytes o))
unfolding branch_at
branch_again bytes at true None fits h = absurd fits
branch_again bytes at false None fits h = rw add-zero refl
branch_again bytes at false (Some b) fits h = absurd fits
branch_again bytes at true (Some b) fits h = by_length b.short b.when b.offset fits h
  where
    by_length : (short when : Bool) (offset : ℤ) → FitsOffset short offset → BytesAt bytes at (offset_bytes short (bit when) (unsigned_14 offset)) → branch_at bytes true at ≡ Ok (Some (record { when = when; offset = offset; short = short }), at + length (offset_bytes short (bit when) (unsigned_14 offset)))
    by_length true when offset fits h = short_again bytes at when offset fits h
    by_length false when offset fits h = long_branch_again bytes at when offset fits h

-- ---- what stands behind the types

-- the parts of a spelling behind its head
abbrev tail_bytes : Op → List ℕ
tail_bytes op = let s = types_in op.operands in operand_bytes s.first op.operands.first ++ (operand_bytes s.second op.operands.second ++ (operand_bytes s.third op.operands.third ++ (operand_bytes s.fourth op.operands.fourth ++ (store_bytes op.store ++ branch_bytes op.branch))))

body_again : (rows : Rows) (bytes : List ℕ) (at : ℕ) (row : Row) (op : Op) (end : ℕ) → IsOp rows row op → BytesAt bytes at (tail_bytes op) → text_at bytes row.text (at + length (tail_bytes op)) ≡ Ok (op.text, end) → body_at bytes op.form op.number row (types_in op.operands) at ≡ Ok (op_found row op end)
unfolding body_at
body_again rows bytes at row op end is h text =
    let s = types_in op.operands in
    let o = op.operands in
    let a : List ℕ = operand_bytes s.first o.first in
    let b : List ℕ = operand_bytes s.second o.second in
    let c : List ℕ = operand_bytes s.third o.third in
    let d : List ℕ = operand_bytes s.fourth o.fourth in
    let e : List ℕ = store_bytes op.store in
    let f : List ℕ = branch_bytes op.branch in
    let at1 : ℕ = at + length a in
    let at2 : ℕ = at1 + length b in
    let at3 : ℕ = at2 + length c in
    let at4 : ℕ = at3 + length d in
    let at5 : ℕ = at4 + length e in
    let h1 = rest_stands bytes at a (b ++ (c ++ (d ++ (e ++ f)))) h in
    let h2 = rest_stands bytes at1 b (c ++ (d ++ (e ++ f))) h1 in
    let h3 = rest_stands bytes at2 c (d ++ (e ++ f)) h2 in
    let h4 = rest_stands bytes at3 d (e ++ f) h3 in
    let h5 = rest_stands bytes at4 e f h4 in
    let p1 = operand_again bytes at s.first o.first is.first (front_stands bytes at a (b ++ (c ++ (d ++ (e ++ f)))) h) in
    let p2 = operand_again bytes at1 s.second o.second is.second (front_stands bytes at1 b (c ++ (d ++ (e ++ f))) h1) in
    let p3 = operand_again bytes at2 s.third o.third is.third (front_stands bytes at2 c (d ++ (e ++ f)) h2) in
    let p4 = operand_again bytes at3 s.fourth o.fourth is.fourth (front_stands bytes at3 d (e ++ f) h3) in
    let p5 = store_again bytes at4 row.store op.store is.store (front_stands bytes at4 e f h4) in
    let p6 = branch_again bytes at5 row.branch op.branch is.branch h5 in
    let long : at + length (a ++ (b ++ (c ++ (d ++ (e ++ f))))) ≡ at5 + length f = simp length-append (omega arith) in
    let text' : text_at bytes row.text (at5 + length f) ≡ Ok (op.text, end) = subst (λ (k : ℕ). text_at bytes row.text k ≡ Ok (op.text, end)) long text in
    rw (is.count, p1, p2, p3, p4, p5, p6, text') refl

-- ---- the forms

long_shape_again : (s : OperandType) → IsByteType s → long_type (long_bit s) ≡ s
long_shape_again Large h = absurd h
long_shape_again Small h = refl
long_shape_again Variable h = refl
long_shape_again Omitted h = absurd h

long_bit_below : (s : OperandType) → long_bit s < 2
long_bit_below Large = omega arith
long_bit_below Small = omega arith
long_bit_below Variable = omega arith
long_bit_below Omitted = omega arith

code_below : (s : OperandType) → type_code s < 4
code_below Large = omega arith
code_below Small = omega arith
code_below Variable = omega arith
code_below Omitted = omega arith

code_again : (s : OperandType) → type_of (type_code s) ≡ s
code_again Large = refl
code_again Small = refl
code_again Variable = refl
code_again Omitted = refl

types_again : (s : OperandTypes) → types_of (type_byte s) ≡ s
types_again s =
    let a = code_below s.first in
    let b = code_below s.second in
    let c = code_below s.third in
    let d = code_below s.fourth in
    let e1 : type_byte s / 64 % 4 ≡ type_code s.first = omega arith in
    let e2 : type_byte s / 16 % 4 ≡ type_code s.second = omega arith in
    let e3 : type_byte s / 4 % 4 ≡ type_code s.third = omega arith in
    let e4 : type_byte s % 4 ≡ type_code s.fourth = omega arith in
    rw (e1, e2, e3, e4, code_again s.first, code_again s.second, code_again s.third, code_again s.fourth) refl

same_types : (s : OperandTypes) (a b c d : OperandType) → s.first ≡ a → s.second ≡ b → s.third ≡ c → s.fourth ≡ d → record { first = a; second = b; third = c; fourth = d } ≡ s
same_types s a b c d p q r t = rw (← p, ← q, ← r, ← t) refl

long_types_again : (s : OperandTypes) (number : ℕ) → FitsForm forms.Long number s → long_types (64 * long_bit s.first + 32 * long_bit s.second + number) ≡ s
long_types_again s number fits =
    let a = long_bit_below s.first in
    let b = long_bit_below s.second in
    let lt : number < 32 = fits.0 in
    let e1 : (64 * long_bit s.first + 32 * long_bit s.second + number) / 64 % 2 ≡ long_bit s.first = omega arith in
    let e2 : (64 * long_bit s.first + 32 * long_bit s.second + number) / 32 % 2 ≡ long_bit s.second = omega arith in
    same_types s _ _ _ _ (sym (ap long_type e1 ∙ long_shape_again s.first fits.1)) (sym (ap long_type e2 ∙ long_shape_again s.second fits.2)) fits.3 fits.4

one_type_again : (s : OperandTypes) (number : ℕ) → FitsForm forms.Short number s → one_type s.first ≡ s
one_type_again s number fits = same_types s _ _ _ _ refl fits.1 fits.2 fits.3

-- ---- an instruction, by its form

abbrev text_after : List ℕ → Row → Op → ℕ → ℕ → Type 0
text_after bytes row op at end = text_at bytes row.text (at + length (tail_bytes op)) ≡ Ok (op.text, end)

below_128 : (n : ℕ) → n < 128 → ltb n 128 ≡ true
below_128 n h = lt-ltb n 128 h

not_below : (n m : ℕ) → m ≤ n → ltb n m ≡ false
not_below n m h = le-ltb n m h

not_190 : (n : ℕ) → n ≢ 190 → eqb n 190 ≡ false
not_190 n h = ne_eqb n 190 h

by_form : (rows : Rows) (form : Form) (bytes : List ℕ) (at : ℕ) (row : Row) (op : Op) (end : ℕ) → op.form ≡ form → IsOp rows row op → BytesAt bytes at (head_bytes form op.number (types_in op.operands)) → BytesAt bytes (at + length (head_bytes form op.number (types_in op.operands))) (tail_bytes op) → text_after bytes row op (at + length (head_bytes form op.number (types_in op.operands))) end → op_at rows bytes at ≡ Ok (op_found row op end)
unfolding op_at long_at short_at variable_at extended_at
by_form rows forms.Long bytes at row op end e is head tail text =
    let s = types_in op.operands in
    let fits : FitsForm forms.Long op.number s = subst (λ (f : Form). FitsForm f op.number s) e is.form in
    let known' : known rows kinds.Two op.number ≡ Ok row = subst (λ (f : Form). row_of rows f op.number s ≡ Ok row) e is.known in
    let a = long_bit_below s.first in
    let b = long_bit_below s.second in
    let lt : op.number < 32 = fits.0 in
    let small : ltb (64 * long_bit s.first + 32 * long_bit s.second + op.number) 128 ≡ true = below_128 _ (omega arith) in
    let number : (64 * long_bit s.first + 32 * long_bit s.second + op.number) % 32 ≡ op.number = omega arith in
    let types = long_types_again s op.number fits in
    let body : body_at bytes forms.Long op.number row s (at + 1) ≡ Ok (op_found row op end) = subst (λ (f : Form). body_at bytes f op.number row s (at + 1) ≡ Ok (op_found row op end)) e (body_again rows bytes (at + 1) row op end is tail text) in
    rw (head.0, small, number, known', types, body) refl
by_form rows forms.Short bytes at row op end e is head tail text =
    let s = types_in op.operands in
    let fits : FitsForm forms.Short op.number s = subst (λ (f : Form). FitsForm f op.number s) e is.form in
    let known' : known rows (short_kind s.first) op.number ≡ Ok row = subst (λ (f : Form). row_of rows f op.number s ≡ Ok row) e is.known in
    let a = code_below s.first in
    let lt : op.number < 16 = fits.0 in
    let big : ltb (128 + 16 * type_code s.first + op.number) 128 ≡ false = not_below _ _ (omega arith) in
    let other : eqb (128 + 16 * type_code s.first + op.number) 190 ≡ false = not_190 _ fits.4 in
    let small : ltb (128 + 16 * type_code s.first + op.number) 192 ≡ true = lt-ltb _ _ (omega arith) in
    let number : (128 + 16 * type_code s.first + op.number) % 16 ≡ op.number = omega arith in
    let bits : (128 + 16 * type_code s.first + op.number) / 16 % 4 ≡ type_code s.first = omega arith in
    let types = one_type_again s op.number fits in
    let body : body_at bytes forms.Short op.number row s (at + 1) ≡ Ok (op_found row op end) = subst (λ (f : Form). body_at bytes f op.number row s (at + 1) ≡ Ok (op_found row op end)) e (body_again rows bytes (at + 1) row op end is tail text) in
    rw (head.0, big, other, small, number, bits, code_again s.first, known', types, body) refl
by_form rows forms.Variable bytes at row op end e is head tail text =
    let s = types_in op.operands in
    let lt : op.number < 64 = subst (λ (f : Form). FitsForm f op.number s) e is.form in
    let known' : variable_row rows op.number ≡ Ok row = subst (λ (f : Form). row_of rows f op.number s ≡ Ok row) e is.known in
    let big : ltb (192 + op.number) 128 ≡ false = not_below _ _ (omega arith) in
    let other : eqb (192 + op.number) 190 ≡ false = not_190 _ (omega arith) in
    let large : ltb (192 + op.number) 192 ≡ false = not_below _ _ (omega arith) in
    let number : (192 + op.number) % 64 ≡ op.number = omega arith in
    let body : body_at bytes forms.Variable op.number row s (at + 2) ≡ Ok (op_found row op end) = subst (λ (f : Form). body_at bytes f op.number row s (at + 2) ≡ Ok (op_found row op end)) e (body_again rows bytes (at + 2) row op end is tail text) in
    rw (head.0, big, other, large, number, known', head.1.0, types_again s, body) refl
by_form rows forms.Extended bytes at row op end e is head tail text =
    let s = types_in op.operands in
    let known' : known rows kinds.Extended op.number ≡ Ok row = subst (λ (f : Form). row_of rows f op.number s ≡ Ok row) e is.known in
    let two : at + 1 + 1 ≡ at + 2 = omega arith in
    let third : slice_get bytes (at + 2) ≡ Some (type_byte s) = subst (λ (k : ℕ). slice_get bytes k ≡ Some (type_byte s)) two head.1.1.0 in
    let body : body_at bytes forms.Extended op.number row s (at + 3) ≡ Ok (op_found row op end) = subst (λ (f : Form). body_at bytes f op.number row s (at + 3) ≡ Ok (op_found row op end)) e (body_again rows bytes (at + 3) row op end is tail text) in
    rw (head.0, head.1.0, known', third, types_again s, body) refl

-- An instruction that stands at a place is what is decoded there.
pub instruction_again : (rows : Rows) (bytes : List ℕ) (at : ℕ) (op : Op) (end : ℕ) → (i : IsInstruction rows bytes at op end) → op_at rows bytes at ≡ Ok (op_found i.row op end)
instruction_again rows bytes at op end i =
    let head : List ℕ = head_bytes op.form op.number (types_in op.operands) in
    let long : at + length (head ++ tail_bytes op) ≡ at + length head + length (tail_bytes op) = simp length-append (omega arith) in
    let text : text_after bytes i.row op (at + length head) end = subst (λ (k : ℕ). text_at bytes i.row.text k ≡ Ok (op.text, end)) long i.text in
    by_form rows op.form bytes at i.row op end refl i.is (front_stands bytes at head (tail_bytes op) i.stands) (rest_stands bytes at head (tail_bytes op) i.stands) text
