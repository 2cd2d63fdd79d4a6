-- What is decoded is an instruction of the table, by its form.
use Rattle.std.proofs.Common.{◌≡◌, ◌≢◌, ℕ, zero, suc, ◌+◌, ◌*◌, ◌/◌, ◌%◌, ◌<◌, ◌≤◌, ltb, eqb, List, ◌++◌, length, Some, Ok, refl, sym, subst, ◌∙◌, arith, length-append, inl, inr}
use Rattle.std.specs.Prelude.{slice_get}
use Rattle.std.proofs.lemmas.Bool.{ltb-false, ltb-true, eqb-true, eqb-false}
use Rattle.z_model.specs.Table.{Rows}
use Rattle.z_model.specs.declared.fault.ZFault.TheVariants.{OffEnd}
use Rattle.z_model.specs.declared.op.Form.{Form}
use Rattle.z_model.specs.declared.op.Form.TheVariants as forms
use Rattle.z_model.specs.declared.op.Found.{Found}
use Rattle.z_model.specs.declared.table.Kind.TheVariants as kinds
use Rattle.z_model.specs.declared.table.Row.{Row}
use Rattle.z_model.specs.declared.op.OperandTypes.{OperandTypes}
use Rattle.z_model.specs.Decode.{byte_at, known, variable_row, short_kind, count_in_row, text_at, long_at, short_at, variable_at, extended_at, op_at, type_of, long_type, long_types, one_type, types_of}
use Rattle.z_model.specs.Spelling.{types_in, type_code, type_byte, long_bit, head_bytes, row_of, IsByteType, FitsForm, FitsType, BytesAt, IsInstruction, AreBytes}
use Rattle.z_model.proofs.Sought.{BodyFound, body_found, tail_of, bind_ok, or_ok, chosen, stands_both}

moved : (P : Form → ℕ → OperandTypes → Type 0) (f f' : Form) (n n' : ℕ) (s s' : OperandTypes) → f' ≡ f → n' ≡ n → s' ≡ s → P f n s → P f' n' s'
moved P f f' n n' s s' p q r h = subst (λ (g : Form). P g n' s') (sym p) (subst (λ (m : ℕ). P f m s') (sym q) (subst (λ (t : OperandTypes). P f n t) (sym r) h))

finish : (rows : Rows) (bytes : List ℕ) (at : ℕ) (form : Form) (number : ℕ) (row : Row) (s : OperandTypes) (x : Found) → row_of rows form number s ≡ Ok row → FitsForm form number s → BytesAt bytes at (head_bytes form number s) → BodyFound bytes (at + length (head_bytes form number s)) form number row s x → IsInstruction rows bytes at x.op x.end
finish rows bytes at form number row s x is fits head b =
    let long : at + length (head_bytes form number s) + length (tail_of s x.op) ≡ at + length (head_bytes form number s ++ tail_of s x.op) = omega (arith, length-append (head_bytes form number s) (tail_of s x.op)) in
    let stands : BytesAt bytes at (head_bytes form number s ++ tail_of s x.op) = stands_both bytes at (at + length (head_bytes form number s)) (head_bytes form number s) (tail_of s x.op) refl head b.stands in
    let text : text_at bytes row.text (at + length (head_bytes form number s ++ tail_of s x.op)) ≡ Ok (x.op.text, x.end) = subst (λ (p : ℕ). text_at bytes row.text p ≡ Ok (x.op.text, x.end)) long b.text in
    let f' = x.op.form in
    let n' = x.op.number in
    let s' = types_in x.op.operands in
    record {
      row = row;
      is = record {
        known = moved (λ f n t. row_of rows f n t ≡ Ok row) form f' number n' s s' b.form b.number b.types is;
        form = moved (λ f n t. FitsForm f n t) form f' number n' s s' b.form b.number b.types fits;
        count = subst (λ (t : OperandTypes). count_in_row row t ≡ Ok x.op.operands.count) (sym b.types) b.count;
        first = subst (λ (t : OperandTypes). FitsType t.first x.op.operands.first) (sym b.types) b.first;
        second = subst (λ (t : OperandTypes). FitsType t.second x.op.operands.second) (sym b.types) b.second;
        third = subst (λ (t : OperandTypes). FitsType t.third x.op.operands.third) (sym b.types) b.third;
        fourth = subst (λ (t : OperandTypes). FitsType t.fourth x.op.operands.fourth) (sym b.types) b.fourth;
        store = b.store;
        branch = b.branch;
      };
      stands = moved (λ f n t. BytesAt bytes at (head_bytes f n t ++ tail_of t x.op)) form f' number n' s s' b.form b.number b.types stands;
      text = moved (λ f n t. text_at bytes row.text (at + length (head_bytes f n t ++ tail_of t x.op)) ≡ Ok (x.op.text, x.end)) form f' number n' s s' b.form b.number b.types text;
    }

long_bit_back : (n : ℕ) → n < 2 → long_bit (long_type n) ≡ n
long_bit_back zero lt = refl
long_bit_back (suc zero) lt = refl
long_bit_back (suc (suc n)) lt = absurd (omega arith)

long_is_byte : (n : ℕ) → IsByteType (long_type n)
long_is_byte zero = tt
long_is_byte (suc n) = tt

code_back : (n : ℕ) → n < 4 → type_code (type_of n) ≡ n
code_back zero lt = refl
code_back (suc zero) lt = refl
code_back (suc (suc zero)) lt = refl
code_back (suc (suc (suc zero))) lt = refl
code_back (suc (suc (suc (suc n)))) lt = absurd (omega arith)

types_back : (b : ℕ) → b < 256 → type_byte (types_of b) ≡ b
types_back b lt =
    let e1 = code_back (b / 64 % 4) (omega arith) in
    let e2 = code_back (b / 16 % 4) (omega arith) in
    let e3 = code_back (b / 4 % 4) (omega arith) in
    let e4 = code_back (b % 4) (omega arith) in
    omega (arith, e1, e2, e3, e4)

module _ (rows : Rows) (bytes : List ℕ) (at : ℕ) (fits : AreBytes bytes) (x : Found) where
  long_found : (b : ℕ) → slice_get bytes at ≡ Some b → b < 128 → long_at rows bytes at b ≡ Ok x → IsInstruction rows bytes at x.op x.end
  unfolding long_at
  long_found b byte lt e =
      let r = bind_ok (known rows kinds.Two (b % 32)) _ x e in
      let e1 = long_bit_back (b / 64 % 2) (omega arith) in
      let e2 = long_bit_back (b / 32 % 2) (omega arith) in
      let whole : 64 * long_bit (long_type (b / 64 % 2)) + 32 * long_bit (long_type (b / 32 % 2)) + b % 32 ≡ b = omega (arith, e1, e2) in
      finish rows bytes at forms.Long (b % 32) r.0 (long_types b) x r.1 (omega arith, long_is_byte (b / 64 % 2), long_is_byte (b / 32 % 2), refl, refl) (rw whole byte, tt) (body_found bytes (at + 1) forms.Long (b % 32) r.0 (long_types b) x fits r.2)

  short_found : (b : ℕ) → slice_get bytes at ≡ Some b → 128 ≤ b → b < 192 → b ≢ 190 → short_at rows bytes at b ≡ Ok x → IsInstruction rows bytes at x.op x.end
  unfolding short_at
  short_found b byte ge lt other e =
      let r = bind_ok (known rows (short_kind (type_of (b / 16 % 4))) (b % 16)) _ x e in
      let e1 = code_back (b / 16 % 4) (omega arith) in
      let whole : 128 + 16 * type_code (type_of (b / 16 % 4)) + b % 16 ≡ b = omega (arith, e1) in
      finish rows bytes at forms.Short (b % 16) r.0 (one_type (type_of (b / 16 % 4))) x r.1 (omega arith, refl, refl, refl, λ p. other (sym whole ∙ p)) (rw whole byte, tt) (body_found bytes (at + 1) forms.Short (b % 16) r.0 (one_type (type_of (b / 16 % 4))) x fits r.2)

  variable_found : (b : ℕ) → slice_get bytes at ≡ Some b → 192 ≤ b → b < 256 → variable_at rows bytes at b ≡ Ok x → IsInstruction rows bytes at x.op x.end
  unfolding variable_at
  variable_found b byte ge lt e =
      let r = bind_ok (variable_row rows (b % 64)) _ x e in
      let t = bind_ok (byte_at bytes (at + 1)) _ x r.2 in
      let types = or_ok OffEnd (slice_get bytes (at + 1)) t.0 t.1 in
      let whole : 192 + b % 64 ≡ b = omega arith in
      finish rows bytes at forms.Variable (b % 64) r.0 (types_of t.0) x r.1 (omega arith) (rw whole byte, (rw (types_back t.0 (fits (at + 1) t.0 types)) types, tt)) (body_found bytes (at + 2) forms.Variable (b % 64) r.0 (types_of t.0) x fits t.2)

  extended_found : slice_get bytes at ≡ Some 190 → extended_at rows bytes at ≡ Ok x → IsInstruction rows bytes at x.op x.end
  unfolding extended_at
  extended_found byte e =
      let n = bind_ok (byte_at bytes (at + 1)) _ x e in
      let number = or_ok OffEnd (slice_get bytes (at + 1)) n.0 n.1 in
      let r = bind_ok (known rows kinds.Extended n.0) _ x n.2 in
      let t = bind_ok (byte_at bytes (at + 2)) _ x r.2 in
      let types = or_ok OffEnd (slice_get bytes (at + 2)) t.0 t.1 in
      let two : at + 2 ≡ at + 1 + 1 = omega arith in
      let types' : slice_get bytes (at + 1 + 1) ≡ Some t.0 = subst (λ (k : ℕ). slice_get bytes k ≡ Some t.0) two types in
      finish rows bytes at forms.Extended n.0 r.0 (types_of t.0) x r.1 (fits (at + 1) n.0 number) (byte, (number, (rw (types_back t.0 (fits (at + 2) t.0 types)) types', tt))) (body_found bytes (at + 3) forms.Extended n.0 r.0 (types_of t.0) x fits t.2)

  pub instruction_found : op_at rows bytes at ≡ Ok x → IsInstruction rows bytes at x.op x.end
  unfolding op_at
  instruction_found e =
      let f = bind_ok (byte_at bytes at) _ x e in
      let b : ℕ = f.0 in
      let byte = or_ok OffEnd (slice_get bytes at) f.0 f.1 in
      let lt : f.0 < 256 = fits at f.0 byte in
      elim (chosen (ltb f.0 128) _ _ x f.2) [
        | inl p ↦ long_found f.0 byte (ltb-true _ _ p.0) p.1
        | inr p ↦ elim (chosen (eqb f.0 190) _ _ x p.1) [
          | inl q ↦ extended_found (subst (λ (k : ℕ). slice_get bytes at ≡ Some k) (eqb-true _ _ q.0) byte) q.1
          | inr q ↦ elim (chosen (ltb f.0 192) _ _ x q.1) [
            | inl r ↦ short_found f.0 byte (ltb-false _ _ p.0) (ltb-true _ _ r.0) (eqb-false _ _ q.0) r.1
            | inr r ↦ variable_found f.0 byte (ltb-false _ _ r.0) lt r.1
          ]
        ]
      ]
