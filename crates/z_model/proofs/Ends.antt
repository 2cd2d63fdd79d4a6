-- An instruction ends within the bytes in which it stands, and stands in each front of them in which it ends.
use Rattle.std.proofs.Common.{◌≡◌, ℕ, zero, suc, ◌+◌, ◌-◌, ◌<◌, ◌≤◌, Bool, true, false, cond, ltb, List, [], ◌∷◌, ◌++◌, length, drop, Some, Result, Ok, ap, subst, arith, length-drop}
use Rattle.std.specs.Prelude.{slice_get}
use Rattle.std.proofs.lemmas.List.{drop-append-le}
use Rattle.std.proofs.lemmas.Option.{slice_get_within}
use Rattle.z_model.specs.Table.{Rows}
use Rattle.z_model.specs.declared.fault.ZFault.{ZFault}
use Rattle.z_model.specs.declared.fault.ZFault.TheVariants.{OffEnd}
use Rattle.z_model.specs.declared.op.Form.{Form}
use Rattle.z_model.specs.declared.op.Form.TheVariants as forms
use Rattle.z_model.specs.declared.op.Op.{Op}
use Rattle.z_model.specs.declared.op.OperandTypes.{OperandTypes}
use Rattle.z_model.specs.Decode.{or_fault, text_end, text_at}
use Rattle.z_model.specs.Spelling.{spelling, head_bytes, types_in, BytesAt, IsInstruction}
use Rattle.z_model.proofs.Sought.{bind_ok, or_ok}

-- ---- bytes that stand at a place

stands_within : (bytes : List ℕ) (at : ℕ) (xs : List ℕ) → 0 < length xs → BytesAt bytes at xs → at + length xs ≤ length bytes
stands_within bytes at [] some h = absurd (omega arith)
stands_within bytes at (x ∷ []) some h = let lt = slice_get_within bytes at x h.0 in omega arith
stands_within bytes at (x ∷ y ∷ xs) some h = let more = stands_within bytes (at + 1) (y ∷ xs) (omega arith) h.1 in omega arith

byte_front : (bytes more : List ℕ) (i : ℕ) (x : ℕ) → i < length bytes → slice_get (bytes ++ more) i ≡ Some x → slice_get bytes i ≡ Some x
byte_front [] more i x lt e = absurd (omega arith)
byte_front (b ∷ bytes) more zero x lt e = e
byte_front (b ∷ bytes) more (suc i) x lt e = byte_front bytes more i x (omega arith) e

stands_front : (bytes more : List ℕ) (at : ℕ) (xs : List ℕ) → at + length xs ≤ length bytes → BytesAt (bytes ++ more) at xs → BytesAt bytes at xs
stands_front bytes more at [] le h = tt
stands_front bytes more at (x ∷ xs) le h = (byte_front bytes more at x (omega arith) h.0, stands_front bytes more (at + 1) xs (omega arith) h.1)

head_some : (form : Form) (number : ℕ) (s : OperandTypes) (tail : List ℕ) → 0 < length (head_bytes form number s ++ tail)
head_some forms.Long number s tail = omega arith
head_some forms.Short number s tail = omega arith
head_some forms.Variable number s tail = omega arith
head_some forms.Extended number s tail = omega arith

spelling_some : (op : Op) → 0 < length (spelling op)
spelling_some op = head_some op.form op.number (types_in op.operands) _

-- ---- texts

record EndsWithin (w : List ℕ) (at n : ℕ) : Type 0 where
  least : at + 2 ≤ n
  most : n ≤ at + length w

text_within : (w : List ℕ) (at n : ℕ) → text_end w at ≡ Some n → EndsWithin w at n
unfolding text_end
text_within [] at n e = absurd cc
text_within (a ∷ []) at n e = absurd cc
text_within (a ∷ b ∷ w) at n e = by_mark (text_within w (at + 2) n) (ltb a 128) e
  where
    by_mark : (text_end w (at + 2) ≡ Some n → EndsWithin w (at + 2) n) → (t : Bool) → cond t (text_end w (at + 2)) (Some (at + 2)) ≡ Some n → EndsWithin (a ∷ b ∷ w) at n
    by_mark more true e = let r = more e in record { least = let l = r.least in omega arith; most = let m = r.most in omega arith }
    by_mark more false e = let is : at + 2 ≡ n = cc in record { least = omega arith; most = omega arith }

text_front : (w more : List ℕ) (at n : ℕ) → n ≤ at + length w → text_end (w ++ more) at ≡ Some n → text_end w at ≡ Some n
unfolding text_end
text_front [] more at n le e = let l = (text_within more at n e).least in absurd (omega arith)
text_front (a ∷ []) more at n le e = let l = (text_within (a ∷ more) at n e).least in absurd (omega arith)
text_front (a ∷ b ∷ w) more at n le e = by_mark (λ h. text_front w more (at + 2) n (omega arith) h) (ltb a 128) e
  where
    by_mark : (text_end (w ++ more) (at + 2) ≡ Some n → text_end w (at + 2) ≡ Some n) → (t : Bool) → cond t (text_end (w ++ more) (at + 2)) (Some (at + 2)) ≡ Some n → cond t (text_end w (at + 2)) (Some (at + 2)) ≡ Some n
    by_mark more true e = more e
    by_mark more false e = e

abbrev text_ok : ℕ × ℕ → Result (ℕ × ℕ) ZFault
text_ok x = Ok x

same_text : (x y : ℕ × ℕ) → text_ok x ≡ text_ok y → x ≡ y
same_text x y e = cc

-- where the text of an instruction ends
record TextEnds (bytes : List ℕ) (at end : ℕ) : Type 0 where
  begins : at ≤ end
  within : at ≤ length bytes → end ≤ length bytes

text_ends : (bytes : List ℕ) (wanted : Bool) (at n end : ℕ) → text_at bytes wanted at ≡ Ok (n, end) → TextEnds bytes at end
unfolding text_at
text_ends bytes false at n end e =
    let same : at ≡ end = ap (λ (x : ℕ × ℕ). x.1) (same_text (0, at) (n, end) e) in
    record { begins = omega arith; within = λ le. omega arith }
text_ends bytes true at n end e =
    let found = bind_ok (or_fault OffEnd (text_end (drop at bytes) at)) _ (n, end) e in
    let there : text_end (drop at bytes) at ≡ Some found.0 = or_ok OffEnd (text_end (drop at bytes) at) found.0 found.1 in
    let same : found.0 ≡ end = ap (λ (x : ℕ × ℕ). x.1) (same_text (found.0 - at, found.0) (n, end) found.2) in
    let range = text_within (drop at bytes) at found.0 there in
    let least = range.least in
    let most = range.most in
    let long : length (drop at bytes) ≡ length bytes - at = length-drop at bytes in
    record { begins = omega arith; within = λ le. omega arith }

text_at_front : (bytes more : List ℕ) (wanted : Bool) (at n end : ℕ) → at ≤ length bytes → end ≤ length bytes → text_at (bytes ++ more) wanted at ≡ Ok (n, end) → text_at bytes wanted at ≡ Ok (n, end)
unfolding text_at
text_at_front bytes more false at n end le within e = e
text_at_front bytes more true at n end le within e =
    let found = bind_ok (or_fault OffEnd (text_end (drop at (bytes ++ more)) at)) _ (n, end) e in
    let there : text_end (drop at (bytes ++ more)) at ≡ Some found.0 = or_ok OffEnd (text_end (drop at (bytes ++ more)) at) found.0 found.1 in
    let same : found.0 ≡ end = ap (λ (x : ℕ × ℕ). x.1) (same_text (found.0 - at, found.0) (n, end) found.2) in
    let behind : drop at (bytes ++ more) ≡ drop at bytes ++ more = drop-append-le at bytes more le in
    let long : length (drop at bytes) ≡ length bytes - at = length-drop at bytes in
    let here : text_end (drop at bytes) at ≡ Some found.0 = text_front (drop at bytes) more at found.0 (omega arith) (subst (λ (w : List ℕ). text_end w at ≡ Some found.0) behind there) in
    rw here found.2

-- ---- instructions

pub ends_within : (rows : Rows) (bytes : List ℕ) (at : ℕ) (op : Op) (end : ℕ) → IsInstruction rows bytes at op end → end ≤ length bytes
ends_within rows bytes at op end i = (text_ends bytes i.row.text (at + length (spelling op)) op.text end i.text).within (stands_within bytes at (spelling op) (spelling_some op) i.stands)

pub stands_in_front : (rows : Rows) (bytes more : List ℕ) (at : ℕ) (op : Op) (end : ℕ) → end ≤ length bytes → IsInstruction rows (bytes ++ more) at op end → IsInstruction rows bytes at op end
stands_in_front rows bytes more at op end le i =
    let begins = (text_ends (bytes ++ more) i.row.text (at + length (spelling op)) op.text end i.text).begins in
    let room : at + length (spelling op) ≤ length bytes = omega arith in
    record {
      row = i.row;
      is = i.is;
      stands = stands_front bytes more at (spelling op) room i.stands;
      text = text_at_front bytes more i.row.text (at + length (spelling op)) op.text end room le i.text;
    }
