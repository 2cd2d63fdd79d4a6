-- Where decoding fails, and by which fault.
use Rattle.std.proofs.Common.{◌≡◌, ℕ, ◌+◌, ◌-◌, ◌/◌, ◌%◌, ◌<◌, ◌≤◌, Bool, true, false, cond, ltb, eqb, List, [], ◌++◌, length, drop, Option, Some, None, Result, Ok, Err, refl, sym, subst, ◌∙◌, arith, append-nil, inl, inr, ◌⊎◌}
use Rattle.std.specs.Prelude.{slice_get}
use Rattle.std.proofs.lemmas.Bool.{cases_lt}
use Rattle.z_model.specs.declared.fault.ZFault.{ZFault}
use Rattle.z_model.specs.declared.fault.ZFault.TheVariants.{BadOpcode, OffEnd}
use Rattle.z_model.specs.declared.op.Form.{Form}
use Rattle.z_model.specs.declared.op.Form.TheVariants as forms
use Rattle.z_model.specs.declared.op.Op.{Op}
use Rattle.z_model.specs.declared.op.Found.{Found}
use Rattle.z_model.specs.declared.table.Kind.{Kind}
use Rattle.z_model.specs.declared.table.Kind.TheVariants as kinds
use Rattle.z_model.specs.declared.table.Row.{Row}
use Rattle.z_model.specs.declared.op.OperandType.{OperandType}
use Rattle.z_model.specs.declared.op.OperandType.TheVariants.{Large, Small, Variable, Omitted}
use Rattle.z_model.specs.declared.op.OperandTypes.{OperandTypes}
use Rattle.z_model.specs.Table.{player_rows, row_at}
use Rattle.z_model.specs.Decode.{◌>>=◌, or_fault, byte_at, known, present, operand_count, count_in_row, operand_at, store_at, branch_at, short_branch, long_branch, text_end, text_at, body_at, op_found, long_at, short_at, short_kind, variable_row, variable_at, extended_at, op_at, type_of, types_of, one_type, long_types}
use Rattle.z_model.specs.Spelling.{IsInstruction, AreBytes}
use Rattle.z_model.specs.Undecoded.{PassesEnd, NoneBegins, Undecoded}
use Rattle.z_model.proofs.Again.{instruction_again}
use Rattle.z_model.proofs.SoughtForms.{instruction_found}
use Rattle.z_model.proofs.Stays.{Stays, op_stays, bad_opcode}
use Rattle.z_model.proofs.CompletedForms.{Decoded, no_bytes, both_bytes, op_completed}
use Rattle.z_model.proofs.Ends.{ends_within, stands_in_front}

-- ---- the two faults of decoding

abbrev OfDecoding : ZFault → Type 0
OfDecoding fault = (fault ≡ OffEnd) ⊎ (fault ≡ BadOpcode)

-- an answer, or a fault of decoding
abbrev Decodes : {A : Type 0} → Result A ZFault → Type 0
Decodes (Ok x) = Unit {0}
Decodes (Err fault) = OfDecoding fault

bind_decodes : {A B : Type 0} (r : Result A ZFault) (f : A → Result B ZFault) → Decodes r → ((x : A) → Decodes (f x)) → Decodes (r >>= f)
bind_decodes (Ok x) f h k = k x
bind_decodes (Err fault) f h k = h

cond_decodes : {A : Type 0} (b : Bool) (x y : Result A ZFault) → Decodes x → Decodes y → Decodes (cond b x y)
cond_decodes true x y h k = h
cond_decodes false x y h k = k

or_decodes : {A : Type 0} (fault : ZFault) (o : Option A) → OfDecoding fault → Decodes (or_fault fault o)
or_decodes fault (Some x) h = tt
or_decodes fault None h = h

byte_decodes : (bytes : List ℕ) (at : ℕ) → Decodes (byte_at bytes at)
byte_decodes bytes at = or_decodes OffEnd (slice_get bytes at) (inl refl)

known_decodes : (kind : Kind) (number : ℕ) → Decodes (known player_rows kind number)
known_decodes kind number = or_decodes BadOpcode (row_at player_rows kind number) (inr refl)

count_decodes : (s : OperandTypes) → Decodes (operand_count s)
unfolding operand_count
count_decodes s = cond_decodes (ltb (present s.first) (present s.second)) _ _ (inr refl) (cond_decodes (ltb (present s.second) (present s.third)) _ _ (inr refl) (cond_decodes (ltb (present s.third) (present s.fourth)) _ _ (inr refl) tt))

counted_decodes : (row : Row) (s : OperandTypes) → Decodes (count_in_row row s)
unfolding count_in_row
counted_decodes row s = bind_decodes (operand_count s) _ (count_decodes s) (λ n. cond_decodes (ltb n row.fewest) _ _ (inr refl) (cond_decodes (ltb row.most n) _ _ (inr refl) tt))

operand_decodes : (bytes : List ℕ) (s : OperandType) (at : ℕ) → Decodes (operand_at bytes s at)
unfolding operand_at
operand_decodes bytes Large at = bind_decodes (byte_at bytes at) _ (byte_decodes bytes at) (λ x. bind_decodes (byte_at bytes (at + 1)) _ (byte_decodes bytes (at + 1)) (λ y. tt))
operand_decodes bytes Small at = bind_decodes (byte_at bytes at) _ (byte_decodes bytes at) (λ x. tt)
operand_decodes bytes Variable at = bind_decodes (byte_at bytes at) _ (byte_decodes bytes at) (λ x. tt)
operand_decodes bytes Omitted at = tt

store_decodes : (bytes : List ℕ) (wanted : Bool) (at : ℕ) → Decodes (store_at bytes wanted at)
unfolding store_at
store_decodes bytes false at = tt
store_decodes bytes true at = bind_decodes (byte_at bytes at) _ (byte_decodes bytes at) (λ x. tt)

branch_decodes : (bytes : List ℕ) (wanted : Bool) (at : ℕ) → Decodes (branch_at bytes wanted at)
unfolding branch_at
branch_decodes bytes false at = tt
branch_decodes bytes true at = bind_decodes (byte_at bytes at) _ (byte_decodes bytes at) (λ x. cond_decodes (eqb (x / 64 % 2) 1) (short_branch x at) (long_branch bytes x at) tt (bind_decodes (byte_at bytes (at + 1)) _ (byte_decodes bytes (at + 1)) (λ y. tt)))

text_decodes : (bytes : List ℕ) (wanted : Bool) (at : ℕ) → Decodes (text_at bytes wanted at)
unfolding text_at
text_decodes bytes false at = tt
text_decodes bytes true at = bind_decodes (or_fault OffEnd (text_end (drop at bytes) at)) _ (or_decodes OffEnd (text_end (drop at bytes) at) (inl refl)) (λ end. tt)

body_decodes : (bytes : List ℕ) (form : Form) (number : ℕ) (row : Row) (s : OperandTypes) (at : ℕ) → Decodes (body_at bytes form number row s at)
unfolding body_at
body_decodes bytes form number row s at =
    bind_decodes (count_in_row row s) _ (counted_decodes row s) (λ n.
    bind_decodes (operand_at bytes s.first at) _ (operand_decodes bytes s.first at) (λ a.
    bind_decodes (operand_at bytes s.second a.1) _ (operand_decodes bytes s.second a.1) (λ b.
    bind_decodes (operand_at bytes s.third b.1) _ (operand_decodes bytes s.third b.1) (λ c.
    bind_decodes (operand_at bytes s.fourth c.1) _ (operand_decodes bytes s.fourth c.1) (λ d.
    bind_decodes (store_at bytes row.store d.1) _ (store_decodes bytes row.store d.1) (λ f.
    bind_decodes (branch_at bytes row.branch f.1) _ (branch_decodes bytes row.branch f.1) (λ g.
    bind_decodes (text_at bytes row.text g.1) _ (text_decodes bytes row.text g.1) (λ t. tt))))))))

op_decodes : (bytes : List ℕ) (at : ℕ) → Decodes (op_at player_rows bytes at)
unfolding op_at long_at short_at variable_at extended_at
op_decodes bytes at = bind_decodes (byte_at bytes at) _ (byte_decodes bytes at) (λ b.
    cond_decodes (ltb b 128) (long_at player_rows bytes at b) _ (bind_decodes (known player_rows kinds.Two (b % 32)) _ (known_decodes kinds.Two (b % 32)) (λ r. body_decodes bytes forms.Long (b % 32) r (long_types b) (at + 1)))
    (cond_decodes (eqb b 190) (extended_at player_rows bytes at) _ (bind_decodes (byte_at bytes (at + 1)) _ (byte_decodes bytes (at + 1)) (λ n. bind_decodes (known player_rows kinds.Extended n) _ (known_decodes kinds.Extended n) (λ r. bind_decodes (byte_at bytes (at + 2)) _ (byte_decodes bytes (at + 2)) (λ t. body_decodes bytes forms.Extended n r (types_of t) (at + 3)))))
    (cond_decodes (ltb b 192) (short_at player_rows bytes at b) (variable_at player_rows bytes at b)
    (bind_decodes (known player_rows (short_kind (type_of (b / 16 % 4))) (b % 16)) _ (known_decodes (short_kind (type_of (b / 16 % 4))) (b % 16)) (λ r. body_decodes bytes forms.Short (b % 16) r (one_type (type_of (b / 16 % 4))) (at + 1)))
    (bind_decodes (variable_row player_rows (b % 64)) _ (cond_decodes (ltb (b % 64) 32) (known player_rows kinds.Two (b % 64)) _ (known_decodes kinds.Two (b % 64)) (known_decodes kinds.Several (b % 64 - 32))) (λ r. bind_decodes (byte_at bytes (at + 1)) _ (byte_decodes bytes (at + 1)) (λ t. body_decodes bytes forms.Variable (b % 64) r (types_of t) (at + 2)))))))

-- ---- what each fault says

module _ (bytes : List ℕ) (at : ℕ) (are : AreBytes bytes) where
  never_both : {A : Type 0} (r : Result A ZFault) (x : A) (fault : ZFault) → r ≡ Ok x → r ≡ Err fault → ⊥
  never_both r x fault p q = cc

  off_passes : op_at player_rows bytes at ≡ Err OffEnd → PassesEnd player_rows bytes at
  off_passes off =
      let c = op_completed bytes at off in
      let x = found_of (op_at player_rows (bytes ++ c.0) at) c.2 in
      let i : IsInstruction player_rows (bytes ++ c.0) at x.0.op x.0.end = instruction_found player_rows (bytes ++ c.0) at (both_bytes bytes c.0 are c.1) x.0 x.1 in
      record { more = c.0; are_bytes = c.1; op = x.0.op; end = x.0.end; there = i; passes = by_end c.0 x.0.op x.0.end i (cases_lt (length bytes) x.0.end) }
    where
      found_of : (r : Result Found ZFault) → Decoded r → (x : Found) × (r ≡ Ok x)
      found_of (Ok x) h = (x, refl)
      found_of (Err fault) h = absurd h

      by_end : (more : List ℕ) (op : Op) (end : ℕ) → IsInstruction player_rows (bytes ++ more) at op end → (length bytes < end) ⊎ (end ≤ length bytes) → length bytes < end
      by_end more op end i (inl lt) = lt
      by_end more op end i (inr le) =
          let j = stands_in_front player_rows bytes more at op end le i in
          absurd (never_both (op_at player_rows bytes at) (op_found j.row op end) OffEnd (instruction_again player_rows bytes at op end j) off)

  passes_off : PassesEnd player_rows bytes at → op_at player_rows bytes at ≡ Err OffEnd
  passes_off p = by_case (op_stays player_rows p.more bytes at)
    where
      by_case : Stays (op_at player_rows bytes at) (op_at player_rows (bytes ++ p.more) at) → op_at player_rows bytes at ≡ Err OffEnd
      by_case (inl off) = off
      by_case (inr same) =
          let there : op_at player_rows bytes at ≡ Ok (op_found p.there.row p.op p.end) = sym same ∙ instruction_again player_rows (bytes ++ p.more) at p.op p.end p.there in
          let short : p.end ≤ length bytes = ends_within player_rows bytes at p.op p.end (instruction_found player_rows bytes at are (op_found p.there.row p.op p.end) there) in
          let long : length bytes < p.end = p.passes in
          absurd (omega arith)

  none_bad : NoneBegins player_rows bytes at → op_at player_rows bytes at ≡ Err BadOpcode
  none_bad none = by_answer (op_at player_rows bytes at) (op_decodes bytes at) refl
    where
      by_answer : (r : Result Found ZFault) → Decodes r → op_at player_rows bytes at ≡ r → op_at player_rows bytes at ≡ Err BadOpcode
      by_answer (Ok x) h e =
          let i : IsInstruction player_rows bytes at x.op x.end = instruction_found player_rows bytes at are x e in
          absurd (none [] no_bytes x.op x.end (subst (λ (w : List ℕ). IsInstruction player_rows w at x.op x.end) (sym (append-nil bytes)) i))
      by_answer (Err fault) (inl off) e = let p = off_passes (e ∙ cc) in absurd (none p.more p.are_bytes p.op p.end p.there)
      by_answer (Err fault) (inr bad) e = e ∙ cc

  only_two : (fault : ZFault) → op_at player_rows bytes at ≡ Err fault → OfDecoding fault
  only_two fault e = by_answer (op_at player_rows bytes at) (op_decodes bytes at) e
    where
      by_answer : (r : Result Found ZFault) → Decodes r → r ≡ Err fault → OfDecoding fault
      by_answer (Ok x) h e = absurd cc
      by_answer (Err f) h e = let same : f ≡ fault = cc in subst (λ (g : ZFault). OfDecoding g) same h

  pub undecoded_holds : Undecoded player_rows bytes at
  undecoded_holds = record {
    off_end = (off_passes, passes_off);
    bad_opcode = (λ bad more more_are op end i. bad_opcode player_rows bytes at bad more op end i, none_bad);
    other = only_two;
  }
