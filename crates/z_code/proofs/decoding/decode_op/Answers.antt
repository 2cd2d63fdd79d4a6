use Rattle.std.proofs.Common.{◌≡◌, ℕ, List, get_or, Result, Ok, Err, IfErr, Fits, w8, refl, sym, ap, ◌∙◌, arith}
use Rattle.std.proofs.lemmas.Option.{get_or_from_slice_get}
use Rattle.z_model.specs.declared.fault.ZFault.{ZFault}
use Rattle.z_model.specs.declared.table.Row.{Row}
use Rattle.z_model.specs.declared.op.Op.{Op}
use Rattle.z_model.specs.declared.op.Found.{Found}
use Rattle.z_model.specs.Table.{player_rows}
use Rattle.z_model.specs.Decode.{op_found}
use Rattle.z_model.specs.Spelling.{AreBytes}
use Rattle.z_code.specs.Decoded.{op_and_end}
use Rattle.z_code.proofs.decoding.decode_op.Goals as goal

are_bytes : (bytes : List ℕ) → ((i : ℕ) → Fits w8 (get_or bytes i 0)) → AreBytes bytes
are_bytes bytes fits i b e = let is = get_or_from_slice_get bytes i b 0 e in let fit = fits i in omega arith

if_err : (r : Result (Op × ℕ) ZFault) (P : ZFault → Type 0) → ((fault : ZFault) → r ≡ Err fault → P fault) → IfErr r P
if_err (Ok x) P h = tt
if_err (Err fault) P h = h fault refl

-- the row that an answer leaves out
with_row : (r : Result Found ZFault) (op : Op) (end : ℕ) → op_and_end r ≡ Ok (op, end) → (row : Row) × (r ≡ Ok (op_found row op end))
with_row (Ok x) op end e =
    let same : (x.op, x.end) ≡ (op, end) = cc in
    let op_same : x.op ≡ op = ap (λ (p : Op × ℕ). p.0) same in
    let end_same : x.end ≡ end = ap (λ (p : Op × ℕ). p.1) same in
    (x.row, rw (← op_same, ← end_same) refl)
with_row (Err fault) op end e = absurd cc

same_fault : (r : Result Found ZFault) (fault : ZFault) → op_and_end r ≡ Err fault → r ≡ Err fault
same_fault (Ok x) fault e = absurd cc
same_fault (Err f) fault e = cc

pub returns-clause-found : goal.returns-clause-found
returns-clause-found c =
    let is = c.op_and_end.ensures.op in
    let law = c.instructions_again.ensures player_rows c.args.bytes.now c.args.at in
    λ op end. (λ e. let there = with_row _ op end (sym is ∙ e) in law.there (are_bytes c.args.bytes.now c.type_inv.bytes) there.0 op end there.1, λ i. is ∙ ap op_and_end (law.again op end i))

pub returns-clause-off_end : goal.returns-clause-off_end
returns-clause-off_end c =
    let is = c.op_and_end.ensures.op in
    let law = c.faults_are_exact.ensures c.args.bytes.now c.args.at (are_bytes c.args.bytes.now c.type_inv.bytes) in
    (λ e. law.off_end.0 (same_fault _ _ (sym is ∙ e)), λ p. is ∙ ap op_and_end (law.off_end.1 p))

pub returns-clause-bad_opcode : goal.returns-clause-bad_opcode
returns-clause-bad_opcode c =
    let is = c.op_and_end.ensures.op in
    let law = c.faults_are_exact.ensures c.args.bytes.now c.args.at (are_bytes c.args.bytes.now c.type_inv.bytes) in
    (λ e. law.bad_opcode.0 (same_fault _ _ (sym is ∙ e)), λ none. is ∙ ap op_and_end (law.bad_opcode.1 none))

pub returns-clause-faults : goal.returns-clause-faults
returns-clause-faults c =
    let law = c.faults_are_exact.ensures c.args.bytes.now c.args.at (are_bytes c.args.bytes.now c.type_inv.bytes) in
    if_err c.op_and_end.result _ (λ fault e. law.other fault (same_fault _ _ (sym c.op_and_end.ensures.op ∙ e)))
