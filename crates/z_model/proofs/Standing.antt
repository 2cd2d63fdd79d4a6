-- What stands in the code stands on, and what stands at the counter is done.
use Rattle.std.proofs.Common.{◌≡◌, ℕ, zero, suc, ◌+◌, ◌-◌, ◌<◌, ◌≤◌, Bool, true, false, List, [], ◌∷◌, ◌++◌, length, drop, flat_map, get_or, Ok, refl, sym, ap, subst, ◌∙◌, arith, length-append}
use Rattle.std.specs.Prelude.{All, slice_get}
use Rattle.std.proofs.lemmas.Grind.{flat_map-append}
use Rattle.std.proofs.lemmas.List.{drop-drop}
use Rattle.z_model.specs.declared.op.Op.{Op}
use Rattle.z_model.specs.declared.op.Found.{Found}
use Rattle.z_model.specs.declared.story.Layout.{Layout}
use Rattle.z_model.specs.Table.{Rows}
use Rattle.z_model.specs.Decode.{◌>>=◌, op_at, text_at}
use Rattle.z_model.specs.Spelling.{spelling, BytesAt, FitsText, IsOfTable, IsInstruction}
use Rattle.z_model.specs.Text.{string_at}
use Rattle.z_model.specs.Machine.{Machine, operand_values}
use Rattle.z_model.specs.Step.{do_instr, machine_step}
use Rattle.z_model.specs.Laws.{KeepsCode, StandsOn, IsDone, IsTextless, InARow}
use Rattle.z_model.proofs.Again.{front_stands, rest_stands, instruction_again}

-- ---- the code stands on

get_behind : (l : List ℕ) (n k : ℕ) → slice_get l (n + k) ≡ slice_get (drop n l) k
get_behind l zero k = let e : 0 + k ≡ k = omega arith in rw e refl
get_behind [] (suc n) k = refl
get_behind (x ∷ l) (suc n) k = let e : suc n + k ≡ suc (n + k) = omega arith in rw e (get_behind l n k)

drop_behind : (l : List ℕ) (n k : ℕ) → drop (n + k) l ≡ drop k (drop n l)
drop_behind l n k = sym (drop-drop k n l)

module _ (layout : Layout) (old new : List ℕ) (kept : KeepsCode layout old new) where
  get_kept : (at : ℕ) → layout.base ≤ at → slice_get new at ≡ slice_get old at
  get_kept at le =
      let k : ℕ = at - layout.base in
      let e : layout.base + (at - layout.base) ≡ at = omega arith in
      subst (λ (a : ℕ). slice_get new a ≡ slice_get old a) e (get_behind new layout.base (at - layout.base) ∙ ap (λ (l : List ℕ). slice_get l (at - layout.base)) kept.code ∙ sym (get_behind old layout.base (at - layout.base)))

  drop_kept : (at : ℕ) → layout.base ≤ at → drop at new ≡ drop at old
  drop_kept at le =
      let e : layout.base + (at - layout.base) ≡ at = omega arith in
      subst (λ (a : ℕ). drop a new ≡ drop a old) e (drop_behind new layout.base (at - layout.base) ∙ ap (drop (at - layout.base)) kept.code ∙ sym (drop_behind old layout.base (at - layout.base)))

  bytes_on : (at : ℕ) (bytes : List ℕ) → layout.base ≤ at → BytesAt old at bytes → BytesAt new at bytes
  bytes_on at [] le h = tt
  bytes_on at (b ∷ bytes) le h = (get_kept at le ∙ h.0, bytes_on (at + 1) bytes (omega arith) h.1)

  text_on : (wanted : Bool) (at : ℕ) → layout.base ≤ at → text_at new wanted at ≡ text_at old wanted at
  unfolding text_at
  text_on false at le = refl
  text_on true at le = rw (drop_kept at le) refl

  instruction_on : (rows : Rows) (at : ℕ) (op : Op) (end : ℕ) → layout.base ≤ at → IsInstruction rows old at op end → IsInstruction rows new at op end
  instruction_on rows at op end le i = record {
    row = i.row;
    is = i.is;
    stands = bytes_on at (spelling op) le i.stands;
    text = text_on i.row.text (at + length (spelling op)) (omega arith) ∙ i.text;
  }

  decoded_on : (rows : Rows) (at : ℕ) (x : Found) → layout.base ≤ at → IsInstruction rows old at x.op x.end → op_at rows old at ≡ Ok x → op_at rows new at ≡ Ok x
  unfolding instruction_on
  decoded_on rows at x le i e =
      instruction_again rows new at x.op x.end (instruction_on rows at x.op x.end le i) ∙ sym (instruction_again rows old at x.op x.end i) ∙ e

  string_on : (at : ℕ) → layout.base ≤ at → string_at new at ≡ string_at old at
  unfolding string_at
  string_on at le = rw (drop_kept at le) refl

  pub stands_on : StandsOn layout old new
  stands_on = record { bytes = bytes_on; instruction = instruction_on; decoded = decoded_on; string = string_on }

-- ---- what stands at the counter

pub is_done : (rows : Rows) (layout : Layout) (word : ℕ) (m : Machine) → IsDone rows layout word m
unfolding machine_step
is_done rows layout word m = record { is = λ op end i. by_found op end i (instruction_again rows m.memory m.pc op end i) }
  where
    by_found : (op : Op) (end : ℕ) (i : IsInstruction rows m.memory m.pc op end) → op_at rows m.memory m.pc ≡ Ok (record { row = i.row; op = op; end = end }) → machine_step rows layout word m ≡ (operand_values layout m op.operands >>= λ a. do_instr layout word i.row.instr op end a.0 a.1)
    by_found op end i e = rw e refl

-- ---- instructions in a row

no_text : (rows : Rows) (bytes : List ℕ) (at : ℕ) (op : Op) → (of_table : IsOfTable rows op) → op.text ≡ 0 → text_at bytes of_table.row.text at ≡ Ok (op.text, at)
unfolding text_at
no_text rows bytes at op of_table none = by_text of_table.row.text of_table.text
  where
    by_text : (wanted : Bool) → FitsText wanted op.text → text_at bytes wanted at ≡ Ok (op.text, at)
    by_text true fits = absurd (omega (arith, fits.0))
    by_text false fits = rw none refl

at_seam : (front rest : List Op) (op d : Op) → get_or (front ++ op ∷ rest) (length front) d ≡ op
at_seam [] rest op d = refl
at_seam (x ∷ front) rest op d = at_seam front rest op d

seam_within : (front rest : List Op) (op : Op) → length front < length (front ++ op ∷ rest)
seam_within front rest op = omega (arith, length-append front (op ∷ rest))

pub in_a_row : (rows : Rows) (bytes : List ℕ) (at : ℕ) (ops : List Op) → All (IsTextless rows) ops → BytesAt bytes at (flat_map spelling ops) → InARow rows bytes at ops
in_a_row rows bytes at ops all stands = record { each = λ front rest op e. instruction front rest op (subst (λ (l : List Op). All (IsTextless rows) l) e all) (subst (λ (l : List Op). BytesAt bytes at (flat_map spelling l)) e stands) }
  where
    instruction : (front rest : List Op) (op : Op) → All (IsTextless rows) (front ++ op ∷ rest) → BytesAt bytes at (flat_map spelling (front ++ op ∷ rest)) → IsInstruction rows bytes (at + length (flat_map spelling front)) op (at + length (flat_map spelling front) + length (spelling op))
    instruction front rest op all stands =
        let textless : IsTextless rows op = subst (IsTextless rows) (at_seam front rest op op) (all (length front) op (seam_within front rest op)) in
        let split : BytesAt bytes at (flat_map spelling front ++ (spelling op ++ flat_map spelling rest)) = subst (BytesAt bytes at) (flat_map-append spelling front (op ∷ rest)) stands in
        let behind = rest_stands bytes at (flat_map spelling front) (spelling op ++ flat_map spelling rest) split in
        record {
          row = textless.of_table.row;
          is = textless.of_table.is;
          stands = front_stands bytes (at + length (flat_map spelling front)) (spelling op) (flat_map spelling rest) behind;
          text = no_text rows bytes (at + length (flat_map spelling front) + length (spelling op)) op textless.of_table textless.text;
        }
