-- What is decoded stays, whatever bytes come behind, unless the bytes ended.
use Rattle.std.proofs.Common.{◌≡◌, ℕ, zero, suc, ◌+◌, ◌/◌, ◌%◌, Bool, true, false, cond, ltb, eqb, List, [], ◌∷◌, ◌++◌, drop, Some, None, Result, Ok, Err, refl, ◌∙◌, inl, inr, ◌⊎◌}
use Rattle.z_model.specs.Table.{Rows}
use Rattle.z_model.specs.declared.fault.ZFault.{ZFault}
use Rattle.z_model.specs.declared.fault.ZFault.TheVariants.{BadOpcode, OffEnd}
use Rattle.z_model.specs.declared.op.Form.{Form}
use Rattle.z_model.specs.declared.op.Form.TheVariants as forms
use Rattle.z_model.specs.declared.op.Op.{Op}
use Rattle.z_model.specs.declared.table.Row.{Row}
use Rattle.z_model.specs.declared.op.OperandType.{OperandType}
use Rattle.z_model.specs.declared.op.OperandType.TheVariants.{Large, Small, Variable, Omitted}
use Rattle.z_model.specs.declared.op.OperandTypes.{OperandTypes}
use Rattle.z_model.specs.Decode.{◌>>=◌, or_fault, byte_at, known, count_in_row, text_at, text_end, operand_at, store_at, branch_at, short_branch, long_branch, body_at, op_found, long_at, short_at, variable_at, variable_row, extended_at, op_at, short_kind, type_of, types_of, one_type, long_types}
use Rattle.z_model.specs.declared.table.Kind.TheVariants as kinds
use Rattle.z_model.specs.Spelling.{IsInstruction}
use Rattle.z_model.proofs.Again.{instruction_again}

abbrev pub Stays : {A : Type 0} → Result A ZFault → Result A ZFault → Type 0
Stays r r' = (r ≡ Err OffEnd) ⊎ (r' ≡ r)

bind_same : {A B : Type 0} (r : Result A ZFault) (f f' : A → Result B ZFault) → ((x : A) → Stays (f x) (f' x)) → Stays (r >>= f) (r >>= f')
bind_same (Ok x) f f' h = h x
bind_same (Err d) f f' h = inr refl

bind_stays : {A B : Type 0} (r r' : Result A ZFault) (f f' : A → Result B ZFault) → Stays r r' → ((x : A) → Stays (f x) (f' x)) → Stays (r >>= f) (r' >>= f')
bind_stays r r' f f' (inl e) h = inl (rw e refl)
bind_stays r r' f f' (inr e) h = rw e (bind_same r f f' h)

cond_stays : {A : Type 0} (b : Bool) (x x' y y' : Result A ZFault) → Stays x x' → Stays y y' → Stays (cond b x y) (cond b x' y')
cond_stays true x x' y y' h k = h
cond_stays false x x' y y' h k = k

module _ (more : List ℕ) where
  byte_stays : (bytes : List ℕ) (at : ℕ) → Stays (byte_at bytes at) (byte_at (bytes ++ more) at)
  byte_stays [] at = inl refl
  byte_stays (b ∷ bytes) zero = inr refl
  byte_stays (b ∷ bytes) (suc at) = byte_stays bytes at

  pub end_stays : (w : List ℕ) (at : ℕ) → (text_end w at ≡ None) ⊎ (text_end (w ++ more) at ≡ text_end w at)
  unfolding text_end
  end_stays [] at = inl refl
  end_stays (a ∷ []) at = inl refl
  end_stays (a ∷ b ∷ w) at = elim (ltb a 128) as (λ t. (cond t (text_end w (at + 2)) (Some (at + 2)) ≡ None) ⊎ (cond t (text_end (w ++ more) (at + 2)) (Some (at + 2)) ≡ cond t (text_end w (at + 2)) (Some (at + 2)))) [ true ↦ end_stays w (at + 2) | false ↦ inr refl ]

  end_at_stays : (bytes : List ℕ) (at place : ℕ) → (text_end (drop at bytes) place ≡ None) ⊎ (text_end (drop at (bytes ++ more)) place ≡ text_end (drop at bytes) place)
  unfolding text_end
  end_at_stays bytes zero place = end_stays bytes place
  end_at_stays [] (suc at) place = inl refl
  end_at_stays (b ∷ bytes) (suc at) place = end_at_stays bytes at place

  operand_stays : (bytes : List ℕ) (s : OperandType) (at : ℕ) → Stays (operand_at bytes s at) (operand_at (bytes ++ more) s at)
  unfolding operand_at
  operand_stays bytes Large at = bind_stays _ _ _ _ (byte_stays bytes at) (λ x. bind_stays _ _ _ _ (byte_stays bytes (at + 1)) (λ y. inr refl))
  operand_stays bytes Small at = bind_stays _ _ _ _ (byte_stays bytes at) (λ x. inr refl)
  operand_stays bytes Variable at = bind_stays _ _ _ _ (byte_stays bytes at) (λ x. inr refl)
  operand_stays bytes Omitted at = inr refl

  store_stays : (bytes : List ℕ) (wanted : Bool) (at : ℕ) → Stays (store_at bytes wanted at) (store_at (bytes ++ more) wanted at)
  unfolding store_at
  store_stays bytes false at = inr refl
  store_stays bytes true at = bind_stays _ _ _ _ (byte_stays bytes at) (λ x. inr refl)

  branch_stays : (bytes : List ℕ) (wanted : Bool) (at : ℕ) → Stays (branch_at bytes wanted at) (branch_at (bytes ++ more) wanted at)
  unfolding branch_at
  branch_stays bytes false at = inr refl
  branch_stays bytes true at = bind_stays _ _ _ _ (byte_stays bytes at) (λ x. cond_stays (eqb (x / 64 % 2) 1) (short_branch x at) (short_branch x at) (long_branch bytes x at) (long_branch (bytes ++ more) x at) (inr refl) (bind_stays _ _ _ _ (byte_stays bytes (at + 1)) (λ y. inr refl)))

  text_stays : (bytes : List ℕ) (wanted : Bool) (at : ℕ) → Stays (text_at bytes wanted at) (text_at (bytes ++ more) wanted at)
  unfolding text_at
  text_stays bytes false at = inr refl
  text_stays bytes true at = bind_stays _ _ _ _ (ended (end_at_stays bytes at at)) (λ x. inr refl)
    where
      ended : (text_end (drop at bytes) at ≡ None) ⊎ (text_end (drop at (bytes ++ more)) at ≡ text_end (drop at bytes) at) → Stays (or_fault OffEnd (text_end (drop at bytes) at)) (or_fault OffEnd (text_end (drop at (bytes ++ more)) at))
      ended (inl e) = inl (rw e refl)
      ended (inr e) = inr (rw e refl)

  body_stays : (bytes : List ℕ) (form : Form) (number : ℕ) (row : Row) (s : OperandTypes) (at : ℕ) → Stays (body_at bytes form number row s at) (body_at (bytes ++ more) form number row s at)
  unfolding body_at
  body_stays bytes form number row s at =
      bind_same (count_in_row row s) _ _ (λ n. bind_stays _ _ _ _ (operand_stays bytes s.first at) (λ a. bind_stays _ _ _ _ (operand_stays bytes s.second a.1) (λ b. bind_stays _ _ _ _ (operand_stays bytes s.third b.1) (λ c. bind_stays _ _ _ _ (operand_stays bytes s.fourth c.1) (λ d. bind_stays _ _ _ _ (store_stays bytes row.store d.1) (λ f. bind_stays _ _ _ _ (branch_stays bytes row.branch f.1) (λ g. bind_stays _ _ _ _ (text_stays bytes row.text g.1) (λ t. inr refl))))))))

module _ (rows : Rows) (more : List ℕ) where
  long_stays : (bytes : List ℕ) (at b : ℕ) → Stays (long_at rows bytes at b) (long_at rows (bytes ++ more) at b)
  unfolding long_at
  long_stays bytes at b = bind_same (known rows kinds.Two (b % 32)) _ _ (λ r. body_stays more bytes forms.Long (b % 32) r (long_types b) (at + 1))

  short_stays : (bytes : List ℕ) (at b : ℕ) → Stays (short_at rows bytes at b) (short_at rows (bytes ++ more) at b)
  unfolding short_at
  short_stays bytes at b = bind_same (known rows (short_kind (type_of (b / 16 % 4))) (b % 16)) _ _ (λ r. body_stays more bytes forms.Short (b % 16) r (one_type (type_of (b / 16 % 4))) (at + 1))

  variable_stays : (bytes : List ℕ) (at b : ℕ) → Stays (variable_at rows bytes at b) (variable_at rows (bytes ++ more) at b)
  unfolding variable_at
  variable_stays bytes at b = bind_same (variable_row rows (b % 64)) _ _ (λ r. bind_stays _ _ _ _ (byte_stays more bytes (at + 1)) (λ t. body_stays more bytes forms.Variable (b % 64) r (types_of t) (at + 2)))

  extended_stays : (bytes : List ℕ) (at : ℕ) → Stays (extended_at rows bytes at) (extended_at rows (bytes ++ more) at)
  unfolding extended_at
  extended_stays bytes at = bind_stays _ _ _ _ (byte_stays more bytes (at + 1)) (λ n. bind_same (known rows kinds.Extended n) _ _ (λ r. bind_stays _ _ _ _ (byte_stays more bytes (at + 2)) (λ t. body_stays more bytes forms.Extended n r (types_of t) (at + 3))))

  pub op_stays : (bytes : List ℕ) (at : ℕ) → Stays (op_at rows bytes at) (op_at rows (bytes ++ more) at)
  unfolding op_at
  op_stays bytes at =
      bind_stays _ _ _ _ (byte_stays more bytes at) (λ b. cond_stays (ltb b 128) (long_at rows bytes at b) (long_at rows (bytes ++ more) at b) _ _ (long_stays bytes at b)
      (cond_stays (eqb b 190) (extended_at rows bytes at) (extended_at rows (bytes ++ more) at) _ _ (extended_stays bytes at)
      (cond_stays (ltb b 192) (short_at rows bytes at b) (short_at rows (bytes ++ more) at b) (variable_at rows bytes at b) (variable_at rows (bytes ++ more) at b) (short_stays bytes at b) (variable_stays bytes at b))))

still_bad : {A : Type 0} (r r' : Result A ZFault) → Stays r r' → r ≡ Err BadOpcode → r' ≡ Err BadOpcode
still_bad r r' (inl e) h = absurd cc
still_bad r r' (inr e) h = e ∙ h

not_both : {A : Type 0} (r : Result A ZFault) (x : A) → r ≡ Err BadOpcode → r ≡ Ok x → ⊥
not_both r x p q = cc

-- where the bytes show that no instruction stands there, none does, whatever comes behind
pub bad_opcode : (rows : Rows) (bytes : List ℕ) (at : ℕ) → op_at rows bytes at ≡ Err BadOpcode → (more : List ℕ) (op : Op) (end : ℕ) → IsInstruction rows (bytes ++ more) at op end → ⊥
bad_opcode rows bytes at bad more op end i = not_both (op_at rows (bytes ++ more) at) (op_found i.row op end) (still_bad (op_at rows bytes at) (op_at rows (bytes ++ more) at) (op_stays rows more bytes at) bad) (instruction_again rows (bytes ++ more) at op end i)
