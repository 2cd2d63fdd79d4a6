-- Where the bytes end within an instruction, some bytes behind them complete it.
use Rattle.std.proofs.Common.{◌≡◌, ℕ, zero, suc, ◌+◌, ◌/◌, ◌%◌, ◌<◌, ◌≤◌, Bool, true, false, cond, ltb, eqb, List, [], ◌∷◌, ◌++◌, length, drop, Option, Some, Result, Ok, Err, arith, length-append}
use Rattle.std.proofs.lemmas.List.{drop-append-le}
use Rattle.z_model.specs.declared.fault.ZFault.{ZFault}
use Rattle.z_model.specs.declared.fault.ZFault.TheVariants.{OffEnd}
use Rattle.z_model.specs.declared.op.Form.{Form}
use Rattle.z_model.specs.declared.op.Operand.{Operand}
use Rattle.z_model.specs.declared.op.Branch.{Branch}
use Rattle.z_model.specs.declared.op.Found.{Found}
use Rattle.z_model.specs.declared.table.Row.{Row}
use Rattle.z_model.specs.declared.op.OperandType.{OperandType}
use Rattle.z_model.specs.declared.op.OperandType.TheVariants.{Large, Small, Variable, Omitted}
use Rattle.z_model.specs.declared.op.OperandTypes.{OperandTypes}
use Rattle.z_model.specs.Decode.{◌>>=◌, or_fault, byte_at, count_in_row, text_at, text_end, operand_at, store_at, branch_at, short_branch, long_branch, body_at}

-- ---- what comes behind the bytes

-- three bytes that end a text, wherever its words begin
abbrev pub marked : List ℕ
marked = 128 ∷ 128 ∷ 128 ∷ []

-- enough for four operands, a store and a branch
abbrev pub ample : List ℕ
ample = 128 ∷ 128 ∷ 128 ∷ 128 ∷ 128 ∷ 128 ∷ 128 ∷ 128 ∷ 128 ∷ 128 ∷ 128 ∷ []

-- an answer of which this holds, and no fault
abbrev pub Gives : {A : Type 0} → Result A ZFault → (A → Type 0) → Type 0
Gives (Ok x) P = P x
Gives (Err fault) P = ⊥

gives_bind : {A B : Type 0} (r : Result A ZFault) (f : A → Result B ZFault) (P : A → Type 0) (Q : B → Type 0) → Gives r P → ((x : A) → P x → Gives (f x) Q) → Gives (r >>= f) Q
gives_bind (Ok x) f P Q h k = k x h
gives_bind (Err fault) f P Q h k = absurd h

abbrev pub AnyNumber : ℕ → Type 0
AnyNumber b = Unit {0}

byte_there : (bytes : List ℕ) (at : ℕ) → at < length bytes → Gives (byte_at bytes at) AnyNumber
byte_there [] at lt = absurd (omega arith)
byte_there (b ∷ bytes) zero lt = tt
byte_there (b ∷ bytes) (suc at) lt = byte_there bytes at (omega arith)

-- ---- the parts

-- the place behind a part is at most this
abbrev Until : (A : Type 0) → ℕ → A × ℕ → Type 0
Until A most x = x.1 ≤ most

operand_whole : (bytes : List ℕ) (s : OperandType) (at : ℕ) → at + 2 ≤ length bytes → Gives (operand_at bytes s at) (Until Operand (at + 2))
unfolding operand_at
operand_whole bytes Large at room = gives_bind (byte_at bytes at) _ AnyNumber _ (byte_there bytes at (omega arith)) (λ x _. gives_bind (byte_at bytes (at + 1)) _ AnyNumber _ (byte_there bytes (at + 1) (omega arith)) (λ y _. omega arith))
operand_whole bytes Small at room = gives_bind (byte_at bytes at) _ AnyNumber _ (byte_there bytes at (omega arith)) (λ x _. omega arith)
operand_whole bytes Variable at room = gives_bind (byte_at bytes at) _ AnyNumber _ (byte_there bytes at (omega arith)) (λ x _. omega arith)
operand_whole bytes Omitted at room = omega arith

store_whole : (bytes : List ℕ) (wanted : Bool) (at : ℕ) → at + 1 ≤ length bytes → Gives (store_at bytes wanted at) (Until (Option ℕ) (at + 1))
unfolding store_at
store_whole bytes false at room = omega arith
store_whole bytes true at room = gives_bind (byte_at bytes at) _ AnyNumber _ (byte_there bytes at (omega arith)) (λ x _. omega arith)

cond_gives : {A : Type 0} (b : Bool) (r r' : Result A ZFault) (P : A → Type 0) → Gives r P → Gives r' P → Gives (cond b r r') P
cond_gives true r r' P h k = h
cond_gives false r r' P h k = k

branch_whole : (bytes : List ℕ) (wanted : Bool) (at : ℕ) → at + 2 ≤ length bytes → Gives (branch_at bytes wanted at) (Until (Option Branch) (at + 2))
unfolding branch_at
branch_whole bytes false at room = omega arith
branch_whole bytes true at room = gives_bind (byte_at bytes at) _ AnyNumber _ (byte_there bytes at (omega arith)) (λ x _. cond_gives (eqb (x / 64 % 2) 1) (short_branch x at) (long_branch bytes x at) (Until (Option Branch) (at + 2)) (omega arith) (gives_bind (byte_at bytes (at + 1)) _ AnyNumber _ (byte_there bytes (at + 1) (omega arith)) (λ y _. omega arith)))

-- ---- the text

marked_end : (w : List ℕ) (at : ℕ) → Gives (or_fault OffEnd (text_end (w ++ marked) at)) AnyNumber
unfolding text_end
marked_end [] at = tt
marked_end (a ∷ []) at = elim (ltb a 128) as (λ t. Gives (or_fault OffEnd (cond t (Some (at + 2 + 2)) (Some (at + 2)))) AnyNumber) [ true ↦ tt | false ↦ tt ]
marked_end (a ∷ b ∷ w) at = elim (ltb a 128) as (λ t. Gives (or_fault OffEnd (cond t (text_end (w ++ marked) (at + 2)) (Some (at + 2)))) AnyNumber) [ true ↦ marked_end w (at + 2) | false ↦ tt ]

abbrev pub Done : (A : Type 0) → A → Type 0
Done A x = Unit {0}

text_whole : (front : List ℕ) (wanted : Bool) (at : ℕ) → at ≤ length front → Gives (text_at (front ++ marked) wanted at) (Done (ℕ × ℕ))
unfolding text_at
text_whole front false at room = tt
text_whole front true at room =
    let behind : drop at (front ++ marked) ≡ drop at front ++ marked = drop-append-le at front marked room in
    let there : Gives (or_fault OffEnd (text_end (drop at (front ++ marked)) at)) AnyNumber = rw behind (marked_end (drop at front) at) in
    gives_bind (or_fault OffEnd (text_end (drop at (front ++ marked)) at)) _ AnyNumber _ there (λ x _. tt)

-- ---- what stands behind the types

pub body_whole : (front : List ℕ) (form : Form) (number : ℕ) (row : Row) (s : OperandTypes) (at : ℕ) → at + length ample ≤ length front → Gives (count_in_row row s) AnyNumber → Gives (body_at (front ++ marked) form number row s at) (Done Found)
unfolding body_at
body_whole front form number row s at room count =
    let bytes : List ℕ = front ++ marked in
    let long : length (front ++ marked) ≡ length front + 3 = length-append front marked in
    gives_bind (count_in_row row s) _ AnyNumber _ count (λ n _.
    gives_bind (operand_at bytes s.first at) _ (Until Operand (at + 2)) _ (operand_whole bytes s.first at (omega arith)) (λ a ha.
    gives_bind (operand_at bytes s.second a.1) _ (Until Operand (at + 4)) _ (later (operand_at bytes s.second a.1) (operand_whole bytes s.second a.1 (omega arith)) (omega arith)) (λ b hb.
    gives_bind (operand_at bytes s.third b.1) _ (Until Operand (at + 6)) _ (later (operand_at bytes s.third b.1) (operand_whole bytes s.third b.1 (omega arith)) (omega arith)) (λ c hc.
    gives_bind (operand_at bytes s.fourth c.1) _ (Until Operand (at + 8)) _ (later (operand_at bytes s.fourth c.1) (operand_whole bytes s.fourth c.1 (omega arith)) (omega arith)) (λ d hd.
    gives_bind (store_at bytes row.store d.1) _ (Until (Option ℕ) (at + 9)) _ (later (store_at bytes row.store d.1) (store_whole bytes row.store d.1 (omega arith)) (omega arith)) (λ f hf.
    gives_bind (branch_at bytes row.branch f.1) _ (Until (Option Branch) (at + 11)) _ (later (branch_at bytes row.branch f.1) (branch_whole bytes row.branch f.1 (omega arith)) (omega arith)) (λ g hg.
    gives_bind (text_at bytes row.text g.1) _ (Done (ℕ × ℕ)) _ (text_whole front row.text g.1 (omega arith)) (λ t _. tt))))))))
  where
    later : {A : Type 0} {n m : ℕ} (r : Result (A × ℕ) ZFault) → Gives r (Until A n) → n ≤ m → Gives r (Until A m)
    later (Ok x) h le = omega arith
    later (Err fault) h le = h
