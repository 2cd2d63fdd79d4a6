-- Words of registers in a row.
use Rattle.std.proofs.Common.{◌≡◌, ◌≢◌, ℕ, zero, suc, ◌+◌, ◌<◌, ◌≤◌, List, [], ◌∷◌, length, map, refl, sym, ap, subst, arith}
use Rattle.dg_base.specs.declared.program.CoreProgram.{CoreProgram}
use Rattle.dg_base.specs.declared.program.Term.{Term}
use Rattle.dg_meaning.specs.Values.{Value, value_of}
use Rattle.dg_mid.specs.State.{Call}
use Rattle.dg_rt.specs.Shapes.{Shape, Shows}
use Rattle.dg_rt.specs.Back.{Grown}
use Rattle.dg_rt.proofs.Grows.{grown_shows}
use Rattle.dg_turn.specs.Told.{Telling}
use Rattle.dg_turn.specs.Lies.{WordsIn, CallIn}
use Rattle.dg_turn.specs.Plays.{registers, CallAt}

-- Registers in a row stand for values.
abbrev pub InRegisters : Shape → (ℕ → ℕ) → ℕ → List Value → Type 0
InRegisters sh cells k [] = Unit {0}
InRegisters sh cells k (v ∷ vs) = Shows sh (cells k) v × InRegisters sh cells (suc k) vs

pub words_in : (sh : Shape) (cells : ℕ → ℕ) (k : ℕ) (vs : List Value) → InRegisters sh cells k vs → WordsIn sh (registers cells k (length vs)) vs
words_in sh cells k [] h = tt
words_in sh cells k (v ∷ vs) h = (h.0, words_in sh cells (suc k) vs h.1)

pub regs_of : (sh : Shape) (c : ℕ → ℕ) (k : ℕ) (vs : List Value) → WordsIn sh (registers c k (length vs)) vs → InRegisters sh c k vs
regs_of sh c k [] h = tt
regs_of sh c k (v ∷ vs) h = (h.0, regs_of sh c (suc k) vs h.1)

-- registers that stay stand for the same
pub regs_stay : (sh sh' : Shape) (c c' : ℕ → ℕ) → Grown sh sh' → (k : ℕ) (vs : List Value) → ((j : ℕ) → k ≤ j → j < k + length vs → c' j ≡ c j) → InRegisters sh c k vs → InRegisters sh' c' k vs
regs_stay sh sh' c c' g k [] same h = tt
regs_stay sh sh' c c' g k (v ∷ vs) same h = (subst (λ (y : ℕ). Shows sh' y v) (sym (same k (omega arith) (omega arith))) (grown_shows g h.0), regs_stay sh sh' c c' g (suc k) vs (λ j low lt. same j (omega arith) (omega arith)) h.1)

-- registers that stay are the same words
pub registers_same : (c c' : ℕ → ℕ) (k n : ℕ) → ((j : ℕ) → k ≤ j → j < k + n → c' j ≡ c j) → registers c' k n ≡ registers c k n
registers_same c c' k zero same = refl
registers_same c c' k (suc n) same = rw (same k (omega arith) (omega arith), registers_same c c' (suc k) n (λ j low lt. same j (omega arith) (omega arith))) refl

pub length_registers : (c : ℕ → ℕ) (k n : ℕ) → length (registers c k n) ≡ n
length_registers c k zero = refl
length_registers c k (suc n) = ap suc (length_registers c (suc k) n)

-- a call stays in registers
pub call_stays : (t : Telling) (sh : Shape) (c c' : ℕ → ℕ) (call : Call) → ((k : ℕ) → 8 ≤ k → k ≢ 12 → k < 16 + length call.args → c' k ≡ c k) → CallAt t sh c call → CallAt t sh c' call
call_stays t sh c c' call same is =
    rw (registers_same c c' 16 (length call.args) (λ j low lt. same j (omega arith) (λ e. (omega arith)) lt), same 8 (omega arith) (λ e. (omega arith)) (omega arith), same 9 (omega arith) (λ e. (omega arith)) (omega arith), same 10 (omega arith) (λ e. (omega arith)) (omega arith)) is

words_grow : {sh sh' : Shape} → Grown sh sh' → (xs : List ℕ) (vs : List Value) → WordsIn sh xs vs → WordsIn sh' xs vs
words_grow g [] [] h = tt
words_grow g [] (v ∷ vs) h = absurd h
words_grow g (x ∷ xs) [] h = absurd h
words_grow g (x ∷ xs) (v ∷ vs) h = (grown_shows g h.0, words_grow g xs vs h.1)

pub call_grows : (t : Telling) {sh sh' : Shape} → Grown sh sh' → (xs : List ℕ) (next cut many : ℕ) (call : Call) → CallIn t sh xs next cut many call → CallIn t sh' xs next cut many call
call_grows t g xs next cut many call is = record { args_are = words_grow g xs call.args is.args_are; next_is = is.next_is; cut_is = is.cut_is; many_is = is.many_is }

pub words_length : (sh : Shape) (xs : List ℕ) (vs : List Value) → WordsIn sh xs vs → length xs ≡ length vs
words_length sh [] [] h = refl
words_length sh [] (v ∷ vs) h = absurd h
words_length sh (x ∷ xs) [] h = absurd h
words_length sh (x ∷ xs) (v ∷ vs) h = ap suc (words_length sh xs vs h.1)

pub length_map : (program : CoreProgram) (env : List Value) (ts : List Term) → length (map (value_of program env) ts) ≡ length ts
length_map program env [] = refl
length_map program env (x ∷ xs) = ap suc (length_map program env xs)
