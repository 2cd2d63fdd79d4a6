-- The routines that read and write bytes of objects do so.
use Rattle.std.proofs.Common.{◌≡◌, ◌≢◌, ℕ, zero, suc, ◌+◌, ◌-◌, ◌*◌, ◌/◌, ◌%◌, ◌<◌, ◌≤◌, inl, inr, Bool, true, false, List, [], ◌∷◌, drop, Some, refl, sym, ap, ◌∙◌, subst, arith}
use Rattle.std.specs.Prelude.{◌==◌, if◌then◌else◌}
use Rattle.std.proofs.lemmas.Bool.{eq-eqb, ne_eqb, cases_eq}
use Rattle.std.proofs.lemmas.Nat.{and_mask}
use Rattle.z_lang.specs.declared.act.Atom.TheVariants as atoms
use Rattle.z_lang.specs.declared.act.Comparison.TheVariants as comparisons
use Rattle.z_lang.specs.declared.act.Function.TheVariants as functions
use Rattle.z_lang.specs.declared.act.Width.TheVariants as widths
use Rattle.z_lang.specs.State.{State, Program}
use Rattle.z_lang.specs.Acts.{answer_of, computed}
use Rattle.z_lang.specs.Runs.{ActsRun as Runs, ActsOutcome as Outcome, Returns, done, taken, passed, goes, calls, returns, behind_label, at_label}
use Rattle.dg_rt.specs.declared.world.TheConstants.{FLAG_ACTS, SET_FLAG_ACTS, CLEAR_FLAGS_ACTS}
use Rattle.dg_rt.specs.Cells.{at_cell, with_cell, replaced, Holds}
use Rattle.dg_rt.specs.Areas.{state}
use Rattle.dg_rt.specs.RunTime.{HasRunTime}
use Rattle.dg_rt.specs.Tables.{byte_at, AreBytes, AreFlags, TellsFlag, FlagWorks, WritesByte, SetFlagWorks, ClearsFlags, ClearFlagsWorks}
use Rattle.dg_rt.specs.inside.Walks.{steps}
use Rattle.dg_rt.proofs.Cells.{holds_with, reads_cell, writes_cell, other_cell, same_cell}
use Rattle.dg_rt.proofs.CaptureSteps.{divides}
use Rattle.dg_rt.proofs.Following.{word, tested, computes, writes, local_1, local_2, put_1, put_2, put_3}
use Rattle.dg_rt.proofs.Locals.{added, adds, subtracts, get_1, get_2, get_3, get_4, set_1, set_2, set_3, set_4}
use Rattle.dg_rt.proofs.Standing.{flag_at, set_flag_at}

-- ## Bytes of words

-- The byte of a number in its word.
abbrev part : ℕ → ℕ → ℕ
part b c = if b % 2 == 0 then c / 256 else c % 256

first_part : (b k c : ℕ) → b ≡ 2 * k → part b c ≡ c / 256
first_part b k c e = rw (eq-eqb (b % 2) 0 (omega arith)) refl

second_part : (b k c : ℕ) → b ≡ 2 * k + 1 → part b c ≡ c % 256
second_part b k c e = rw (ne_eqb (b % 2) 0 (λ (z : b % 2 ≡ 0). (omega arith))) refl

half : (b k r : ℕ) → r ≤ 1 → b ≡ 2 * k + r → b / 2 ≡ k
half b k r le e = omega arith

first_byte : (cells : ℕ → ℕ) (b k : ℕ) → b ≡ 2 * k → byte_at cells b ≡ cells k / 256
first_byte cells b k e = first_part b k (cells (b / 2)) e ∙ ap (λ (i : ℕ). cells i / 256) (half b k 0 (omega arith) (omega arith))

second_byte : (cells : ℕ → ℕ) (b k : ℕ) → b ≡ 2 * k + 1 → byte_at cells b ≡ cells k % 256
second_byte cells b k e = second_part b k (cells (b / 2)) e ∙ ap (λ (i : ℕ). cells i % 256) (half b k 1 (omega arith) (omega arith))

-- a byte of another word stays
other_word : (cells : ℕ → ℕ) (k c j : ℕ) → j / 2 ≢ k → byte_at (replaced cells k c) j ≡ byte_at cells j
other_word cells k c j ne = ap (part j) (other_cell cells k c (j / 2) ne)

-- A word's second byte stays where its first one is changed.
beside_first : (cells : ℕ → ℕ) (b k c : ℕ) → b ≡ 2 * k → c % 256 ≡ cells k % 256 → (j : ℕ) → j ≢ b → byte_at (replaced cells k c) j ≡ byte_at cells j
beside_first cells b k c e same j ne =
    elim (cases_eq (j / 2) k) [
      | inl here ↦ (let odd : j ≡ 2 * k + 1 = omega arith in second_byte (replaced cells k c) j k odd ∙ ap (λ (x : ℕ). x % 256) (same_cell cells k c) ∙ same ∙ sym (second_byte cells j k odd))
      | inr far ↦ other_word cells k c j far
    ]

-- Its first byte stays where its second one is changed.
beside_second : (cells : ℕ → ℕ) (b k c : ℕ) → b ≡ 2 * k + 1 → c / 256 ≡ cells k / 256 → (j : ℕ) → j ≢ b → byte_at (replaced cells k c) j ≡ byte_at cells j
beside_second cells b k c e same j ne =
    elim (cases_eq (j / 2) k) [
      | inl here ↦ (let even : j ≡ 2 * k = omega arith in first_byte (replaced cells k c) j k even ∙ ap (λ (x : ℕ). x / 256) (same_cell cells k c) ∙ same ∙ sym (first_byte cells j k even))
      | inr far ↦ other_word cells k c j far
    ]

odd_of : (p : Program) (memory : List ℕ) (x r : ℕ) → x % 2 ≡ r → computed p.world.layout memory functions.And x 1 ≡ word r
unfolding computed
odd_of p memory x r e = ap word (and_mask x 1 ∙ e)

low_of : (p : Program) (memory : List ℕ) (x : ℕ) → computed p.world.layout memory functions.And x 255 ≡ word (x % 256)
unfolding computed
low_of p memory x = ap word (and_mask x 8)

times : (p : Program) (memory : List ℕ) (x y z : ℕ) → x * y % 65536 ≡ z → computed p.world.layout memory functions.Mul x y ≡ word z
unfolding computed
times p memory x y z e = ap word e

differs : (p : Program) (memory : List ℕ) (x y z : ℕ) → (x + (65536 - y)) % 65536 ≡ z → computed p.world.layout memory functions.Sub x y ≡ word z
unfolding computed
differs p memory x y z e = ap word e

-- Where a byte stands: in the word of this number, as its first byte or as its second one.
record Stood (b : ℕ) : Type 0 where
  k : ℕ
  r : ℕ
  le : r ≤ 1
  is : b ≡ 2 * k + r

stood : (b : ℕ) → Stood b
stood b = record { k = b / 2; r = b % 2; le = omega arith; is = omega arith }

-- ## A flag is read

module _ (p : Program) (f w : ℕ) (memory typed output : List ℕ) (drawn t o : ℕ) (cells : ℕ → ℕ) (h : Holds p.world.layout memory cells) where
  abbrev two : ℕ → ℕ → State
  two a b = state memory (a ∷ b ∷ []) typed drawn output

  -- up to the test
  to_test : (k r : ℕ) → r ≤ 1 → t + o ≡ 2 * k + r → at_cell k + 1 < p.world.layout.base → (out : Outcome) (s' : State) (i : ℕ) → Runs p f w FLAG_ACTS (drop 4 FLAG_ACTS) (two (cells k) r) out s' i → Runs p f w FLAG_ACTS FLAG_ACTS (two (64 + t) o) out s' (suc (suc (suc (suc i))))
  to_test k r le e lt out s' i rest =
      let low = h.low in
      let a = 64 + t + o in
      done (computes p (two (64 + t) o) (two a o) 1 functions.Add (atoms.Var 1) (atoms.Var 2) (64 + t) o a (local_1 p memory (64 + t) (o ∷ []) typed drawn output) (local_2 p memory (64 + t) o [] typed drawn output) (adds p memory (64 + t) o a refl (omega arith)) (put_1 p memory (64 + t) a (o ∷ []) typed drawn output))
      (done (computes p (two a o) (two a r) 2 functions.And (atoms.Var 1) (atoms.Num 1) a 1 r (local_1 p memory a (o ∷ []) typed drawn output) refl (odd_of p memory a r (omega arith)) (put_2 p memory a o r [] typed drawn output))
      (done (computes p (two a r) (two (at_cell k) r) 1 functions.Sub (atoms.Var 1) (atoms.Var 2) a r (at_cell k) (local_1 p memory a (r ∷ []) typed drawn output) (local_2 p memory a r [] typed drawn output) (subtracts p memory a r (at_cell k) (omega arith) (omega arith)) (put_1 p memory a (at_cell k) (r ∷ []) typed drawn output))
      (done (computes p (two (at_cell k) r) (two (cells k) r) 1 functions.Word (atoms.Var 1) (atoms.Num 0) (at_cell k) 0 (cells k) (local_1 p memory (at_cell k) (r ∷ []) typed drawn output) refl (reads_cell p.world.layout memory cells (at_cell k) 0 k h (omega arith) lt) (put_1 p memory (at_cell k) (cells k) (r ∷ []) typed drawn output))
      rest)))

  if_first : (r : ℕ) (t' : Bool) → (r == 0) ≡ t' → (c : ℕ) → answer_of p (two c r) (record { comparison = comparisons.Equal; first = atoms.Var 2; second = atoms.Num 0; answer = true }) ≡ Some t'
  if_first r t' e c = tested p (two c r) comparisons.Equal (atoms.Var 2) (atoms.Num 0) true r 0 t' (local_2 p memory c r [] typed drawn output) refl e

  tells_first : (k : ℕ) → t + o ≡ 2 * k → at_cell k + 1 < p.world.layout.base → byte_at cells (t + o) ≤ 1 → TellsFlag p f w memory typed output drawn t o cells
  unfolding behind_label
  tells_first k e lt is_flag =
      let b = first_byte cells (t + o) k e in
      let c = cells k in
      record {
        locals' = (c / 256) ∷ 0 ∷ [];
        runs = rw b (to_test k 0 (omega arith) (omega arith) lt (Returns (c / 256)) (two (c / 256) 0) 3
            (taken (if_first 0 true refl c) refl
            (done (computes p (two c 0) (two (c / 256) 0) 1 functions.Div (atoms.Var 1) (atoms.Num 256) c 256 (c / 256) (local_1 p memory c (0 ∷ []) typed drawn output) refl (divides p memory c 256 (omega arith) (omega arith) (omega arith)) (put_1 p memory c (c / 256) (0 ∷ []) typed drawn output))
            (returns (local_1 p memory (c / 256) (0 ∷ []) typed drawn output)))));
      }

  tells_second : (k : ℕ) → t + o ≡ 2 * k + 1 → at_cell k + 1 < p.world.layout.base → TellsFlag p f w memory typed output drawn t o cells
  tells_second k e lt =
      let b = second_byte cells (t + o) k e in
      let c = cells k in
      record {
        locals' = (c % 256) ∷ 1 ∷ [];
        runs = rw b (to_test k 1 (omega arith) e lt (Returns (c % 256)) (two (c % 256) 1) 3
            (passed (if_first 1 false refl c)
            (done (computes p (two c 1) (two (c % 256) 1) 1 functions.And (atoms.Var 1) (atoms.Num 255) c 255 (c % 256) (local_1 p memory c (1 ∷ []) typed drawn output) refl (low_of p memory c) (put_1 p memory c (c % 256) (1 ∷ []) typed drawn output))
            (returns (local_1 p memory (c % 256) (1 ∷ []) typed drawn output)))));
      }

  tells : (b : ℕ) → b ≡ t + o → (k r : ℕ) → r ≤ 1 → b ≡ 2 * k + r → at_cell k + 1 < p.world.layout.base → byte_at cells (t + o) ≤ 1 → TellsFlag p f w memory typed output drawn t o cells
  tells b here k zero le e lt is_flag = tells_first k (omega arith) lt is_flag
  tells b here k (suc zero) le e lt is_flag = tells_second k (omega arith) lt
  tells b here k (suc (suc r)) le e lt is_flag = absurd (omega arith)

pub flag_works : FlagWorks
flag_works p has f w memory typed output drawn t n o cells h bytes flags lt =
    let at = stood (t + o) in
    let within = bytes.within in
    let is = at.is in
    let le = at.le in
    tells p f w memory typed output drawn t o cells h (t + o) refl at.k at.r at.le at.is (omega arith) (flags o lt)

-- ## A flag is written

module _ (p : Program) (has : HasRunTime p) (f w : ℕ) (some : 1 ≤ f) (enough : 2 ≤ w) (memory typed output : List ℕ) (drawn t o x : ℕ) (cells : ℕ → ℕ) (h : Holds p.world.layout memory cells) (small : x ≤ 1) where
  abbrev at : List ℕ → ℕ → ℕ → ℕ → ℕ → State
  at m a b c d = state m (a ∷ b ∷ c ∷ d ∷ []) typed drawn output

  -- What is added to the word for a byte that changes from one value to another.
  abbrev change : ℕ → ℕ
  change old = (x + (65536 - old)) % 65536

  -- up to the test
  to_part : (old k r : ℕ) → r ≤ 1 → old ≤ 1 → t + o ≡ 2 * k + r → at_cell k + 1 < p.world.layout.base → byte_at cells (t + o) ≡ old → TellsFlag p 0 0 memory typed output drawn t o cells → (out : Outcome) (s' : State) (i : ℕ) → Runs p f w SET_FLAG_ACTS (drop 5 SET_FLAG_ACTS) (at memory (at_cell k) r (change old) old) out s' i → Runs p f w SET_FLAG_ACTS SET_FLAG_ACTS (at memory (64 + t) o x 0) out s' (8 + steps 4 i)
  to_part old k r le le' e lt is flag out s' i rest =
      let low = h.low in
      let a = 64 + t + o in
      let d = change old in
      let runs : Runs p 0 0 FLAG_ACTS FLAG_ACTS (state memory ((64 + t) ∷ o ∷ []) typed drawn output) (Returns old) (state memory flag.locals' typed drawn output) 7 = subst (λ (y : ℕ). Runs p 0 0 FLAG_ACTS FLAG_ACTS (state memory ((64 + t) ∷ o ∷ []) typed drawn output) (Returns y) (state memory flag.locals' typed drawn output) 7) is flag.runs in
      calls {f' = 0} {w' = 0} {n = 7} {n' = steps 4 i} {xs = (64 + t, o, 0)} {s1 = state memory flag.locals' typed drawn output} {s2 = at memory (64 + t) o x old} refl (rw (get_1 p memory (64 + t) o x 0 typed drawn output, get_2 p memory (64 + t) o x 0 typed drawn output) refl) (flag_at p has) (omega arith) (omega arith) runs (set_4 p memory (64 + t) o x 0 old typed drawn output)
      (done (computes p (at memory (64 + t) o x old) (at memory (64 + t) o d old) 3 functions.Sub (atoms.Var 3) (atoms.Var 4) x old d (get_3 p memory (64 + t) o x old typed drawn output) (get_4 p memory (64 + t) o x old typed drawn output) (differs p memory x old d refl) (set_3 p memory (64 + t) o x old d typed drawn output))
      (done (computes p (at memory (64 + t) o d old) (at memory a o d old) 1 functions.Add (atoms.Var 1) (atoms.Var 2) (64 + t) o a (get_1 p memory (64 + t) o d old typed drawn output) (get_2 p memory (64 + t) o d old typed drawn output) (adds p memory (64 + t) o a refl (omega arith)) (set_1 p memory (64 + t) o d old a typed drawn output))
      (done (computes p (at memory a o d old) (at memory a r d old) 2 functions.And (atoms.Var 1) (atoms.Num 1) a 1 r (get_1 p memory a o d old typed drawn output) refl (odd_of p memory a r (omega arith)) (set_2 p memory a o d old r typed drawn output))
      (done (computes p (at memory a r d old) (at memory (at_cell k) r d old) 1 functions.Sub (atoms.Var 1) (atoms.Var 2) a r (at_cell k) (get_1 p memory a r d old typed drawn output) (get_2 p memory a r d old typed drawn output) (subtracts p memory a r (at_cell k) (omega arith) (omega arith)) (set_1 p memory a r d old (at_cell k) typed drawn output))
      rest))))

  -- behind the label, where local 3 is what the word grows by
  puts_word : (k r d old c : ℕ) → at_cell k + 1 < p.world.layout.base → (cells k + d) % 65536 ≡ c → Runs p f w SET_FLAG_ACTS (drop 8 SET_FLAG_ACTS) (at memory (at_cell k) r d old) (Returns 0) (at (with_cell memory k c) (at_cell k) r d c) 4
  puts_word k r d old c lt e =
      let low = h.low in
      let y = cells k in
      done (computes p (at memory (at_cell k) r d old) (at memory (at_cell k) r d y) 4 functions.Word (atoms.Var 1) (atoms.Num 0) (at_cell k) 0 y (get_1 p memory (at_cell k) r d old typed drawn output) refl (reads_cell p.world.layout memory cells (at_cell k) 0 k h (omega arith) lt) (set_4 p memory (at_cell k) r d old y typed drawn output))
      (done (computes p (at memory (at_cell k) r d y) (at memory (at_cell k) r d c) 4 functions.Add (atoms.Var 4) (atoms.Var 3) y d c (get_4 p memory (at_cell k) r d y typed drawn output) (get_3 p memory (at_cell k) r d y typed drawn output) (added p memory y d c e) (set_4 p memory (at_cell k) r d y c typed drawn output))
      (done (writes p (at memory (at_cell k) r d c) widths.Word (atoms.Var 1) (atoms.Num 0) (atoms.Var 4) (at_cell k) 0 c (with_cell memory k c) (get_1 p memory (at_cell k) r d c typed drawn output) refl (get_4 p memory (at_cell k) r d c typed drawn output) (writes_cell p.world.layout memory cells (at_cell k) 0 c k h (omega arith) lt))
      (returns refl)))

  sets_first : (k old : ℕ) → t + o ≡ 2 * k → at_cell k + 1 < p.world.layout.base → byte_at cells (t + o) ≡ old → old ≤ 1 → TellsFlag p 0 0 memory typed output drawn t o cells → WritesByte p f w SET_FLAG_ACTS memory ((64 + t) ∷ o ∷ x ∷ 0 ∷ []) typed output drawn (t + o) x cells 18
  sets_first k old e lt is le flag =
      let low = h.words k in
      let here : old ≡ cells k / 256 = sym is ∙ first_byte cells (t + o) k e in
      let d = change old in
      let d' = d * 256 % 65536 in
      let c = (cells k + d') % 65536 in
      let first : c / 256 ≡ x = omega arith in
      let second : c % 256 ≡ cells k % 256 = omega arith in
      record {
        memory' = with_cell memory k c;
        cells' = replaced cells k c;
        locals' = at_cell k ∷ 0 ∷ d' ∷ c ∷ [];
        holds = holds_with p.world.layout memory cells k c h lt (omega arith);
        is = first_byte (replaced cells k c) (t + o) k e ∙ ap (λ (y : ℕ). y / 256) (same_cell cells k c) ∙ first;
        bytes = beside_first cells (t + o) k c e second;
        others = λ j ne. other_cell cells k c j (λ (z : j ≡ k). ne (omega arith));
        count = 18;
        few = omega arith;
        runs = to_part old k 0 (omega arith) le (omega arith) lt is flag (Returns 0) (at (with_cell memory k c) (at_cell k) 0 d' c) 6
            (passed (tested p (at memory (at_cell k) 0 d old) comparisons.Equal (atoms.Var 2) (atoms.Num 0) false 0 0 true (get_2 p memory (at_cell k) 0 d old typed drawn output) refl refl)
            (done (computes p (at memory (at_cell k) 0 d old) (at memory (at_cell k) 0 d' old) 3 functions.Mul (atoms.Var 3) (atoms.Num 256) d 256 d' (get_3 p memory (at_cell k) 0 d old typed drawn output) refl (times p memory d 256 d' refl) (set_3 p memory (at_cell k) 0 d old d' typed drawn output))
            (at_label (puts_word k 0 d' old c lt refl))));
      }

  sets_second : (k old : ℕ) → t + o ≡ 2 * k + 1 → at_cell k + 1 < p.world.layout.base → byte_at cells (t + o) ≡ old → old ≤ 1 → TellsFlag p 0 0 memory typed output drawn t o cells → WritesByte p f w SET_FLAG_ACTS memory ((64 + t) ∷ o ∷ x ∷ 0 ∷ []) typed output drawn (t + o) x cells 18
  unfolding behind_label
  sets_second k old e lt is le flag =
      let low = h.words k in
      let here : old ≡ cells k % 256 = sym is ∙ second_byte cells (t + o) k e in
      let d = change old in
      let c = (cells k + d) % 65536 in
      let first : c / 256 ≡ cells k / 256 = omega arith in
      let second : c % 256 ≡ x = omega arith in
      record {
        memory' = with_cell memory k c;
        cells' = replaced cells k c;
        locals' = at_cell k ∷ 1 ∷ d ∷ c ∷ [];
        holds = holds_with p.world.layout memory cells k c h lt (omega arith);
        is = second_byte (replaced cells k c) (t + o) k e ∙ ap (λ (y : ℕ). y % 256) (same_cell cells k c) ∙ second;
        bytes = beside_second cells (t + o) k c e first;
        others = λ j ne. other_cell cells k c j (λ (z : j ≡ k). ne (omega arith));
        count = 17;
        few = omega arith;
        runs = to_part old k 1 (omega arith) le e lt is flag (Returns 0) (at (with_cell memory k c) (at_cell k) 1 d c) 5
            (taken (tested p (at memory (at_cell k) 1 d old) comparisons.Equal (atoms.Var 2) (atoms.Num 0) false 1 0 false (get_2 p memory (at_cell k) 1 d old typed drawn output) refl refl) refl
            (puts_word k 1 d old c lt refl));
      }

  sets : (k r : ℕ) → r ≤ 1 → t + o ≡ 2 * k + r → at_cell k + 1 < p.world.layout.base → byte_at cells (t + o) ≤ 1 → TellsFlag p 0 0 memory typed output drawn t o cells → WritesByte p f w SET_FLAG_ACTS memory ((64 + t) ∷ o ∷ x ∷ 0 ∷ []) typed output drawn (t + o) x cells 18
  sets k zero le e lt is_flag flag = sets_first k (byte_at cells (t + o)) (omega arith) lt refl is_flag flag
  sets k (suc zero) le e lt is_flag flag = sets_second k (byte_at cells (t + o)) e lt refl is_flag flag
  sets k (suc (suc r)) le e lt is_flag flag = absurd (omega arith)

pub set_flag_works : SetFlagWorks
set_flag_works p has f w some enough memory typed output drawn t n o x cells h bytes flags lt small =
    let at = stood (t + o) in
    let within = bytes.within in
    let is = at.is in
    let le = at.le in
    sets p has f w some enough memory typed output drawn t o x cells h small at.k at.r at.le at.is (omega arith) (flags o lt) (flag_works p has 0 0 memory typed output drawn t n o cells h bytes flags lt)

-- ## All flags

module _ (p : Program) (has : HasRunTime p) (f w : ℕ) (some : 2 ≤ f) (enough : 6 ≤ w) (typed output : List ℕ) (drawn t : ℕ) where
  abbrev three : List ℕ → ℕ → ℕ → State
  three m i a = state m ((64 + t) ∷ i ∷ a ∷ []) typed drawn output

  clears : (n : ℕ) (memory : List ℕ) (a : ℕ) (cells : ℕ → ℕ) → Holds p.world.layout memory cells → AreBytes p t n → AreFlags cells t n → ClearsFlags p f w (drop 1 CLEAR_FLAGS_ACTS) memory typed output drawn t n a cells
  unfolding behind_label
  clears zero memory a cells h bytes flags = record {
    memory' = memory;
    cells' = cells;
    locals' = (64 + t) ∷ 0 ∷ a ∷ [];
    holds = h;
    are = λ o lt. absurd (omega arith);
    bytes = λ j far. refl;
    others = λ k far. refl;
    count = 2;
    few = omega arith;
    runs = taken (tested p (three memory 0 a) comparisons.Equal (atoms.Var 2) (atoms.Num 0) true 0 0 true (local_2 p memory (64 + t) 0 (a ∷ []) typed drawn output) refl refl) refl (returns refl);
  }
  clears (suc n) memory a cells h bytes flags =
      let low = h.low in
      let within = bytes.within in
      let s = set_flag_works p has 1 2 (omega arith) (omega arith) memory typed output drawn t (suc n) n 0 cells h bytes flags (omega arith) (omega arith) in
      let r = clears n s.memory' 0 s.cells' s.holds (record { from = bytes.from; within = omega arith }) (λ o lt. let before = flags o (omega arith) in let same = s.bytes (t + o) (λ (e : t + o ≡ t + n). (omega arith)) in omega arith) in
      let few = s.few in
      let few' = r.few in
      record {
        memory' = r.memory';
        cells' = r.cells';
        locals' = r.locals';
        holds = r.holds;
        are = λ o lt. elim (cases_eq o n) [
          | inl same ↦ ap (λ (i : ℕ). byte_at r.cells' (t + i)) same ∙ (r.bytes (t + n) (λ le. (omega arith)) ∙ s.is)
          | inr ne ↦ r.are o (omega arith)
        ];
        bytes = λ j far. r.bytes j (λ le. (let z : t + suc n ≤ j = far le in omega arith)) ∙ s.bytes j (λ (e : j ≡ t + n). (let z : t + suc n ≤ j = far (omega arith) in omega arith));
        others = λ k far. r.others k (λ le. (let z : t + suc n ≤ 2 * k = far le in omega arith)) ∙ s.others k (λ (e : k ≡ (t + n) / 2). (let z : t + suc n ≤ 2 * k = far (omega arith) in omega arith));
        count = suc (suc (suc s.count + suc r.count));
        few = omega arith;
        runs = passed (tested p (three memory (suc n) a) comparisons.Equal (atoms.Var 2) (atoms.Num 0) true (suc n) 0 false (local_2 p memory (64 + t) (suc n) (a ∷ []) typed drawn output) refl (ne_eqb (suc n) 0 (λ (e : suc n ≡ 0). (omega arith))))
            (done (computes p (three memory (suc n) a) (three memory n a) 2 functions.Sub (atoms.Var 2) (atoms.Num 1) (suc n) 1 n (local_2 p memory (64 + t) (suc n) (a ∷ []) typed drawn output) refl (subtracts p memory (suc n) 1 n (omega arith) (omega arith)) (put_2 p memory (64 + t) (suc n) n (a ∷ []) typed drawn output))
            (calls {f' = 1} {w' = 2} {n = s.count} {n' = suc r.count} {xs = (64 + t, n, 0)} {s1 = state s.memory' s.locals' typed drawn output} {s2 = three s.memory' n 0} refl (rw (local_1 p memory (64 + t) (n ∷ a ∷ []) typed drawn output, local_2 p memory (64 + t) n (a ∷ []) typed drawn output) refl) (set_flag_at p has) (omega arith) (omega arith) s.runs (put_3 p s.memory' (64 + t) n a 0 [] typed drawn output)
            (goes refl r.runs)));
      }

pub clear_flags_works : ClearFlagsWorks
clear_flags_works p has f w some enough memory typed output drawn t n cells h bytes flags =
    let r = clears p has f w some enough typed output drawn t n memory 0 cells h bytes flags in
    record { memory' = r.memory'; cells' = r.cells'; locals' = r.locals'; holds = r.holds; are = r.are; bytes = r.bytes; others = r.others; count = r.count; few = r.few; runs = at_label r.runs }
