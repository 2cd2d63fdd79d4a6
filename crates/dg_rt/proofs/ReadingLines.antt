-- A typed line is read, and its letters are put into a row.
use Rattle.std.proofs.Common.{◌≡◌, ◌≢◌, ℕ, zero, suc, ◌+◌, ◌*◌, ◌/◌, ◌%◌, ◌<◌, ◌≤◌, inl, inr, Bool, true, false, List, [], ◌∷◌, drop, length, map, Some, refl, sym, ap, ◌∙◌, subst, arith, length-set}
use Rattle.std.specs.Prelude.{◌==◌, nat_lt, if◌then◌else◌, slice_index, slice_set}
use Rattle.std.proofs.lemmas.Bool.{eq-eqb, ne_eqb, lt-ltb, le-ltb, cases_lt, cases_eq}
use Rattle.std.proofs.lemmas.List.{get_or-set_same, get_or-set_other, drop-set-lt}
use Rattle.z_model.specs.declared.end.Halt.TheVariants.{AtInput}
use Rattle.z_model.specs.declared.story.Layout.{Layout}
use Rattle.z_model.specs.Memory.{byte_in}
use Rattle.z_model.specs.Typed.{typed_line, typed_left}
use Rattle.dg_meaning.specs.Words.{first_line, letters_of}
use Rattle.z_lang.specs.declared.act.Act.TheVariants as acts
use Rattle.z_lang.specs.declared.act.Atom.TheVariants as atoms
use Rattle.z_lang.specs.declared.act.Comparison.TheVariants as comparisons
use Rattle.z_lang.specs.declared.act.Function.TheVariants as functions
use Rattle.z_lang.specs.declared.act.Width.TheVariants as widths
use Rattle.z_lang.specs.State.{State, Program, put, with_local}
use Rattle.z_lang.specs.Acts.{computed, readable, line_in, does, answer_of}
use Rattle.z_lang.specs.Runs.{ActsRun as Runs, ActsOutcome as Outcome, Returns, Stops, at_label, goes, taken, passed, done, calls, returns, ends_input, behind_label}
use Rattle.z_lang.specs.Standing.{IsKept}
use Rattle.dg_rt.specs.declared.numbers.TheConstants.{UNICODE}
use Rattle.dg_rt.specs.declared.typing.TheConstants.{UNICODE_ACTS, READ_LINE_ACTS}
use Rattle.dg_rt.specs.Cells.{at_cell, cell, with_cell, replaced, Holds}
use Rattle.dg_rt.specs.Areas.{state}
use Rattle.dg_rt.specs.Copies.{Row}
use Rattle.dg_rt.specs.RunTime.{routine_of, HasRunTime}
use Rattle.dg_rt.specs.Shapes.{ArePrinted}
use Rattle.dg_rt.specs.Typing.{ReadsLine, EndsInput, LinesWork}
use Rattle.dg_rt.proofs.Cells.{holds_with, writes_cell, other_cell, same_cell}
use Rattle.dg_rt.proofs.Following.{word, some_state, tested, computes, copies, writes}
use Rattle.dg_rt.proofs.LaySteps.{kept_cell}
use Rattle.dg_rt.proofs.LineBytes.{letter, codes_are_bytes, codes_are_letters, line_printed, few_codes, same_length, behind_same, put_bytes, put_length, put_kept, put_other, StandAt, put_stand, stand_keep, put_small, rights, writes_line}
use Rattle.dg_rt.proofs.Locals.{added, subtracts, get_1, get_2, get_3, set_1, set_2, set_3}
use Rattle.dg_rt.proofs.Unicode.{tells_letter}

unicode_at : (p : Program) → HasRunTime p → p.routine_at (p.names.routine UNICODE) ≡ Some (routine_of 1 UNICODE_ACTS)
unicode_at p has = has.each 114 (routine_of 1 UNICODE_ACTS) refl

-- ## Bytes and words

reads_byte : (layout : Layout) (m : List ℕ) (x y a : ℕ) → (x + y) % 65536 ≡ a → a < length m → computed layout m functions.Byte x y ≡ word (slice_index m a)
unfolding computed byte_in
reads_byte layout m x y a e lt = rw (e, lt-ltb a (length m) lt) refl

set_byte : (m : List ℕ) (k x j : ℕ) → j ≢ at_cell k → j ≢ at_cell k + 1 → slice_index (with_cell m k x) j ≡ slice_index m j
set_byte m k x j n1 n2 = get_or-set_other (slice_set m (at_cell k) (x / 256)) (at_cell k + 1) j (x % 256) 0 n2 ∙ get_or-set_other m (at_cell k) j (x / 256) 0 n1

first_byte : (m : List ℕ) (k x : ℕ) → at_cell k + 1 < length m → slice_index (with_cell m k x) (at_cell k) ≡ x / 256
first_byte m k x lt = get_or-set_other (slice_set m (at_cell k) (x / 256)) (at_cell k + 1) (at_cell k) (x % 256) 0 (λ (e : at_cell k ≡ at_cell k + 1). (omega arith)) ∙ get_or-set_same m (at_cell k) (x / 256) 0 (omega arith)

second_byte : (m : List ℕ) (k x : ℕ) → at_cell k + 1 < length m → slice_index (with_cell m k x) (at_cell k + 1) ≡ x % 256
second_byte m k x lt = get_or-set_same (slice_set m (at_cell k) (x / 256)) (at_cell k + 1) (x % 256) 0 (omega (arith, length-set m (at_cell k) (x / 256)))

-- ## The buffer is cleared

abbrev cleared_count : ℕ → ℕ → ℕ
cleared_count zero n = suc (suc (suc n))
cleared_count (suc i) n = suc (suc (suc (cleared_count i n)))

cleared_is : (i n : ℕ) → cleared_count i n ≡ 3 * i + 3 + n
cleared_is zero n = omega arith
cleared_is (suc i) n = let e = cleared_is i n in omega arith

module _ (p : Program) (has : HasRunTime p) (story : List ℕ) (f w : ℕ) (output : List ℕ) (drawn : ℕ) where
  abbrev now : List ℕ → List ℕ → ℕ → ℕ → ℕ → State
  now typed m a b c = state m (a ∷ b ∷ c ∷ 0 ∷ []) typed drawn output

  abbrev Zeros : ℕ → List ℕ → Type 0
  Zeros i m = (j : ℕ) → 30694 + 2 * i ≤ j → j < 30896 → slice_index m j ≡ 0

  record Clears (typed memory : List ℕ) (cells : ℕ → ℕ) (i : ℕ) : Type 0 where
    memory' : List ℕ
    cells' : ℕ → ℕ
    holds : Holds p.world.layout memory' cells'
    kept : IsKept p.world.layout.base story memory → IsKept p.world.layout.base story memory'
    zeros : Zeros 0 memory'
    others : (k : ℕ) → (15315 ≤ k → 15416 ≤ k) → cells' k ≡ cells k
    runs : (o : Outcome) (s' : State) (n : ℕ) → Runs p f w READ_LINE_ACTS (drop 5 READ_LINE_ACTS) (now typed memory' 0 0 0) o s' n → Runs p f w READ_LINE_ACTS (drop 2 READ_LINE_ACTS) (now typed memory (suc i) 0 0) o s' (cleared_count i n)

  -- one word is cleared
  module _ (typed memory : List ℕ) (cells : ℕ → ℕ) (i : ℕ) (h : Holds p.world.layout memory cells) (few : i < 101) (zeros : Zeros (suc i) memory) where
    abbrev m1 : List ℕ
    m1 = with_cell memory (15315 + i) 0

    abbrev c1 : ℕ → ℕ
    c1 = replaced cells (15315 + i) 0

    holds_1 : Holds p.world.layout m1 c1
    holds_1 = let room = has.mapped.room in holds_with p.world.layout memory cells (15315 + i) 0 h (omega arith) (omega arith)

    kept_1 : IsKept p.world.layout.base story memory → IsKept p.world.layout.base story m1
    kept_1 kept = let room = has.mapped.room in kept_cell p.world.layout.base story memory (15315 + i) 0 (omega arith) kept

    zeros_1 : Zeros i m1
    zeros_1 j le lt =
        let room = has.mapped.room in
        let base = h.base in
        elim (cases_eq j (at_cell (15315 + i))) [
          | inl e ↦ subst (λ (x : ℕ). slice_index m1 x ≡ 0) (sym e) (first_byte memory (15315 + i) 0 (omega arith))
          | inr n1 ↦ elim (cases_eq j (at_cell (15315 + i) + 1)) [
            | inl e ↦ subst (λ (x : ℕ). slice_index m1 x ≡ 0) (sym e) (second_byte memory (15315 + i) 0 (omega arith))
            | inr n2 ↦ set_byte memory (15315 + i) 0 j n1 n2 ∙ zeros j (omega arith) lt
          ]
        ]

    to_test : (o : Outcome) (s' : State) (n : ℕ) → Runs p f w READ_LINE_ACTS (drop 4 READ_LINE_ACTS) (now typed m1 i 0 0) o s' n → Runs p f w READ_LINE_ACTS (drop 2 READ_LINE_ACTS) (now typed memory (suc i) 0 0) o s' (suc (suc n))
    to_test o s' n rest =
        let room = has.mapped.room in
        done (computes p (now typed memory (suc i) 0 0) (now typed memory i 0 0) 1 functions.Sub (atoms.Var 1) (atoms.Num 1) (suc i) 1 i (get_1 p memory (suc i) 0 0 0 typed drawn output) refl (subtracts p memory (suc i) 1 i (omega arith) (omega arith)) (set_1 p memory (suc i) 0 0 0 i typed drawn output))
        (done (writes p (now typed memory i 0 0) widths.Word (atoms.Num 30694) (atoms.Var 1) (atoms.Num 0) 30694 i 0 m1 refl (get_1 p memory i 0 0 0 typed drawn output) refl (writes_cell p.world.layout memory cells 30694 i 0 (15315 + i) h (omega arith) (omega arith)))
        rest)

    test_is : (t : Bool) → (i == 0) ≡ t → answer_of p (now typed m1 i 0 0) (record { comparison = comparisons.Equal; first = atoms.Var 1; second = atoms.Num 0; answer = false }) ≡ Some t
    test_is t e = tested p (now typed m1 i 0 0) comparisons.Equal (atoms.Var 1) (atoms.Num 0) false i 0 t (get_1 p m1 i 0 0 0 typed drawn output) refl e

    stays_1 : (k : ℕ) → (15315 ≤ k → 15416 ≤ k) → c1 k ≡ cells k
    stays_1 k far = other_cell cells (15315 + i) 0 k (λ (e : k ≡ 15315 + i). (let q = far (omega arith) in omega arith))

  clears : (i : ℕ) (typed memory : List ℕ) (cells : ℕ → ℕ) → Holds p.world.layout memory cells → i < 101 → Zeros (suc i) memory → Clears typed memory cells i
  unfolding behind_label
  clears zero typed memory cells h few zeros = record {
    memory' = m1 typed memory cells 0 h few zeros;
    cells' = c1 typed memory cells 0 h few zeros;
    holds = holds_1 typed memory cells 0 h few zeros;
    kept = kept_1 typed memory cells 0 h few zeros;
    zeros = zeros_1 typed memory cells 0 h few zeros;
    others = stays_1 typed memory cells 0 h few zeros;
    runs = λ o s' n rest. to_test typed memory cells 0 h few zeros o s' (suc n) (passed (test_is typed memory cells 0 h few zeros true refl) rest);
  }
  clears (suc i) typed memory cells h few zeros =
      let r = clears i typed (m1 typed memory cells (suc i) h few zeros) (c1 typed memory cells (suc i) h few zeros) (holds_1 typed memory cells (suc i) h few zeros) (omega arith) (zeros_1 typed memory cells (suc i) h few zeros) in
      record {
        memory' = r.memory';
        cells' = r.cells';
        holds = r.holds;
        kept = λ k. r.kept (kept_1 typed memory cells (suc i) h few zeros k);
        zeros = r.zeros;
        others = λ k far. r.others k far ∙ stays_1 typed memory cells (suc i) h few zeros k far;
        runs = λ o s' n rest. to_test typed memory cells (suc i) h few zeros o s' (suc (cleared_count i n)) (taken (test_is typed memory cells (suc i) h few zeros false (ne_eqb (suc i) 0 (λ (e : suc i ≡ 0). (omega arith)))) refl (r.runs o s' n rest));
      }

  -- ## Letters

  record Puts (typed memory : List ℕ) (cells : ℕ → ℕ) (i n c : ℕ) (codes : List ℕ) : Type 0 where
    memory' : List ℕ
    cells' : ℕ → ℕ
    locals' : List ℕ
    holds : Holds p.world.layout memory' cells'
    kept : IsKept p.world.layout.base story memory → IsKept p.world.layout.base story memory'
    row : Row cells' (15745 + i) (map letter codes)
    others : (k : ℕ) → (15745 + i ≤ k → 15745 + i + length codes ≤ k) → cells' k ≡ cells k
    count : ℕ
    few : count ≤ 80 * length codes + 2
    runs : Runs p f w READ_LINE_ACTS (drop 10 READ_LINE_ACTS) (now typed memory i n c) (Returns n) (state memory' locals' typed drawn output) count

  puts : 1 ≤ f → 1 ≤ w → (codes typed memory : List ℕ) (cells : ℕ → ℕ) (i n c : ℕ) → Holds p.world.layout memory cells → n ≡ i + length codes → n ≤ 200 → StandAt memory (30696 + i) codes → ArePrinted (map letter codes) → Puts typed memory cells i n c codes
  unfolding behind_label
  puts some enough [] typed memory cells i n c h is_n few stand fine = record {
    memory' = memory;
    cells' = cells;
    locals' = i ∷ n ∷ c ∷ 0 ∷ [];
    holds = h;
    kept = λ k. k;
    row = tt;
    others = λ k far. refl;
    count = 2;
    few = omega arith;
    runs = taken (tested p (now typed memory i n c) comparisons.Equal (atoms.Var 1) (atoms.Var 2) true i n true (get_1 p memory i n c 0 typed drawn output) (get_2 p memory i n c 0 typed drawn output) (eq-eqb i n (omega arith))) refl
        (returns (get_2 p memory i n c 0 typed drawn output));
  }
  puts some enough (b ∷ bs) typed memory cells i n c h is_n few stand fine =
      let room = has.mapped.room in
      let base = h.base in
      let x = letter b in
      let k0 = 15745 + i in
      let m1 = with_cell memory k0 x in
      let c1 = replaced cells k0 x in
      let h1 = holds_with p.world.layout memory cells k0 x h (omega arith) fine.0.0 in
      let t = tells_letter p 0 0 memory typed output drawn b in
      let stand1 : StandAt m1 (30696 + suc i) bs = let e : suc (30696 + i) ≡ 30696 + suc i = omega arith in subst (λ (a : ℕ). StandAt m1 a bs) e (stand_keep memory m1 (suc (30696 + i)) bs (λ j from to. set_byte memory k0 x j (λ (q : j ≡ at_cell k0). (omega arith)) (λ (q : j ≡ at_cell k0 + 1). (omega arith))) stand.1) in
      let r = puts some enough bs typed m1 c1 (suc i) n x h1 (omega arith) few stand1 fine.1 in
      let few1 = t.few in
      let few2 = r.few in
      let next : 15745 + suc i ≡ suc (15745 + i) = omega arith in
      record {
        memory' = r.memory';
        cells' = r.cells';
        locals' = r.locals';
        holds = r.holds;
        kept = λ k. r.kept (kept_cell p.world.layout.base story memory k0 x (omega arith) k);
        row = (r.others k0 (λ z. (omega arith)) ∙ same_cell cells k0 x, subst (λ (j : ℕ). Row r.cells' j (map letter bs)) next r.row);
        others = λ k far. r.others k (λ z. (let q = far (omega arith) in omega arith)) ∙ other_cell cells k0 x k (λ (e : k ≡ k0). (let q = far (omega arith) in omega arith));
        count = suc (suc (suc t.count + suc (suc (suc r.count))));
        few = omega arith;
        runs = passed (tested p (now typed memory i n c) comparisons.Equal (atoms.Var 1) (atoms.Var 2) true i n false (get_1 p memory i n c 0 typed drawn output) (get_2 p memory i n c 0 typed drawn output) (ne_eqb i n (λ (e : i ≡ n). (omega arith))))
            (done (computes p (now typed memory i n c) (now typed memory i n b) 3 functions.Byte (atoms.Num 30696) (atoms.Var 1) 30696 i b refl (get_1 p memory i n c 0 typed drawn output) (reads_byte p.world.layout memory 30696 i (30696 + i) (omega arith) (omega arith) ∙ ap word stand.0) (set_3 p memory i n c 0 b typed drawn output))
            (calls {f' = 0} {w' = 0} {n = t.count} {n' = suc (suc (suc r.count))} {xs = (b, 0, 0)} {s2 = now typed memory i n x} refl (rw (get_3 p memory i n b 0 typed drawn output) refl) (unicode_at p has) (omega arith) (omega arith) t.runs (set_3 p memory i n b 0 x typed drawn output)
            (done (writes p (now typed memory i n x) widths.Word (atoms.Num 31554) (atoms.Var 1) (atoms.Var 3) 31554 i x m1 refl (get_1 p memory i n x 0 typed drawn output) (get_3 p memory i n x 0 typed drawn output) (writes_cell p.world.layout memory cells 31554 i x k0 h (omega arith) (omega arith)))
            (done (computes p (now typed m1 i n x) (now typed m1 (suc i) n x) 1 functions.Add (atoms.Var 1) (atoms.Num 1) i 1 (suc i) (get_1 p m1 i n x 0 typed drawn output) refl (added p m1 i 1 (suc i) (omega arith)) (set_1 p m1 i n x 0 (suc i) typed drawn output))
            (goes refl r.runs)))));
      }

  -- ## The line

  module _ (memory : List ℕ) (cells : ℕ → ℕ) (h : Holds p.world.layout memory cells) where
    abbrev First : List ℕ → Type 0
    First typed = Clears typed memory cells 100

    first_cleared : (typed : List ℕ) → First typed
    first_cleared typed = clears 100 typed memory cells h (omega arith) (λ j le lt. absurd (omega arith))

    -- the first word says how many letters there may be
    module _ (typed : List ℕ) (r : First typed) where
      abbrev ready : List ℕ
      ready = with_cell r.memory' 15315 51200

      abbrev ready_cells : ℕ → ℕ
      ready_cells = replaced r.cells' 15315 51200

      holds_ready : Holds p.world.layout ready ready_cells
      holds_ready = let room = has.mapped.room in holds_with p.world.layout r.memory' r.cells' 15315 51200 r.holds (omega arith) (omega arith)

      is_readable : readable p.world.layout ready 30694 ≡ Some 200
      unfolding readable byte_in
      is_readable =
          let room = has.mapped.room in
          let low = h.low in
          let base = r.holds.base in
          let base' = holds_ready.base in
          let first : slice_index ready 30694 ≡ 200 = first_byte r.memory' 15315 51200 (omega arith) in
          rw (lt-ltb 30694 (length ready) (omega arith), first, rights p.world.layout 201 30695 (omega arith) (omega arith) low (omega arith)) refl

      to_read : (o : Outcome) (s' : State) (n : ℕ) → Runs p f w READ_LINE_ACTS (drop 6 READ_LINE_ACTS) (now typed ready 0 0 0) o s' n → Runs p f w READ_LINE_ACTS READ_LINE_ACTS (now typed memory 0 0 0) o s' (suc (cleared_count 100 (suc n)))
      to_read o s' n rest =
          let room = has.mapped.room in
          done (copies p (now typed memory 0 0 0) (now typed memory 101 0 0) 1 (atoms.Num 101) 101 refl (set_1 p memory 0 0 0 0 101 typed drawn output))
          (at_label (r.runs o s' (suc n)
          (done (writes p (now typed r.memory' 0 0 0) widths.Word (atoms.Num 30694) (atoms.Num 0) (atoms.Num 51200) 30694 0 51200 ready refl refl refl (writes_cell p.world.layout r.memory' r.cells' 30694 0 51200 15315 r.holds (omega arith) (omega arith)))
          rest)))

    ends : EndsInput p f w memory output drawn
    unfolding put with_local
    ends =
        let r = first_cleared [] in
        let e = cleared_is 100 2 in
        record {
          memory' = ready [] r;
          locals' = 0 ∷ 0 ∷ 0 ∷ 0 ∷ [];
          count = suc (cleared_count 100 2);
          few = omega arith;
          runs = to_read [] r (Stops AtInput) (now [] (ready [] r) 0 0 0) 1 (ends_input refl (is_readable [] r) refl refl);
        }

    -- what is there behind the reading
    module _ (byte : ℕ) (typed : List ℕ) (r : First (byte ∷ typed)) where
      abbrev codes : List ℕ
      codes = typed_line 200 (byte ∷ typed)

      abbrev left : List ℕ
      left = typed_left (byte ∷ typed)

      abbrev start : List ℕ
      start = ready (byte ∷ typed) r

      abbrev put1 : List ℕ
      put1 = put_bytes start 30696 codes

      abbrev m2 : List ℕ
      m2 = slice_set put1 30695 (length codes)

      abbrev c2 : ℕ → ℕ
      c2 k = if nat_lt k 15315 then ready_cells (byte ∷ typed) r k else if nat_lt k 15416 then cell m2 k else ready_cells (byte ∷ typed) r k

      length_2 : length m2 ≡ length start
      length_2 = length-set put1 30695 (length codes) ∙ put_length start 30696 codes

      far_byte : (j : ℕ) → (30695 ≤ j → 30896 ≤ j) → slice_index m2 j ≡ slice_index start j
      far_byte j far =
          let few = few_codes (byte ∷ typed) in
          get_or-set_other put1 30695 j (length codes) 0 (λ (e : j ≡ 30695). (let q = far (omega arith) in omega arith)) ∙ put_other start 30696 codes j (λ z. (let q = far (omega arith) in omega arith))

      near_byte : (j : ℕ) → 30694 ≤ j → j < 30896 → slice_index m2 j < 256
      near_byte j le lt =
          let room = has.mapped.room in
          let few = few_codes (byte ∷ typed) in
          let base' = (holds_ready (byte ∷ typed) r).base in
          let base = r.holds.base in
          let size = put_length start 30696 codes in
          let old : slice_index start j < 256 = elim (cases_eq j 30694) [
            | inl e ↦ subst (λ (x : ℕ). slice_index start x < 256) (sym e) (subst (λ (x : ℕ). x < 256) (sym (first_byte r.memory' 15315 51200 (omega arith))) (omega arith))
            | inr n1 ↦ elim (cases_eq j 30695) [
              | inl e ↦ subst (λ (x : ℕ). slice_index start x < 256) (sym e) (subst (λ (x : ℕ). x < 256) (sym (second_byte r.memory' 15315 51200 (omega arith))) (omega arith))
              | inr n2 ↦ subst (λ (x : ℕ). x < 256) (sym (set_byte r.memory' 15315 51200 j n1 n2 ∙ r.zeros j (omega arith) lt)) (omega arith)
            ]
          ] in
          elim (cases_eq j 30695) [
            | inl e ↦ subst (λ (x : ℕ). slice_index m2 x < 256) (sym e) (subst (λ (x : ℕ). x < 256) (sym (get_or-set_same put1 30695 (length codes) 0 (omega arith))) (omega arith))
            | inr ne ↦ subst (λ (x : ℕ). x < 256) (sym (get_or-set_other put1 30695 j (length codes) 0 ne)) (put_small start 30696 codes j (omega arith) (codes_are_bytes (byte ∷ typed)) old)
          ]

      far_cell : (k : ℕ) → (15315 ≤ k → 15416 ≤ k) → cell m2 k ≡ cell start k
      far_cell k far = rw (far_byte (at_cell k) (λ z. (let q = far (omega arith) in omega arith)), far_byte (at_cell k + 1) (λ z. (let q = far (omega arith) in omega arith))) refl

      far_word : (k : ℕ) → (15315 ≤ k → 15416 ≤ k) → c2 k ≡ ready_cells (byte ∷ typed) r k
      far_word k far = elim (cases_lt k 15315) [
        | inl lt ↦ rw (lt-ltb k 15315 lt) refl
        | inr le ↦ rw (le-ltb k 15315 le, le-ltb k 15416 (far le)) refl
      ]

      near_word : (k : ℕ) → 15315 ≤ k → k < 15416 → c2 k ≡ cell m2 k
      near_word k le lt = rw (le-ltb k 15315 le, lt-ltb k 15416 lt) refl

      holds_2 : Holds p.world.layout m2 c2
      holds_2 =
          let old = holds_ready (byte ∷ typed) r in
          let base = old.base in
          let size = length_2 in
          record {
            globals = old.globals;
            base = omega arith;
            low = old.low;
            is = λ k within. elim (cases_lt k 15315) [
              | inl lt ↦ far_cell k (λ z. (omega arith)) ∙ old.is k within ∙ sym (far_word k (λ z. (omega arith)))
              | inr le ↦ elim (cases_lt k 15416) [
                | inl lt ↦ sym (near_word k le lt)
                | inr le' ↦ far_cell k (λ z. le') ∙ old.is k within ∙ sym (far_word k (λ z. le'))
              ]
            ];
            words = λ k. elim (cases_lt k 15315) [
              | inl lt ↦ subst (λ (x : ℕ). x < 65536) (sym (far_word k (λ z. (omega arith)))) (old.words k)
              | inr le ↦ elim (cases_lt k 15416) [
                | inl lt ↦ (let b1 = near_byte (at_cell k) (omega arith) (omega arith) in let b2 = near_byte (at_cell k + 1) (omega arith) (omega arith) in subst (λ (x : ℕ). x < 65536) (sym (near_word k le lt)) (omega arith))
                | inr le' ↦ subst (λ (x : ℕ). x < 65536) (sym (far_word k (λ z. le'))) (old.words k)
              ]
            ];
          }

      kept_2 : IsKept p.world.layout.base story memory → IsKept p.world.layout.base story m2
      kept_2 kept =
          let room = has.mapped.room in
          let few = few_codes (byte ∷ typed) in
          drop-set-lt p.world.layout.base put1 30695 (length codes) (omega arith) ∙ put_kept p.world.layout.base story start 30696 codes (omega arith) (kept_cell p.world.layout.base story r.memory' 15315 51200 (omega arith) (r.kept kept))

      reads_it : does p (acts.Read 1 (atoms.Num 30694)) (now (byte ∷ typed) start 0 0 0) ≡ some_state (now left m2 13 0 0)
      unfolding line_in put with_local
      reads_it =
          let room = has.mapped.room in
          let few = few_codes (byte ∷ typed) in
          let low = h.low in
          rw (is_readable (byte ∷ typed) r, writes_line p.world.layout start 30694 codes (omega arith) (omega arith) (omega arith)) refl

      stand_2 : StandAt m2 30696 codes
      stand_2 =
          let room = has.mapped.room in
          let few = few_codes (byte ∷ typed) in
          let base = (holds_ready (byte ∷ typed) r).base in
          stand_keep put1 m2 30696 codes (λ j from to. get_or-set_other put1 30695 j (length codes) 0 (λ (e : j ≡ 30695). (omega arith))) (put_stand start 30696 codes (omega arith))

      abbrev line : List ℕ
      line = letters_of (first_line (byte ∷ typed))

      printed : ArePrinted (map letter codes)
      printed = subst ArePrinted (sym (codes_are_letters (byte ∷ typed))) (line_printed (byte ∷ typed))

      count_is : length codes ≡ length line
      count_is = sym (same_length codes) ∙ ap (λ (l : List ℕ). length l) (codes_are_letters (byte ∷ typed))

      reads : 1 ≤ f → 1 ≤ w → IsKept p.world.layout.base story memory → ReadsLine p story f w memory output drawn byte typed cells
      reads some enough kept =
          let room = has.mapped.room in
          let base = holds_2.base in
          let few = few_codes (byte ∷ typed) in
          let n = length codes in
          let size = put_length start 30696 codes in
          let base' = (holds_ready (byte ∷ typed) r).base in
          let n_is : slice_index m2 30695 ≡ length codes = get_or-set_same put1 30695 (length codes) 0 (omega arith) in
          let q = puts some enough codes left m2 c2 0 n 0 holds_2 (omega arith) few stand_2 printed in
          let few2 = q.few in
          let many = count_is in
          let e = cleared_is 100 (suc (suc (suc (suc q.count)))) in
          record {
            memory' = q.memory';
            cells' = q.cells';
            locals' = q.locals';
            holds = q.holds;
            kept = q.kept (kept_2 kept);
            row = subst (Row q.cells' 15745) (codes_are_letters (byte ∷ typed)) q.row;
            printed = line_printed (byte ∷ typed);
            others = λ k far. q.others k (λ z. (let v = far (omega arith) in omega arith)) ∙ far_word k (λ z. (let v = far z in omega arith)) ∙ other_cell r.cells' 15315 51200 k (λ (v : k ≡ 15315). (let u = far (omega arith) in omega arith)) ∙ r.others k (λ z. (let v = far z in omega arith));
            count = suc (cleared_count 100 (suc (suc (suc (suc q.count)))));
            few = omega arith;
            runs = subst (λ (l : List ℕ). Runs p f w READ_LINE_ACTS READ_LINE_ACTS (now (byte ∷ typed) memory 0 0 0) (Returns (length line)) (state q.memory' q.locals' l drawn output) (suc (cleared_count 100 (suc (suc (suc (suc q.count))))))) (behind_same (byte ∷ typed))
                (to_read (byte ∷ typed) r (Returns (length line)) (state q.memory' q.locals' left drawn output) (suc (suc (suc q.count)))
                (done reads_it
                (done (computes p (now left m2 13 0 0) (now left m2 13 n 0) 2 functions.Byte (atoms.Num 30694) (atoms.Num 1) 30694 1 n refl refl (reads_byte p.world.layout m2 30694 1 30695 (omega arith) (omega arith) ∙ ap word n_is) (set_2 p m2 13 0 0 0 n left drawn output))
                (done (copies p (now left m2 13 n 0) (now left m2 0 n 0) 1 (atoms.Num 0) 0 refl (set_1 p m2 13 n 0 0 0 left drawn output))
                (at_label (subst (λ (x : ℕ). Runs p f w READ_LINE_ACTS (drop 10 READ_LINE_ACTS) (now left m2 0 n 0) (Returns x) (state q.memory' q.locals' left drawn output) q.count) count_is q.runs))))));
          }

pub lines_work : LinesWork
lines_work = record {
  reads = λ p has story f w some enough memory output drawn byte typed cells h kept. reads p has story f w output drawn memory cells h byte typed (first_cleared p has story f w output drawn memory cells h (byte ∷ typed)) some enough kept;
  ends = λ p has f w memory output drawn cells h. ends p has [] f w output drawn memory cells h;
}
