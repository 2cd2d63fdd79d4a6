-- The routines that look an object up, and those that go on with it, do so.
use Rattle.std.proofs.Common.{◌≡◌, ◌≢◌, ℕ, suc, ◌+◌, ◌≤◌, Bool, true, false, List, [], ◌∷◌, drop, Option, Some, None, refl, sym, ap, ◌∙◌, subst, arith}
use Rattle.std.specs.Prelude.{is_some, not, eqb}
use Rattle.std.proofs.lemmas.Bool.{eq-eqb, ne_eqb}
use Rattle.dg_meaning.specs.Values.{Value}
use Rattle.dg_meaning.specs.Facts.{value_at}
use Rattle.z_lang.specs.declared.act.Act.{Act}
use Rattle.z_lang.specs.declared.act.Atom.TheVariants as atoms
use Rattle.z_lang.specs.declared.act.Comparison.{Comparison}
use Rattle.z_lang.specs.declared.act.Comparison.TheVariants as comparisons
use Rattle.z_lang.specs.declared.act.Width.TheVariants as widths
use Rattle.z_lang.specs.declared.act.Act.TheVariants as acts
use Rattle.z_lang.specs.State.{State, Program}
use Rattle.z_lang.specs.Acts.{answer_of}
use Rattle.z_lang.specs.Runs.{ActsRun as Runs, Returns, at_label, taken, passed, done, calls, returns, behind_label}
use Rattle.dg_rt.specs.declared.numbers.TheConstants.{FAIL, VALUE}
use Rattle.dg_rt.specs.declared.world.TheConstants.{VALUE_ACTS}
use Rattle.dg_rt.specs.declared.tries.TheConstants.{LOOK_VALUE_ACTS, LOOK_FLAG_ACTS, LAND_ACTS}
use Rattle.dg_rt.specs.Cells.{at_cell, with_cell, replaced, compared, Holds, bit}
use Rattle.dg_rt.specs.Areas.{heap_at, state}
use Rattle.dg_rt.specs.Back.{at_place}
use Rattle.dg_rt.specs.RunTime.{routine_of, HasRunTime}
use Rattle.dg_rt.specs.Tables.{byte_at}
use Rattle.dg_rt.specs.Changes.{SetIn}
use Rattle.dg_rt.specs.Tries.{LookValueWorks, LookFlagWorks, LandsIn, LandWorks, TriesWork}
use Rattle.dg_rt.proofs.Cells.{holds_with, writes_cell, other_cell, same_cell}
use Rattle.dg_rt.proofs.Flagging.{are_flags}
use Rattle.dg_rt.proofs.Flags.{flag_works}
use Rattle.dg_rt.proofs.Following.{word, tested, copies, writes, register, puts, local_1, put_1}
use Rattle.dg_rt.proofs.Locals.{high_is_less, not_less_by}
use Rattle.dg_rt.proofs.Reading.{set_low}
use Rattle.dg_rt.proofs.Seeking.{seek_works, sought_works, object_works}
use Rattle.dg_rt.proofs.Standing.{flag_at}
use Rattle.dg_rt.proofs.Tables.{value_works}
use Rattle.dg_rt.proofs.Trying.{try_works}

-- ## What is set

module _ (p : Program) (has : HasRunTime p) (f w : ℕ) (memory typed output : List ℕ) (drawn : ℕ) (cells : ℕ → ℕ) (h : Holds p.world.layout memory cells) (none : cells 13 ≡ 0) where
  abbrev one : List ℕ → ℕ → State
  one m x = state m (x ∷ []) typed drawn output

  -- Behind the word of an object.
  record Told (body : List Act) (x : ℕ) (set : Option Value) : Type 0 where
    memory' : List ℕ
    cells' : ℕ → ℕ
    holds : Holds p.world.layout memory' cells'
    clash : cells' 13 ≡ bit (not (is_some set))
    others : (k : ℕ) → k ≢ 13 → cells' k ≡ cells k
    count : ℕ
    few : count ≤ 3
    runs : Runs p f w body (drop 1 body) (one memory x) (Returns x) (one memory' x) count

  -- where something is set it is answered
  abbrev test_acts : Comparison → List Act
  test_acts c = acts.When (record { comparison = c; first = atoms.Var 1; second = atoms.Num 0; answer = false }) 0 ∷ acts.Copy 29 (atoms.Num 1) ∷ acts.Label 0 ∷ acts.Return (atoms.Var 1) ∷ []

  is_set : (c : Comparison) (body : List Act) (x : ℕ) (v : Value) → drop 1 body ≡ test_acts c → behind_label 0 body ≡ Some (acts.Return (atoms.Var 1) ∷ []) → answer_of p (one memory x) (record { comparison = c; first = atoms.Var 1; second = atoms.Num 0; answer = false }) ≡ Some false → Told body x (Some v)
  is_set c body x v is there e = record {
    memory' = memory;
    cells' = cells;
    holds = h;
    clash = none;
    others = λ k ne. refl;
    count = 2;
    few = omega arith;
    runs = subst (λ (l : List Act). Runs p f w body l (one memory x) (Returns x) (one memory x) 2) (sym is) (taken e there (returns (local_1 p memory x [] typed drawn output)));
  }

  not_set : (c : Comparison) (body : List Act) (x : ℕ) → drop 1 body ≡ test_acts c → answer_of p (one memory x) (record { comparison = c; first = atoms.Var 1; second = atoms.Num 0; answer = false }) ≡ Some true → Told body x None
  not_set c body x is e =
      let room = has.mapped.room in
      let put = puts p (one memory x) cells 29 1 h (omega arith) (omega arith) (omega arith) (omega arith) in
      let m1 = with_cell memory 13 1 in
      record {
        memory' = m1;
        cells' = replaced cells 13 1;
        holds = put.holds;
        clash = same_cell cells 13 1;
        others = λ k ne. other_cell cells 13 1 k ne;
        count = 3;
        few = omega arith;
        runs = subst (λ (l : List Act). Runs p f w body l (one memory x) (Returns x) (one m1 x) 3) (sym is) (passed e (done (copies p (one memory x) (one m1 x) 29 (atoms.Num 1) 1 refl put.put_is) (at_label (returns (local_1 p m1 x [] typed drawn output)))));
      }

  less : (x : ℕ) (t : Bool) → compared comparisons.Less x 0 ≡ t → answer_of p (one memory x) (record { comparison = comparisons.Less; first = atoms.Var 1; second = atoms.Num 0; answer = false }) ≡ Some t
  less x t e = tested p (one memory x) comparisons.Less (atoms.Var 1) (atoms.Num 0) false x 0 t (local_1 p memory x [] typed drawn output) refl e

  equal : (x : ℕ) (t : Bool) → eqb x 0 ≡ t → answer_of p (one memory x) (record { comparison = comparisons.Equal; first = atoms.Var 1; second = atoms.Num 0; answer = false }) ≡ Some t
  equal x t e = tested p (one memory x) comparisons.Equal (atoms.Var 1) (atoms.Num 0) false x 0 t (local_1 p memory x [] typed drawn output) refl e

  value_told : (x : ℕ) (set : Option Value) → SetIn x set → Told LOOK_VALUE_ACTS x set
  unfolding behind_label
  value_told x None e = not_set comparisons.Less LOOK_VALUE_ACTS x refl (less x true (ap (λ (i : ℕ). compared comparisons.Less i 0) e ∙ high_is_less 65535 0 (omega arith) (omega arith) (omega arith)))
  value_told x (Some v) is = is_set comparisons.Less LOOK_VALUE_ACTS x v refl refl (less x false (not_less_by x 0 (set_low x v is) (omega arith) (omega arith)))

  flag_told : (x : ℕ) (set : Option Value) → x ≡ bit (is_some set) → Told LOOK_FLAG_ACTS x set
  unfolding behind_label
  flag_told x None e = not_set comparisons.Equal LOOK_FLAG_ACTS x refl (equal x true (ap (λ (i : ℕ). eqb i 0) e))
  flag_told x (Some v) e = is_set comparisons.Equal LOOK_FLAG_ACTS x v refl refl (equal x false (ap (λ (i : ℕ). eqb i 0) e))

value_at_number : (p : Program) → HasRunTime p → p.routine_at (p.names.routine VALUE) ≡ Some (routine_of 2 VALUE_ACTS)
value_at_number p has = has.each 38 (routine_of 2 VALUE_ACTS) refl

pub look_value_works : LookValueWorks
look_value_works p has f w some enough memory typed output drawn t n place cells facts h table lies none lt =
    let room = has.mapped.room in
    let o = cells 11 in
    let x = cells (t + o) in
    let set = value_at facts place o in
    let run = value_works p has 0 0 memory typed output drawn t n o cells h table lt in
    let k = value_told p has f w memory typed output drawn cells h none x set (lies.each o lt) in
    let few = k.few in
    record {
      memory' = k.memory';
      cells' = k.cells';
      holds = k.holds;
      clash = k.clash;
      others = k.others;
      word = x;
      small = h.words (t + o);
      word_is = lies.each o lt;
      locals' = x ∷ [];
      count = suc 2 + k.count;
      few = omega arith;
      runs = calls {f' = 0} {w' = 0} {n = 2} {n' = k.count} {xs = (at_cell t, o, 0)} {s1 = state memory (x ∷ o ∷ []) typed drawn output} {s2 = state memory (x ∷ []) typed drawn output} refl (rw (local_1 p memory (at_cell t) [] typed drawn output, register p (state memory (at_cell t ∷ []) typed drawn output) cells 27 h (omega arith) (omega arith) (omega arith)) refl) (value_at_number p has) (omega arith) (omega arith) run (put_1 p memory (at_cell t) x [] typed drawn output) k.runs;
    }

pub look_flag_works : LookFlagWorks
look_flag_works p has f w some enough memory typed output drawn b n place cells facts h table lies none lt =
    let room = has.mapped.room in
    let o = cells 11 in
    let x = byte_at cells (b + o) in
    let set = value_at facts place o in
    let q = flag_works p has 0 0 memory typed output drawn b n o cells h table (are_flags lies) lt in
    let k = flag_told p has f w memory typed output drawn cells h none x set (lies.each o lt) in
    let small : x ≤ 1 = are_flags lies o lt in
    let few = k.few in
    record {
      memory' = k.memory';
      cells' = k.cells';
      holds = k.holds;
      clash = k.clash;
      others = k.others;
      word = x;
      small = omega arith;
      word_is = tt;
      locals' = x ∷ [];
      count = suc 7 + k.count;
      few = omega arith;
      runs = calls {f' = 0} {w' = 0} {n = 7} {n' = k.count} {xs = (64 + b, o, 0)} {s1 = state memory q.locals' typed drawn output} {s2 = state memory (x ∷ []) typed drawn output} refl (rw (local_1 p memory (64 + b) [] typed drawn output, register p (state memory ((64 + b) ∷ []) typed drawn output) cells 27 h (omega arith) (omega arith) (omega arith)) refl) (flag_at p has) (omega arith) (omega arith) q.runs (put_1 p memory (64 + b) x [] typed drawn output) k.runs;
    }

-- ## Going on

module _ (p : Program) (has : HasRunTime p) (f w : ℕ) (memory typed output : List ℕ) (drawn next : ℕ) (cells : ℕ → ℕ) (h : Holds p.world.layout memory cells) where
  abbrev at : List ℕ → State
  at m = state m (next ∷ []) typed drawn output

  clash_is : (t : Bool) → eqb (cells 13) 0 ≡ t → answer_of p (at memory) (record { comparison = comparisons.Equal; first = atoms.Var 29; second = atoms.Num 0; answer = false }) ≡ Some t
  clash_is t e = let room = has.mapped.room in tested p (at memory) comparisons.Equal (atoms.Var 29) (atoms.Num 0) false (cells 13) 0 t (register p (at memory) cells 29 h (omega arith) (omega arith) (omega arith)) refl e

  land_fails : cells 13 ≢ 0 → Runs p f w LAND_ACTS LAND_ACTS (at memory) (Returns (p.names.routine FAIL)) (at memory) 2
  unfolding behind_label
  land_fails ne = taken (clash_is false (ne_eqb (cells 13) 0 ne)) refl (returns refl)

  lands : (top : ℕ) → cells 13 ≡ 0 → cells 9 ≡ at_place top → top ≤ 10000 → LandsIn p f w memory typed output drawn next top cells
  lands top e cut low =
      let room = has.mapped.room in
      let k = heap_at + (top + 3) in
      let x = cells 6 in
      let m1 = with_cell memory k x in
      let c1 = replaced cells k x in
      let h1 = holds_with p.world.layout memory cells k x h (omega arith) (h.words 6) in
      let w0 = at_place top in
      let cut1 : c1 9 ≡ w0 = other_cell cells k x 9 (λ q. (omega arith)) ∙ cut in
      let put = puts p (at m1) c1 22 w0 h1 (omega arith) (omega arith) (omega arith) (omega arith) in
      let m2 = with_cell m1 6 w0 in
      let c2 = replaced c1 6 w0 in
      record {
        memory' = m2;
        cells' = c2;
        holds = put.holds;
        inner = same_cell c1 6 w0;
        around = other_cell c1 6 w0 k (λ q. (omega arith)) ∙ same_cell cells k x;
        others = λ j n6 nk. other_cell c1 6 w0 j n6 ∙ other_cell cells k x j nk;
        runs = passed (clash_is true (eq-eqb (cells 13) 0 e))
            (done (writes p (at memory) widths.Word (atoms.Num 676) (atoms.Var 25) (atoms.Var 22) 676 w0 x m1 refl (register p (at memory) cells 25 h (omega arith) (omega arith) (omega arith) ∙ ap word cut) (register p (at memory) cells 22 h (omega arith) (omega arith) (omega arith)) (writes_cell p.world.layout memory cells 676 w0 x k h (omega arith) (omega arith)))
            (done (copies p (at m1) (at m2) 22 (atoms.Var 25) w0 (register p (at m1) c1 25 h1 (omega arith) (omega arith) (omega arith) ∙ ap word cut1) put.put_is)
            (returns (local_1 p m2 next [] typed drawn output))));
      }

pub land_works : LandWorks
land_works = record {
  lands = λ p has f w memory typed output drawn next top cells h e cut low. lands p has f w memory typed output drawn next cells h top e cut low;
  fails = λ p has f w memory typed output drawn next cells h ne. land_fails p has f w memory typed output drawn next cells h ne;
}

pub tries_work : TriesWork
tries_work = record {
  seek = seek_works;
  sought = sought_works;
  object = object_works;
  tried = try_works;
  value = look_value_works;
  flag = look_flag_works;
  land = land_works;
}
