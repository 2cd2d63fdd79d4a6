-- The routines that read what is set of objects do so, and all that change it or read it.
use Rattle.std.proofs.Common.{◌≡◌, ◌≢◌, ℕ, suc, ◌+◌, ◌<◌, ◌≤◌, Bool, true, false, List, [], ◌∷◌, drop, Option, Some, None, refl, sym, ap, ◌∙◌, subst, arith}
use Rattle.std.specs.Prelude.{is_some, not, eqb}
use Rattle.dg_meaning.specs.Values.{Value, Node}
use Rattle.dg_meaning.specs.Substitutions.{walk, resolved}
use Rattle.dg_meaning.specs.Facts.{Fact, value_at}
use Rattle.z_lang.specs.declared.act.Act.{Act}
use Rattle.z_lang.specs.declared.act.Act.TheVariants as acts
use Rattle.z_lang.specs.declared.act.Atom.TheVariants as atoms
use Rattle.z_lang.specs.declared.act.Comparison.TheVariants as comparisons
use Rattle.z_lang.specs.declared.act.Function.TheVariants as functions
use Rattle.z_lang.specs.declared.act.Width.TheVariants as widths
use Rattle.z_lang.specs.State.{State, Program}
use Rattle.z_lang.specs.Acts.{answer_of}
use Rattle.z_lang.specs.Runs.{ActsRun as Runs, ActsOutcome as Outcome, Returns, done, taken, passed, calls, returns, behind_label}
use Rattle.dg_rt.specs.declared.numbers.TheConstants.{VALUE}
use Rattle.dg_rt.specs.declared.world.TheConstants.{VALUE_ACTS}
use Rattle.dg_rt.specs.declared.changes.TheConstants.{IF_RAISED_ACTS, IF_SET_ACTS, READ_VALUE_ACTS}
use Rattle.dg_rt.specs.Cells.{at_cell, compared, with_cell, replaced, Holds, bit}
use Rattle.dg_rt.specs.Areas.{state}
use Rattle.dg_rt.specs.Shapes.{Shape, Shows, number, dict, object, nil, variable, boxed}
use Rattle.dg_rt.specs.RunTime.{routine_of, HasRunTime}
use Rattle.dg_rt.specs.Operands.{no_value}
use Rattle.dg_rt.specs.Conditions.{next_if}
use Rattle.dg_rt.specs.Tables.{IsTable, byte_at, AreBytes}
use Rattle.dg_rt.specs.Changes.{SetIn, TableIn, FlagsIn, set_of, TestsFlag, TestsSet, PutsWord, ValuesAreRead, ChangesWork}
use Rattle.dg_rt.proofs.Cells.{holds_with, reads_cell, writes_cell, other_cell, same_cell}
use Rattle.dg_rt.proofs.Changing.{set_value_works, set_parent_works, clear_value_works}
use Rattle.dg_rt.proofs.Flagging.{are_flags, raise_works, lower_works}
use Rattle.dg_rt.proofs.Flags.{flag_works}
use Rattle.dg_rt.proofs.Following.{tested, computes, copies, writes, puts, local_1, local_2, local_3, put_1, put_2}
use Rattle.dg_rt.proofs.Locals.{not_less_by, high_is_less}
use Rattle.dg_rt.proofs.Objects.{Told, is_there, is_past, is_free, is_other, nothing_other}
use Rattle.dg_rt.proofs.Standing.{flag_at}
use Rattle.dg_rt.proofs.Tables.{value_works}
use Rattle.dg_rt.proofs.There.{told_first}

value_at_number : (p : Program) → HasRunTime p → p.routine_at (p.names.routine VALUE) ≡ Some (routine_of 2 VALUE_ACTS)
value_at_number p has = has.each 38 (routine_of 2 VALUE_ACTS) refl

-- A heap of nothing.
abbrev empty : Shape
empty = record { top = 0; vars = 0; place = λ k. 0; fixed = λ k. 0; box = λ k. None; captures = λ k. 0 }

in_empty : (x : ℕ) (v : Value) → Shows empty x v → x < 32768
in_empty x v (number n lt) = omega arith
in_empty x v (dict n lt) = omega arith
in_empty x v (object n lt) = omega arith
in_empty x v nil = omega arith
in_empty x v (variable n lt) = absurd (omega arith)
in_empty x v (boxed k header lt box cell filled) = absurd (cc)

-- What stands for a value in every heap is no reference.
pub set_low : (x : ℕ) (v : Value) → SetIn x (Some v) → x < 32768
set_low x v is = in_empty x v (is empty)

none_less : compared comparisons.Less 65535 0 ≡ true
none_less = high_is_less 65535 0 (omega arith) (omega arith) (omega arith)

low_not_less : (x : ℕ) → x < 32768 → compared comparisons.Less x 0 ≡ false
low_not_less x lt = not_less_by x 0 lt (omega arith) (omega arith)

-- ## A flag of no object

pub put_works : PutsWord
put_works p f w memory typed output drawn t x next cells h table small =
    let within = table.within in
    let low = h.low in
    let a = at_cell t in
    let m1 = with_cell memory t x in
    record {
      memory' = m1;
      cells' = replaced cells t x;
      holds = holds_with p.world.layout memory cells t x h (omega arith) small;
      is = same_cell cells t x;
      others = λ k ne. other_cell cells t x k ne;
      runs = done (writes p (state memory (a ∷ x ∷ next ∷ []) typed drawn output) widths.Word (atoms.Var 1) (atoms.Num 0) (atoms.Var 2) a 0 x m1 (local_1 p memory a (x ∷ next ∷ []) typed drawn output) refl (local_2 p memory a x (next ∷ []) typed drawn output) (writes_cell p.world.layout memory cells a 0 x t h (omega arith) (omega arith)))
          (returns (local_3 p m1 a x next [] typed drawn output));
    }

module _ (p : Program) (f w : ℕ) (memory typed output : List ℕ) (drawn next : ℕ) where
  abbrev two : ℕ → State
  two x = state memory (x ∷ next ∷ []) typed drawn output

  record Decided (x : ℕ) (passed : Bool) : Type 0 where
    count : ℕ
    few : count ≤ 3
    runs : Runs p f w IF_SET_ACTS (drop 1 IF_SET_ACTS) (two x) (Returns (next_if p passed next)) (two x) count

  first_less : (x : ℕ) (t' : Bool) → compared comparisons.Less x 0 ≡ t' → answer_of p (two x) (record { comparison = comparisons.Less; first = atoms.Var 1; second = atoms.Num 0; answer = true }) ≡ Some t'
  first_less x t' e = tested p (two x) comparisons.Less (atoms.Var 1) (atoms.Num 0) true x 0 t' (local_1 p memory x (next ∷ []) typed drawn output) refl e

  decided : (x : ℕ) (set : Option Value) → SetIn x set → Decided x (is_some set)
  unfolding behind_label
  decided x None e = record { count = 2; few = omega arith; runs = taken (first_less x true (ap (λ (i : ℕ). compared comparisons.Less i 0) e ∙ none_less)) refl (returns refl) }
  decided x (Some v) is = record { count = 2; few = omega arith; runs = passed (first_less x false (low_not_less x (set_low x v is))) (returns (local_2 p memory x next [] typed drawn output)) }

pub is_set_works : TestsSet
is_set_works p has f w memory typed output drawn cells h t place next facts table lies =
    let within = table.within in
    let low = h.low in
    let a = at_cell t in
    let x = cells (t + 0) in
    let d = decided p f w memory typed output drawn next x (value_at facts place 0) (lies.each 0 (omega arith)) in
    let few = d.few in
    record {
      locals' = x ∷ next ∷ [];
      count = suc d.count;
      few = omega arith;
      runs = done (computes p (two p f w memory typed output drawn next a) (two p f w memory typed output drawn next x) 1 functions.Word (atoms.Var 1) (atoms.Num 0) a 0 x (local_1 p memory a (next ∷ []) typed drawn output) refl (reads_cell p.world.layout memory cells a 0 (t + 0) h (omega arith) (omega arith)) (put_1 p memory a x (next ∷ []) typed drawn output)) d.runs;
    }

-- ## A flag of an object

module _ (p : Program) (has : HasRunTime p) (f w : ℕ) (some : 3 ≤ f) (enough : 16 ≤ w) (memory typed output : List ℕ) (drawn next b n place : ℕ) (cells : ℕ → ℕ) (facts : List Fact) (h : Holds p.world.layout memory cells) (table : AreBytes p b n) (small : n ≤ 4096) (lies : FlagsIn cells b n facts place) where
  abbrev three : ℕ → State
  three x = state memory ((64 + b) ∷ x ∷ next ∷ []) typed drawn output

  record Flagged (more : List Act) (x most : ℕ) (passed : Bool) : Type 0 where
    locals' : List ℕ
    count : ℕ
    few : count ≤ most
    runs : Runs p f w IF_RAISED_ACTS more (three x) (Returns (next_if p passed next)) (state memory locals' typed drawn output) count

  second_less : (x : ℕ) (t' : Bool) → compared comparisons.Less x 0 ≡ t' → answer_of p (three x) (record { comparison = comparisons.Less; first = atoms.Var 2; second = atoms.Num 0; answer = true }) ≡ Some t'
  second_less x t' e = tested p (three x) comparisons.Less (atoms.Var 2) (atoms.Num 0) true x 0 t' (local_2 p memory (64 + b) x (next ∷ []) typed drawn output) refl e

  second_is : (x : ℕ) (t' : Bool) → eqb x 0 ≡ t' → answer_of p (three x) (record { comparison = comparisons.Equal; first = atoms.Var 2; second = atoms.Num 0; answer = true }) ≡ Some t'
  second_is x t' e = tested p (three x) comparisons.Equal (atoms.Var 2) (atoms.Num 0) true x 0 t' (local_2 p memory (64 + b) x (next ∷ []) typed drawn output) refl e

  nothing : (set : Option Value) → set ≡ None → Flagged (drop 1 IF_RAISED_ACTS) no_value 16 (is_some set)
  unfolding behind_label
  nothing set e = rw e (record { locals' = (64 + b) ∷ no_value ∷ next ∷ []; count = 2; few = omega arith; runs = taken (second_less no_value true none_less) refl (returns refl) })

  by_flag : (set : Option Value) (x : ℕ) → x ≡ bit (is_some set) → Flagged (drop 3 IF_RAISED_ACTS) x 2 (is_some set)
  unfolding behind_label
  by_flag None x e = record { locals' = (64 + b) ∷ x ∷ next ∷ []; count = 2; few = omega arith; runs = taken (second_is x true (ap (λ (i : ℕ). eqb i 0) e)) refl (returns refl) }
  by_flag (Some v) x e = record { locals' = (64 + b) ∷ x ∷ next ∷ []; count = 2; few = omega arith; runs = passed (second_is x false (ap (λ (i : ℕ). eqb i 0) e)) (returns (local_3 p memory (64 + b) x next [] typed drawn output)) }

  there : (o : ℕ) → o < n → Flagged (drop 1 IF_RAISED_ACTS) o 16 (is_some (value_at facts place o))
  there o lt =
      let x = byte_at cells (b + o) in
      let k = flag_works p has 0 0 memory typed output drawn b n o cells h table (are_flags lies) lt in
      let d = by_flag (value_at facts place o) x (lies.each o lt) in
      let few = d.few in
      record {
        locals' = d.locals';
        count = suc (suc 7 + d.count);
        few = omega arith;
        runs = passed (second_less o false (low_not_less o (omega arith)))
            (calls {f' = 0} {w' = 0} {n = 7} {n' = d.count} {xs = (64 + b, o, 0)} {s1 = state memory k.locals' typed drawn output} {s2 = three x} refl (rw (local_1 p memory (64 + b) (o ∷ next ∷ []) typed drawn output, local_2 p memory (64 + b) o (next ∷ []) typed drawn output) refl) (flag_at p has) (omega arith) (omega arith) k.runs (put_2 p memory (64 + b) o x (next ∷ []) typed drawn output) d.runs);
      }

  flag_told : (wv rv : Value) (x : ℕ) → Told n wv rv x → Flagged (drop 1 IF_RAISED_ACTS) x 16 (is_some (set_of facts place wv))
  flag_told wv rv x (is_there o parts others lt) = there o lt
  flag_told wv rv x (is_past o parts others le) = nothing (value_at facts place o) (lies.few o le)
  flag_told wv rv x (is_free i) = nothing None refl
  flag_told wv rv x (is_other g parts others none) = nothing (set_of facts place (Node g parts)) (nothing_other facts place g parts none)

pub raised_works : TestsFlag
raised_works p has f w some enough memory typed output drawn sh cells S v arg b n place next facts table small lies =
    let t = told_first p has f w some enough IF_RAISED_ACTS (drop 1 IF_RAISED_ACTS) memory ((64 + b) ∷ n ∷ next ∷ []) typed output drawn sh arg.shape cells arg.holds S arg.stands 2 n small (λ y. (64 + b) ∷ y ∷ next ∷ []) (λ y. put_2 p memory (64 + b) n y (next ∷ []) typed drawn output) (local_2 p memory (64 + b) n (next ∷ []) typed drawn output) v arg.first in
    let k = flag_told p has f w some enough memory typed output drawn next b n place cells facts arg.holds table small lies (walk S v) (resolved S v) t.answer t.told in
    let few = t.few in
    let few' = k.few in
    record { locals' = k.locals'; count = t.count + k.count; few = omega arith; runs = t.runs (Returns (next_if p (is_some (set_of facts place (walk S v))) next)) _ k.count k.runs }

-- ## A value of an object

module _ (p : Program) (has : HasRunTime p) (f w : ℕ) (some : 3 ≤ f) (enough : 16 ≤ w) (memory typed output : List ℕ) (drawn t n place : ℕ) (cells : ℕ → ℕ) (facts : List Fact) (h : Holds p.world.layout memory cells) (table : IsTable p t n) (small : n ≤ 4096) (lies : TableIn cells t n facts place) where
  abbrev a : ℕ
  a = at_cell t

  abbrev memory1 : List ℕ
  memory1 = with_cell memory 13 1

  abbrev c1 : ℕ → ℕ
  c1 = replaced cells 13 1

  abbrev before : ℕ → State
  before x = state memory (a ∷ x ∷ []) typed drawn output

  abbrev now : ℕ → State
  now x = state memory1 (a ∷ x ∷ []) typed drawn output

  record Read (more : List Act) (start : State) (set : Option Value) (most : ℕ) : Type 0 where
    memory' : List ℕ
    cells' : ℕ → ℕ
    holds : Holds p.world.layout memory' cells'
    clash : cells' 13 ≡ bit (not (is_some set))
    others : (k : ℕ) → k ≢ 13 → cells' k ≡ cells k
    word : ℕ
    is : SetIn word set
    locals' : List ℕ
    count : ℕ
    few : count ≤ most
    runs : Runs p f w READ_VALUE_ACTS more start (Returns word) (state memory' locals' typed drawn output) count

  -- one act more in front
  stepped : {rest front : List Act} {s0 s1 : State} {set : Option Value} {most : ℕ} → Read rest s1 set most → ((o : Outcome) (s' : State) (k : ℕ) → Runs p f w READ_VALUE_ACTS rest s1 o s' k → Runs p f w READ_VALUE_ACTS front s0 o s' (suc k)) → Read front s0 set (suc most)
  stepped e step =
      let few = e.few in
      record { memory' = e.memory'; cells' = e.cells'; holds = e.holds; clash = e.clash; others = e.others; word = e.word; is = e.is; locals' = e.locals'; count = suc e.count; few = omega arith; runs = step (Returns e.word) _ e.count e.runs }

  holds1 : Holds p.world.layout memory1 c1
  holds1 = let high = has.mapped.room in (puts p (before n) cells 29 1 h (omega arith) (omega arith) (omega arith) (omega arith)).holds

  clashed : {set : Option Value} {most : ℕ} {rest : List Act} (x : ℕ) → Read rest (now x) set most → Read (acts.Copy 29 (atoms.Num 1) ∷ rest) (before x) set (suc most)
  clashed x e =
      let high = has.mapped.room in
      stepped e (λ o s' k r. done (copies p (before x) (now x) 29 (atoms.Num 1) 1 refl (puts p (before x) cells 29 1 h (omega arith) (omega arith) (omega arith) (omega arith)).put_is) r)

  second_lower : (x : ℕ) (t' : Bool) → compared comparisons.Less x 0 ≡ t' → answer_of p (now x) (record { comparison = comparisons.Less; first = atoms.Var 2; second = atoms.Num 0; answer = true }) ≡ Some t'
  second_lower x t' e = tested p (now x) comparisons.Less (atoms.Var 2) (atoms.Num 0) true x 0 t' (local_2 p memory1 a x [] typed drawn output) refl e

  -- nothing is set
  none_read : (rest : List Act) (x : ℕ) → x ≡ no_value → Read (acts.When (record { comparison = comparisons.Less; first = atoms.Var 2; second = atoms.Num 0; answer = true }) 0 ∷ rest) (now x) None 4
  unfolding behind_label
  none_read rest x e = record {
    memory' = memory1;
    cells' = c1;
    holds = holds1;
    clash = same_cell cells 13 1;
    others = λ k ne. other_cell cells 13 1 k ne;
    word = no_value;
    is = refl;
    locals' = a ∷ x ∷ [];
    count = 2;
    few = omega arith;
    runs = taken (second_lower x true (ap (λ (i : ℕ). compared comparisons.Less i 0) e ∙ none_less)) refl (returns refl);
  }

  -- something is
  some_read : (x : ℕ) (v : Value) → SetIn x (Some v) → Read (drop 4 READ_VALUE_ACTS) (now x) (Some v) 4
  some_read x v is =
      let high = has.mapped.room in
      let put_it = puts p (now x) c1 29 0 holds1 (omega arith) (omega arith) (omega arith) (omega arith) in
      let m2 = with_cell memory1 13 0 in
      record {
        memory' = m2;
        cells' = replaced c1 13 0;
        holds = put_it.holds;
        clash = same_cell c1 13 0;
        others = λ k ne. other_cell c1 13 0 k ne ∙ other_cell cells 13 1 k ne;
        word = x;
        is = is;
        locals' = a ∷ x ∷ [];
        count = 3;
        few = omega arith;
        runs = passed (second_lower x false (low_not_less x (set_low x v is)))
            (done (copies p (now x) (state m2 (a ∷ x ∷ []) typed drawn output) 29 (atoms.Num 0) 0 refl put_it.put_is)
            (returns (local_2 p m2 a x [] typed drawn output)));
      }

  by_set : (x : ℕ) (set : Option Value) → SetIn x set → Read (drop 4 READ_VALUE_ACTS) (now x) set 4
  by_set x None e = none_read (drop 5 READ_VALUE_ACTS) x e
  by_set x (Some v) is = some_read x v is

  value_there : (o : ℕ) → o < n → Read (drop 1 READ_VALUE_ACTS) (before o) (value_at facts place o) 10
  value_there o lt =
      let from = table.from in
      let x = c1 (t + o) in
      let e : c1 (t + o) ≡ cells (t + o) = other_cell cells 13 1 (t + o) (λ (q : t + o ≡ 13). (omega arith)) in
      let set = value_at facts place o in
      let k = value_works p has 0 0 memory1 typed output drawn t n o c1 holds1 table lt in
      let d = by_set x set (subst (λ (i : ℕ). SetIn i set) (sym e) (lies.each o lt)) in
      let few = d.few in
      clashed o (record {
        memory' = d.memory';
        cells' = d.cells';
        holds = d.holds;
        clash = d.clash;
        others = d.others;
        word = d.word;
        is = d.is;
        locals' = d.locals';
        count = suc (suc 2 + d.count);
        few = omega arith;
        runs = passed (second_lower o false (low_not_less o (omega arith)))
            (calls {f' = 0} {w' = 0} {n = 2} {n' = d.count} {xs = (a, o, 0)} {s1 = state memory1 (x ∷ o ∷ []) typed drawn output} {s2 = now x} refl (rw (local_1 p memory1 a (o ∷ []) typed drawn output, local_2 p memory1 a o [] typed drawn output) refl) (value_at_number p has) (omega arith) (omega arith) k (put_2 p memory1 a o x [] typed drawn output) d.runs);
      })

  nowhere : (set : Option Value) → set ≡ None → Read (drop 1 READ_VALUE_ACTS) (before no_value) set 10
  nowhere set e = rw e (let r = clashed no_value (none_read (drop 3 READ_VALUE_ACTS) no_value refl) in let few = r.few in record { memory' = r.memory'; cells' = r.cells'; holds = r.holds; clash = r.clash; others = r.others; word = r.word; is = r.is; locals' = r.locals'; count = r.count; few = omega arith; runs = r.runs })

  value_told : (wv rv : Value) (x : ℕ) → Told n wv rv x → Read (drop 1 READ_VALUE_ACTS) (before x) (set_of facts place wv) 10
  value_told wv rv x (is_there o parts others lt) = value_there o lt
  value_told wv rv x (is_past o parts others le) = nowhere (value_at facts place o) (lies.few o le)
  value_told wv rv x (is_free i) = nowhere None refl
  value_told wv rv x (is_other g parts others none) = nowhere (set_of facts place (Node g parts)) (nothing_other facts place g parts none)

pub read_works : ValuesAreRead
read_works p has f w some enough memory typed output drawn sh cells S v arg t n place facts table small lies =
    let q = told_first p has f w some enough READ_VALUE_ACTS (drop 1 READ_VALUE_ACTS) memory (at_cell t ∷ n ∷ []) typed output drawn sh arg.shape cells arg.holds S arg.stands 2 n small (λ y. at_cell t ∷ y ∷ []) (λ y. put_2 p memory (at_cell t) n y [] typed drawn output) (local_2 p memory (at_cell t) n [] typed drawn output) v arg.first in
    let k = value_told p has f w some enough memory typed output drawn t n place cells facts arg.holds table small lies (walk S v) (resolved S v) q.answer q.told in
    let few = q.few in
    let few' = k.few in
    record { memory' = k.memory'; cells' = k.cells'; holds = k.holds; clash = k.clash; others = k.others; word = k.word; is = k.is; locals' = k.locals'; count = q.count + k.count; few = omega arith; runs = q.runs (Returns k.word) _ k.count k.runs }

pub changes_work : ChangesWork
changes_work = record {
  set_value = set_value_works;
  set_parent = set_parent_works;
  clear_value = clear_value_works;
  raise = raise_works;
  lower = lower_works;
  put = put_works;
  raised = raised_works;
  is_set = is_set_works;
  read = read_works;
}
