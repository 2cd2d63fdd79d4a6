-- The routines that change what is set of objects do so.
use Rattle.std.proofs.Common.{◌≡◌, ℕ, suc, ◌+◌, ◌*◌, ◌<◌, ◌≤◌, Bool, true, false, List, [], ◌∷◌, drop, Option, Some, None, refl, sym, subst, arith}
use Rattle.dg_base.specs.declared.program.PlaceKind.{PlaceKind}
use Rattle.dg_base.specs.declared.program.PlaceKind.TheVariants.{ObjectVar, Parent}
use Rattle.dg_meaning.specs.Values.{Value}
use Rattle.dg_meaning.specs.Substitutions.{Substitution, walk, links, resolved}
use Rattle.dg_meaning.specs.Facts.{Fact, value_at, Alteration, Sets, Clears, ClearsAll, altered}
use Rattle.dg_meaning.specs.Changes.{sets_if_taken, object_change}
use Rattle.z_lang.specs.declared.act.Act.{Act}
use Rattle.z_lang.specs.declared.act.Act.TheVariants as acts
use Rattle.z_lang.specs.declared.act.Args.TheVariants as args
use Rattle.z_lang.specs.declared.act.Atom.TheVariants as atoms
use Rattle.z_lang.specs.declared.act.Comparison.TheVariants as comparisons
use Rattle.z_lang.specs.declared.act.Function.TheVariants as functions
use Rattle.z_lang.specs.State.{State, Program}
use Rattle.z_lang.specs.Acts.{answer_of}
use Rattle.z_lang.specs.Runs.{ActsRun as Runs, ActsOutcome as Outcome, done, taken, passed, calls, returns, behind_label}
use Rattle.dg_rt.specs.declared.numbers.TheConstants.{SIMPLE, SET, CLEAR, CLEAR_ALL, FAIL}
use Rattle.dg_rt.specs.declared.operands.TheConstants.{SIMPLE_ACTS}
use Rattle.dg_rt.specs.declared.unify.TheConstants.{WALK_ACTS}
use Rattle.dg_rt.specs.declared.world.TheConstants.{SET_ACTS, CLEAR_ACTS, CLEAR_ALL_ACTS}
use Rattle.dg_rt.specs.declared.changes.TheConstants.{SET_VALUE_ACTS, SET_PARENT_ACTS, CLEAR_VALUE_ACTS}
use Rattle.dg_rt.specs.Cells.{at_cell, compared, Holds}
use Rattle.dg_rt.specs.Areas.{state}
use Rattle.dg_rt.specs.Shapes.{Shape, Shows}
use Rattle.dg_rt.specs.RunTime.{routine_of, HasRunTime}
use Rattle.dg_rt.specs.Operands.{no_value, simple_word, object_word}
use Rattle.dg_rt.specs.Tables.{IsTable}
use Rattle.dg_rt.specs.inside.Walks.{Walks}
use Rattle.dg_rt.specs.Changes.{SetIn, TableIn, facts_behind, cleared, AltersTable, Argued, SetsValue, ClearsValue}
use Rattle.dg_rt.proofs.Altered.{set_there, set_elsewhere, cleared_there, cleared_elsewhere, all_cleared, table_with, table_all}
use Rattle.dg_rt.proofs.AtTop.{operands_work}
use Rattle.dg_rt.proofs.Following.{computes, register}
use Rattle.dg_rt.proofs.Locals.{adds, not_less_by, high_is_less, get_1, get_2, get_3, get_4, set_4}
use Rattle.dg_rt.proofs.Objects.{Valued, is_value, is_none, simple_told, Parented, is_parent, no_parent, parent_told}
use Rattle.dg_rt.proofs.Outcomes.{Ends, within, stepped, called, failed, fourth_less, setting, clearing}
use Rattle.dg_rt.proofs.Tables.{set_works, clear_works, clear_all_works}
use Rattle.dg_rt.proofs.There.{object_at}
use Rattle.dg_rt.proofs.Walking.{walk_works}

pub simple_at : (p : Program) → HasRunTime p → p.routine_at (p.names.routine SIMPLE) ≡ Some (routine_of 1 SIMPLE_ACTS)
simple_at p has = has.each 36 (routine_of 1 SIMPLE_ACTS) refl

set_at : (p : Program) → HasRunTime p → p.routine_at (p.names.routine SET) ≡ Some (routine_of 3 SET_ACTS)
set_at p has = has.each 39 (routine_of 3 SET_ACTS) refl

clear_at : (p : Program) → HasRunTime p → p.routine_at (p.names.routine CLEAR) ≡ Some (routine_of 2 CLEAR_ACTS)
clear_at p has = has.each 40 (routine_of 2 CLEAR_ACTS) refl

clear_all_at : (p : Program) → HasRunTime p → p.routine_at (p.names.routine CLEAR_ALL) ≡ Some (routine_of 2 CLEAR_ALL_ACTS)
clear_all_at p has = has.each 41 (routine_of 2 CLEAR_ALL_ACTS) refl

module _ (p : Program) (has : HasRunTime p) (f w : ℕ) (some : 3 ≤ f) (enough : 16 ≤ w) (memory typed output : List ℕ) (drawn next t n place : ℕ) (cells : ℕ → ℕ) (facts : List Fact) (h : Holds p.world.layout memory cells) (table : IsTable p t n) (small : n ≤ 4096) (lies : TableIn cells t n facts place) where
  -- What a table is behind a change.
  record Good (memory' : List ℕ) (cells' : ℕ → ℕ) (change : Option Alteration) : Type 0 where
    holds : Holds p.world.layout memory' cells'
    stands : TableIn cells' t n (facts_behind change facts) place
    others : (k : ℕ) → (t ≤ k → t + n ≤ k) → cells' k ≡ cells k

  same : Good memory cells None
  same = record { holds = h; stands = lies; others = λ k far. refl }

  abbrev now : ℕ → ℕ → State
  now b d = state memory (at_cell t ∷ b ∷ next ∷ d ∷ []) typed drawn output

  abbrev Result : List Act → List Act → State → Option Alteration → ℕ → Type 0
  Result = Ends p has f w some enough memory typed output drawn next (at_cell t) n cells Good

  -- ## Words that are written

  sets : (body more : List Act) (o d : ℕ) (v : Value) → o < n → d < 65536 → ((sh : Shape) → Shows sh d v) → Result body (acts.Call None (atoms.Routine SET) (args.Three (atoms.Var 1) (atoms.Var 2) (atoms.Var 4)) ∷ acts.Return (atoms.Var 3) ∷ more) (now o d) (Some (Sets place o v)) 4
  sets body more o d v lt fits shows =
      let r = set_works p has 0 0 memory typed output drawn t n o d cells h table lt fits in
      let few = r.few in
      let a = at_cell t in
      let is : SetIn (r.cells' (t + o)) (Some v) = λ sh. subst (λ (x : ℕ). Shows sh x v) (sym r.is) (shows sh) in
      let there : SetIn (r.cells' (t + o)) (value_at (altered (Sets place o v) facts) place o) = subst (SetIn (r.cells' (t + o))) (sym (set_there place o v facts)) is in
      record {
        memory' = r.memory';
        cells' = r.cells';
        good = record {
          holds = r.holds;
          stands = table_with cells r.cells' t n place o facts (altered (Sets place o v) facts) lt there (λ i ne. set_elsewhere place o v facts place i (λ e. ne)) r.others lies;
          others = λ j far. r.others j (λ (e : j ≡ t + o). (let z : t + n ≤ j = far (omega arith) in omega arith));
        };
        locals' = a ∷ o ∷ next ∷ d ∷ [];
        count = suc r.count + 1;
        few = omega arith;
        runs = calls {f' = 0} {w' = 0} {n = r.count} {n' = 1} {xs = (a, o, d)} {s1 = state r.memory' r.locals' typed drawn output} {s2 = state r.memory' (a ∷ o ∷ next ∷ d ∷ []) typed drawn output} refl (rw (get_1 p memory a o next d typed drawn output, get_2 p memory a o next d typed drawn output, get_4 p memory a o next d typed drawn output) refl) (set_at p has) (omega arith) (omega arith) r.runs refl (returns (get_3 p r.memory' a o next d typed drawn output));
      }

  clears : (body more : List Act) (o : ℕ) → o < n → Result body (acts.Call None (atoms.Routine CLEAR) (args.Two (atoms.Var 1) (atoms.Var 4)) ∷ acts.Return (atoms.Var 3) ∷ more) (now n o) (Some (Clears place o)) 5
  clears body more o lt =
      let r = clear_works p has 0 0 memory typed output drawn t n o cells h table lt in
      let few = r.few in
      let a = at_cell t in
      let there : SetIn (r.cells' (t + o)) (value_at (altered (Clears place o) facts) place o) = subst (SetIn (r.cells' (t + o))) (sym (cleared_there place o facts)) r.is in
      record {
        memory' = r.memory';
        cells' = r.cells';
        good = record {
          holds = r.holds;
          stands = table_with cells r.cells' t n place o facts (altered (Clears place o) facts) lt there (λ i ne. cleared_elsewhere place o facts place i (λ e. ne)) r.others lies;
          others = λ j far. r.others j (λ (e : j ≡ t + o). (let z : t + n ≤ j = far (omega arith) in omega arith));
        };
        locals' = a ∷ n ∷ next ∷ o ∷ [];
        count = suc r.count + 1;
        few = omega arith;
        runs = calls {f' = 0} {w' = 0} {n = r.count} {n' = 1} {xs = (a, o, 0)} {s1 = state r.memory' r.locals' typed drawn output} {s2 = state r.memory' (a ∷ n ∷ next ∷ o ∷ []) typed drawn output} refl (rw (get_1 p memory a n next o typed drawn output, get_4 p memory a n next o typed drawn output) refl) (clear_at p has) (omega arith) (omega arith) r.runs refl (returns (get_3 p r.memory' a n next o typed drawn output));
      }

  clears_all : (body more : List Act) (d : ℕ) → Result body (acts.Call None (atoms.Routine CLEAR_ALL) (args.Two (atoms.Var 1) (atoms.Var 2)) ∷ acts.Return (atoms.Var 3) ∷ more) (now n d) (Some (ClearsAll place)) (5 + 4 * n)
  clears_all body more d =
      let r = clear_all_works p has 0 0 memory typed output drawn t n cells h table in
      let few = r.few in
      let a = at_cell t in
      record {
        memory' = r.memory';
        cells' = r.cells';
        good = record {
          holds = r.holds;
          stands = table_all r.cells' t n place (altered (ClearsAll place) facts) r.are (λ i. all_cleared place i facts);
          others = r.others;
        };
        locals' = a ∷ n ∷ next ∷ d ∷ [];
        count = suc r.count + 1;
        few = omega arith;
        runs = calls {f' = 0} {w' = 0} {n = r.count} {n' = 1} {xs = (a, n, 0)} {s1 = state r.memory' r.locals' typed drawn output} {s2 = state r.memory' (a ∷ n ∷ next ∷ d ∷ []) typed drawn output} refl (rw (get_1 p memory a n next d typed drawn output, get_2 p memory a n next d typed drawn output) refl) (clear_all_at p has) (omega arith) (omega arith) r.runs refl (returns (get_3 p r.memory' a n next d typed drawn output));
      }

  -- ## A value is told of

  one_more : {body rest front : List Act} {s0 s1 : State} {change : Option Alteration} {most : ℕ} → Result body rest s1 change most → ((o : Outcome) (s' : State) (k : ℕ) → Runs p f w body rest s1 o s' k → Runs p f w body front s0 o s' (suc k)) → Result body front s0 change (suc most)
  one_more e step = stepped p has f w some enough memory typed output drawn next (at_cell t) n cells Good e step

  some_more : {body rest front : List Act} {s0 s1 : State} {change : Option Alteration} {most : ℕ} (c all : ℕ) → c + most ≤ all → Result body rest s1 change most → ((o : Outcome) (s' : State) (k : ℕ) → Runs p f w body rest s1 o s' k → Runs p f w body front s0 o s' (c + k)) → Result body front s0 change all
  some_more c all le e step = called p has f w some enough memory typed output drawn next (at_cell t) n cells Good c all le e step

  wider : {body more : List Act} {s : State} {change : Option Alteration} (most all : ℕ) → most ≤ all → Result body more s change most → Result body more s change all
  wider most all le e = within p has f w some enough memory typed output drawn next (at_cell t) n cells Good most all le e

  is_less : (b d : ℕ) (t' : Bool) → compared comparisons.Less d 0 ≡ t' → answer_of p (now b d) (record { comparison = comparisons.Less; first = atoms.Var 4; second = atoms.Num 0; answer = true }) ≡ Some t'
  is_less b d t' e = fourth_less p has f w some enough memory typed output drawn next (at_cell t) n cells Good b d 0 t' true e

  fails : (body rest : List Act) (b d : ℕ) → behind_label 0 body ≡ Some (acts.Return (atoms.Routine FAIL) ∷ []) → compared comparisons.Less d 0 ≡ true → Result body (acts.When (record { comparison = comparisons.Less; first = atoms.Var 4; second = atoms.Num 0; answer = true }) 0 ∷ rest) (now b d) None 2
  fails body rest b d label less = one_more (failed p has f w some enough memory typed output drawn next (at_cell t) n cells Good body [] b d same) (λ r s' k go. taken (is_less b d true less) label go)

  altered_by : {acts : List Act} {change : Option Alteration} (most all : ℕ) → most ≤ all → Result acts acts (now n 0) change most → AltersTable p f w acts memory typed output drawn t n cells facts place next change all
  altered_by most all le r = let few = r.few in record { memory' = r.memory'; cells' = r.cells'; holds = r.good.holds; table = r.good.stands; others = r.good.others; locals' = r.locals'; count = r.count; few = omega arith; runs = r.runs }

  module _ (sh : Shape) (S : Substitution) (v u : Value) (arg : Argued p memory sh cells S v) (second : Shows sh (cells 17) u) (values : List Value) where
    -- by what the second argument is
    simply : (o : ℕ) → o < n → (ru : Value) (x : ℕ) → Valued ru x → Result SET_VALUE_ACTS (drop 3 SET_VALUE_ACTS) (now o x) (sets_if_taken ObjectVar place o ru) 5
    unfolding behind_label
    simply o lt ru x (is_value _ fits taken_so shows) = rw taken_so (one_more (sets SET_VALUE_ACTS (drop 6 SET_VALUE_ACTS) o x ru lt (omega arith) shows) (λ r s' k go. passed (is_less o x false (not_less_by x 0 fits (omega arith) (omega arith))) go))
    simply o lt ru x (is_none not_taken) = rw not_taken (wider 2 5 (omega arith) (fails SET_VALUE_ACTS (drop 4 SET_VALUE_ACTS) o no_value refl (high_is_less 65535 0 (omega arith) (omega arith) (omega arith))))

    fathered : (o : ℕ) → o < n → (ru : Value) (x : ℕ) → Parented ru x → Result SET_PARENT_ACTS (drop 3 SET_PARENT_ACTS) (now o x) (sets_if_taken Parent place o ru) 6
    unfolding behind_label
    fathered o lt ru x (is_parent _ fits taken_so shows) = rw taken_so (one_more (one_more (sets SET_PARENT_ACTS (drop 7 SET_PARENT_ACTS) o (24576 + x) ru lt (omega arith) shows)
        (λ r s' k go. done (computes p (now o x) (now o (24576 + x)) 4 functions.Add (atoms.Var 4) (atoms.Num 24576) x 24576 (24576 + x) (get_4 p memory (at_cell t) o next x typed drawn output) refl (adds p memory x 24576 (24576 + x) (omega arith) (omega arith)) (set_4 p memory (at_cell t) o next x (24576 + x) typed drawn output)) go))
        (λ r s' k go. passed (is_less o x false (not_less_by x 0 (omega arith) (omega arith) (omega arith))) go))
    fathered o lt ru x (no_parent not_taken) = rw not_taken (wider 2 6 (omega arith) (fails SET_PARENT_ACTS (drop 4 SET_PARENT_ACTS) o no_value refl (high_is_less 65535 0 (omega arith) (omega arith) (omega arith))))

    -- the second argument is looked up
    shown : (o : ℕ) → Walks p f w WALK_ACTS sh S memory typed output drawn (cells 17) 0 0 0 u
    shown o = walk_works p has sh arg.shape f w memory typed output drawn 0 0 cells arg.holds S arg.stands (cells 17) 0 u second

    value_told : (o : ℕ) → o < n → Result SET_VALUE_ACTS (drop 2 SET_VALUE_ACTS) (now o 0) (sets_if_taken ObjectVar place o (resolved S u)) (5 * links S u + 14)
    value_told o lt =
        let high = has.mapped.room in
        let l = operands_work.simple p has 1 4 (omega arith) (omega arith) memory typed output drawn sh arg.shape cells arg.holds S arg.stands (cells 17) u second in
        let few = l.few in
        let x = simple_word (walk S u) in
        some_more (suc l.count) (5 * links S u + 14) (omega arith) (simply o lt (resolved S u) x (simple_told sh S arg.stands.sound u (shown o).word (shown o).shows))
        (λ r s' k go. calls {f' = 1} {w' = 4} {n = l.count} {n' = k} {xs = (cells 17, 0, 0)} {s1 = state memory l.locals' typed drawn output} {s2 = now o x} refl (rw (register p (now o 0) cells 33 h (omega arith) (omega arith) (omega arith)) refl) (simple_at p has) (omega arith) (omega arith) l.runs (set_4 p memory (at_cell t) o next 0 x typed drawn output) go)

    parent_is_told : (o : ℕ) → o < n → Result SET_PARENT_ACTS (drop 2 SET_PARENT_ACTS) (now o 0) (sets_if_taken Parent place o (resolved S u)) (5 * links S u + 15)
    parent_is_told o lt =
        let high = has.mapped.room in
        let l = operands_work.object p has 1 4 (omega arith) (omega arith) memory typed output drawn sh arg.shape cells arg.holds S arg.stands (cells 17) u second in
        let few = l.few in
        let x = object_word (walk S u) in
        some_more (suc l.count) (5 * links S u + 15) (omega arith) (fathered o lt (resolved S u) x (parent_told sh S arg.stands.sound u (shown o).word (shown o).shows))
        (λ r s' k go. calls {f' = 1} {w' = 4} {n = l.count} {n' = k} {xs = (cells 17, 0, 0)} {s1 = state memory l.locals' typed drawn output} {s2 = now o x} refl (rw (register p (now o 0) cells 33 h (omega arith) (omega arith) (omega arith)) refl) (object_at p has) (omega arith) (omega arith) l.runs (set_4 p memory (at_cell t) o next 0 x typed drawn output) go)

    -- ---- the routines

    sets_value : AltersTable p f w SET_VALUE_ACTS memory typed output drawn t n cells facts place next (object_change n ObjectVar place true (resolved S v ∷ resolved S u ∷ values)) (5 * links S v + 5 * links S u + 40)
    unfolding behind_label
    sets_value = altered_by (5 * links S v + 16 + (5 * links S u + 14)) (5 * links S v + 5 * links S u + 40) (omega arith) (setting p has f w some enough memory typed output drawn next (at_cell t) n cells Good small sh S v arg.shape arg.holds arg.stands arg.first same ObjectVar place (resolved S u ∷ values) SET_VALUE_ACTS (drop 2 SET_VALUE_ACTS) refl (5 * links S u + 14) (λ o lt. value_told o lt))

    sets_parent : AltersTable p f w SET_PARENT_ACTS memory typed output drawn t n cells facts place next (object_change n Parent place true (resolved S v ∷ resolved S u ∷ values)) (5 * links S v + 5 * links S u + 40)
    unfolding behind_label
    sets_parent = altered_by (5 * links S v + 16 + (5 * links S u + 15)) (5 * links S v + 5 * links S u + 40) (omega arith) (setting p has f w some enough memory typed output drawn next (at_cell t) n cells Good small sh S v arg.shape arg.holds arg.stands arg.first same Parent place (resolved S u ∷ values) SET_PARENT_ACTS (drop 2 SET_PARENT_ACTS) refl (5 * links S u + 15) (λ o lt. parent_is_told o lt))

  module _ (sh : Shape) (S : Substitution) (v : Value) (arg : Argued p memory sh cells S v) (values : List Value) where
    clears_value : (kind : PlaceKind) → AltersTable p f w CLEAR_VALUE_ACTS memory typed output drawn t n cells facts place next (object_change n kind place false (resolved S v ∷ values)) (10 * links S v + 4 * cleared n (object_change n kind place false (resolved S v ∷ values)) + 50)
    unfolding behind_label
    clears_value kind = altered_by (10 * links S v + 24 + 5 + 4 * cleared n (object_change n kind place false (resolved S v ∷ values))) (10 * links S v + 4 * cleared n (object_change n kind place false (resolved S v ∷ values)) + 50) (omega arith) (clearing p has f w some enough memory typed output drawn next (at_cell t) n cells Good small sh S v arg.shape arg.holds arg.stands arg.first same kind place values CLEAR_VALUE_ACTS (drop 4 CLEAR_VALUE_ACTS) (drop 7 CLEAR_VALUE_ACTS) refl refl 5 4 (λ o lt. clears CLEAR_VALUE_ACTS (drop 9 CLEAR_VALUE_ACTS) o lt) (λ d. clears_all CLEAR_VALUE_ACTS (drop 6 CLEAR_VALUE_ACTS) d))

pub set_value_works : SetsValue ObjectVar SET_VALUE_ACTS
set_value_works p has f w some enough memory typed output drawn sh cells S v u arg second t n place next facts others table small lies = sets_value p has f w some enough memory typed output drawn next t n place cells facts arg.holds table small lies sh S v u arg second others

pub set_parent_works : SetsValue Parent SET_PARENT_ACTS
set_parent_works p has f w some enough memory typed output drawn sh cells S v u arg second t n place next facts others table small lies = sets_parent p has f w some enough memory typed output drawn next t n place cells facts arg.holds table small lies sh S v u arg second others

pub clear_value_works : ClearsValue
clear_value_works p has f w some enough memory typed output drawn sh cells S v arg t n place next facts kind others table small lies = clears_value p has f w some enough memory typed output drawn next t n place cells facts arg.holds table small lies sh S v arg others kind
