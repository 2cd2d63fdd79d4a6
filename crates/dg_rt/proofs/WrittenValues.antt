-- The value whose cells were written is laid on the heap.
use Rattle.std.proofs.Common.{◌≡◌, ◌≢◌, ℕ, suc, ◌+◌, ◌*◌, ◌<◌, ◌≤◌, true, false, List, [], ◌∷◌, ◌++◌, drop, length, Some, None, refl, sym, ap, ◌∙◌, subst, arith}
use Rattle.dg_base.specs.declared.run.Ending.TheVariants.{HeapLimit}
use Rattle.z_model.specs.declared.end.Halt.TheVariants.{AtQuit}
use Rattle.dg_meaning.specs.Copies.{vars_in, vars_in_all, copy_from, copies_from, copy_cells}
use Rattle.dg_meaning.specs.Letters.{letters_in}
use Rattle.dg_meaning.specs.Substitutions.{Substitution}
use Rattle.dg_meaning.specs.Unify.{size}
use Rattle.dg_meaning.specs.Values.{Value, Var, Node, Values, NoMore, More}
use Rattle.dg_meaning.specs.inside.Unifiers.{binding_of}
use Rattle.z_lang.specs.declared.act.Act.TheVariants as acts
use Rattle.z_lang.specs.declared.act.Atom.TheVariants as atoms
use Rattle.z_lang.specs.declared.act.Comparison.TheVariants as comparisons
use Rattle.z_lang.specs.declared.act.Function.TheVariants as functions
use Rattle.z_lang.specs.State.{State, Program}
use Rattle.z_lang.specs.Runs.{ActsRun as Runs, ActsOutcome as Outcome, Returns, Stops, taken, passed, done, calls, returns, behind_label}
use Rattle.z_lang.specs.Standing.{IsKept}
use Rattle.dg_rt.specs.declared.numbers.TheConstants.{CELLS}
use Rattle.dg_rt.specs.declared.keeping.TheConstants.{CELLS_ACTS}
use Rattle.dg_rt.specs.declared.typing.TheConstants.{WRITTEN_VALUE_ACTS}
use Rattle.dg_rt.specs.Cells.{at_cell, with_cell, replaced, Holds}
use Rattle.dg_rt.specs.Areas.{heap_at, state}
use Rattle.dg_rt.specs.Charges.{MeetsLimit}
use Rattle.dg_rt.specs.Closings.{closing}
use Rattle.dg_rt.specs.Copies.{words_of, Row}
use Rattle.dg_rt.specs.CopiesIn.{Reading, CopiedIn}
use Rattle.dg_rt.specs.Laying.{copy_word}
use Rattle.dg_rt.specs.Moves.{TellsCells}
use Rattle.dg_rt.specs.RunTime.{routine_of, HasRunTime}
use Rattle.dg_rt.specs.Shapes.{Shape, IsShape, Shows, Stands}
use Rattle.dg_rt.specs.Typing.{LaysWritten, IsWritten, WrittenWorks}
use Rattle.dg_rt.proofs.Cells.{other_cell, same_cell}
use Rattle.dg_rt.proofs.Charging.{quits_full}
use Rattle.dg_rt.proofs.CopyingIn.{copy_in_works}
use Rattle.dg_rt.proofs.CopySteps.{rows_keep}
use Rattle.dg_rt.proofs.Counting.{cells_works}
use Rattle.dg_rt.proofs.Following.{tested, computes, copies, register, IsPut, puts, local_1, local_2, put_2}
use Rattle.dg_rt.proofs.LaySteps.{kept_cell}
use Rattle.dg_rt.proofs.Locals.{adds, more_by, not_more_by}
use Rattle.dg_rt.proofs.Standing.{copy_in_at}

cells_at : (p : Program) → HasRunTime p → p.routine_at (p.names.routine CELLS) ≡ Some (routine_of 4 CELLS_ACTS)
cells_at p has = has.each 50 (routine_of 4 CELLS_ACTS) refl

-- ## A copy of a value without variables is the value

mutual
  pub copied_same : (n : ℕ) (v : Value) → vars_in v ≡ 0 → copy_from n v ≡ v
  copied_same n (Var x) none = absurd (omega arith)
  copied_same n (Node f vs) none = ap (Node f) (all_copied_same n vs none)

  all_copied_same : (n : ℕ) (vs : Values) → vars_in_all vs ≡ 0 → copies_from n vs ≡ vs
  all_copied_same n NoMore none = refl
  all_copied_same n (More v vs) none = ap (λ (u : Value). More u (copies_from n vs)) (copied_same (n + vars_in_all vs) v (omega arith)) ∙ ap (λ (us : Values). More v us) (all_copied_same n vs (omega arith))

-- ## The routine

module _ (p : Program) (story : List ℕ) (captures : ℕ → ℕ) (f w : ℕ) (memory typed output : List ℕ) (drawn : ℕ) (cells : ℕ → ℕ) (v : Value) (is : IsWritten p story captures memory cells v) where
  abbrev now : List ℕ → ℕ → State
  now m x = state m (at_cell (15315 + length (words_of v)) ∷ x ∷ []) typed drawn output

  abbrev n : ℕ
  n = copy_cells v

  abbrev end : ℕ
  end = at_cell (15315 + length (words_of v))

  abbrev m1 : List ℕ
  m1 = with_cell memory 38 30694

  abbrev c1 : ℕ → ℕ
  c1 = replaced cells 38 30694

  abbrev top : ℕ
  top = cells 3 + copy_cells v

  abbrev m2 : List ℕ
  m2 = with_cell m1 39 top

  abbrev c2 : ℕ → ℕ
  c2 = replaced c1 39 top

  first_put : IsPut p (now memory 0) cells 54 30694
  first_put = let room = is.told.has.mapped.room in puts p (now memory 0) cells 54 30694 is.holds (omega arith) (omega arith) (omega arith) (omega arith)

  second_put : cells 3 ≤ 10000 → IsPut p (now m1 n) c1 55 top
  second_put low = let room = is.told.has.mapped.room in let few = is.small in puts p (now m1 n) c1 55 top first_put.holds (omega arith) (omega arith) (omega arith) (omega arith)

  kept_1 : IsKept p.world.layout.base story m1
  kept_1 = let room = is.told.has.mapped.room in kept_cell p.world.layout.base story memory 38 30694 (omega arith) is.kept

  row_1 : Row c1 15315 (words_of v)
  row_1 = rows_keep cells c1 15315 (words_of v) (λ k from to. other_cell cells 38 30694 k (λ (e : k ≡ 38). (omega arith))) is.row

  count_cells : TellsCells p 0 0 CELLS_ACTS m1 (at_cell 15315 ∷ at_cell (15315 + length (words_of v)) ∷ 0 ∷ 0 ∷ []) typed output drawn (copy_cells v) (14 * size v + 2)
  count_cells =
      let room = is.told.has.mapped.room in
      let within = is.within in
      let few = is.small in
      cells_works p story captures is.told 0 0 m1 typed output drawn c1 first_put.holds kept_1 v 15315 is.formed (omega arith) (omega arith) row_1 (omega arith)

  -- up to the test
  to_test : 1 ≤ f → 4 ≤ w → (low : cells 3 ≤ 10000) → (q : TellsCells p 0 0 CELLS_ACTS m1 (at_cell 15315 ∷ at_cell (15315 + length (words_of v)) ∷ 0 ∷ 0 ∷ []) typed output drawn (copy_cells v) (14 * size v + 2)) → (o : Outcome) (s' : State) (i : ℕ) → Runs p f w WRITTEN_VALUE_ACTS (drop 3 WRITTEN_VALUE_ACTS) (now m2 n) o s' i → Runs p f w WRITTEN_VALUE_ACTS WRITTEN_VALUE_ACTS (now memory 0) o s' (suc (suc q.count + suc i))
  to_test some enough low q o s' i rest =
      let room = is.told.has.mapped.room in
      let few = is.small in
      let heap_same : c1 3 ≡ cells 3 = other_cell cells 38 30694 3 (λ e. (omega arith)) in
      done (copies p (now memory 0) (now m1 0) 54 (atoms.Num 30694) 30694 refl first_put.put_is)
      (calls {f' = 0} {w' = 0} {n = q.count} {n' = suc i} {xs = (30694, end, 0)} {s2 = now m1 n} refl (rw (local_1 p m1 end (0 ∷ []) typed drawn output) refl) (cells_at p is.told.has) (omega arith) (omega arith) q.runs (put_2 p m1 end 0 n [] typed drawn output)
      (done (computes p (now m1 n) (now m2 n) 55 functions.Add (atoms.Var 19) (atoms.Var 2) (cells 3) n top (register p (now m1 n) c1 19 first_put.holds (omega arith) (omega arith) (omega arith) ∙ ap (λ (x : ℕ). Some x) heap_same) (local_2 p m1 end n [] typed drawn output) (adds p m1 (cells 3) n top (omega arith) (omega arith)) (second_put low).put_is)
      rest))

  meets : 2 ≤ f → 4 ≤ w → cells 3 ≤ 10000 → 10000 < top → MeetsLimit p f w WRITTEN_VALUE_ACTS memory (end ∷ 0 ∷ []) typed output drawn cells (14 * size v + 8)
  unfolding behind_label
  meets two enough low full =
      let room = is.told.has.mapped.room in
      let few = is.small in
      let q = count_cells in
      let cheap = q.few in
      let u = quits_full p is.told.has f w two WRITTEN_VALUE_ACTS (acts.Quit ∷ []) m2 (end ∷ n ∷ []) typed output drawn (cells 28) c2 (second_put low).holds (other_cell c1 39 top 28 (λ e. (omega arith)) ∙ other_cell cells 38 30694 28 (λ e. (omega arith))) in
      let cheap' = u.few in
      record {
        memory' = m2;
        count = suc (suc q.count + suc (suc (suc u.count)));
        runs = to_test (omega arith) enough low q (Stops AtQuit) (state m2 [] typed drawn (output ++ closing (cells 28) HeapLimit)) (suc (suc u.count))
            (taken (tested p (now m2 n) comparisons.Greater (atoms.Var 55) (atoms.Num 10000) true top 10000 true (register p (now m2 n) c2 55 (second_put low).holds (omega arith) (omega arith) (omega arith) ∙ ap (λ (x : ℕ). Some x) (same_cell c1 39 top)) refl (more_by top 10000 (omega arith) (omega arith) (omega arith))) refl u.runs);
        few = omega arith;
      }

-- where there is room
module _ (p : Program) (story : List ℕ) (sh : Shape) (f w : ℕ) (memory typed output : List ℕ) (drawn : ℕ) (cells : ℕ → ℕ) (v : Value) (is : IsWritten p story sh.captures memory cells v) (some : size v < f) (enough : 5 + 5 * size v ≤ w) (shape : IsShape sh) (low : (n : ℕ) → n < sh.vars → sh.place n < sh.top) (S : Substitution) (st : Stands sh cells S) (known : (n : ℕ) → sh.vars ≤ n → binding_of n S ≡ None) (heap_is : cells 3 ≡ sh.top) (fits : sh.top + copy_cells v ≤ 10000) where
  abbrev mm1 : List ℕ
  mm1 = with_cell memory 38 30694

  abbrev cc1 : ℕ → ℕ
  cc1 = replaced cells 38 30694

  abbrev topp : ℕ
  topp = cells 3 + copy_cells v

  abbrev mm2 : List ℕ
  mm2 = with_cell mm1 39 topp

  abbrev cc2 : ℕ → ℕ
  cc2 = replaced cc1 39 topp

  abbrev m3 : List ℕ
  m3 = with_cell mm2 3 topp

  abbrev c3 : ℕ → ℕ
  c3 = replaced cc2 3 topp

  abbrev here : ℕ → List ℕ → State
  here x m = state m (at_cell (15315 + length (words_of v)) ∷ x ∷ []) typed drawn output

  few_cells : cells 3 ≤ 10000
  few_cells = omega arith

  holds_2 : Holds p.world.layout mm2 cc2
  holds_2 = (second_put p story sh.captures f w memory typed output drawn cells v is few_cells).holds

  third_put : IsPut p (here (copy_cells v) mm2) cc2 19 topp
  third_put = let room = is.told.has.mapped.room in puts p (here (copy_cells v) mm2) cc2 19 topp holds_2 (omega arith) (omega arith) (omega arith) (omega arith)

  others_3 : (k : ℕ) → k ≢ 3 → k ≢ 38 → k ≢ 39 → c3 k ≡ cells k
  others_3 k no3 no38 no39 = other_cell cc2 3 topp k no3 ∙ other_cell cc1 39 topp k no39 ∙ other_cell cells 38 30694 k no38

  abbrev read_3 : Reading p story c3
  read_3 =
      let room = is.told.has.mapped.room in
      let k1 = kept_1 p story sh.captures f w memory typed output drawn cells v is in
      let k2 = kept_cell p.world.layout.base story mm1 39 topp (omega arith) k1 in
      record { memory = m3; cells = c3; holds = third_put.holds; kept = kept_cell p.world.layout.base story mm2 3 topp (omega arith) k2; behind = λ k le. refl }

  stands_3 : Stands sh c3 S
  stands_3 = record {
    sound = st.sound;
    fixed = λ k lt fx. others_3 (heap_at + k) (λ e. (omega arith)) (λ e. (omega arith)) (λ e. (omega arith)) ∙ st.fixed k lt fx;
    unbound = λ i lt e. others_3 (heap_at + sh.place i) (λ q. (omega arith)) (λ q. (omega arith)) (λ q. (omega arith)) ∙ st.unbound i lt e;
    bound = λ i u lt e. subst (λ (x : ℕ). Shows sh x u) (sym (others_3 (heap_at + sh.place i) (λ q. (omega arith)) (λ q. (omega arith)) (λ q. (omega arith)))) (st.bound i u lt e);
  }

  copied : CopiedIn p story c3 typed output drawn read_3 sh S 15315 v
  copied =
      let room = is.told.has.mapped.room in
      let within = is.within in
      copy_in_works p story sh is.told typed output drawn c3 read_3 shape low S stands_3 known v 15315 is.formed fits (omega arith) (omega arith) (omega arith)
      (rows_keep cells c3 15315 (words_of v) (λ k from to. others_3 k (λ (e : k ≡ 3). (omega arith)) (λ (e : k ≡ 38). (omega arith)) (λ (e : k ≡ 39). (omega arith))) is.row)
      (other_cell cc2 3 topp 38 (λ e. (omega arith)) ∙ other_cell cc1 39 topp 38 (λ e. (omega arith)) ∙ same_cell cells 38 30694)
      (other_cell cc2 3 topp 39 (λ e. (omega arith)) ∙ same_cell cc1 39 topp ∙ ap (λ (x : ℕ). x + copy_cells v) heap_is)

  lays : LaysWritten p f w memory typed output drawn cells sh S v (38 * size v + 8 * letters_in v + 12)
  lays =
      let room = is.told.has.mapped.room in
      let r = copied in
      let c = r.copies in
      let q = count_cells p story sh.captures f w memory typed output drawn cells v is in
      let few1 = q.few in
      let few2 = c.few in
      let n = copy_cells v in
      let end = at_cell (15315 + length (words_of v)) in
      let x = copy_word sh.top v in
      record {
        memory' = c.m'.memory;
        cells' = c.m'.cells;
        locals' = end ∷ x ∷ [];
        holds = c.m'.holds;
        sh' = r.sh';
        top = r.top;
        vars = let free = is.free in r.vars ∙ omega arith;
        grown = r.grown;
        boxes = r.new_boxes;
        shape = r.shape;
        low = r.low;
        stands = r.stands;
        word = x;
        shows = subst (Shows r.sh' x) (copied_same sh.vars v is.free) r.shows;
        heap = c.others 3 (λ e. (omega arith)) (λ e. (omega arith)) (λ e. (omega arith)) ∙ same_cell cc2 3 topp;
        others = λ k no3 no38 no39 far. c.others k no38 no39 far ∙ others_3 k no3 no38 no39;
        count = suc (suc q.count + suc (suc (suc (suc c.count + 1))));
        few = omega arith;
        runs = to_test p story sh.captures f w memory typed output drawn cells v is (omega arith) (omega arith) few_cells q (Returns x) (here x c.m'.memory) (suc (suc (suc c.count + 1)))
            (passed (tested p (here n mm2) comparisons.Greater (atoms.Var 55) (atoms.Num 10000) true topp 10000 false (register p (here n mm2) cc2 55 holds_2 (omega arith) (omega arith) (omega arith) ∙ ap (λ (y : ℕ). Some y) (same_cell cc1 39 topp)) refl (not_more_by topp 10000 (omega arith) (omega arith) (omega arith)))
            (done (copies p (here n mm2) (here n m3) 19 (atoms.Var 55) topp (register p (here n mm2) cc2 55 holds_2 (omega arith) (omega arith) (omega arith) ∙ ap (λ (y : ℕ). Some y) (same_cell cc1 39 topp)) third_put.put_is)
            (calls {f' = size v} {w' = 5 * size v} {n = c.count} {n' = 1} {xs = (0, 0, 0)} {s2 = here x c.m'.memory} refl refl (copy_in_at p is.told.has) (omega arith) (omega arith) c.runs (put_2 p c.m'.memory end n x [] typed drawn output)
            (returns (local_2 p c.m'.memory end x [] typed drawn output)))));
      }

pub written_works : WrittenWorks
written_works = record {
  lays = λ p story sh f w memory typed output drawn cells v is some enough shape low S st known heap_is fits. lays p story sh f w memory typed output drawn cells v is some enough shape low S st known heap_is fits;
  meets = λ p story captures f w memory typed output drawn cells v is two enough low full. meets p story captures f w memory typed output drawn cells v is two enough low full;
}
