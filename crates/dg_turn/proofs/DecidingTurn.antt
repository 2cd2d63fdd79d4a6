-- Tests and comparisons are turns.
use Rattle.std.proofs.Common.{◌≡◌, ℕ, suc, ◌+◌, ◌*◌, ◌<◌, ◌≤◌, Bool, true, false, List, [], ◌∷◌, length, map, Some, refl, ap, ◌∙◌, subst, arith}
use Rattle.dg_base.specs.declared.program.CompareOp.TheVariants.{Less, Greater}
use Rattle.dg_base.specs.declared.program.Term.{Term}
use Rattle.dg_base.specs.declared.program.TestKind.{TestKind}
use Rattle.dg_base.specs.declared.program.TestKind.TheVariants as test
use Rattle.dg_base.specs.declared.run.Ending.TheVariants.{HeapLimit}
use Rattle.dg_meaning.specs.Cells.{cells as cells_of}
use Rattle.dg_meaning.specs.Numbers.{are_in_order}
use Rattle.dg_meaning.specs.Substitutions.{Substitution, walk, links}
use Rattle.dg_meaning.specs.TypeTests.{passes}
use Rattle.dg_meaning.specs.Values.{Num, Word, Unknown, Object, Nil, Pair, Closure, Value, Var, Node}
use Rattle.dg_mid.specs.State.{Mid}
use Rattle.dg_mid.specs.Step.{more}
use Rattle.z_model.specs.Run.{ZState}
use Rattle.z_lang.specs.declared.act.Act.{Act}
use Rattle.z_lang.specs.declared.act.Act.TheVariants as acts
use Rattle.z_lang.specs.declared.act.Args.{Args}
use Rattle.z_lang.specs.declared.act.Args.TheVariants as args
use Rattle.z_lang.specs.declared.act.Atom.TheVariants as atoms
use Rattle.z_lang.specs.declared.act.Routine.{Routine}
use Rattle.z_lang.specs.State.{Program, State}
use Rattle.z_lang.specs.Acts.{arguments}
use Rattle.z_lang.specs.Runs.{ActsRun, Returns, routine_entered, left_with, calls, returns}
use Rattle.dg_rt.specs.declared.numbers.TheConstants.{IF_LESS}
use Rattle.dg_rt.specs.declared.conditions.TheConstants.{IF_NUMBER_ACTS, IF_WORD_ACTS, IF_UNKNOWN_ACTS, IF_LIST_ACTS, IF_EMPTY_ACTS, IF_NON_EMPTY_ACTS, IF_BOUND_ACTS, IF_FULL_ACTS, IF_UNBOUND_ACTS, IF_LESS_ACTS}
use Rattle.dg_rt.specs.inside.Walks.{steps}
use Rattle.dg_rt.specs.Cells.{with_cell, replaced}
use Rattle.dg_rt.specs.Areas.{state}
use Rattle.dg_rt.specs.RunTime.{routine_of, HasRunTime}
use Rattle.dg_rt.specs.Closings.{closing_most}
use Rattle.dg_rt.specs.Conditions.{next_if, test_acts, test_number, looked_at}
use Rattle.dg_rt.proofs.Cells.{other_cell, same_cell}
use Rattle.dg_rt.proofs.Deciding.{tests_work}
use Rattle.dg_rt.proofs.Following.{word as word_is, register, puts}
use Rattle.dg_rt.proofs.TwoNumbers.{order_works}
use Rattle.dg_rt.proofs.UnifySteps.{steps_are}
use Rattle.dg_turn.specs.Told.{Telling}
use Rattle.dg_turn.specs.Plays.{Playing, Outside, Represented, Comes, Closes}
use Rattle.dg_turn.specs.Terms.{written_in, Wrote}
use Rattle.dg_turn.specs.Turns.{agreed_next}
use Rattle.dg_turn.specs.Operating.{term_value, deciding_routine, compared_args, InFront, Deciding, test_most, TestTurns, terms_in_order, compare_most, CompareTurns}
use Rattle.dg_turn.proofs.Staying.{mid_same}
use Rattle.dg_turn.proofs.Terms.{writes_terms, meets_terms}
use Rattle.dg_turn.proofs.Ends.{next_small}
use Rattle.dg_turn.proofs.Moving.{moves, closes}

-- ## Where the routines stand

test_at : (p : Program) → HasRunTime p → (kind : TestKind) → p.routine_at (p.names.routine (test_number kind)) ≡ Some (routine_of 2 (test_acts kind))
test_at p has test.Number = has.each 54 (routine_of 2 IF_NUMBER_ACTS) refl
test_at p has test.Word = has.each 55 (routine_of 2 IF_WORD_ACTS) refl
test_at p has test.UnknownWord = has.each 56 (routine_of 2 IF_UNKNOWN_ACTS) refl
test_at p has test.List = has.each 57 (routine_of 2 IF_LIST_ACTS) refl
test_at p has test.Empty = has.each 58 (routine_of 2 IF_EMPTY_ACTS) refl
test_at p has test.NonEmpty = has.each 59 (routine_of 2 IF_NON_EMPTY_ACTS) refl
test_at p has test.Bound = has.each 60 (routine_of 2 IF_BOUND_ACTS) refl
test_at p has test.FullyBound = has.each 61 (routine_of 2 IF_FULL_ACTS) refl
test_at p has test.Unbound = has.each 62 (routine_of 2 IF_UNBOUND_ACTS) refl

order_at : (p : Program) → HasRunTime p → p.routine_at (p.names.routine IF_LESS) ≡ Some (routine_of 3 IF_LESS_ACTS)
order_at p has = has.each 63 (routine_of 3 IF_LESS_ACTS) refl

-- what comes next is the same
pub next_is : (p : Program) (behind : ℕ) (b : Bool) → next_if p b (p.names.routine behind) ≡ agreed_next p behind b
next_is p behind true = refl
next_is p behind false = refl

-- ## One routine decides

-- A routine that is called answers this.
pub record Called (t : Telling) (out : Outside) (decider : ℕ) (given : Args) (memory : List ℕ) (y most : ℕ) : Type 0 where
  pub xs : ℕ × ℕ × ℕ
  pub given_is : arguments t.p (state memory [] out.typed out.drawn out.output) given ≡ Some xs
  pub called : Routine
  pub stands : t.p.routine_at (t.p.names.routine decider) ≡ Some called
  pub few_locals : called.locals ≤ 4
  pub locals' : List ℕ
  pub count : ℕ
  pub few : count ≤ most
  pub runs : ActsRun t.p 3400 15000 called.body called.body (routine_entered (state memory [] out.typed out.drawn out.output) called.locals xs) (Returns y) (state memory locals' out.typed out.drawn out.output) count

module _ (t : Telling) (plays : Playing t) (out : Outside) (ts : List Term) (few_terms : length ts ≤ 12) (decider : ℕ) (given : Args) (behind : ℕ) (passed : Bool) (m : Mid) (z : ZState) (e : InFront t out (deciding_routine t.program ts decider given) ts m z) where
  abbrev r : Represented t out e.x m z
  r = e.rep

  abbrev n : ℕ
  n = cells_of t.program ts

  abbrev routine : Routine
  routine = deciding_routine t.program ts decider given

  abbrev last : List Act
  last = acts.Call (Some 52) (atoms.Routine decider) given ∷ acts.Return (atoms.Var 52) ∷ []

  abbrev now : List ℕ → State
  now memory = state memory [] out.typed out.drawn out.output

  abbrev vs : List Value
  vs = map (term_value t.program m) ts

  abbrev y : ℕ
  y = agreed_next t.p behind passed

  abbrev pub Written : Type 0
  Written = Wrote t out.words 3500 19000 routine.body last routine.body r.sh r.memory out.typed out.output out.drawn r.cells r.trail m n 32 vs (written_in t.program ts + 6)

  decided : (most all : ℕ) → written_in t.program ts + most + 10 ≤ all → (w1 : Written) → Called t out decider given w1.memory' y most → Comes t out y (more n m) all z
  decided most all le w1 k =
      let high = plays.has.mapped.room in
      let small = next_small t.p plays.words behind passed in
      let put = puts t.p (left_with (now w1.memory') (state w1.memory' k.locals' out.typed out.drawn out.output)) w1.cells' 52 y w1.holds (omega arith) (omega arith) (omega arith) small in
      let memory2 = with_cell w1.memory' 36 y in
      let c2 = replaced w1.cells' 36 y in
      let mid2 = mid_same t w1.sh' w1.cells' c2 r.trail (more n m) (λ j ne far. other_cell w1.cells' 36 y j (λ (q : j ≡ 36). (let a = far.1 (omega arith) in omega arith))) w1.mid in
      let fit = k.few_locals in
      let few1 = w1.few in
      let few2 = k.few in
      let e1 = steps_are w1.count (suc k.count + 1) in
      moves t plays out e.x m z r routine e.there (omega arith) y (steps w1.count (suc k.count + 1)) all memory2 [] c2 w1.sh' r.trail (more n m)
      (w1.runs (Returns y) (now memory2) (suc k.count + 1)
      (calls {f' = 3400} {w' = 15000} {n = k.count} {n' = 1} {xs = k.xs} {s1 = state w1.memory' k.locals' out.typed out.drawn out.output} {s2 = now memory2} refl k.given_is k.stands (omega arith) (omega arith) k.runs put.put_is
      (returns (register t.p (now memory2) c2 52 put.holds (omega arith) (omega arith) (omega arith) ∙ ap word_is (same_cell w1.cells' 36 y)))))
      put.holds small mid2 (omega arith)

  no_room : 10000 < m.state.heap + n → Closes t out HeapLimit (10 + closing_most) z
  no_room over =
      let k = meets_terms t plays.has 3500 19000 r.sh r.memory out.typed out.output out.drawn r.cells r.trail m r.holds r.mid routine.body (omega arith) (omega arith) last 32 ts over in
      let few = k.few in
      closes t plays out e.x m z r routine e.there (omega arith) k.count (10 + closing_most) HeapLimit k.memory' k.locals' k.runs (omega arith)

  pub deciding : (most all : ℕ) → written_in t.program ts + most + 10 ≤ all → ((w1 : Written) → Called t out decider given w1.memory' y most) → Deciding t out ts behind passed all m z
  deciding most all le by = record {
    decides = λ room. decided most all le (written room) (by (written room));
    meets = λ over. no_room over;
  }
    where
      written : m.state.heap + n ≤ 10000 → Written
      written room = writes_terms t plays.has 3500 19000 r.sh r.memory out.typed out.output out.drawn r.cells r.trail m r.holds r.mid routine.body (omega arith) (omega arith) last 32 ts (omega arith) (omega arith) (λ q. absurd (omega arith)) e.nodes room

-- ## Tests

pub test_turns : TestTurns
test_turns t plays out kind a behind m z e =
    let high = plays.has.mapped.room in
    let S = m.state.subst in
    let v = term_value t.program m a in
    let b = passes S kind v in
    let most = 15 * looked_at kind S m.state.vars v + 5 in
    deciding t plays out (a ∷ []) (omega arith) (test_number kind) (args.Two (atoms.Var 32) (atoms.Routine behind)) behind b m z e most (test_most t.program kind a m) (omega arith)
    (λ w1.
    let next = t.p.names.routine behind in
    let k = tests_work kind t.p plays.has 3400 15000 (omega arith) (omega arith) w1.memory' out.typed out.output out.drawn w1.sh' w1.mid.state.shape w1.cells' w1.holds S w1.mid.state.stands w1.mid.state.known (w1.cells' 16) next v w1.words.0 in
    let few = k.few in
    let same = ap (λ (i : ℕ). 15 * looked_at kind S i v + 5) w1.mid.state.vars in
    record {
      xs = (w1.cells' 16, next, 0);
      given_is = rw (register t.p (state w1.memory' [] out.typed out.drawn out.output) w1.cells' 32 w1.holds (omega arith) (omega arith) (omega arith)) refl;
      called = routine_of 2 (test_acts kind);
      stands = test_at t.p plays.has kind;
      few_locals = omega arith;
      locals' = k.locals';
      count = k.count;
      few = omega arith;
      runs = subst (λ (i : ℕ). ActsRun t.p 3400 15000 (test_acts kind) (test_acts kind) (state w1.memory' (w1.cells' 16 ∷ next ∷ []) out.typed out.drawn out.output) (Returns i) (state w1.memory' k.locals' out.typed out.drawn out.output) k.count) (next_is t.p behind b) k.runs;
    })

-- ## Comparisons

-- that a value is greater than another is that the other is less
turned : (v u : Value) → are_in_order Less u v ≡ are_in_order Greater v u
turned (Var x) (Var y) = refl
turned (Var x) (Node (Num n) ns) = refl
turned (Var x) (Node (Word n) ns) = refl
turned (Var x) (Node (Unknown spelling) ns) = refl
turned (Var x) (Node (Object n) ns) = refl
turned (Var x) (Node Nil ns) = refl
turned (Var x) (Node Pair ns) = refl
turned (Var x) (Node (Closure place) ns) = refl
turned (Node (Num m) ms) (Var y) = refl
turned (Node (Num m) ms) (Node (Num n) ns) = refl
turned (Node (Num m) ms) (Node (Word n) ns) = refl
turned (Node (Num m) ms) (Node (Unknown spelling) ns) = refl
turned (Node (Num m) ms) (Node (Object n) ns) = refl
turned (Node (Num m) ms) (Node Nil ns) = refl
turned (Node (Num m) ms) (Node Pair ns) = refl
turned (Node (Num m) ms) (Node (Closure place) ns) = refl
turned (Node (Word m) ms) (Var y) = refl
turned (Node (Word m) ms) (Node (Num n) ns) = refl
turned (Node (Word m) ms) (Node (Word n) ns) = refl
turned (Node (Word m) ms) (Node (Unknown spelling) ns) = refl
turned (Node (Word m) ms) (Node (Object n) ns) = refl
turned (Node (Word m) ms) (Node Nil ns) = refl
turned (Node (Word m) ms) (Node Pair ns) = refl
turned (Node (Word m) ms) (Node (Closure place) ns) = refl
turned (Node (Unknown letters) ms) (Var y) = refl
turned (Node (Unknown letters) ms) (Node (Num n) ns) = refl
turned (Node (Unknown letters) ms) (Node (Word n) ns) = refl
turned (Node (Unknown letters) ms) (Node (Unknown spelling) ns) = refl
turned (Node (Unknown letters) ms) (Node (Object n) ns) = refl
turned (Node (Unknown letters) ms) (Node Nil ns) = refl
turned (Node (Unknown letters) ms) (Node Pair ns) = refl
turned (Node (Unknown letters) ms) (Node (Closure place) ns) = refl
turned (Node (Object m) ms) (Var y) = refl
turned (Node (Object m) ms) (Node (Num n) ns) = refl
turned (Node (Object m) ms) (Node (Word n) ns) = refl
turned (Node (Object m) ms) (Node (Unknown spelling) ns) = refl
turned (Node (Object m) ms) (Node (Object n) ns) = refl
turned (Node (Object m) ms) (Node Nil ns) = refl
turned (Node (Object m) ms) (Node Pair ns) = refl
turned (Node (Object m) ms) (Node (Closure place) ns) = refl
turned (Node Nil ms) (Var y) = refl
turned (Node Nil ms) (Node (Num n) ns) = refl
turned (Node Nil ms) (Node (Word n) ns) = refl
turned (Node Nil ms) (Node (Unknown spelling) ns) = refl
turned (Node Nil ms) (Node (Object n) ns) = refl
turned (Node Nil ms) (Node Nil ns) = refl
turned (Node Nil ms) (Node Pair ns) = refl
turned (Node Nil ms) (Node (Closure place) ns) = refl
turned (Node Pair ms) (Var y) = refl
turned (Node Pair ms) (Node (Num n) ns) = refl
turned (Node Pair ms) (Node (Word n) ns) = refl
turned (Node Pair ms) (Node (Unknown spelling) ns) = refl
turned (Node Pair ms) (Node (Object n) ns) = refl
turned (Node Pair ms) (Node Nil ns) = refl
turned (Node Pair ms) (Node Pair ns) = refl
turned (Node Pair ms) (Node (Closure place) ns) = refl
turned (Node (Closure where_at) ms) (Var y) = refl
turned (Node (Closure where_at) ms) (Node (Num n) ns) = refl
turned (Node (Closure where_at) ms) (Node (Word n) ns) = refl
turned (Node (Closure where_at) ms) (Node (Unknown spelling) ns) = refl
turned (Node (Closure where_at) ms) (Node (Object n) ns) = refl
turned (Node (Closure where_at) ms) (Node Nil ns) = refl
turned (Node (Closure where_at) ms) (Node Pair ns) = refl
turned (Node (Closure where_at) ms) (Node (Closure place) ns) = refl

module _ (t : Telling) (plays : Playing t) (out : Outside) (a b : Term) (behind : ℕ) (m : Mid) (z : ZState) where
  abbrev va : Value
  va = term_value t.program m a

  abbrev vb : Value
  vb = term_value t.program m b

  abbrev S : Substitution
  S = m.state.subst

  abbrev most : ℕ
  most = 5 * (links S va + links S vb) + 24

  less_turn : InFront t out (deciding_routine t.program (a ∷ b ∷ []) IF_LESS (compared_args Less behind)) (a ∷ b ∷ []) m z → Deciding t out (a ∷ b ∷ []) behind (terms_in_order t.program Less a b m) (compare_most t.program a b m) m z
  less_turn e =
      deciding t plays out (a ∷ b ∷ []) (omega arith) IF_LESS (compared_args Less behind) behind (terms_in_order t.program Less a b m) m z e most (compare_most t.program a b m) (omega arith)
      (λ w1.
      let high = plays.has.mapped.room in
      let next = t.p.names.routine behind in
      let at = state w1.memory' [] out.typed out.drawn out.output in
      let k = order_works t.p plays.has 3400 15000 (omega arith) (omega arith) w1.memory' out.typed out.output out.drawn w1.sh' w1.mid.state.shape w1.cells' w1.holds S w1.mid.state.stands (w1.cells' 16) (w1.cells' 17) next va vb w1.words.0 w1.words.1.0 in
      let few = k.few in
      record {
        xs = (w1.cells' 16, w1.cells' 17, next);
        given_is = rw (register t.p at w1.cells' 32 w1.holds (omega arith) (omega arith) (omega arith), register t.p at w1.cells' 33 w1.holds (omega arith) (omega arith) (omega arith)) refl;
        called = routine_of 3 IF_LESS_ACTS;
        stands = order_at t.p plays.has;
        few_locals = omega arith;
        locals' = k.locals';
        count = k.count;
        few = omega arith;
        runs = subst (λ (i : ℕ). ActsRun t.p 3400 15000 IF_LESS_ACTS IF_LESS_ACTS (state w1.memory' (w1.cells' 16 ∷ w1.cells' 17 ∷ next ∷ []) out.typed out.drawn out.output) (Returns i) (state w1.memory' k.locals' out.typed out.drawn out.output) k.count) (next_is t.p behind (terms_in_order t.program Less a b m)) k.runs;
      })

  greater_turn : InFront t out (deciding_routine t.program (a ∷ b ∷ []) IF_LESS (compared_args Greater behind)) (a ∷ b ∷ []) m z → Deciding t out (a ∷ b ∷ []) behind (terms_in_order t.program Greater a b m) (compare_most t.program a b m) m z
  greater_turn e =
      deciding t plays out (a ∷ b ∷ []) (omega arith) IF_LESS (compared_args Greater behind) behind (terms_in_order t.program Greater a b m) m z e most (compare_most t.program a b m) (omega arith)
      (λ w1.
      let high = plays.has.mapped.room in
      let next = t.p.names.routine behind in
      let at = state w1.memory' [] out.typed out.drawn out.output in
      let k = order_works t.p plays.has 3400 15000 (omega arith) (omega arith) w1.memory' out.typed out.output out.drawn w1.sh' w1.mid.state.shape w1.cells' w1.holds S w1.mid.state.stands (w1.cells' 17) (w1.cells' 16) next vb va w1.words.1.0 w1.words.0 in
      let few = k.few in
      record {
        xs = (w1.cells' 17, w1.cells' 16, next);
        given_is = rw (register t.p at w1.cells' 33 w1.holds (omega arith) (omega arith) (omega arith), register t.p at w1.cells' 32 w1.holds (omega arith) (omega arith) (omega arith)) refl;
        called = routine_of 3 IF_LESS_ACTS;
        stands = order_at t.p plays.has;
        few_locals = omega arith;
        locals' = k.locals';
        count = k.count;
        few = omega arith;
        runs = subst (λ (i : ℕ). ActsRun t.p 3400 15000 IF_LESS_ACTS IF_LESS_ACTS (state w1.memory' (w1.cells' 17 ∷ w1.cells' 16 ∷ next ∷ []) out.typed out.drawn out.output) (Returns i) (state w1.memory' k.locals' out.typed out.drawn out.output) k.count) (ap (λ (q : Bool). next_if t.p q next) (turned (walk S va) (walk S vb)) ∙ next_is t.p behind (terms_in_order t.program Greater a b m)) k.runs;
      })

pub compare_turns : CompareTurns
compare_turns t plays out Less a b behind m z e = less_turn t plays out a b behind m z e
compare_turns t plays out Greater a b behind m z e = greater_turn t plays out a b behind m z e
