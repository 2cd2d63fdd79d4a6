-- The body of a closure is entered: one turn of the story.
use Rattle.std.proofs.Common.{◌≡◌, ◌≢◌, ℕ, suc, ◌+◌, ◌-◌, ◌<◌, ◌≤◌, true, false, List, [], ◌∷◌, ◌++◌, length, map, get_or, Some, None, refl, sym, ap, ◌∙◌, subst, arith}
use Rattle.std.specs.List.{zip}
use Rattle.dg_base.specs.declared.program.CoreProgram.{CoreProgram}
use Rattle.dg_base.specs.declared.program.Term.{out-Term}
use Rattle.dg_base.specs.declared.program.Term.TheVariants.{Var as Var-Term}
use Rattle.dg_base.specs.declared.run.Ending.TheVariants.{HeapLimit, TrailLimit}
use Rattle.dg_meaning.specs.Copies.{values_of}
use Rattle.dg_meaning.specs.Moves.{new_vars}
use Rattle.dg_meaning.specs.Unify.{Unified, solve}
use Rattle.dg_meaning.specs.Values.{Closure, Nil, Value, Node, Values, leaf, value_of, value_of_var}
use Rattle.dg_mid.specs.declared.code.BodyCode.{BodyCode}
use Rattle.dg_mid.specs.State.{Call, Mid}
use Rattle.dg_mid.specs.Step.{bound, trail_more, parameter}
use Rattle.z_model.specs.declared.end.Halt.TheVariants.{AtQuit}
use Rattle.z_model.specs.Run.{ZState}
use Rattle.z_lang.specs.declared.act.Act.{Act}
use Rattle.z_lang.specs.declared.act.Act.TheVariants as acts
use Rattle.z_lang.specs.declared.act.Args.TheVariants as args
use Rattle.z_lang.specs.declared.act.Atom.TheVariants as atoms
use Rattle.z_lang.specs.declared.act.Comparison.TheVariants as comparisons
use Rattle.z_lang.specs.declared.act.Routine.{Routine}
use Rattle.z_lang.specs.State.{State, value}
use Rattle.z_lang.specs.Acts.{computed, answer_of}
use Rattle.z_lang.specs.declared.act.Function.TheVariants as functions
use Rattle.z_lang.proofs.Stretches.{leads_then}
use Rattle.z_lang.specs.Runs.{ActsRun, ActsOutcome, Returns, Stops, taken, passed, done, calls, calls_last, returns, at_label, behind_label, left_with}
use Rattle.dg_rt.specs.declared.numbers.TheConstants.{VAR, BODY, MATCHED, ENTER_BODY}
use Rattle.dg_rt.specs.inside.Walks.{steps}
use Rattle.dg_rt.specs.Cells.{with_cell, replaced, Holds, bit}
use Rattle.dg_rt.specs.Areas.{heap_at, trail_at, state}
use Rattle.dg_rt.specs.declared.closures.TheConstants.{ENTER_BODY_ACTS}
use Rattle.dg_rt.specs.RunTime.{routine_of}
use Rattle.dg_rt.specs.Back.{at_place}
use Rattle.dg_rt.specs.Frames.{ClosureIn, Captured}
use Rattle.dg_rt.specs.Queries.{EntersBody}
use Rattle.dg_rt.specs.Shapes.{Shows}
use Rattle.dg_rt.specs.Unifies.{price}
use Rattle.dg_rt.specs.Closings.{closing, closing_most}
use Rattle.dg_rt.proofs.Bodies.{body_works}
use Rattle.dg_rt.proofs.Cells.{other_cell, same_cell, reads_cell}
use Rattle.dg_rt.proofs.Following.{bool, word as word_is, tested, computes, copies, register, puts}
use Rattle.dg_rt.proofs.Showing.{word_small}
use Rattle.dg_rt.proofs.UnifySteps.{steps_are}
use Rattle.dg_rt.proofs.Variables.{var_works}
use Rattle.dg_turn.specs.Told.{Telling}
use Rattle.dg_turn.specs.Lies.{bit_of, MidIn}
use Rattle.dg_turn.specs.Plays.{Playing, Outside, Represented, Comes, Closes}
use Rattle.dg_turn.specs.Turns.{agreed_next, match_acts}
use Rattle.dg_turn.specs.Bodies.{FindsAt, BodyAt, entered_body, body_most, BodyTurns}
use Rattle.dg_turn.proofs.Standing.{body_at, var_at, matched_at, enter_body_at}
use Rattle.dg_turn.proofs.ToBody.{Reaches, reaches}
use Rattle.dg_turn.proofs.Captures.{closure_box, captured_by, captured_few}
use Rattle.dg_turn.proofs.Ends.{answers, next_small}
use Rattle.dg_turn.proofs.Environment.{bit_few, vars_at}
use Rattle.dg_turn.proofs.Framing.{Inside, inside_body, body_in}
use Rattle.dg_turn.proofs.Matching.{Full, matches}
use Rattle.dg_turn.proofs.Moving.{moves, closes, closes_then}
use Rattle.dg_turn.proofs.Rows.{InRegisters, regs_of, regs_stay}
use Rattle.dg_turn.proofs.Staying.{mid_same}

-- the value of a parameter
parameter_value : (program : CoreProgram) (env : List Value) (n : ℕ) → value_of program env (Var-Term n) ≡ value_of_var env n
unfolding out-Term denote.Hole.Carrier.out
parameter_value program env n = refl

module _ (t : Telling) (plays : Playing t) (out : Outside) (number place : ℕ) (c : BodyCode) (call : Call) (parts : Values) (m : Mid) (z : ZState) (b : BodyAt t number place c) (f : FindsAt t out number call (Node (Closure place) parts) m z) where
  there : Reaches t plays out number place c call (Node (Closure place) parts) m z b f
  there = reaches t plays out number place c call (Node (Closure place) parts) m z b f f.key_is.0

  abbrev rep : Represented t out (t.p.names.routine ENTER_BODY) m there.there
  rep = there.rep'

  abbrev captured : List Value
  captured = values_of parts

  -- how many values the closure has captured, as its box says
  abbrev count : ℕ
  count = length captured

  abbrev routine : Routine
  routine = routine_of 0 ENTER_BODY_ACTS

  abbrev rest4 : List Act
  rest4 = acts.Call (Some 52) (atoms.Routine MATCHED) (args.One (atoms.Var 66)) ∷ acts.Return (atoms.Var 52) ∷ []

  abbrev rest3 : List Act
  rest3 = acts.Label 0 ∷ rest4

  abbrev rest2 : List Act
  rest2 = match_acts 32 64 1 ++ rest3

  abbrev rest1 : List Act
  rest1 = acts.When (record { comparison = comparisons.Equal; first = atoms.Var 53; second = atoms.Num 0; answer = true }) 0 ∷ acts.Call (Some 64) (atoms.Routine VAR) (args.One (atoms.Var 64)) ∷ rest2

  abbrev rest0 : List Act
  rest0 = acts.Call None (atoms.Routine BODY) (args.Two (atoms.Var 65) (atoms.Var 31)) ∷ acts.Copy 29 (atoms.Num 0) ∷ rest1

  abbrev now : List ℕ → State
  now memory = state memory [] out.typed out.drawn out.output

  -- ## What is captured is counted

  few_captured : (count ≡ rep.sh.captures place) × (rep.sh.captures place < 256)
  few_captured = captured_few there.shown

  box : ClosureIn rep.sh (rep.cells 15) captured
  box = let heap_is = rep.mid.state.heap in let few = rep.mid.state.few in closure_box (omega arith) there.shown

  abbrev memory0 : List ℕ
  memory0 = with_cell rep.memory 48 count

  abbrev cells0 : ℕ → ℕ
  cells0 = replaced rep.cells 48 count

  same0 : (k : ℕ) → k ≢ 48 → cells0 k ≡ rep.cells k
  same0 k ne = other_cell rep.cells 48 count k ne

  holds0 : Holds t.p.world.layout memory0 cells0
  holds0 = let high = plays.has.mapped.room in let one = few_captured.0 in let two = few_captured.1 in (puts t.p (now rep.memory) rep.cells 64 count rep.holds (omega arith) (omega arith) (omega arith) (omega arith)).holds

  mid0 : MidIn t out.words rep.sh cells0 rep.trail m
  mid0 = mid_same t rep.sh rep.cells cells0 rep.trail m (λ j n0 far. same0 j (λ (q : j ≡ 48). (let y : 302 < j = far.1 (omega arith) in omega arith))) rep.mid

  counts : computed t.p.world.layout rep.memory functions.Word 33440 (rep.cells 15) ≡ Some count
  counts =
      let high = plays.has.mapped.room in
      let is = box.word_is in
      let within = box.within in
      let heap_is = rep.mid.state.heap in
      let k = heap_at + (box.at + 1) in
      reads_cell t.p.world.layout rep.memory rep.cells 33440 (rep.cells 15) k rep.holds (omega arith) (omega arith) ∙ ap (λ (i : ℕ). Some i) (rep.mid.state.stands.fixed (box.at + 1) (omega arith) box.count.fixed ∙ box.count.is)

  begins : (o : ActsOutcome) (s' : State) (k : ℕ) → ActsRun t.p 3500 19000 routine.body rest0 (now memory0) o s' k → ActsRun t.p 3500 19000 routine.body routine.body (now rep.memory) o s' (suc k)
  begins o s' k run =
      let high = plays.has.mapped.room in
      let one = few_captured.0 in
      let two = few_captured.1 in
      let put = puts t.p (now rep.memory) rep.cells 64 count rep.holds (omega arith) (omega arith) (omega arith) (omega arith) in
      done (computes t.p (now rep.memory) (now memory0) 64 functions.Word (atoms.Num 33440) (atoms.Var 31) 33440 (rep.cells 15) count refl (register t.p (now rep.memory) rep.cells 31 rep.holds (omega arith) (omega arith) (omega arith)) counts put.put_is) run

  own_there : value t.p (now memory0) (atoms.Var 65) ≡ word_is c.own
  own_there = let high = plays.has.mapped.room in register t.p (now memory0) cells0 65 holds0 (omega arith) (omega arith) (omega arith) ∙ ap word_is (same0 49 (λ e. (omega arith)) ∙ there.own_is)

  box_there : value t.p (now memory0) (atoms.Var 31) ≡ word_is (cells0 15)
  box_there = let high = plays.has.mapped.room in register t.p (now memory0) cells0 31 holds0 (omega arith) (omega arith) (omega arith)

  no_room : 10000 < m.state.heap + (6 + c.own) → Closes t out HeapLimit (25 + closing_most) z
  no_room over =
      let high = plays.has.mapped.room in
      let few = rep.mid.state.few in
      let own = b.few in
      let q = body_works.meets t.p plays.has 3000 18000 (omega arith) memory0 out.typed out.output out.drawn c.own (cells0 15) cells0 m.state.heap holds0 mid0.heap few (omega arith) over in
      let few1 = q.few in
      let last : cells0 28 ≡ rep.cells 28 = same0 28 (λ e. (omega arith)) in
      closes_then t out HeapLimit 8 8 (15 + closing_most) (25 + closing_most) z there.there (omega arith) (omega arith) there.leads
      (closes t plays out (t.p.names.routine ENTER_BODY) m there.there rep routine (enter_body_at t.p plays.has) (omega arith) (suc (suc q.count)) (15 + closing_most) HeapLimit q.memory' []
      (subst (λ (i : ℕ). ActsRun t.p 3500 19000 routine.body routine.body (now rep.memory) (Stops AtQuit) (state q.memory' [] out.typed out.drawn (out.output ++ closing i HeapLimit)) (suc (suc q.count))) last
      (begins (Stops AtQuit) (state q.memory' [] out.typed out.drawn (out.output ++ closing (cells0 28) HeapLimit)) (suc q.count)
      (calls_last {f' = 3000} {w' = 18000} {n = q.count} {xs = (c.own, cells0 15, 0)} refl (rw (own_there, box_there) refl) (body_at t.p plays.has) (omega arith) (omega arith) q.runs)))
      (omega arith))

  module _ (room : m.state.heap + (6 + c.own) ≤ 10000) (cut : call.cut.height ≡ m.state.heap) (short : length call.args ≤ 1) where
    abbrev top : ℕ
    top = rep.sh.top

    framed : EntersBody t.p 3000 18000 memory0 out.typed out.output out.drawn c.own (cells0 15) cells0 top
    framed =
        let heap_is = rep.mid.state.heap in
        let few_bit = bit_few call.many in
        let many : cells0 10 ≡ bit_of call.many = same0 10 (λ e. (omega arith)) ∙ there.many_is in
        body_works.enters t.p plays.has 3000 18000 memory0 out.typed out.output out.drawn c.own (cells0 15) cells0 top holds0 (mid0.heap ∙ sym heap_is) (omega arith) (omega arith) (holds0.words 15)

    abbrev m1 : Mid
    m1 = inside_body captured call c.own m

    inside : Inside t out.words rep.sh framed.cells' rep.trail m1
    inside =
        let heap_is = rep.mid.state.heap in
        let few = rep.mid.state.few in
        let closure : Captured rep.sh (cells0 15) captured = subst (λ (y : ℕ). Captured rep.sh y captured) (sym (same0 15 (λ e. (omega arith)))) (captured_by (omega arith) there.shown) in
        let to_is : at_place top ≡ at_place call.cut.height = ap at_place (heap_is ∙ sym cut) in
        body_in t rep.sh cells0 framed.cells' rep.trail m captured (cells0 15) (at_place top) call c.own mid0 room closure (same0 8 (λ e. (omega arith)) ∙ there.next_is) to_is (same0 10 (λ e. (omega arith)) ∙ there.many_is) framed.heap framed.frame framed.inner framed.row framed.vars
        (λ k n3 n4 n6 n13 far. framed.others k n3 n4 n6 (λ low. (let q : trail_at ≤ k = far low in omega arith)))

    abbrev memory2 : List ℕ
    memory2 = with_cell framed.memory' 13 0

    abbrev c2 : ℕ → ℕ
    c2 = replaced framed.cells' 13 0

    cleared : Holds t.p.world.layout memory2 c2
    cleared = let high = plays.has.mapped.room in (puts t.p (now framed.memory') framed.cells' 29 0 framed.holds (omega arith) (omega arith) (omega arith) (omega arith)).holds

    mid2 : MidIn t out.words inside.sh' c2 rep.trail m1
    mid2 = mid_same t inside.sh' framed.cells' c2 rep.trail m1 (λ k n0 far. other_cell framed.cells' 13 0 k (λ (e : k ≡ 13). (let q = far.0 (omega arith) in omega arith))) inside.mid

    -- registers behind those of the machine stay
    same : (k : ℕ) → 7 < k → k ≢ 13 → k < 303 → c2 k ≡ cells0 k
    same k low n13 lt = other_cell framed.cells' 13 0 k n13 ∙ framed.others k (λ e. (omega arith)) (λ e. (omega arith)) (λ e. (omega arith)) (λ q. (omega arith))

    counted_there : c2 48 ≡ count
    counted_there = same 48 (omega arith) (λ e. (omega arith)) (omega arith) ∙ same_cell rep.cells 48 count

    block_there : c2 50 ≡ t.p.names.routine b.block
    block_there = same 50 (omega arith) (λ e. (omega arith)) (omega arith) ∙ same0 50 (λ e. (omega arith)) ∙ there.block_is

    -- what comes in front of the argument
    to_argument : (o : ActsOutcome) (s' : State) (k : ℕ) → ActsRun t.p 3500 19000 routine.body rest1 (now memory2) o s' k → ActsRun t.p 3500 19000 routine.body routine.body (now rep.memory) o s' (suc (suc framed.count + suc k))
    to_argument o s' k run =
        let high = plays.has.mapped.room in
        let put = puts t.p (now framed.memory') framed.cells' 29 0 framed.holds (omega arith) (omega arith) (omega arith) (omega arith) in
        begins o s' (suc framed.count + suc k)
        (calls {f' = 3000} {w' = 18000} {n = framed.count} {n' = suc k} {xs = (c.own, cells0 15, 0)} {s1 = state framed.memory' framed.locals' out.typed out.drawn out.output} {s2 = now framed.memory'} refl (rw (own_there, box_there) refl) (body_at t.p plays.has) (omega arith) (omega arith) framed.runs refl
        (done (copies t.p (now framed.memory') (now memory2) 29 (atoms.Num 0) 0 refl put.put_is) run))

    args_there : InRegisters inside.sh' c2 16 call.args
    args_there = regs_stay rep.sh inside.sh' rep.cells c2 inside.grown 16 call.args (λ j low lt. same j (omega arith) (λ e. (omega arith)) (omega arith) ∙ same0 j (λ e. (omega arith))) (regs_of rep.sh rep.cells 16 call.args (there.args_are short))

    abbrev env : List Value
    env = captured ++ new_vars c.own m.state.vars

    abbrev values : List Value → List Value
    values xs = map (value_of t.program env) (parameter captured xs)

    abbrev u : List Value → Unified
    u xs = solve m.state.subst (zip xs (values xs))

    -- The acts came to the end: whether values have clashed is told, and memory stands for the machine with what was bound.
    record Behind (xs : List Value) : Type 0 where
      memory' : List ℕ
      cells' : ℕ → ℕ
      trail' : List ℕ
      holds : Holds t.p.world.layout memory' cells'
      mid : MidIn t out.words inside.sh' cells' trail' (bound (u xs) m1)
      clash : cells' 13 ≡ 1 - bit (u xs).agrees
      block : cells' 50 ≡ t.p.names.routine b.block
      count : ℕ
      few : count ≤ price m.state.subst (zip xs (values xs)) + 30
      runs : (o : ActsOutcome) (s' : State) (k : ℕ) → ActsRun t.p 3500 19000 routine.body rest4 (now memory') o s' k → ActsRun t.p 3500 19000 routine.body rest1 (now memory2) o s' (steps count k)

    -- Or the trail's limit has ended the run.
    record Ends (xs : List Value) : Type 0 where
      matched : trail_more m.state (u xs) ≤ 2000 → Behind xs
      full : 2000 < trail_more m.state (u xs) → Full t 3500 19000 routine.body rest1 memory2 out.typed out.output out.drawn c2 (price m.state.subst (zip xs (values xs)) + 30)

    counted : (n : ℕ) → length call.args ≡ n → c2 37 ≡ n
    counted n e = same 37 (omega arith) (λ q. (omega arith)) (omega arith) ∙ same0 37 (λ q. (omega arith)) ∙ there.count_is ∙ e

    -- without an argument there is nothing to unify
    without : call.args ≡ [] → Ends []
    unfolding behind_label
    without e =
        let high = plays.has.mapped.room in
        let test : answer_of t.p (now memory2) (record { comparison = comparisons.Equal; first = atoms.Var 53; second = atoms.Num 0; answer = true }) ≡ bool true = tested t.p (now memory2) comparisons.Equal (atoms.Var 53) (atoms.Num 0) true 0 0 true (register t.p (now memory2) c2 53 cleared (omega arith) (omega arith) (omega arith) ∙ ap word_is (counted 0 (ap length e))) refl refl in
        let g = matches t out.words plays.has 3500 19000 (omega arith) (omega arith) inside.sh' out.typed out.output out.drawn routine.body rest4 0 32 64 memory2 c2 rep.trail m1 [] [] refl refl cleared mid2 (same_cell framed.cells' 13 0) (omega arith) (omega arith) (omega arith) (omega arith) tt tt in
        record {
          matched = λ few. (let k = g.matched few in let few' = k.few in record {
            memory' = k.memory';
            cells' = k.cells';
            trail' = k.trail';
            holds = k.holds;
            mid = k.mid;
            clash = k.clash;
            block = k.others 50 (λ q. (omega arith)) (λ q. (omega arith)) (omega arith) ∙ block_there;
            count = suc k.count;
            few = omega arith;
            runs = λ o s' n r. taken test refl (k.runs o s' n r);
          });
          full = λ over. (let k = g.full over in let few' = k.few in record {
            memory' = k.memory';
            locals' = k.locals';
            count = suc k.count;
            few = omega arith;
            runs = taken test refl k.runs;
          });
        }

    -- an argument is unified with the parameter
    with_one : (v : Value) → call.args ≡ v ∷ [] → Ends (v ∷ [])
    with_one v e =
        let high = plays.has.mapped.room in
        let sh = inside.sh' in
        let s = mid2.state in
        let heap_is = s.heap in
        let few_cells = s.few in
        let length_is = few_captured.0 in
        let small_count = few_captured.1 in
        let test = tested t.p (now memory2) comparisons.Equal (atoms.Var 53) (atoms.Num 0) true 1 0 false (register t.p (now memory2) c2 53 cleared (omega arith) (omega arith) (omega arith) ∙ ap word_is (counted 1 (ap length e))) refl refl in
        let k = var_works t.p plays.has 3000 18000 sh memory2 out.typed out.output out.drawn c2 cleared (omega arith) s.stands.fixed env (vars_at t sh m1.stops (c2 4) m1.frames mid2.frames) count (omega arith) in
        let small = word_small s.shape k.shows in
        let put = puts t.p (left_with (now memory2) (state memory2 k.locals' out.typed out.drawn out.output)) c2 64 k.word cleared (omega arith) (omega arith) (omega arith) small in
        let memory3 = with_cell memory2 48 k.word in
        let c3 = replaced c2 48 k.word in
        let mid3 : MidIn t out.words sh c3 rep.trail m1 = mid_same t sh c2 c3 rep.trail m1 (λ j n0 far. other_cell c2 48 k.word j (λ (q : j ≡ 48). (let y = far.1 (omega arith) in omega arith))) mid2 in
        let clash3 : c3 13 ≡ 0 = other_cell c2 48 k.word 13 (λ q. (omega arith)) ∙ same_cell framed.cells' 13 0 in
        let w = value_of t.program env (Var-Term (length captured)) in
        let w_is : get_or env count (leaf Nil) ≡ w = sym (parameter_value t.program env (length captured)) in
        let held : value t.p (now memory2) (atoms.Var 64) ≡ word_is count = register t.p (now memory2) c2 64 cleared (omega arith) (omega arith) (omega arith) ∙ ap word_is counted_there in
        let arg : InRegisters sh c2 16 (v ∷ []) = subst (InRegisters sh c2 16) e args_there in
        let x_shown : Shows sh (c3 16) v = subst (λ (y : ℕ). Shows sh y v) (sym (other_cell c2 48 k.word 16 (λ q. (omega arith)))) arg.0 in
        let y_shown : Shows sh (c3 48) w = subst (λ (y : ℕ). Shows sh y w) (sym (same_cell c2 48 k.word)) (subst (Shows sh k.word) w_is k.shows) in
        let g = matches t out.words plays.has 3500 19000 (omega arith) (omega arith) sh out.typed out.output out.drawn routine.body rest3 1 32 64 memory3 c3 rep.trail m1 (v ∷ []) (w ∷ []) refl refl put.holds mid3 clash3 (omega arith) (omega arith) (omega arith) (omega arith) (x_shown, tt) (y_shown, tt) in
        let few1 = k.few in
        record {
          matched = λ fit. (let q = g.matched fit in let few2 = q.few in record {
            memory' = q.memory';
            cells' = q.cells';
            trail' = q.trail';
            holds = q.holds;
            mid = q.mid;
            clash = q.clash;
            block = q.others 50 (λ p. (omega arith)) (λ p. (omega arith)) (omega arith) ∙ other_cell c2 48 k.word 50 (λ p. (omega arith)) ∙ block_there;
            count = suc (suc k.count + q.count);
            few = omega arith;
            runs = λ o s' n r.
                let e1 = steps_are q.count n in
                let e2 = steps_are (suc (suc k.count + q.count)) n in
                let sum : suc (suc k.count + steps q.count n) ≡ steps (suc (suc k.count + q.count)) n = omega arith in
                subst (ActsRun t.p 3500 19000 routine.body rest1 (now memory2) o s') sum
                (passed test (calls {f' = 3000} {w' = 18000} {n = k.count} {n' = steps q.count n} {xs = (count, 0, 0)} {s1 = state memory2 k.locals' out.typed out.drawn out.output} {s2 = now memory3} refl (rw held refl) (var_at t.p plays.has) (omega arith) (omega arith) k.runs put.put_is (q.runs o s' n (at_label r))));
          });
          full = λ over. (let q = g.full over in let few2 = q.few in let last : c3 28 ≡ c2 28 = other_cell c2 48 k.word 28 (λ p. (omega arith)) in record {
            memory' = q.memory';
            locals' = q.locals';
            count = suc (suc k.count + q.count);
            few = omega arith;
            runs = subst (λ (i : ℕ). ActsRun t.p 3500 19000 routine.body rest1 (now memory2) (Stops AtQuit) (state q.memory' q.locals' out.typed out.drawn (out.output ++ closing i TrailLimit)) (suc (suc k.count + q.count))) last
                (passed test (calls {f' = 3000} {w' = 18000} {n = k.count} {n' = q.count} {xs = (count, 0, 0)} {s1 = state memory2 k.locals' out.typed out.drawn out.output} {s2 = now memory3} refl (rw held refl) (var_at t.p plays.has) (omega arith) (omega arith) k.runs put.put_is q.runs));
          });
        }

    by_args : (xs : List Value) → call.args ≡ xs → length xs ≤ 1 → Ends xs
    by_args [] e few = without e
    by_args (v ∷ []) e few = with_one v e
    by_args (v ∷ w ∷ xs) e few = absurd (omega arith)

    turn : trail_more m.state (u call.args) ≤ 2000 → Comes t out (agreed_next t.p b.block (u call.args).agrees) (entered_body captured c.own call (u call.args) m) (body_most t.program captured c.own call m) z
    turn fit =
        let high = plays.has.mapped.room in
        let k = (by_args call.args refl short).matched fit in
        let agrees = (u call.args).agrees in
        let y = agreed_next t.p b.block agrees in
        let next = t.p.names.routine b.block in
        let s1 = state k.memory' (next ∷ []) out.typed out.drawn out.output in
        let put = puts t.p (left_with (now k.memory') s1) k.cells' 52 y k.holds (omega arith) (omega arith) (omega arith) (next_small t.p plays.words b.block agrees) in
        let last = with_cell k.memory' 36 y in
        let cells3 = replaced k.cells' 36 y in
        let ends : ActsRun t.p 3500 19000 routine.body rest4 (now k.memory') (Returns y) (now last) 4 = calls {f' = 0} {w' = 0} {n = 2} {n' = 1} {xs = (next, 0, 0)} {s1 = s1} {s2 = now last} refl (rw (register t.p (now k.memory') k.cells' 66 k.holds (omega arith) (omega arith) (omega arith) ∙ ap word_is k.block) refl) (matched_at t.p plays.has) (omega arith) (omega arith) (answers t.p plays.has k.memory' out.typed out.output out.drawn b.block k.cells' k.holds agrees k.clash) put.put_is
        (returns (register t.p (now last) cells3 52 put.holds (omega arith) (omega arith) (omega arith) ∙ ap word_is (same_cell k.cells' 36 y))) in
        let few1 = framed.few in
        let few2 = k.few in
        let e1 = steps_are k.count 4 in
        let most = body_most t.program captured c.own call m in
        let go = moves t plays out (t.p.names.routine ENTER_BODY) m there.there rep routine (enter_body_at t.p plays.has) (omega arith) y (suc (suc framed.count + suc (steps k.count 4))) (most - 8) last [] cells3 inside.sh' k.trail' (entered_body captured c.own call (u call.args) m)
        (to_argument (Returns y) (now last) (steps k.count 4) (k.runs (Returns y) (now last) 4 ends))
        put.holds (next_small t.p plays.words b.block agrees) (mid_same t inside.sh' k.cells' cells3 k.trail' (bound (u call.args) m1) (λ j n0 far. other_cell k.cells' 36 y j (λ (q : j ≡ 36). (let p : 302 < j = far.1 (omega arith) in omega arith))) k.mid) (omega arith) in
        let few3 = go.few in
        record { there = go.there; count = 8 + go.count; some = omega arith; few = omega arith; leads = leads_then t.p.world 8 go.count z there.there go.there there.leads go.leads; rep = go.rep }

    full : 2000 < trail_more m.state (u call.args) → Closes t out TrailLimit (body_most t.program captured c.own call m + closing_most) z
    full over =
        let k = (by_args call.args refl short).full over in
        let few1 = framed.few in
        let few2 = k.few in
        let most = body_most t.program captured c.own call m in
        let last : c2 28 ≡ rep.cells 28 = same 28 (omega arith) (λ e. (omega arith)) (omega arith) ∙ same0 28 (λ e. (omega arith)) in
        closes_then t out TrailLimit 8 8 (most - 8 + closing_most) (most + closing_most) z there.there (omega arith) (omega arith) there.leads
        (closes t plays out (t.p.names.routine ENTER_BODY) m there.there rep routine (enter_body_at t.p plays.has) (omega arith) (suc (suc framed.count + suc k.count)) (most - 8 + closing_most) TrailLimit k.memory' k.locals'
        (subst (λ (i : ℕ). ActsRun t.p 3500 19000 routine.body routine.body (now rep.memory) (Stops AtQuit) (state k.memory' k.locals' out.typed out.drawn (out.output ++ closing i TrailLimit)) (suc (suc framed.count + suc k.count))) last
        (to_argument (Stops AtQuit) (state k.memory' k.locals' out.typed out.drawn (out.output ++ closing (c2 28) TrailLimit)) k.count k.runs))
        (omega arith))

pub body_turns : BodyTurns
body_turns = record {
  enters = λ t plays out number place c call parts m z b short cut f room fit. turn t plays out number place c call parts m z b f room cut short fit;
  meets_heap = λ t plays out number place c call parts m z b f over. no_room t plays out number place c call parts m z b f over;
  meets_trail = λ t plays out number place c call parts m z b short cut f room over. full t plays out number place c call parts m z b f room cut short over;
}
