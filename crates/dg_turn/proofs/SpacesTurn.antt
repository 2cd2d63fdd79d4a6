-- So many spaces are asked for, and a run quits: turns of the story.
use Rattle.std.proofs.Common.{◌≡◌, ◌≢◌, ℕ, suc, ◌+◌, ◌*◌, ◌<◌, ◌≤◌, List, [], ◌∷◌, ◌++◌, Some, None, refl, sym, ap, ◌∙◌, subst, arith}
use Rattle.std.specs.Prelude.{min}
use Rattle.dg_base.specs.declared.program.Term.{Term}
use Rattle.dg_base.specs.declared.run.Ending.TheVariants as ending
use Rattle.dg_meaning.specs.Cells.{cells as cells_of}
use Rattle.dg_meaning.specs.Render.{Met, met_behind, spaces_from}
use Rattle.dg_meaning.specs.Substitutions.{walk, links}
use Rattle.dg_meaning.specs.Values.{Num, Value, Values, Node, value_of}
use Rattle.dg_meaning.specs.World.{SpacesOf}
use Rattle.dg_mid.specs.State.{Mid, vars_of}
use Rattle.dg_mid.specs.Step.{more}
use Rattle.z_model.specs.Run.{ZState}
use Rattle.z_lang.specs.declared.act.Act.{Act}
use Rattle.z_lang.specs.declared.act.Act.TheVariants as acts
use Rattle.z_lang.specs.declared.act.Args.TheVariants as args
use Rattle.z_lang.specs.declared.act.Atom.TheVariants as atoms
use Rattle.z_lang.specs.declared.act.Routine.{Routine}
use Rattle.z_lang.specs.State.{State}
use Rattle.z_lang.specs.Runs.{ActsRun, Returns, calls, returns, left_with}
use Rattle.dg_rt.specs.declared.numbers.TheConstants.{DONE, FAIL, ASK_SPACES}
use Rattle.dg_rt.specs.declared.gaps.TheConstants.{ASK_SPACES_ACTS}
use Rattle.dg_rt.specs.declared.closings.TheConstants.{DONE_ACTS}
use Rattle.dg_rt.specs.inside.Walks.{steps}
use Rattle.dg_rt.specs.Cells.{with_cell, replaced, Holds}
use Rattle.dg_rt.specs.Areas.{state}
use Rattle.dg_rt.specs.Closings.{closing_most}
use Rattle.dg_rt.specs.Gaps.{asked_word, Meets}
use Rattle.dg_rt.specs.Operands.{number_word}
use Rattle.dg_rt.specs.RunTime.{routine_of}
use Rattle.dg_rt.specs.Spaces.{AsksSpaces, HasNoNumber}
use Rattle.dg_rt.proofs.Cells.{other_cell, same_cell}
use Rattle.dg_rt.proofs.Closing.{closings_work}
use Rattle.dg_rt.proofs.Following.{word as word_is, register, puts}
use Rattle.dg_rt.proofs.Spacing.{spaces_work}
use Rattle.dg_rt.proofs.UnifySteps.{steps_are}
use Rattle.dg_turn.specs.Told.{Telling}
use Rattle.dg_turn.specs.Plays.{Playing, Outside, Represented, Comes, Closes}
use Rattle.dg_turn.specs.Terms.{written_in, Wrote}
use Rattle.dg_turn.specs.Texts.{gap_n_routine, gap_n_most, printed, Spacing, GapNTurns, QuitTurns}
use Rattle.dg_turn.proofs.GapLaws.{spaces_on, spaces_few, asked_on, break_same, upper_same}
use Rattle.dg_turn.proofs.GapTurn.{unwritten}
use Rattle.dg_turn.proofs.Meeting.{meets_here, mid_met}
use Rattle.dg_turn.proofs.Moving.{moves, moves_to, closes, closes_within, closes_then}
use Rattle.dg_turn.proofs.OnceTurn.{goto_turns}
use Rattle.dg_turn.proofs.Standing.{ask_spaces_at, done_at}
use Rattle.dg_turn.proofs.Staying.{mid_same}
use Rattle.dg_turn.proofs.Terms.{writes_terms, meets_terms}

module _ (t : Telling) (plays : Playing t) (out : Outside) (a : Term) (behind : ℕ) (m : Mid) (z : ZState) (e : Spacing t out a behind m z) where
  abbrev r : Represented t out e.x m z
  r = e.rep

  abbrev ts : List Term
  ts = a ∷ []

  abbrev n : ℕ
  n = cells_of t.program ts

  abbrev va : Value
  va = value_of t.program (vars_of m.frames) a

  abbrev routine : Routine
  routine = gap_n_routine t.program a behind

  abbrev y : ℕ
  y = t.p.names.routine behind

  abbrev rest : List Act
  rest = acts.Call (Some 52) (atoms.Routine ASK_SPACES) (args.Two (atoms.Var 32) (atoms.Routine behind)) ∷ acts.Return (atoms.Var 52) ∷ []

  abbrev now : List ℕ → State
  now memory = state memory [] out.typed out.drawn out.output

  no_room : 10000 < m.state.heap + n → Closes t out ending.HeapLimit (10 + closing_most) z
  no_room over =
      let k = meets_terms t plays.has 3500 19000 r.sh r.memory out.typed out.output out.drawn r.cells r.trail m r.holds r.mid routine.body (omega arith) (omega arith) rest 32 ts over in
      let few = k.few in
      closes t plays out e.x m z r routine e.there (omega arith) k.count (10 + closing_most) ending.HeapLimit k.memory' k.locals' k.runs (omega arith)

  module _ (room : m.state.heap + n ≤ 10000) where
    abbrev w1 : Wrote t out.words 3500 19000 routine.body rest routine.body r.sh r.memory out.typed out.output out.drawn r.cells r.trail m n 32 (va ∷ []) (written_in t.program ts + 6)
    w1 = writes_terms t plays.has 3500 19000 r.sh r.memory out.typed out.output out.drawn r.cells r.trail m r.holds r.mid routine.body (omega arith) (omega arith) rest 32 ts (omega arith) (omega arith) (λ q. (omega arith)) e.nodes room

    abbrev x1 : ℕ
    x1 = w1.cells' 16

    -- What the routine of the run-time answers comes next.
    answered : (memory' locals' : List ℕ) (cells' : ℕ → ℕ) (i count : ℕ) → Holds t.p.world.layout memory' cells' → i < 65536 → ActsRun t.p 3000 18000 ASK_SPACES_ACTS ASK_SPACES_ACTS (state w1.memory' (x1 ∷ y ∷ []) out.typed out.drawn out.output) (Returns i) (state memory' locals' out.typed out.drawn out.output) count →
        ActsRun t.p 3500 19000 routine.body routine.body (now r.memory) (Returns i) (now (with_cell memory' 36 i)) (steps w1.count (suc count + 1))
    answered memory' locals' cells' i count holds small runs =
        let high = plays.has.mapped.room in
        let s1 = state memory' locals' out.typed out.drawn out.output in
        let put = puts t.p (left_with (now w1.memory') s1) cells' 52 i holds (omega arith) (omega arith) (omega arith) small in
        let one = register t.p (now w1.memory') w1.cells' 32 w1.holds (omega arith) (omega arith) (omega arith) in
        let end_state = now (with_cell memory' 36 i) in
        w1.runs (Returns i) end_state (suc count + 1)
        (calls {f' = 3000} {w' = 18000} {n = count} {n' = 1} {xs = (x1, y, 0)} {s1 = s1} {s2 = end_state} refl (rw one refl) (ask_spaces_at t.p plays.has) (omega arith) (omega arith) runs put.put_is
        (returns (register t.p end_state (replaced cells' 36 i) 52 put.holds (omega arith) (omega arith) (omega arith) ∙ ap word_is (same_cell cells' 36 i))))

    put_next : (memory' : List ℕ) (cells' : ℕ → ℕ) (i : ℕ) → Holds t.p.world.layout memory' cells' → i < 65536 → Holds t.p.world.layout (with_cell memory' 36 i) (replaced cells' 36 i)
    put_next memory' cells' i holds small = let high = plays.has.mapped.room in (puts t.p (now memory') cells' 52 i holds (omega arith) (omega arith) (omega arith) small).holds

    -- So many spaces are asked for.
    module _ (met : Met) (k : ℕ) (parts : Values) (meets : Meets out.words met) where
      abbrev later : Met
      later = met_behind met (SpacesOf k)

      here : Meets w1.cells' met
      here = meets_here out.words w1.cells' met w1.mid.rest.outside meets

      counted : AsksSpaces t.p 3000 18000 w1.memory' out.typed out.output out.drawn x1 y k w1.cells' (5 * links m.state.subst va + 15) → Comes t (printed met (SpacesOf k) out) y (more n m) (gap_n_most t.program a m) z
      counted s =
          let few1 = w1.few in
          let few2 = s.few in
          let c3 = replaced s.cells' 36 y in
          let far : (i : ℕ) → i ≢ 36 → c3 i ≡ s.cells' i = λ i ne. other_cell s.cells' 36 y i ne in
          let count = steps w1.count (suc s.count + 1) in
          let many = steps_are w1.count (suc s.count + 1) in
          let p = SpacesOf k in
          let spaces : c3 31 ≡ spaces_from 0 (met.gap ++ p ∷ []) = far 31 (λ q. (omega arith)) ∙ s.spaces ∙ ap (λ (i : ℕ). min (i + k) 16383) here.spaces ∙ sym (spaces_on 0 met.gap p) in
          let now_meets : Meets c3 later = record {
            last = far 28 (λ q. (omega arith)) ∙ s.others 28 (λ q. (omega arith)) ∙ here.last;
            lines = far 30 (λ q. (omega arith)) ∙ s.others 30 (λ q. (omega arith)) ∙ here.lines ∙ sym (break_same met.gap p refl refl);
            spaces = spaces;
            asked = far 32 (λ q. (omega arith)) ∙ s.others 32 (λ q. (omega arith)) ∙ here.asked ∙ ap asked_word (sym (asked_on None met.gap p));
            upper = far 33 (λ q. (omega arith)) ∙ s.others 33 (λ q. (omega arith)) ∙ here.upper ∙ sym (upper_same met.gap p refl);
          } in
          let mid = mid_met t w1.sh' w1.cells' c3 r.trail (more n m) later (λ i n0 n28 n30 n31 n32 n33 kept. far i (λ q. (let b = kept.1 (omega arith) in omega arith)) ∙ s.others i n31) now_meets w1.mid in
          moves_to t plays out e.x m z r routine e.there (omega arith) (printed met p out) y count (gap_n_most t.program a m) (with_cell s.memory' 36 y) [] c3 w1.sh' r.trail (more n m)
          (subst (λ (o : List ℕ). ActsRun t.p 3500 19000 routine.body routine.body (now r.memory) (Returns y) (state (with_cell s.memory' 36 y) [] out.typed out.drawn o) count) (unwritten out.output met p refl) (answered s.memory' s.locals' s.cells' y s.count s.holds (plays.words behind) s.runs))
          (put_next s.memory' s.cells' y s.holds (plays.words behind)) (plays.words behind) mid (omega arith)

      counts : walk m.state.subst va ≡ Node (Num k) parts → Comes t (printed met (SpacesOf k) out) y (more n m) (gap_n_most t.program a m) z
      counts is =
          let fits = spaces_few 0 met.gap (omega arith) in
          let here_is = here.spaces in
          counted (spaces_work.counts t.p plays.has 3000 18000 (omega arith) (omega arith) w1.memory' out.typed out.output out.drawn w1.sh' w1.mid.state.shape w1.cells' w1.holds m.state.subst w1.mid.state.stands x1 y va w1.words.0 k parts is (omega arith))

    -- There is no number.
    fails : number_word (walk m.state.subst va) ≡ 65535 → Comes t out (t.p.names.routine FAIL) (more n m) (gap_n_most t.program a m) z
    fails none =
        let s : HasNoNumber t.p 3000 18000 w1.memory' out.typed out.output out.drawn x1 y (5 * links m.state.subst va + 15) = spaces_work.fails t.p plays.has 3000 18000 (omega arith) (omega arith) w1.memory' out.typed out.output out.drawn w1.sh' w1.mid.state.shape w1.cells' w1.holds m.state.subst w1.mid.state.stands x1 y va w1.words.0 none in
        let few1 = w1.few in
        let few2 = s.few in
        let i = t.p.names.routine FAIL in
        let many = steps_are w1.count (suc s.count + 1) in
        let c3 = replaced w1.cells' 36 i in
        moves t plays out e.x m z r routine e.there (omega arith) i (steps w1.count (suc s.count + 1)) (gap_n_most t.program a m) (with_cell w1.memory' 36 i) [] c3 w1.sh' r.trail (more n m)
        (answered w1.memory' s.locals' w1.cells' i s.count w1.holds (plays.words FAIL) s.runs)
        (put_next w1.memory' w1.cells' i w1.holds (plays.words FAIL)) (plays.words FAIL)
        (mid_same t w1.sh' w1.cells' c3 r.trail (more n m) (λ j ne far. other_cell w1.cells' 36 i j (λ (q : j ≡ 36). (let b = far.1 (omega arith) in omega arith))) w1.mid) (omega arith)

pub gap_n_turns : GapNTurns
gap_n_turns = record {
  counts = λ t plays out a behind m z met n parts e room meets is. counts t plays out a behind m z e room met n parts meets is;
  fails = λ t plays out a behind m z e room none. fails t plays out a behind m z e room none;
  meets = λ t plays out a behind m z e over. no_room t plays out a behind m z e over;
}

-- The closing of a run that has quit is that of one that is done.
pub quit_turns : QuitTurns
quit_turns t plays out x m z there r =
    let p = t.p in
    let go = goto_turns t plays out x DONE m z there r in
    let k = closings_work.done p plays.has go.rep.memory out.typed out.output out.drawn go.rep.cells go.rep.holds in
    let few = k.few in
    let few' = go.few in
    let over = closes_within t plays out (p.names.routine DONE) m go.there go.rep (routine_of 0 DONE_ACTS) (done_at p plays.has) (omega arith) 1 0 (omega arith) (omega arith) k.count 25 ending.Quit go.rep.memory [] k.runs (omega arith) in
    closes_then t out ending.Quit go.count 3 25 30 z go.there (omega arith) (omega arith) go.leads over
