-- Two terms are unified: one turn of the story.
use Rattle.std.proofs.Common.{◌≡◌, ℕ, suc, ◌+◌, ◌*◌, ◌<◌, ◌≤◌, List, [], ◌∷◌, ◌++◌, refl, ◌∙◌, subst, arith}
use Rattle.dg_base.specs.declared.program.Term.{Term}
use Rattle.dg_base.specs.declared.run.Ending.TheVariants.{HeapLimit, TrailLimit}
use Rattle.dg_meaning.specs.Cells.{cells as cells_of}
use Rattle.dg_meaning.specs.Values.{Value, value_of}
use Rattle.dg_mid.specs.State.{Mid, vars_of}
use Rattle.dg_mid.specs.Step.{bound, trail_more, more}
use Rattle.z_model.specs.declared.end.Halt.TheVariants.{AtQuit}
use Rattle.z_model.specs.Run.{ZState}
use Rattle.z_lang.specs.declared.act.Act.{Act}
use Rattle.z_lang.specs.declared.act.Act.TheVariants as acts
use Rattle.z_lang.specs.declared.act.Atom.TheVariants as atoms
use Rattle.z_lang.specs.declared.act.Routine.{Routine}
use Rattle.z_lang.specs.State.{State}
use Rattle.z_lang.specs.Runs.{ActsRun, Returns, Stops, done}
use Rattle.dg_rt.specs.inside.Walks.{steps}
use Rattle.dg_rt.specs.Cells.{with_cell, replaced}
use Rattle.dg_rt.specs.Areas.{state}
use Rattle.dg_rt.specs.Unifies.{price}
use Rattle.dg_rt.specs.Closings.{closing, closing_most}
use Rattle.dg_rt.proofs.Cells.{other_cell, same_cell}
use Rattle.dg_rt.proofs.Following.{IsPut, copies, puts}
use Rattle.dg_rt.proofs.UnifySteps.{steps_are}
use Rattle.dg_turn.specs.Told.{Telling}
use Rattle.dg_turn.specs.Plays.{Playing, Outside, Represented, Comes, Closes}
use Rattle.dg_turn.specs.Terms.{written_in, Wrote}
use Rattle.dg_turn.specs.Turns.{agreed_next, match_acts, last_acts, equal_routine, equation, equal_unified, equal_most, Equating, EqualTurns}
use Rattle.dg_turn.proofs.Staying.{mid_same}
use Rattle.dg_turn.proofs.Terms.{writes_terms, meets_terms}
use Rattle.dg_turn.proofs.Matching.{Goes, matches}
use Rattle.dg_turn.proofs.Ends.{next_small, concludes}
use Rattle.dg_turn.proofs.Moving.{moves, closes}

module _ (t : Telling) (plays : Playing t) (out : Outside) (a b : Term) (behind : ℕ) (m : Mid) (z : ZState) (e : Equating t out a b behind m z) where
  abbrev r : Represented t out e.x m z
  r = e.rep

  abbrev ts : List Term
  ts = a ∷ b ∷ []

  abbrev n : ℕ
  n = cells_of t.program ts

  abbrev va : Value
  va = value_of t.program (vars_of m.frames) a

  abbrev vb : Value
  vb = value_of t.program (vars_of m.frames) b

  abbrev routine : Routine
  routine = equal_routine t.program a b behind

  abbrev rest1 : List Act
  rest1 = acts.Copy 29 (atoms.Num 0) ∷ (match_acts 32 33 1 ++ last_acts behind)

  abbrev now : List ℕ → State
  now memory = state memory [] out.typed out.drawn out.output

  module _ (room : m.state.heap + n ≤ 10000) where
    abbrev w1 : Wrote t out.words 3500 19000 routine.body rest1 routine.body r.sh r.memory out.typed out.output out.drawn r.cells r.trail m n 32 (va ∷ vb ∷ []) (written_in t.program ts + 6)
    w1 = writes_terms t plays.has 3500 19000 r.sh r.memory out.typed out.output out.drawn r.cells r.trail m r.holds r.mid routine.body (omega arith) (omega arith) rest1 32 ts (omega arith) (omega arith) (λ q. (omega arith)) e.nodes room

    abbrev memory1 : List ℕ
    memory1 = with_cell w1.memory' 13 0

    abbrev c1 : ℕ → ℕ
    c1 = replaced w1.cells' 13 0

    cleared : IsPut t.p (now w1.memory') w1.cells' 29 0
    cleared = let high = plays.has.mapped.room in puts t.p (now w1.memory') w1.cells' 29 0 w1.holds (omega arith) (omega arith) (omega arith) (omega arith)

    matching : Goes t out.words 3500 19000 routine.body (last_acts behind) (match_acts 32 33 1 ++ last_acts behind) w1.sh' memory1 out.typed out.output out.drawn c1 (more n m) (equal_unified t.program a b m) (price m.state.subst (equation t.program a b m) + 6 * 1)
    matching =
        let mid1 = mid_same t w1.sh' w1.cells' c1 r.trail (more n m) (λ k ne far. other_cell w1.cells' 13 0 k (λ (q : k ≡ 13). (let y = far.0 (omega arith) in omega arith))) w1.mid in
        matches t out.words plays.has 3500 19000 (omega arith) (omega arith) w1.sh' out.typed out.output out.drawn routine.body (last_acts behind) 1 32 33 memory1 c1 r.trail (more n m) (va ∷ []) (vb ∷ []) refl refl cleared.holds mid1 (same_cell w1.cells' 13 0) (omega arith) (omega arith) (omega arith) (omega arith) (w1.words.0, tt) (w1.words.1.0, tt)

    turn : trail_more m.state (equal_unified t.program a b m) ≤ 2000 → Comes t out (agreed_next t.p behind (equal_unified t.program a b m).agrees) (bound (equal_unified t.program a b m) (more n m)) (equal_most t.program a b m) z
    turn few =
        let u = equal_unified t.program a b m in
        let k = matching.matched few in
        let last = concludes t.p plays.has plays.words 3500 19000 (omega arith) (omega arith) routine.body k.memory' out.typed out.output out.drawn behind k.cells' k.holds u.agrees k.clash in
        let y = agreed_next t.p behind u.agrees in
        let few1 = w1.few in
        let few2 = k.few in
        let e1 = steps_are w1.count (suc (steps k.count 4)) in
        let e2 = steps_are k.count 4 in
        moves t plays out e.x m z r routine e.there (omega arith) y (steps w1.count (suc (steps k.count 4))) (equal_most t.program a b m) last.memory' [] last.cells' w1.sh' k.trail' (bound u (more n m))
        (w1.runs (Returns y) (now last.memory') (suc (steps k.count 4)) (done (copies t.p (now w1.memory') (now memory1) 29 (atoms.Num 0) 0 refl cleared.put_is) (k.runs (Returns y) (now last.memory') 4 last.runs)))
        last.holds (next_small t.p plays.words behind u.agrees) (mid_same t w1.sh' k.cells' last.cells' k.trail' (bound u (more n m)) (λ j ne far. last.others j (λ (q : j ≡ 36). (let y = far.1 (omega arith) in omega arith))) k.mid) (omega arith)

    full : 2000 < trail_more m.state (equal_unified t.program a b m) → Closes t out TrailLimit (equal_most t.program a b m + closing_most) z
    full over =
        let k = matching.full over in
        let few1 = w1.few in
        let few2 = k.few in
        let e1 = steps_are w1.count (suc k.count) in
        let last : c1 28 ≡ r.cells 28 = other_cell w1.cells' 13 0 28 (λ q. (omega arith)) ∙ w1.others 28 (λ q. (omega arith)) (λ q. (omega arith)) (λ q. (omega arith)) (λ q. (omega arith)) (omega arith) in
        closes t plays out e.x m z r routine e.there (omega arith) (steps w1.count (suc k.count)) (equal_most t.program a b m + closing_most) TrailLimit k.memory' k.locals'
        (subst (λ (i : ℕ). ActsRun t.p 3500 19000 routine.body routine.body (now r.memory) (Stops AtQuit) (state k.memory' k.locals' out.typed out.drawn (out.output ++ closing i TrailLimit)) (steps w1.count (suc k.count))) last
        (w1.runs (Stops AtQuit) (state k.memory' k.locals' out.typed out.drawn (out.output ++ closing (c1 28) TrailLimit)) (suc k.count) (done (copies t.p (now w1.memory') (now memory1) 29 (atoms.Num 0) 0 refl cleared.put_is) k.runs)))
        (omega arith)

  no_room : 10000 < m.state.heap + n → Closes t out HeapLimit (10 + closing_most) z
  no_room over =
      let k = meets_terms t plays.has 3500 19000 r.sh r.memory out.typed out.output out.drawn r.cells r.trail m r.holds r.mid routine.body (omega arith) (omega arith) rest1 32 ts over in
      let few = k.few in
      closes t plays out e.x m z r routine e.there (omega arith) k.count (10 + closing_most) HeapLimit k.memory' k.locals' k.runs (omega arith)

pub equal_turns : EqualTurns
equal_turns = record {
  unifies = λ t plays out a b behind m z e room few. turn t plays out a b behind m z e room few;
  meets_heap = λ t plays out a b behind m z e over. no_room t plays out a b behind m z e over;
  meets_trail = λ t plays out a b behind m z e room over. full t plays out a b behind m z e room over;
}
