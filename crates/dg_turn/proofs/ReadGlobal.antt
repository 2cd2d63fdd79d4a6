-- A query of a global variable is a turn.
use Rattle.std.proofs.Common.{◌≡◌, ◌≢◌, ℕ, suc, ◌+◌, ◌-◌, ◌*◌, ◌<◌, ◌≤◌, false, List, [], ◌∷◌, ◌++◌, Option, Some, None, refl, sym, ap, ◌∙◌, subst, arith}
use Rattle.std.specs.List.{slice_get}
use Rattle.dg_base.specs.declared.program.PlaceKind.TheVariants.{Global}
use Rattle.dg_base.specs.declared.program.Term.{Term}
use Rattle.dg_base.specs.declared.run.Ending.TheVariants.{HeapLimit, TrailLimit}
use Rattle.dg_meaning.specs.Cells.{cells as cells_of}
use Rattle.dg_meaning.specs.Copies.{copy_from, copy_cells}
use Rattle.dg_meaning.specs.Facts.{Fact, value_at, kinds_of}
use Rattle.dg_meaning.specs.Unify.{Unified}
use Rattle.dg_meaning.specs.Values.{Value}
use Rattle.dg_mid.specs.State.{Mid}
use Rattle.dg_mid.specs.Step.{bound, more, trail_more}
use Rattle.z_model.specs.declared.end.Halt.TheVariants.{AtQuit}
use Rattle.z_model.specs.Run.{ZState}
use Rattle.z_lang.specs.declared.act.Act.{Act}
use Rattle.z_lang.specs.declared.act.Act.TheVariants as acts
use Rattle.z_lang.specs.declared.act.Args.TheVariants as args
use Rattle.z_lang.specs.declared.act.Atom.TheVariants as atoms
use Rattle.z_lang.specs.declared.act.Routine.{Routine}
use Rattle.z_lang.specs.State.{State, Program}
use Rattle.z_lang.specs.Runs.{ActsRun, ActsOutcome, Returns, Stops, Rests, rests, calls, calls_last}
use Rattle.z_lang.specs.Standing.{IsKept}
use Rattle.z_lang.proofs.Routines.{routine_follows}
use Rattle.dg_rt.specs.declared.numbers.TheConstants.{READ_KEPT, FAIL}
use Rattle.dg_rt.specs.declared.kept.TheConstants.{READ_KEPT_ACTS}
use Rattle.dg_rt.specs.inside.Walks.{steps}
use Rattle.dg_rt.specs.Cells.{at_cell, with_cell, replaced}
use Rattle.dg_rt.specs.Areas.{heap_at, state}
use Rattle.dg_rt.specs.Shapes.{Shows}
use Rattle.dg_rt.specs.RunTime.{routine_of, HasRunTime}
use Rattle.dg_rt.specs.Unifies.{price}
use Rattle.dg_rt.specs.Closings.{closing, closing_most}
use Rattle.dg_rt.specs.CopiesIn.{HasCaptures, Reading as Moment}
use Rattle.dg_rt.specs.Kept.{value_in, ReadsCopy, ReadsKept}
use Rattle.dg_rt.specs.Laying.{Formed, copy_word}
use Rattle.dg_rt.proofs.Cells.{other_cell, same_cell}
use Rattle.dg_rt.proofs.Following.{IsPut, puts}
use Rattle.dg_rt.proofs.Grows.{grown_shows}
use Rattle.dg_rt.proofs.LaySteps.{copy_word_small}
use Rattle.dg_rt.proofs.Points.{stands_still}
use Rattle.dg_rt.proofs.ReadingKept.{read_kept_works}
use Rattle.dg_rt.proofs.UnifySteps.{steps_are}
use Rattle.dg_turn.specs.Told.{Telling, told_count}
use Rattle.dg_turn.specs.Lies.{MidIn, StateIn}
use Rattle.dg_turn.specs.Plays.{Playing, Outside, Represented, Comes, Closes}
use Rattle.dg_turn.specs.Terms.{written_in, Wrote}
use Rattle.dg_turn.specs.Turns.{agreed_next, match_acts, last_acts}
use Rattle.dg_turn.specs.Operating.{term_value, InFront}
use Rattle.dg_turn.specs.World.{words_at, words_end, KeptFacts, FactsIn, HasWorld}
use Rattle.dg_turn.specs.Globals.{global_routine, copied_in, copy_equation, copy_unified, global_read_most, global_copied_most, ReadGlobalTurns}
use Rattle.dg_turn.proofs.Ends.{next_small, concludes}
use Rattle.dg_turn.proofs.GlobalFacts.{formed_by, variable_in}
use Rattle.dg_turn.proofs.Grows.{mid_grown}
use Rattle.dg_turn.proofs.Matching.{Goes, matches, skips}
use Rattle.dg_turn.proofs.Moving.{moves_to, closes, closes_drawn}
use Rattle.dg_turn.proofs.Places.{facts_same}
use Rattle.dg_turn.proofs.Staying.{mid_same}
use Rattle.dg_turn.proofs.Terms.{writes_terms, meets_terms}

read_kept_at : (p : Program) → HasRunTime p → p.routine_at (p.names.routine READ_KEPT) ≡ Some (routine_of 3 READ_KEPT_ACTS)
read_kept_at p has = has.each (READ_KEPT - 1) (routine_of 3 READ_KEPT_ACTS) refl

-- Memory is the story's from its static part on in the middle of a routine.
story_kept : (t : Telling) → Playing t → (x : ℕ) (r : Routine) → t.p.routine_at x ≡ Some r → r.locals ≡ 0 → (memory memory' typed output : List ℕ) (drawn n : ℕ) (more : List Act) → IsKept t.p.world.layout.base t.story memory → ActsRun t.p 3500 19000 r.body r.body (state memory [] typed drawn output) (Rests more) (state memory' [] typed drawn output) n → IsKept t.p.world.layout.base t.story memory'
story_kept t plays x r there none memory memory' typed output drawn n more kept runs =
    let place = plays.stands.each x r there in
    let room = plays.room memory typed output drawn in
    let frames = room.frames in
    let words = room.words in
    (routine_follows t.p t.story plays.stands x r there place.labels place.code_is t.context 3500 19000 n (state memory [] typed drawn output) (state memory' [] typed drawn output) (Rests more) kept (record { frames = omega arith; words = omega arith }) runs).kept

module _ (t : Telling) (plays : Playing t) (world : HasWorld t) (hc : HasCaptures t.p t.story (told_count t.program)) (out : Outside) (place : ℕ) (a : Term) (behind : ℕ) (facts : List Fact) (m : Mid) (z : ZState) (is : slice_get (kinds_of t.program) place ≡ Some Global) (facts_out : FactsIn t.program facts out.words) (e : InFront t out (global_routine t.program place a behind) (a ∷ []) m z) where
  abbrev r : Represented t out e.x m z
  r = e.rep

  abbrev ts : List Term
  ts = a ∷ []

  abbrev n : ℕ
  n = cells_of t.program ts

  abbrev va : Value
  va = term_value t.program m a

  abbrev w : ℕ
  w = words_at t.program place

  abbrev set : Option Value
  set = value_at facts place 0

  abbrev routine : Routine
  routine = global_routine t.program place a behind

  abbrev matching : List Act
  matching = match_acts 32 52 1 ++ last_acts behind

  abbrev rest1 : List Act
  rest1 = acts.Call (Some 52) (atoms.Routine READ_KEPT) (args.One (atoms.Num (at_cell w))) ∷ matching

  abbrev now : List ℕ → State
  now memory = state memory [] out.typed out.drawn out.output

  abbrev ls : List ℕ
  ls = at_cell w ∷ 0 ∷ 0 ∷ []

  abbrev Written : Type 0
  Written = Wrote t out.words 3500 19000 routine.body rest1 routine.body r.sh r.memory out.typed out.output out.drawn r.cells r.trail m n 32 (va ∷ []) (written_in t.program ts + 6)

  written : m.state.heap + n ≤ 10000 → Written
  written room = writes_terms t plays.has 3500 19000 r.sh r.memory out.typed out.output out.drawn r.cells r.trail m r.holds r.mid routine.body (omega arith) (omega arith) rest1 32 ts (omega arith) (omega arith) (λ q. absurd (omega arith)) e.nodes room

  no_room : 10000 < m.state.heap + n → Closes t out HeapLimit (10 + closing_most) z
  no_room over =
      let k = meets_terms t plays.has 3500 19000 r.sh r.memory out.typed out.output out.drawn r.cells r.trail m r.holds r.mid routine.body (omega arith) (omega arith) rest1 32 ts over in
      let few = k.few in
      closes t plays out e.x m z r routine e.there (omega arith) k.count (10 + closing_most) HeapLimit k.memory' k.locals' k.runs (omega arith)

  module _ (w1 : Written) where
    kept1 : IsKept t.p.world.layout.base t.story w1.memory'
    kept1 = story_kept t plays e.x routine e.there refl r.memory w1.memory' out.typed out.output out.drawn (steps w1.count 0) rest1 r.kept (w1.runs (Rests rest1) (now w1.memory') 0 rests)

    abbrev moment : Moment t.p t.story w1.cells'
    moment = record { memory = w1.memory'; cells = w1.cells'; holds = w1.holds; kept = kept1; behind = λ k le. refl }

    abbrev s : StateIn t w1.sh' w1.cells' r.trail (more n m).state
    s = w1.mid.state

    captures : HasCaptures t.p t.story w1.sh'.captures
    captures = record { has = hc.has; told = λ mm k lt few kept. hc.told mm k lt (subst (λ (i : ℕ). i < 256) (s.told k) few) kept ∙ ap (λ (i : ℕ). Some i) (sym (s.told k)) }

    k : KeptFacts t.program facts w1.cells'
    k = (facts_same t.program facts out.words w1.cells' (λ i le. w1.mid.rest.outside.areas i le) facts_out).kept

    fine : (v : Value) → set ≡ Some v → Formed w1.sh'.captures v
    fine v q = formed_by (told_count t.program) w1.sh'.captures (λ i. sym (s.told i)) v (k.formed w v (k.values place is ∙ q))

    law : ReadsKept t.p t.story w1.cells' 3450 18000 ls out.typed out.output out.drawn moment w1.sh' m.state.subst (value_in k.blocks w)
    law =
        let room = world.room in
        read_kept_works t.p t.story w1.sh' captures 3450 18000 (omega arith) (omega arith) out.typed out.output out.drawn w1.cells' moment s.shape s.low (w1.mid.heap ∙ sym s.heap) m.state.subst s.stands s.known (words_end t.program) w k.blocks (omega arith) k.lie (variable_in t.program facts w1.cells' k place is) (λ v q. fine v (sym (k.values place is) ∙ q))

    -- up to the match
    to_match : (x count : ℕ) (memory1 memory2 locals1 : List ℕ) → ActsRun t.p 3450 18000 READ_KEPT_ACTS READ_KEPT_ACTS (state w1.memory' ls out.typed out.drawn out.output) (Returns x) (state memory1 locals1 out.typed out.drawn out.output) count → (cells1 : ℕ → ℕ) → IsPut t.p (now memory1) cells1 52 x → memory2 ≡ with_cell memory1 36 x → (o : ActsOutcome) (s' : State) (j : ℕ) → ActsRun t.p 3500 19000 routine.body matching (now memory2) o s' j → ActsRun t.p 3500 19000 routine.body routine.body (now r.memory) o s' (steps w1.count (suc count + j))
    to_match x count memory1 memory2 locals1 runs cells1 put same o s' j go =
        w1.runs o s' (suc count + j)
        (calls {f' = 3450} {w' = 18000} {n = count} {n' = j} {xs = (at_cell w, 0, 0)} {s1 = state memory1 locals1 out.typed out.drawn out.output} {s2 = now (with_cell memory1 36 x)} refl refl (read_kept_at t.p plays.has) (omega arith) (omega arith) runs put.put_is
        (subst (λ (mm : List ℕ). ActsRun t.p 3500 19000 routine.body matching (now mm) o s' j) same go))

    -- ## Nothing is set

    nothing : set ≡ None → Comes t out (t.p.names.routine FAIL) (more n m) (global_read_most t.program a) z
    nothing q =
        let high = plays.has.mapped.room in
        let g = law.nothing (k.values place is ∙ q) in
        let put = puts t.p (now g.memory') g.cells' 52 65535 g.holds (omega arith) (omega arith) (omega arith) (omega arith) in
        let memory2 = with_cell g.memory' 36 65535 in
        let c2 = replaced g.cells' 36 65535 in
        let one : c2 13 ≡ 1 = other_cell g.cells' 36 65535 13 (λ x. (omega arith)) ∙ g.clash in
        let stays : (j : ℕ) → j ≢ 13 → j ≢ 36 → c2 j ≡ w1.cells' j = λ j n13 n36. other_cell g.cells' 36 65535 j n36 ∙ g.others j n13 in
        let mid2 = mid_same t w1.sh' w1.cells' c2 r.trail (more n m) (λ j ne far. stays j (λ (x : j ≡ 13). (let y = far.0 (omega arith) in omega arith)) (λ (x : j ≡ 36). (let y = far.1 (omega arith) in omega arith))) w1.mid in
        let last = concludes t.p plays.has plays.words 3500 19000 (omega arith) (omega arith) routine.body memory2 out.typed out.output out.drawn behind c2 put.holds false one in
        let y = t.p.names.routine FAIL in
        let skip = skips t out.words plays.has 3500 19000 (omega arith) (omega arith) w1.sh' out.typed out.output out.drawn routine.body (last_acts behind) 1 32 52 memory2 c2 put.holds (omega arith) (omega arith) (omega arith) (omega arith) (λ (x : c2 13 ≡ 0). (omega arith)) (Returns y) (now last.memory') 4 last.runs in
        let few1 = w1.few in
        let e1 = steps_are w1.count (suc 4 + steps (3 * 1) 4) in
        let e2 = steps_are (3 * 1) 4 in
        moves_to t plays out e.x m z r routine e.there (omega arith) out y (steps w1.count (suc 4 + steps (3 * 1) 4)) (global_read_most t.program a) last.memory' [] last.cells' w1.sh' r.trail (more n m)
        (to_match 65535 4 g.memory' memory2 g.locals' g.runs g.cells' put refl (Returns y) (now last.memory') (steps (3 * 1) 4) skip)
        last.holds (next_small t.p plays.words behind false) (mid_same t w1.sh' c2 last.cells' r.trail (more n m) (λ j ne far. last.others j (λ (x : j ≡ 36). (let v = far.1 (omega arith) in omega arith))) mid2) (omega arith)

    -- ## There is no room for a copy

    no_copy : (v : Value) → set ≡ Some v → 10000 < m.state.heap + n + copy_cells v → Closes t out HeapLimit (global_copied_most t.program a v m + closing_most) z
    no_copy v q over =
        let heap = s.heap in
        let g = law.meets v (k.values place is ∙ q) (omega arith) in
        let few1 = w1.few in
        let few2 = g.few in
        let e1 = steps_are w1.count (suc g.count) in
        let text : w1.cells' 28 ≡ r.cells 28 = w1.others 28 (λ x. (omega arith)) (λ x. (omega arith)) (λ x. (omega arith)) (λ x. (omega arith)) (omega arith) in
        closes t plays out e.x m z r routine e.there (omega arith) (steps w1.count (suc g.count)) (global_copied_most t.program a v m + closing_most) HeapLimit g.memory' []
        (w1.runs (Stops AtQuit) (state g.memory' [] out.typed out.drawn (out.output ++ closing (r.cells 28) HeapLimit)) (suc g.count)
        (calls_last {f' = 3450} {w' = 18000} {n = g.count} {xs = (at_cell w, 0, 0)} {r = routine_of 3 READ_KEPT_ACTS} refl refl (read_kept_at t.p plays.has) (omega arith) (omega arith)
        (subst (λ (i : ℕ). ActsRun t.p 3450 18000 READ_KEPT_ACTS READ_KEPT_ACTS (state w1.memory' ls out.typed out.drawn out.output) (Stops AtQuit) (state g.memory' [] out.typed out.drawn (out.output ++ closing i HeapLimit)) g.count) text g.runs)))
        (omega arith)

    -- ## A copy is unified

    module _ (v : Value) (some : set ≡ Some v) (room : m.state.heap + n + copy_cells v ≤ 10000) where
      abbrev m1 : Mid
      m1 = copied_in v (more n m)

      abbrev u : Unified
      u = copy_unified t.program a v m

      fits : w1.sh'.top + copy_cells v ≤ 10000
      fits = let heap = s.heap in omega arith

      c : ReadsCopy t.p t.story w1.cells' 3450 18000 ls out.typed out.output out.drawn moment w1.sh' m.state.subst v
      c = law.copies v (k.values place is ∙ some) fits

      abbrev x : ℕ
      x = copy_word w1.sh'.top v

      abbrev memory2 : List ℕ
      memory2 = with_cell c.m'.memory 36 x

      abbrev c2 : ℕ → ℕ
      c2 = replaced c.m'.cells 36 x

      put : IsPut t.p (now c.m'.memory) c.m'.cells 52 x
      put = let high = plays.has.mapped.room in puts t.p (now c.m'.memory) c.m'.cells 52 x c.m'.holds (omega arith) (omega arith) (omega arith) (copy_word_small w1.sh'.captures w1.sh'.top v (fine v some) fits)

      stays : (j : ℕ) → j ≢ 3 → j ≢ 13 → j ≢ 36 → j ≢ 38 → j ≢ 39 → (heap_at + w1.sh'.top ≤ j → heap_at + (w1.sh'.top + copy_cells v) ≤ j) → c2 j ≡ w1.cells' j
      stays j n3 n13 n36 n38 n39 far = other_cell c.m'.cells 36 x j n36 ∙ c.others j n3 n13 n38 n39 far

      state2 : StateIn t c.sh' c2 r.trail m1.state
      state2 =
          let heap = s.heap in
          let vars = s.vars in
          let top = c.top in
          let vars' = c.vars in
          record {
            shape = c.shape;
            low = c.low;
            stands = stands_still c.m'.cells c2 (λ j le. other_cell c.m'.cells 36 x j (λ q. (omega arith))) c.stands;
            known = λ i le. s.known i (omega arith);
            heap = omega arith;
            vars = omega arith;
            trail_len = s.trail_len;
            few = room;
            few_trail = s.few_trail;
            told = λ i. c.grown.told i ∙ s.told i;
          }

      mid2 : MidIn t out.words c.sh' c2 r.trail m1
      mid2 =
          let heap = s.heap in
          let top : c2 3 ≡ m1.state.heap = other_cell c.m'.cells 36 x 3 (λ q. (omega arith)) ∙ c.heap ∙ (let q : w1.sh'.top + copy_cells v ≡ m.state.heap + n + copy_cells v = omega arith in q) in
          mid_grown t w1.sh' c.sh' w1.cells' c2 r.trail (more n m) m1.state c.grown c.new_boxes c.new_places refl refl top
          (λ j n0 n3 mid far. stays j n3 (λ (q : j ≡ 13). (let y = mid.0 (omega arith) in omega arith)) (λ (q : j ≡ 36). (let y = mid.1 (omega arith) in omega arith)) (λ (q : j ≡ 38). (let y = mid.1 (omega arith) in omega arith)) (λ (q : j ≡ 39). (let y = mid.1 (omega arith) in omega arith)) (λ le. (let y = far le in omega arith)))
          state2 w1.mid

      clear : c2 13 ≡ 0
      clear = other_cell c.m'.cells 36 x 13 (λ q. (omega arith)) ∙ c.clash

      shows_copy : Shows c.sh' (c2 36) (copy_from m.state.vars v)
      shows_copy = subst (λ (i : ℕ). Shows c.sh' i (copy_from m.state.vars v)) (sym (same_cell c.m'.cells 36 x)) (subst (λ (i : ℕ). Shows c.sh' x (copy_from i v)) s.vars c.shows)

      shows_term : Shows c.sh' (c2 16) va
      shows_term = subst (λ (i : ℕ). Shows c.sh' i va) (sym (stays 16 (λ q. (omega arith)) (λ q. (omega arith)) (λ q. (omega arith)) (λ q. (omega arith)) (λ q. (omega arith)) (λ q. absurd (omega arith)))) (grown_shows c.grown w1.words.0)

      matched : Goes t out.words 3500 19000 routine.body (last_acts behind) matching c.sh' memory2 out.typed out.output out.drawn c2 m1 u (price m.state.subst (copy_equation t.program a v m) + 6 * 1)
      matched = matches t out.words plays.has 3500 19000 (omega arith) (omega arith) c.sh' out.typed out.output out.drawn routine.body (last_acts behind) 1 32 52 memory2 c2 r.trail m1 (va ∷ []) (copy_from m.state.vars v ∷ []) refl refl put.holds mid2 clear (omega arith) (omega arith) (omega arith) (omega arith) (shows_term, tt) (shows_copy, tt)

      unified : trail_more m.state u ≤ 2000 → Comes t out (agreed_next t.p behind u.agrees) (bound u m1) (global_copied_most t.program a v m) z
      unified few =
          let g = matched.matched few in
          let y = agreed_next t.p behind u.agrees in
          let last = concludes t.p plays.has plays.words 3500 19000 (omega arith) (omega arith) routine.body g.memory' out.typed out.output out.drawn behind g.cells' g.holds u.agrees g.clash in
          let few1 = w1.few in
          let few2 = c.few in
          let few3 = g.few in
          let e1 = steps_are w1.count (suc c.count + steps g.count 4) in
          let e2 = steps_are g.count 4 in
          moves_to t plays out e.x m z r routine e.there (omega arith) out y (steps w1.count (suc c.count + steps g.count 4)) (global_copied_most t.program a v m) last.memory' [] last.cells' c.sh' g.trail' (bound u m1)
          (to_match x c.count c.m'.memory memory2 c.locals' c.runs c.m'.cells put refl (Returns y) (now last.memory') (steps g.count 4) (g.runs (Returns y) (now last.memory') 4 last.runs))
          last.holds (next_small t.p plays.words behind u.agrees) (mid_same t c.sh' g.cells' last.cells' g.trail' (bound u m1) (λ j ne far. last.others j (λ (q : j ≡ 36). (let i = far.1 (omega arith) in omega arith))) g.mid) (omega arith)

      trail_full : 2000 < trail_more m.state u → Closes t out TrailLimit (global_copied_most t.program a v m + closing_most) z
      trail_full over =
          let g = matched.full over in
          let few1 = w1.few in
          let few2 = c.few in
          let few3 = g.few in
          let e1 = steps_are w1.count (suc c.count + g.count) in
          let text : c2 28 ≡ r.cells 28 = stays 28 (λ q. (omega arith)) (λ q. (omega arith)) (λ q. (omega arith)) (λ q. (omega arith)) (λ q. (omega arith)) (λ q. absurd (omega arith)) ∙ w1.others 28 (λ q. (omega arith)) (λ q. (omega arith)) (λ q. (omega arith)) (λ q. (omega arith)) (omega arith) in
          closes_drawn t plays out e.x m z r routine e.there (omega arith) out.drawn 3500 19000 (omega arith) (omega arith) (steps w1.count (suc c.count + g.count)) (global_copied_most t.program a v m + closing_most) TrailLimit g.memory' g.locals'
          (subst (λ (j : ℕ). ActsRun t.p 3500 19000 routine.body routine.body (now r.memory) (Stops AtQuit) (state g.memory' g.locals' out.typed out.drawn (out.output ++ closing j TrailLimit)) (steps w1.count (suc c.count + g.count))) text
          (to_match x c.count c.m'.memory memory2 c.locals' c.runs c.m'.cells put refl (Stops AtQuit) (state g.memory' g.locals' out.typed out.drawn (out.output ++ closing (c2 28) TrailLimit)) g.count g.runs))
          (omega arith)

pub read_global_turns : ReadGlobalTurns
read_global_turns t plays world hc out place a behind facts m z is facts_out e = record {
  fails = λ room none. nothing t plays world hc out place a behind facts m z is facts_out e (written t plays world hc out place a behind facts m z is facts_out e room) none;
  unifies = λ v room some few. unified t plays world hc out place a behind facts m z is facts_out e (written t plays world hc out place a behind facts m z is facts_out e (omega arith)) v some room few;
  meets_heap = λ over. no_room t plays world hc out place a behind facts m z is facts_out e over;
  meets_copy = λ v room some over. no_copy t plays world hc out place a behind facts m z is facts_out e (written t plays world hc out place a behind facts m z is facts_out e room) v some over;
  meets_trail = λ v room some over. trail_full t plays world hc out place a behind facts m z is facts_out e (written t plays world hc out place a behind facts m z is facts_out e (omega arith)) v some room over;
}
