-- A gathering is opened: one turn of the story.
use Rattle.std.proofs.Common.{◌≡◌, ◌≢◌, ℕ, suc, ◌+◌, ◌<◌, ◌≤◌, List, [], ◌∷◌, ◌++◌, length, None, Some, refl, sym, ap, ◌∙◌, subst, arith}
use Rattle.dg_base.specs.declared.program.Term.{Term}
use Rattle.dg_base.specs.declared.run.Ending.{Ending}
use Rattle.dg_base.specs.declared.run.Ending.TheVariants.{HeapLimit, AuxLimit}
use Rattle.dg_meaning.specs.Cells.{cells as cells_of}
use Rattle.dg_meaning.specs.Values.{Value}
use Rattle.dg_meaning.specs.World.{gathered_size}
use Rattle.dg_mid.specs.State.{Place, Takes, Stop, Choice, Mid, place_of}
use Rattle.dg_mid.specs.Step.{more, inside, with_gathering}
use Rattle.z_model.specs.declared.end.Halt.TheVariants.{AtQuit}
use Rattle.z_model.specs.Run.{ZState}
use Rattle.z_lang.specs.declared.act.Act.{Act}
use Rattle.z_lang.specs.declared.act.Act.TheVariants as acts
use Rattle.z_lang.specs.declared.act.Args.TheVariants as args
use Rattle.z_lang.specs.declared.act.Atom.TheVariants as atoms
use Rattle.z_lang.specs.declared.act.Routine.{Routine}
use Rattle.z_lang.specs.State.{State, Program}
use Rattle.z_lang.specs.Runs.{ActsRun, Returns, Stops, calls, calls_last, returns}
use Rattle.dg_rt.specs.declared.numbers.TheConstants.{OPEN, OPEN_GATHERING}
use Rattle.dg_rt.specs.declared.gathering.TheConstants.{OPEN_GATHERING_ACTS}
use Rattle.dg_rt.specs.inside.Walks.{steps}
use Rattle.dg_rt.specs.Cells.{at_cell, with_cell, replaced}
use Rattle.dg_rt.specs.Areas.{trail_at, state}
use Rattle.dg_rt.specs.Back.{at_place}
use Rattle.dg_rt.specs.Choices.{Opens}
use Rattle.dg_rt.specs.Closings.{closing, closing_most}
use Rattle.dg_rt.specs.Gatherings.{NextAt, MeetsThe, OpensGathering}
use Rattle.dg_rt.specs.RunTime.{routine_of, HasRunTime}
use Rattle.dg_rt.specs.Shapes.{Shape, Cell, Shows}
use Rattle.dg_rt.proofs.Cells.{other_cell, same_cell}
use Rattle.dg_rt.proofs.Following.{register, puts}
use Rattle.dg_rt.proofs.GatheringOpened.{gather_works}
use Rattle.dg_rt.proofs.Grows.{grown_shows}
use Rattle.dg_rt.proofs.Opening.{open_works}
use Rattle.dg_rt.proofs.UnifySteps.{steps_are}
use Rattle.dg_turn.specs.Told.{Telling}
use Rattle.dg_turn.specs.Rest.{aux_at, gather_words}
use Rattle.dg_turn.specs.Lies.{OpensFewer, StopsFewer, FramesIn, InnersIn, StopsIn, ChoicesIn, MidIn}
use Rattle.dg_turn.specs.Plays.{Playing, Outside, Represented, Comes, Closes}
use Rattle.dg_turn.specs.Terms.{written_in, Wrote}
use Rattle.dg_turn.specs.Operating.{term_value, InFront}
use Rattle.dg_turn.specs.Gatherings.{collect_routine, collected, CollectTurns}
use Rattle.dg_turn.proofs.Gathered.{size_more, choices_more, stops_more, mid_gathered, next_at, within_area, rest_opened}
use Rattle.dg_turn.proofs.Growing.{grown_inner}
use Rattle.dg_turn.proofs.Moving.{moves, closes}
use Rattle.dg_turn.proofs.Opening.{Opened, opened_in}
use Rattle.dg_turn.proofs.Resting.{length_words}
use Rattle.dg_turn.proofs.Standing.{open_at}
use Rattle.dg_turn.proofs.Staying.{mid_with}
use Rattle.dg_turn.proofs.Terms.{writes_terms, meets_terms}

pub open_gathering_at : (p : Program) → HasRunTime p → p.routine_at (p.names.routine OPEN_GATHERING) ≡ Some (routine_of 2 OPEN_GATHERING_ACTS)
open_gathering_at p has = has.each 99 (routine_of 2 OPEN_GATHERING_ACTS) refl

-- what is there was opened before
opens_fewer : (t : Telling) (sh : Shape) (cells : ℕ → ℕ) (trail opens : List ℕ) (word n : ℕ) (cs : List Choice) → length opens ≡ n → ChoicesIn t sh cells trail opens word cs → OpensFewer (suc n) cs
opens_fewer t sh cells trail opens word n [] e h = tt
opens_fewer t sh cells trail opens word n (c ∷ cs) e h = let few = h.few_open in omega arith

stops_fewer : (t : Telling) (sh : Shape) (cells : ℕ → ℕ) (trail opens : List ℕ) (n : ℕ) (ss : List Stop) → length opens ≡ n → StopsIn t sh cells trail opens ss → StopsFewer (suc n) ss
stops_fewer t sh cells trail opens n [] e h = tt
stops_fewer t sh cells trail opens n (s ∷ ss) e h = let few = h.few_open in omega arith

module _ (t : Telling) (plays : Playing t) (out : Outside) (a b : Term) (block alt behind : ℕ) (m : Mid) (z : ZState) (alt_is : t.p.names.routine alt ≡ t.at_block block) (e : InFront t out (collect_routine t.program a b alt behind) (a ∷ b ∷ []) m z) where
  abbrev r : Represented t out e.x m z
  r = e.rep

  abbrev ts : List Term
  ts = a ∷ b ∷ []

  abbrev n : ℕ
  n = cells_of t.program ts

  abbrev va : Value
  va = term_value t.program m a

  abbrev vb : Value
  vb = term_value t.program m b

  abbrev routine : Routine
  routine = collect_routine t.program a b alt behind

  abbrev opening : List Act
  opening = acts.Call (Some 22) (atoms.Routine OPEN) (args.Three (atoms.Routine alt) (atoms.Var 33) (atoms.Var 32)) ∷ acts.Return (atoms.Routine behind) ∷ []

  abbrev rest : List Act
  rest = acts.Call None (atoms.Routine OPEN_GATHERING) args.Zero ∷ opening

  abbrev now : List ℕ → State
  now memory = state memory [] out.typed out.drawn out.output

  abbrev place : ℕ
  place = aux_at + gathered_size m.gathered

  no_room : 10000 < m.state.heap + n → Closes t out HeapLimit (10 + closing_most) z
  no_room over =
      let k = meets_terms t plays.has 3500 19000 r.sh r.memory out.typed out.output out.drawn r.cells r.trail m r.holds r.mid routine.body (omega arith) (omega arith) rest 32 ts over in
      let few = k.few in
      closes t plays out e.x m z r routine e.there (omega arith) k.count (10 + closing_most) HeapLimit k.memory' k.locals' k.runs (omega arith)

  module _ (room : m.state.heap + n ≤ 10000) where
    abbrev w1 : Wrote t out.words 3500 19000 routine.body rest routine.body r.sh r.memory out.typed out.output out.drawn r.cells r.trail m n 32 (va ∷ vb ∷ []) (written_in t.program ts + 6)
    w1 = writes_terms t plays.has 3500 19000 r.sh r.memory out.typed out.output out.drawn r.cells r.trail m r.holds r.mid routine.body (omega arith) (omega arith) rest 32 ts (omega arith) (omega arith) (λ q. (omega arith)) e.nodes room

    heap_is : w1.cells' 3 ≡ m.state.heap + n
    heap_is = w1.mid.heap

    next : NextAt w1.cells' place
    next = next_at t w1.cells' m.gathered w1.mid.rest

    -- a limit is met
    over_by : (ending : Ending) → MeetsThe t.p ending 3400 16000 OPEN_GATHERING_ACTS w1.memory' (0 ∷ 0 ∷ []) out.typed out.output out.drawn w1.cells' 12 → Closes t out ending (written_in t.program ts + 40 + closing_most) z
    over_by ending q =
        let few = q.few in
        let few1 = w1.few in
        let many = steps_are w1.count (suc q.count) in
        let last : w1.cells' 28 ≡ r.cells 28 = w1.others 28 (λ i. (omega arith)) (λ i. (omega arith)) (λ i. (omega arith)) (λ i. (omega arith)) (omega arith) in
        closes t plays out e.x m z r routine e.there (omega arith) (steps w1.count (suc q.count)) (written_in t.program ts + 40 + closing_most) ending q.memory' []
        (subst (λ (j : ℕ). ActsRun t.p 3500 19000 routine.body routine.body (now r.memory) (Stops AtQuit) (state q.memory' [] out.typed out.drawn (out.output ++ closing j ending)) (steps w1.count (suc q.count))) last
        (w1.runs (Stops AtQuit) (state q.memory' [] out.typed out.drawn (out.output ++ closing (w1.cells' 28) ending)) (suc q.count)
        (calls_last {f' = 3400} {w' = 16000} {n = q.count} {xs = (0, 0, 0)} refl refl (open_gathering_at t.p plays.has) (omega arith) (omega arith) q.runs)))
        (omega arith)

    no_cells : 10000 < m.state.heap + n + 10 → Closes t out HeapLimit (written_in t.program ts + 40 + closing_most) z
    no_cells over = let heap = heap_is in over_by HeapLimit (gather_works.meets_heap t.p plays.has 3400 16000 (omega arith) w1.memory' out.typed out.output out.drawn w1.cells' w1.holds (omega arith) (omega arith))

    no_words : m.state.heap + n + 10 ≤ 10000 → 2000 < gathered_size ((with_gathering m).gathered) → Closes t out AuxLimit (written_in t.program ts + 40 + closing_most) z
    no_words low over =
        let heap = heap_is in
        let size = size_more (record { tag = m.next_tag; values = [] }) m.gathered in
        let few = within_area t w1.cells' m.gathered w1.mid.rest.gatherings in
        over_by AuxLimit (gather_works.meets_aux t.p plays.has 3400 16000 (omega arith) w1.memory' out.typed out.output out.drawn w1.cells' place w1.holds (omega arith) next (omega arith) (omega arith))

    -- ## It is opened

    module _ (low : m.state.heap + n + 10 ≤ 10000) (fits : gathered_size ((with_gathering m).gathered) ≤ 2000) where
      g : OpensGathering t.p 3400 16000 w1.memory' out.typed out.output out.drawn w1.cells' place
      g = let heap = heap_is in let size = size_more (record { tag = m.next_tag; values = [] }) m.gathered in gather_works.opens t.p plays.has 3400 16000 w1.memory' out.typed out.output out.drawn w1.cells' place w1.holds (omega arith) next (omega arith)

      abbrev m1 : Mid
      m1 = with_gathering (more n m)

      mid2 : MidIn t out.words w1.sh' g.cells' r.trail m1
      mid2 =
          mid_gathered t w1.sh' w1.cells' g.cells' r.trail (more n m) m1.gathered (λ k n0 n29 kept lt. g.others k n29 (λ q. (omega arith)) (λ q. (omega arith)))
          (choices_more t w1.sh' w1.cells' r.trail (at_cell (aux_at + gathered_size m.gathered)) (gather_words m.gathered) (w1.cells' 5) m.choices w1.mid.choices)
          (stops_more t w1.sh' w1.cells' r.trail (at_cell (aux_at + gathered_size m.gathered)) (gather_words m.gathered) m.stops w1.mid.stops)
          (rest_opened t w1.cells' g.cells' (more n m) fits g.named g.before g.end (λ k n29 n0 n1. g.others k n29 n0 n1) w1.mid.rest)
          w1.mid

      stays : (k : ℕ) → k ≢ 29 → k < aux_at → g.cells' k ≡ w1.cells' k
      stays k ne lt = g.others k ne (λ q. (omega arith)) (λ q. (omega arith))

      abbrev first_word : ℕ
      first_word = g.cells' 16

      abbrev second_word : ℕ
      second_word = g.cells' 17

      shows_a : Shows w1.sh' (g.cells' 16) va
      shows_a = subst (λ (w : ℕ). Shows w1.sh' w va) (sym (stays 16 (λ q. (omega arith)) (omega arith))) w1.words.0

      shows_b : Shows w1.sh' (g.cells' 17) vb
      shows_b = subst (λ (w : ℕ). Shows w1.sh' w vb) (sym (stays 17 (λ q. (omega arith)) (omega arith))) w1.words.1.0

      top_is : w1.sh'.top ≡ m.state.heap + n
      top_is = w1.mid.state.heap

      o : Opens t.p 3000 18000 g.memory' out.typed out.output out.drawn (t.p.names.routine alt) (g.cells' 17) (g.cells' 16) g.cells' w1.sh'.top
      o =
          let top = top_is in
          open_works.opens t.p plays.has 3000 18000 g.memory' out.typed out.output out.drawn (t.p.names.routine alt) (g.cells' 17) (g.cells' 16) g.cells' w1.sh'.top g.holds (stays 3 (λ q. (omega arith)) (omega arith) ∙ heap_is ∙ sym top) (omega arith) (plays.words alt) (g.holds.words 17) (g.holds.words 16)

      d : Opened t out.words w1.sh' o.cells' r.trail (Takes block vb) 0 (g.cells' 16) m1
      d =
          let top = top_is in
          let names = length_words m.gathered in
          opened_in t w1.sh' g.cells' o.cells' r.trail m1 (Takes block vb) 0 (t.p.names.routine alt) (g.cells' 17) (g.cells' 16) 0 [] mid2 (omega arith) refl refl (alt_is, shows_b)
          (opens_fewer t w1.sh' w1.cells' r.trail (gather_words m.gathered) (w1.cells' 5) (length m.gathered) m.choices names w1.mid.choices, stops_fewer t w1.sh' w1.cells' r.trail (gather_words m.gathered) (length m.gathered) m.stops names w1.mid.stops)
          (o.heap ∙ omega arith) o.choice o.mark o.row (λ j n0 n2 n3 n5 mid' far. o.others j n3 n5 n2 (λ l. (let q : trail_at ≤ j = far l in omega arith)))

      collects : Comes t out (t.p.names.routine behind) (collected t.program a b block m) (written_in t.program ts + 60) z
      collects =
          let high = plays.has.mapped.room in
          let heap_at_top = top_is in
          let word = at_place w1.sh'.top in
          let m2 = more n m in
          let at = m2.state.heap in
          let put = puts t.p (now o.memory') o.cells' 22 word o.holds (omega arith) (omega arith) (omega arith) (omega arith) in
          let c2 = replaced o.cells' 6 word in
          let first = d.mid.choices in
          let top' = d.mid.state.heap in
          let heights : word ≡ at_place at = ap at_place heap_at_top in
          let three : suc (suc (suc at)) ≡ at + 3 = omega arith in
          let four : suc (suc (suc (suc at))) ≡ at + 4 = omega arith in
          let eight : suc (suc (suc (suc (suc (suc (suc (suc at))))))) ≡ at + 8 = omega arith in
          let here : Place = record (place_of m2) { gathers = Some va } in
          let inner : InnersIn d.sh' m.stops (c2 6) (here ∷ m.inner) = record {
            word_is = same_cell o.cells' 6 word ∙ heights;
            below = omega arith;
            l = first.l;
            l_is = subst (λ (i : ℕ). Cell d.sh' i first.l) three first.cells_are.1.1.1.0;
            stop = first.stop;
            stop_is = subst (λ (i : ℕ). Cell d.sh' i first.stop) four first.cells_are.1.1.1.1.0;
            outer_is = first.stop_is;
            value = first.many;
            value_is = subst (λ (i : ℕ). Cell d.sh' i first.many) eight first.cells_are.1.1.1.1.1.1.1.1.0;
            gathers_is = subst (λ (w : ℕ). Shows d.sh' w va) (sym d.many_is) (grown_shows d.grown shows_a);
            around_is = grown_inner first.back.grown m.stops first.l m.inner first.inner;
          } in
          let frames : FramesIn t d.sh' m.stops (c2 4) m.frames = subst (λ (w : ℕ). FramesIn t d.sh' m.stops w m.frames) (sym (other_cell o.cells' 6 word 4 (λ q. (omega arith)))) d.mid.frames in
          let mid3 = mid_with t d.sh' o.cells' c2 r.trail (inside (Takes block vb) 0 m1) m.frames (here ∷ m.inner) (λ j n0 n4 n6 far. other_cell o.cells' 6 word j n6) frames inner d.mid in
          let few1 = w1.few in
          let few2 = g.few in
          let many = steps_are w1.count (suc g.count + (suc 18 + 1)) in
          moves t plays out e.x m z r routine e.there (omega arith) (t.p.names.routine behind) (steps w1.count (suc g.count + (suc 18 + 1))) (written_in t.program ts + 60) (with_cell o.memory' 6 word) [] c2 d.sh' r.trail (collected t.program a b block m)
          (w1.runs (Returns (t.p.names.routine behind)) (now (with_cell o.memory' 6 word)) (suc g.count + (suc 18 + 1))
          (calls {f' = 3400} {w' = 16000} {n = g.count} {n' = suc 18 + 1} {xs = (0, 0, 0)} {s1 = state g.memory' g.locals' out.typed out.drawn out.output} {s2 = now g.memory'} refl refl (open_gathering_at t.p plays.has) (omega arith) (omega arith) g.runs refl
          (calls {f' = 3000} {w' = 18000} {n = 18} {n' = 1} {xs = (t.p.names.routine alt, g.cells' 17, g.cells' 16)} {s1 = state o.memory' o.locals' out.typed out.drawn out.output} {s2 = now (with_cell o.memory' 6 word)} refl
          (rw (register t.p (now g.memory') g.cells' 33 g.holds (omega arith) (omega arith) (omega arith), register t.p (now g.memory') g.cells' 32 g.holds (omega arith) (omega arith) (omega arith)) refl)
          (open_at t.p plays.has) (omega arith) (omega arith) o.runs put.put_is (returns refl))))
          put.holds (plays.words behind) mid3 (omega arith)

pub collect_turns : CollectTurns
collect_turns t plays out a b block alt behind m z alt_is e = record {
  collects = λ low fits. collects t plays out a b block alt behind m z alt_is e (omega arith) low fits;
  meets_terms = λ over. no_room t plays out a b block alt behind m z alt_is e over;
  meets_heap = λ room over. no_cells t plays out a b block alt behind m z alt_is e room over;
  meets_aux = λ low over. no_words t plays out a b block alt behind m z alt_is e (omega arith) low over;
}
