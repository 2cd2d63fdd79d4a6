-- Queries of the world that are answered at once are turns.
use Rattle.std.proofs.Common.{◌≡◌, ◌≢◌, ℕ, suc, ◌+◌, ◌-◌, ◌*◌, ◌<◌, ◌≤◌, false, List, [], ◌∷◌, ◌++◌, length, map, Option, Some, None, refl, sym, ap, ◌∙◌, subst, arith}
use Rattle.std.specs.Prelude.{is_some, not}
use Rattle.std.specs.List.{slice_get}
use Rattle.dg_base.specs.declared.program.PlaceKind.{PlaceKind}
use Rattle.dg_base.specs.declared.program.PlaceKind.TheVariants.{Flag, ObjectFlag, ObjectVar, Parent, Global}
use Rattle.dg_base.specs.declared.program.Term.{Term}
use Rattle.dg_base.specs.declared.run.Ending.TheVariants.{HeapLimit, TrailLimit}
use Rattle.dg_meaning.specs.Cells.{cells as cells_of}
use Rattle.dg_meaning.specs.Facts.{Fact, value_at, kinds_of}
use Rattle.dg_meaning.specs.Values.{Value}
use Rattle.dg_meaning.specs.Unify.{Unified}
use Rattle.dg_mid.specs.State.{Mid}
use Rattle.dg_mid.specs.Step.{bound, trail_more, more}
use Rattle.z_model.specs.declared.end.Halt.TheVariants.{AtQuit}
use Rattle.z_model.specs.Run.{ZState}
use Rattle.z_lang.specs.declared.act.Act.{Act}
use Rattle.z_lang.specs.declared.act.Act.TheVariants as acts
use Rattle.z_lang.specs.declared.act.Args.TheVariants as args
use Rattle.z_lang.specs.declared.act.Atom.TheVariants as atoms
use Rattle.z_lang.specs.declared.act.Routine.{Routine}
use Rattle.z_lang.specs.State.{Program, State}
use Rattle.z_lang.specs.Runs.{ActsRun, ActsOutcome, Returns, Stops, calls}
use Rattle.dg_rt.specs.declared.numbers.TheConstants.{FAIL, IF_RAISED, IF_SET, READ_VALUE}
use Rattle.dg_rt.specs.declared.changes.TheConstants.{IF_RAISED_ACTS, IF_SET_ACTS, READ_VALUE_ACTS}
use Rattle.dg_rt.specs.inside.Walks.{steps}
use Rattle.dg_rt.specs.Cells.{at_cell, with_cell, replaced, bit}
use Rattle.dg_rt.specs.Areas.{state}
use Rattle.dg_rt.specs.Shapes.{Shows}
use Rattle.dg_rt.specs.RunTime.{routine_of, HasRunTime}
use Rattle.dg_rt.specs.Tables.{IsTable}
use Rattle.dg_rt.specs.Unifies.{price}
use Rattle.dg_rt.specs.Closings.{closing, closing_most}
use Rattle.dg_rt.specs.Changes.{SetIn, TableIn, ReadsValue}
use Rattle.dg_rt.proofs.Cells.{other_cell, same_cell}
use Rattle.dg_rt.proofs.Following.{IsPut, puts}
use Rattle.dg_rt.proofs.Reading.{set_low, is_set_works, raised_works, read_works}
use Rattle.dg_rt.proofs.UnifySteps.{steps_are}
use Rattle.dg_turn.specs.Told.{Telling}
use Rattle.dg_turn.specs.Lies.{MidIn}
use Rattle.dg_turn.specs.Plays.{Playing, Outside, Represented, Comes, Closes}
use Rattle.dg_turn.specs.Terms.{written_in, Wrote}
use Rattle.dg_turn.specs.Turns.{agreed_next, match_acts, last_acts}
use Rattle.dg_turn.specs.Operating.{term_value, term_links, InFront}
use Rattle.dg_turn.specs.World.{words_at, bytes_at, FactsIn, HasWorld, HoldsTurns, set_in, FlagTurns, reading_routine, value_equation, value_unified, reading_most, answering_most, Reading, HasValues, ReadTurns}
use Rattle.dg_turn.proofs.DecidingTurn.{next_is, deciding}
use Rattle.dg_turn.proofs.Ends.{next_small, concludes}
use Rattle.dg_turn.proofs.Matching.{Goes, skips, matches}
use Rattle.dg_turn.proofs.Moving.{moves_to, closes, closes_drawn}
use Rattle.dg_turn.proofs.Places.{table_of, bytes_of, facts_same}
use Rattle.dg_turn.proofs.Staying.{mid_same}
use Rattle.dg_turn.proofs.Terms.{writes_terms, meets_terms}

-- ## Where the routines stand

module _ (p : Program) (has : HasRunTime p) where
  pub if_raised_at : p.routine_at (p.names.routine IF_RAISED) ≡ Some (routine_of 3 IF_RAISED_ACTS)
  if_raised_at = has.each (IF_RAISED - 1) (routine_of 3 IF_RAISED_ACTS) refl

  if_set_at : p.routine_at (p.names.routine IF_SET) ≡ Some (routine_of 2 IF_SET_ACTS)
  if_set_at = has.each (IF_SET - 1) (routine_of 2 IF_SET_ACTS) refl

  pub read_value_at : p.routine_at (p.names.routine READ_VALUE) ≡ Some (routine_of 2 READ_VALUE_ACTS)
  read_value_at = has.each (READ_VALUE - 1) (routine_of 2 READ_VALUE_ACTS) refl

-- ## Flags

pub holds_turns : HoldsTurns
holds_turns t plays world out place behind facts m z is facts_out e =
    let w = words_at t.program place in
    let next = t.p.names.routine behind in
    let b = is_some (value_at facts place 0) in
    deciding t plays out [] (omega arith) IF_SET (args.Two (atoms.Num (at_cell w)) (atoms.Routine behind)) behind b m z e 4 20 (omega arith)
    (λ w1.
    let here = facts_same t.program facts out.words w1.cells' (λ k le. w1.mid.rest.outside.areas k le) facts_out in
    let k = is_set_works t.p plays.has 3400 15000 w1.memory' out.typed out.output out.drawn w1.cells' w1.holds w place next facts (table_of t world place 1 Flag is refl) (here.each place Flag is) in
    record {
      xs = (at_cell w, next, 0);
      given_is = refl;
      called = routine_of 2 IF_SET_ACTS;
      stands = if_set_at t.p plays.has;
      few_locals = omega arith;
      locals' = k.locals';
      count = k.count;
      few = k.few;
      runs = subst (λ (i : ℕ). ActsRun t.p 3400 15000 IF_SET_ACTS IF_SET_ACTS (state w1.memory' (at_cell w ∷ next ∷ []) out.typed out.drawn out.output) (Returns i) (state w1.memory' k.locals' out.typed out.drawn out.output) k.count) (next_is t.p behind b) k.runs;
    })

pub flag_turns : FlagTurns
flag_turns t plays world out place a behind facts m z is facts_out e =
    let n = length t.program.objects in
    let c = bytes_at t.program place in
    let next = t.p.names.routine behind in
    let b = is_some (set_in t.program facts place a m) in
    let most = 5 * term_links t.program m a + 40 in
    deciding t plays out (a ∷ []) (omega arith) IF_RAISED (args.Three (atoms.Num (64 + c)) (atoms.Num n) (atoms.Routine behind)) behind b m z e most (written_in t.program (a ∷ []) + 5 * term_links t.program m a + 60) (omega arith)
    (λ w1.
    let here = facts_same t.program facts out.words w1.cells' (λ k le. w1.mid.rest.outside.areas k le) facts_out in
    let k = raised_works t.p plays.has 3400 15000 (omega arith) (omega arith) w1.memory' out.typed out.output out.drawn w1.sh' w1.cells' m.state.subst (term_value t.program m a) (record { shape = w1.mid.state.shape; holds = w1.holds; stands = w1.mid.state.stands; first = w1.words.0 }) c n place next facts (bytes_of t world place is) world.few (here.each place ObjectFlag is) in
    record {
      xs = (64 + c, n, next);
      given_is = refl;
      called = routine_of 3 IF_RAISED_ACTS;
      stands = if_raised_at t.p plays.has;
      few_locals = omega arith;
      locals' = k.locals';
      count = k.count;
      few = k.few;
      runs = subst (λ (i : ℕ). ActsRun t.p 3400 15000 IF_RAISED_ACTS IF_RAISED_ACTS (state w1.memory' ((64 + c) ∷ n ∷ next ∷ []) out.typed out.drawn out.output) (Returns i) (state w1.memory' k.locals' out.typed out.drawn out.output) k.count) (next_is t.p behind b) k.runs;
    })

-- ## Values

pub word_small : (x : ℕ) (set : Option Value) → SetIn x set → x < 65536
word_small x None e = omega arith
word_small x (Some v) is = let low = set_low x v is in omega arith

module _ (t : Telling) (plays : Playing t) (out : Outside) (place : ℕ) (a c : Term) (behind : ℕ) (set : Option Value) (m : Mid) (z : ZState) (e : InFront t out (reading_routine t.program place a c behind) (a ∷ c ∷ []) m z) where
  abbrev r : Represented t out e.x m z
  r = e.rep

  abbrev ts : List Term
  ts = a ∷ c ∷ []

  abbrev n : ℕ
  n = cells_of t.program ts

  abbrev vc : Value
  vc = term_value t.program m c

  abbrev w : ℕ
  w = words_at t.program place

  abbrev objects : ℕ
  objects = length t.program.objects

  abbrev routine : Routine
  routine = reading_routine t.program place a c behind

  abbrev matching : List Act
  matching = match_acts 33 52 1 ++ last_acts behind

  abbrev rest1 : List Act
  rest1 = acts.Call (Some 52) (atoms.Routine READ_VALUE) (args.Two (atoms.Num (at_cell w)) (atoms.Num objects)) ∷ matching

  abbrev now : List ℕ → State
  now memory = state memory [] out.typed out.drawn out.output

  abbrev links_most : ℕ
  links_most = 5 * term_links t.program m a + 40

  abbrev Written : Type 0
  Written = Wrote t out.words 3500 19000 routine.body rest1 routine.body r.sh r.memory out.typed out.output out.drawn r.cells r.trail m n 32 (map (term_value t.program m) ts) (written_in t.program ts + 6)

  abbrev ReadOf : Written → Type 0
  ReadOf w1 = ReadsValue t.p 3400 15000 w1.memory' out.typed out.output out.drawn w objects w1.cells' set links_most

  module _ (w1 : Written) (k : ReadOf w1) where
    abbrev memory2 : List ℕ
    memory2 = with_cell k.memory' 36 k.word

    abbrev c2 : ℕ → ℕ
    c2 = replaced k.cells' 36 k.word

    given : IsPut t.p (state k.memory' [] out.typed out.drawn out.output) k.cells' 52 k.word
    given = let high = plays.has.mapped.room in puts t.p (now k.memory') k.cells' 52 k.word k.holds (omega arith) (omega arith) (omega arith) (word_small k.word set k.is)

    stays : (j : ℕ) → j ≢ 13 → j ≢ 36 → c2 j ≡ w1.cells' j
    stays j n13 n36 = other_cell k.cells' 36 k.word j n36 ∙ k.others j n13

    mid2 : MidIn t out.words w1.sh' c2 r.trail (more n m)
    mid2 = mid_same t w1.sh' w1.cells' c2 r.trail (more n m) (λ j ne far. stays j (λ (q : j ≡ 13). (let y = far.0 (omega arith) in omega arith)) (λ (q : j ≡ 36). (let y = far.1 (omega arith) in omega arith))) w1.mid

    clash_is : c2 13 ≡ bit (not (is_some set))
    clash_is = other_cell k.cells' 36 k.word 13 (λ q. (omega arith)) ∙ k.clash

    -- up to the match
    to_match : (o : ActsOutcome) (s' : State) (j : ℕ) → ActsRun t.p 3500 19000 routine.body matching (now memory2) o s' j → ActsRun t.p 3500 19000 routine.body routine.body (now r.memory) o s' (steps w1.count (suc k.count + j))
    to_match o s' j go =
        let front = given in
        w1.runs o s' (suc k.count + j)
        (calls {f' = 3400} {w' = 15000} {n = k.count} {n' = j} {xs = (at_cell w, objects, 0)} {s1 = state k.memory' k.locals' out.typed out.drawn out.output} {s2 = now memory2} refl refl (read_value_at t.p plays.has) (omega arith) (omega arith) k.runs front.put_is go)

    -- where nothing is set it fails
    none_set : set ≡ None → Comes t out (t.p.names.routine FAIL) (more n m) (reading_most t.program a c m) z
    none_set is =
        let high = plays.has.mapped.room in
        let one : c2 13 ≡ 1 = clash_is ∙ ap (λ (x : Option Value). bit (not (is_some x))) is in
        let last = concludes t.p plays.has plays.words 3500 19000 (omega arith) (omega arith) routine.body memory2 out.typed out.output out.drawn behind c2 given.holds false one in
        let y = t.p.names.routine FAIL in
        let skip = skips t out.words plays.has 3500 19000 (omega arith) (omega arith) w1.sh' out.typed out.output out.drawn routine.body (last_acts behind) 1 33 52 memory2 c2 given.holds (omega arith) (omega arith) (omega arith) (omega arith) (λ (q : c2 13 ≡ 0). (omega arith)) (Returns y) (now last.memory') 4 last.runs in
        let few1 = w1.few in
        let few2 = k.few in
        let e1 = steps_are w1.count (suc k.count + steps (3 * 1) 4) in
        let e2 = steps_are (3 * 1) 4 in
        moves_to t plays out e.x m z r routine e.there (omega arith) out y (steps w1.count (suc k.count + steps (3 * 1) 4)) (reading_most t.program a c m) last.memory' [] last.cells' w1.sh' r.trail (more n m)
        (to_match (Returns y) (now last.memory') (steps (3 * 1) 4) skip)
        last.holds (next_small t.p plays.words behind false) (mid_same t w1.sh' c2 last.cells' r.trail (more n m) (λ j ne far. last.others j (λ (q : j ≡ 36). (let v = far.1 (omega arith) in omega arith))) mid2) (omega arith)

    -- where something is, it is matched
    module _ (v : Value) (is : set ≡ Some v) where
      abbrev u : Unified
      u = value_unified t.program c v m

      shows_set : Shows w1.sh' (c2 36) v
      shows_set = subst (λ (i : ℕ). Shows w1.sh' i v) (sym (same_cell k.cells' 36 k.word)) (subst (SetIn k.word) is k.is w1.sh')

      shows_second : Shows w1.sh' (c2 17) vc
      shows_second = subst (λ (i : ℕ). Shows w1.sh' i vc) (sym (stays 17 (λ q. (omega arith)) (λ q. (omega arith)))) w1.words.1.0

      matched : Goes t out.words 3500 19000 routine.body (last_acts behind) matching w1.sh' memory2 out.typed out.output out.drawn c2 (more n m) u (price m.state.subst (value_equation t.program c v m) + 6 * 1)
      matched = matches t out.words plays.has 3500 19000 (omega arith) (omega arith) w1.sh' out.typed out.output out.drawn routine.body (last_acts behind) 1 33 52 memory2 c2 r.trail (more n m) (vc ∷ []) (v ∷ []) refl refl given.holds mid2 (clash_is ∙ ap (λ (x : Option Value). bit (not (is_some x))) is) (omega arith) (omega arith) (omega arith) (omega arith) (shows_second, tt) (shows_set, tt)

      value_matched : trail_more m.state u ≤ 2000 → Comes t out (agreed_next t.p behind u.agrees) (bound u (more n m)) (answering_most t.program a c v m) z
      value_matched few =
          let g = matched.matched few in
          let y = agreed_next t.p behind u.agrees in
          let last = concludes t.p plays.has plays.words 3500 19000 (omega arith) (omega arith) routine.body g.memory' out.typed out.output out.drawn behind g.cells' g.holds u.agrees g.clash in
          let few1 = w1.few in
          let few2 = k.few in
          let few3 = g.few in
          let e1 = steps_are w1.count (suc k.count + steps g.count 4) in
          let e2 = steps_are g.count 4 in
          moves_to t plays out e.x m z r routine e.there (omega arith) out y (steps w1.count (suc k.count + steps g.count 4)) (answering_most t.program a c v m) last.memory' [] last.cells' w1.sh' g.trail' (bound u (more n m))
          (to_match (Returns y) (now last.memory') (steps g.count 4) (g.runs (Returns y) (now last.memory') 4 last.runs))
          last.holds (next_small t.p plays.words behind u.agrees) (mid_same t w1.sh' g.cells' last.cells' g.trail' (bound u (more n m)) (λ j ne far. last.others j (λ (q : j ≡ 36). (let i = far.1 (omega arith) in omega arith))) g.mid) (omega arith)

      trail_full : 2000 < trail_more m.state u → Closes t out TrailLimit (answering_most t.program a c v m + closing_most) z
      trail_full over =
          let g = matched.full over in
          let few1 = w1.few in
          let few2 = k.few in
          let few3 = g.few in
          let e1 = steps_are w1.count (suc k.count + g.count) in
          let last : c2 28 ≡ r.cells 28 = stays 28 (λ q. (omega arith)) (λ q. (omega arith)) ∙ w1.others 28 (λ q. (omega arith)) (λ q. (omega arith)) (λ q. (omega arith)) (λ q. (omega arith)) (omega arith) in
          closes_drawn t plays out e.x m z r routine e.there (omega arith) out.drawn 3500 19000 (omega arith) (omega arith) (steps w1.count (suc k.count + g.count)) (answering_most t.program a c v m + closing_most) TrailLimit g.memory' g.locals'
          (subst (λ (j : ℕ). ActsRun t.p 3500 19000 routine.body routine.body (now r.memory) (Stops AtQuit) (state g.memory' g.locals' out.typed out.drawn (out.output ++ closing j TrailLimit)) (steps w1.count (suc k.count + g.count))) last
          (to_match (Stops AtQuit) (state g.memory' g.locals' out.typed out.drawn (out.output ++ closing (c2 28) TrailLimit)) g.count g.runs))
          (omega arith)

  written : m.state.heap + n ≤ 10000 → Written
  written room = writes_terms t plays.has 3500 19000 r.sh r.memory out.typed out.output out.drawn r.cells r.trail m r.holds r.mid routine.body (omega arith) (omega arith) rest1 32 ts (omega arith) (omega arith) (λ q. absurd (omega arith)) e.nodes room

  no_room : 10000 < m.state.heap + n → Closes t out HeapLimit (10 + closing_most) z
  no_room over =
      let k = meets_terms t plays.has 3500 19000 r.sh r.memory out.typed out.output out.drawn r.cells r.trail m r.holds r.mid routine.body (omega arith) (omega arith) rest1 32 ts over in
      let few = k.few in
      closes t plays out e.x m z r routine e.there (omega arith) k.count (10 + closing_most) HeapLimit k.memory' k.locals' k.runs (omega arith)

  reading : ((w1 : Written) → ReadOf w1) → Reading t out a c behind set m z
  reading reads = record {
    fails = λ room is. none_set (written room) (reads (written room)) is;
    unifies = λ v room is few. value_matched (written room) (reads (written room)) v is few;
    meets_heap = λ over. no_room over;
    meets_trail = λ v room is over. trail_full (written room) (reads (written room)) v is over;
  }

-- of each kind that has values
module _ (t : Telling) (plays : Playing t) (world : HasWorld t) (out : Outside) (place : ℕ) (a c : Term) (behind : ℕ) (facts : List Fact) (m : Mid) (z : ZState) (facts_out : FactsIn t.program facts out.words) (e : InFront t out (reading_routine t.program place a c behind) (a ∷ c ∷ []) m z) where
  reads_by : ((cells : ℕ → ℕ) → FactsIn t.program facts cells → TableIn cells (words_at t.program place) (length t.program.objects) facts place) → IsTable t.p (words_at t.program place) (length t.program.objects) → Reading t out a c behind (set_in t.program facts place a m) m z
  reads_by lies table = reading t plays out place a c behind (set_in t.program facts place a m) m z e
      (λ w1. read_works t.p plays.has 3400 15000 (omega arith) (omega arith) w1.memory' out.typed out.output out.drawn w1.sh' w1.cells' m.state.subst (term_value t.program m a) (record { shape = w1.mid.state.shape; holds = w1.holds; stands = w1.mid.state.stands; first = w1.words.0 }) (words_at t.program place) (length t.program.objects) place facts table world.few (lies w1.cells' (facts_same t.program facts out.words w1.cells' (λ k le. w1.mid.rest.outside.areas k le) facts_out)))

  by_kind : (kind : PlaceKind) → slice_get (kinds_of t.program) place ≡ Some kind → HasValues kind → Reading t out a c behind (set_in t.program facts place a m) m z
  by_kind Flag is has = absurd has
  by_kind ObjectFlag is has = absurd has
  by_kind ObjectVar is has = reads_by (λ cells here. here.each place ObjectVar is) (table_of t world place (length t.program.objects) ObjectVar is refl)
  by_kind Parent is has = reads_by (λ cells here. here.each place Parent is) (table_of t world place (length t.program.objects) Parent is refl)
  by_kind Global is has = absurd has

pub read_turns : ReadTurns
read_turns t plays world out kind place a c behind facts m z is has facts_out e = by_kind t plays world out place a c behind facts m z facts_out e kind is has
