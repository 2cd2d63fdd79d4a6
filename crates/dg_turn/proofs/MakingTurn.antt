-- Arithmetic and dice are turns: a number is made of two values and unified with a third.
use Rattle.std.proofs.Common.{◌≡◌, ◌≢◌, ℕ, suc, ◌+◌, ◌*◌, ◌<◌, ◌≤◌, false, List, [], ◌∷◌, ◌++◌, map, Option, Some, None, refl, sym, ap, ◌∙◌, subst, arith}
use Rattle.dg_base.specs.declared.program.ArithOp.{ArithOp}
use Rattle.dg_base.specs.declared.program.ArithOp.TheVariants as arith_op
use Rattle.dg_base.specs.declared.program.Term.{Term}
use Rattle.dg_base.specs.declared.run.Ending.TheVariants.{HeapLimit, TrailLimit}
use Rattle.dg_meaning.specs.Cells.{cells as cells_of}
use Rattle.dg_meaning.specs.Numbers.{calculated, thrown}
use Rattle.dg_meaning.specs.Values.{Num, Value, leaf}
use Rattle.dg_meaning.specs.Unify.{Unified}
use Rattle.dg_mid.specs.State.{Mid}
use Rattle.dg_mid.specs.Step.{bound, trail_more, more}
use Rattle.z_model.specs.declared.end.Halt.TheVariants.{AtQuit}
use Rattle.z_model.specs.Run.{ZState, word_at}
use Rattle.z_lang.specs.declared.act.Act.{Act}
use Rattle.z_lang.specs.declared.act.Act.TheVariants as acts
use Rattle.z_lang.specs.declared.act.Args.TheVariants as args
use Rattle.z_lang.specs.declared.act.Atom.TheVariants as atoms
use Rattle.z_lang.specs.declared.act.Routine.{Routine}
use Rattle.z_lang.specs.State.{Program, State}
use Rattle.z_lang.specs.Runs.{ActsRun, ActsOutcome, Returns, Stops, calls}
use Rattle.dg_rt.specs.declared.numbers.TheConstants.{FAIL, THROW}
use Rattle.dg_rt.specs.declared.arithmetic.TheConstants.{PLUS_ACTS, MINUS_ACTS, TIMES_ACTS, DIVIDE_ACTS, MODULO_ACTS, THROW_ACTS}
use Rattle.dg_rt.specs.inside.Walks.{steps}
use Rattle.dg_rt.specs.Cells.{with_cell, replaced}
use Rattle.dg_rt.specs.Areas.{state}
use Rattle.dg_rt.specs.Shapes.{Shows, number}
use Rattle.dg_rt.specs.RunTime.{routine_of, HasRunTime}
use Rattle.dg_rt.specs.Unifies.{price}
use Rattle.dg_rt.specs.Closings.{closing, closing_most}
use Rattle.dg_rt.specs.Arithmetic.{result_word, clash_of, IsNumber, Makes, arith_acts, arith_number, drawn_behind}
use Rattle.dg_rt.proofs.Calculating.{arith_works, throw_works}
use Rattle.dg_rt.proofs.Cells.{other_cell, same_cell}
use Rattle.dg_rt.proofs.Following.{register, IsPut, puts}
use Rattle.dg_rt.proofs.UnifySteps.{steps_are}
use Rattle.dg_turn.specs.Told.{Telling}
use Rattle.dg_turn.specs.Lies.{MidIn}
use Rattle.dg_turn.specs.Plays.{Playing, Outside, Represented, Comes, Closes}
use Rattle.dg_turn.specs.Terms.{written_in, Wrote}
use Rattle.dg_turn.specs.Turns.{agreed_next, match_acts, last_acts}
use Rattle.dg_turn.specs.Operating.{term_value, term_links, making_routine, made_of, number_equation, number_unified, making_most, giving_most, InFront, Making, ArithTurns, RandomTurns}
use Rattle.dg_turn.proofs.Staying.{mid_same}
use Rattle.dg_turn.proofs.Terms.{writes_terms, meets_terms}
use Rattle.dg_turn.proofs.Matching.{Goes, skips, matches}
use Rattle.dg_turn.proofs.Ends.{next_small, concludes}
use Rattle.dg_turn.proofs.Moving.{moves_to, closes, closes_drawn}

-- ## Where the routines stand

arith_at : (p : Program) → HasRunTime p → (op : ArithOp) → p.routine_at (p.names.routine (arith_number op)) ≡ Some (routine_of 3 (arith_acts op))
arith_at p has arith_op.Plus = has.each 64 (routine_of 3 PLUS_ACTS) refl
arith_at p has arith_op.Minus = has.each 65 (routine_of 3 MINUS_ACTS) refl
arith_at p has arith_op.Times = has.each 66 (routine_of 3 TIMES_ACTS) refl
arith_at p has arith_op.Divide = has.each 67 (routine_of 3 DIVIDE_ACTS) refl
arith_at p has arith_op.Modulo = has.each 68 (routine_of 3 MODULO_ACTS) refl

throw_at : (p : Program) → HasRunTime p → p.routine_at (p.names.routine THROW) ≡ Some (routine_of 3 THROW_ACTS)
throw_at p has = has.each 69 (routine_of 3 THROW_ACTS) refl

result_small : (made : Option ℕ) → IsNumber made → result_word made < 65536
result_small None small = omega arith
result_small (Some n) small = omega arith

-- the same within as many instructions, counted otherwise
few_most : {p : Program} {f w : ℕ} {making : List Act} {memory locals typed output : List ℕ} {drawn drawn' : ℕ} {cells : ℕ → ℕ} {made : Option ℕ} (i j : ℕ) → Makes p f w making memory locals typed output drawn drawn' cells made (5 * i + 5 * j + 32) → Makes p f w making memory locals typed output drawn drawn' cells made (5 * (i + j) + 32)
few_most i j k =
    let few = k.few in
    record { memory' = k.memory'; cells' = k.cells'; holds = k.holds; clash = k.clash; others = k.others; small = k.small; locals' = k.locals'; count = k.count; few = omega arith; runs = k.runs }

-- ## One number

module _ (t : Telling) (plays : Playing t) (out : Outside) (drawn' maker : ℕ) (making : List Act) (a b c : Term) (behind : ℕ) (made : Option ℕ) (m : Mid) (z : ZState) (e : InFront t out (making_routine t.program maker a b c behind) (a ∷ b ∷ c ∷ []) m z) where
  abbrev r : Represented t out e.x m z
  r = e.rep

  abbrev ts : List Term
  ts = a ∷ b ∷ c ∷ []

  abbrev n : ℕ
  n = cells_of t.program ts

  abbrev vc : Value
  vc = term_value t.program m c

  abbrev routine : Routine
  routine = making_routine t.program maker a b c behind

  abbrev matching : List Act
  matching = match_acts 34 52 1 ++ last_acts behind

  abbrev rest1 : List Act
  rest1 = acts.Call (Some 52) (atoms.Routine maker) (args.Two (atoms.Var 32) (atoms.Var 33)) ∷ matching

  abbrev out' : Outside
  out' = record out { drawn = drawn' }

  abbrev now : List ℕ → State
  now memory = state memory [] out.typed out.drawn out.output

  abbrev then : List ℕ → State
  then memory = state memory [] out.typed drawn' out.output

  abbrev links_most : ℕ
  links_most = 5 * (term_links t.program m a + term_links t.program m b) + 32

  abbrev Written : Type 0
  Written = Wrote t out.words 3500 19000 routine.body rest1 routine.body r.sh r.memory out.typed out.output out.drawn r.cells r.trail m n 32 (map (term_value t.program m) ts) (written_in t.program ts + 6)

  abbrev MadeOf : Written → Type 0
  MadeOf w1 = Makes t.p 3400 15000 making w1.memory' (w1.cells' 16 ∷ w1.cells' 17 ∷ 0 ∷ []) out.typed out.output out.drawn drawn' w1.cells' made links_most

  module _ (stands : t.p.routine_at (t.p.names.routine maker) ≡ Some (routine_of 3 making)) (w1 : Written) (k : MadeOf w1) where
    abbrev x : ℕ
    x = result_word made

    abbrev memory2 : List ℕ
    memory2 = with_cell k.memory' 36 x

    abbrev c2 : ℕ → ℕ
    c2 = replaced k.cells' 36 x

    given : IsPut t.p (state k.memory' [] out.typed drawn' out.output) k.cells' 52 x
    given = let high = plays.has.mapped.room in puts t.p (then k.memory') k.cells' 52 x k.holds (omega arith) (omega arith) (omega arith) (result_small made k.small)

    stays : (j : ℕ) → j ≢ 13 → j ≢ 36 → c2 j ≡ w1.cells' j
    stays j n13 n36 = other_cell k.cells' 36 x j n36 ∙ k.others j n13

    mid2 : MidIn t out.words w1.sh' c2 r.trail (more n m)
    mid2 = mid_same t w1.sh' w1.cells' c2 r.trail (more n m) (λ j ne far. stays j (λ (q : j ≡ 13). (let y = far.0 (omega arith) in omega arith)) (λ (q : j ≡ 36). (let y = far.1 (omega arith) in omega arith))) w1.mid

    clash_is : c2 13 ≡ clash_of made
    clash_is = other_cell k.cells' 36 x 13 (λ q. (omega arith)) ∙ k.clash

    -- up to the match
    to_match : (o : ActsOutcome) (s' : State) (j : ℕ) → ActsRun t.p 3500 19000 routine.body matching (then memory2) o s' j → ActsRun t.p 3500 19000 routine.body routine.body (now r.memory) o s' (steps w1.count (suc k.count + j))
    to_match o s' j go =
        let high = plays.has.mapped.room in
        let front = given in
        w1.runs o s' (suc k.count + j)
        (calls {f' = 3400} {w' = 15000} {n = k.count} {n' = j} {xs = (w1.cells' 16, w1.cells' 17, 0)} {s1 = state k.memory' k.locals' out.typed drawn' out.output} {s2 = then memory2} refl
        (rw (register t.p (now w1.memory') w1.cells' 32 w1.holds (omega arith) (omega arith) (omega arith), register t.p (now w1.memory') w1.cells' 33 w1.holds (omega arith) (omega arith) (omega arith)) refl)
        stands (omega arith) (omega arith) k.runs front.put_is go)

    -- where none is made it fails
    none_made : made ≡ None → Comes t out' (t.p.names.routine FAIL) (more n m) (making_most t.program a b c m) z
    none_made is =
        let high = plays.has.mapped.room in
        let one : c2 13 ≡ 1 = clash_is ∙ ap clash_of is in
        let last = concludes t.p plays.has plays.words 3500 19000 (omega arith) (omega arith) routine.body memory2 out.typed out.output drawn' behind c2 given.holds false one in
        let y = t.p.names.routine FAIL in
        let skip = skips t out.words plays.has 3500 19000 (omega arith) (omega arith) w1.sh' out.typed out.output drawn' routine.body (last_acts behind) 1 34 52 memory2 c2 given.holds (omega arith) (omega arith) (omega arith) (omega arith) (λ (q : c2 13 ≡ 0). (omega arith)) (Returns y) (then last.memory') 4 last.runs in
        let few1 = w1.few in
        let few2 = k.few in
        let e1 = steps_are w1.count (suc k.count + steps (3 * 1) 4) in
        let e2 = steps_are (3 * 1) 4 in
        moves_to t plays out e.x m z r routine e.there (omega arith) out' y (steps w1.count (suc k.count + steps (3 * 1) 4)) (making_most t.program a b c m) last.memory' [] last.cells' w1.sh' r.trail (more n m)
        (to_match (Returns y) (then last.memory') (steps (3 * 1) 4) skip)
        last.holds (next_small t.p plays.words behind false) (mid_same t w1.sh' c2 last.cells' r.trail (more n m) (λ j ne far. last.others j (λ (q : j ≡ 36). (let v = far.1 (omega arith) in omega arith))) mid2) (omega arith)

    -- where one is, it is matched
    module _ (i : ℕ) (is : made ≡ Some i) where
      abbrev u : Unified
      u = number_unified t.program c i m

      small : i < 16384
      small = subst IsNumber is k.small

      word_is : c2 36 ≡ i
      word_is = same_cell k.cells' 36 x ∙ ap result_word is

      shows_number : Shows w1.sh' (c2 36) (leaf (Num i))
      shows_number = subst (λ (w : ℕ). Shows w1.sh' w (leaf (Num i))) (sym word_is) (number i small)

      shows_third : Shows w1.sh' (c2 18) vc
      shows_third = subst (λ (w : ℕ). Shows w1.sh' w vc) (sym (stays 18 (λ q. (omega arith)) (λ q. (omega arith)))) w1.words.1.1.0

      matched : Goes t out.words 3500 19000 routine.body (last_acts behind) matching w1.sh' memory2 out.typed out.output drawn' c2 (more n m) u (price m.state.subst (number_equation t.program c i m) + 6 * 1)
      matched = matches t out.words plays.has 3500 19000 (omega arith) (omega arith) w1.sh' out.typed out.output drawn' routine.body (last_acts behind) 1 34 52 memory2 c2 r.trail (more n m) (vc ∷ []) (leaf (Num i) ∷ []) refl refl given.holds mid2 (clash_is ∙ ap clash_of is) (omega arith) (omega arith) (omega arith) (omega arith) (shows_third, tt) (shows_number, tt)

      number_matched : trail_more m.state u ≤ 2000 → Comes t out' (agreed_next t.p behind u.agrees) (bound u (more n m)) (giving_most t.program a b c i m) z
      number_matched few =
          let g = matched.matched few in
          let y = agreed_next t.p behind u.agrees in
          let last = concludes t.p plays.has plays.words 3500 19000 (omega arith) (omega arith) routine.body g.memory' out.typed out.output drawn' behind g.cells' g.holds u.agrees g.clash in
          let few1 = w1.few in
          let few2 = k.few in
          let few3 = g.few in
          let e1 = steps_are w1.count (suc k.count + steps g.count 4) in
          let e2 = steps_are g.count 4 in
          moves_to t plays out e.x m z r routine e.there (omega arith) out' y (steps w1.count (suc k.count + steps g.count 4)) (giving_most t.program a b c i m) last.memory' [] last.cells' w1.sh' g.trail' (bound u (more n m))
          (to_match (Returns y) (then last.memory') (steps g.count 4) (g.runs (Returns y) (then last.memory') 4 last.runs))
          last.holds (next_small t.p plays.words behind u.agrees) (mid_same t w1.sh' g.cells' last.cells' g.trail' (bound u (more n m)) (λ j ne far. last.others j (λ (q : j ≡ 36). (let v = far.1 (omega arith) in omega arith))) g.mid) (omega arith)

      trail_full : 2000 < trail_more m.state u → Closes t out TrailLimit (giving_most t.program a b c i m + closing_most) z
      trail_full over =
          let g = matched.full over in
          let few1 = w1.few in
          let few2 = k.few in
          let few3 = g.few in
          let e1 = steps_are w1.count (suc k.count + g.count) in
          let last : c2 28 ≡ r.cells 28 = stays 28 (λ q. (omega arith)) (λ q. (omega arith)) ∙ w1.others 28 (λ q. (omega arith)) (λ q. (omega arith)) (λ q. (omega arith)) (λ q. (omega arith)) (omega arith) in
          closes_drawn t plays out e.x m z r routine e.there (omega arith) drawn' 3500 19000 (omega arith) (omega arith) (steps w1.count (suc k.count + g.count)) (giving_most t.program a b c i m + closing_most) TrailLimit g.memory' g.locals'
          (subst (λ (j : ℕ). ActsRun t.p 3500 19000 routine.body routine.body (now r.memory) (Stops AtQuit) (state g.memory' g.locals' out.typed drawn' (out.output ++ closing j TrailLimit)) (steps w1.count (suc k.count + g.count))) last
          (to_match (Stops AtQuit) (state g.memory' g.locals' out.typed drawn' (out.output ++ closing (c2 28) TrailLimit)) g.count g.runs))
          (omega arith)

  written : m.state.heap + n ≤ 10000 → Written
  written room = writes_terms t plays.has 3500 19000 r.sh r.memory out.typed out.output out.drawn r.cells r.trail m r.holds r.mid routine.body (omega arith) (omega arith) rest1 32 ts (omega arith) (omega arith) (λ q. absurd (omega arith)) e.nodes room

  no_room : 10000 < m.state.heap + n → Closes t out HeapLimit (10 + closing_most) z
  no_room over =
      let k = meets_terms t plays.has 3500 19000 r.sh r.memory out.typed out.output out.drawn r.cells r.trail m r.holds r.mid routine.body (omega arith) (omega arith) rest1 32 ts over in
      let few = k.few in
      closes t plays out e.x m z r routine e.there (omega arith) k.count (10 + closing_most) HeapLimit k.memory' k.locals' k.runs (omega arith)

  making_turn : t.p.routine_at (t.p.names.routine maker) ≡ Some (routine_of 3 making) → ((w1 : Written) → MadeOf w1) → Making t out out' a b c behind made m z
  making_turn stands makes = record {
    fails = λ room is. none_made stands (written room) (makes (written room)) is;
    unifies = λ i room is few. number_matched stands (written room) (makes (written room)) i is few;
    meets_heap = λ over. no_room over;
    meets_trail = λ i room is over. trail_full stands (written room) (makes (written room)) i is over;
  }

-- ## Arithmetic and dice

pub arith_turns : ArithTurns
arith_turns t plays out op a b c behind m z e =
    let S = m.state.subst in
    making_turn t plays out out.drawn (arith_number op) (arith_acts op) a b c behind (made_of t.program (calculated op) a b m) m z e (arith_at t.p plays.has op)
    (λ w1. few_most (term_links t.program m a) (term_links t.program m b) (arith_works op t.p plays.has 3400 15000 (omega arith) (omega arith) w1.memory' out.typed out.output out.drawn w1.sh' w1.mid.state.shape w1.cells' w1.holds S w1.mid.state.stands (w1.cells' 16) (w1.cells' 17) (term_value t.program m a) (term_value t.program m b) w1.words.0 w1.words.1.0))

pub random_turns : RandomTurns
random_turns t plays out a b c behind m z e =
    let S = m.state.subst in
    let made = made_of t.program (thrown (word_at t.p.world out.drawn)) a b m in
    making_turn t plays out (drawn_behind t.p out.drawn made) THROW THROW_ACTS a b c behind made m z e (throw_at t.p plays.has)
    (λ w1. few_most (term_links t.program m a) (term_links t.program m b) (throw_works t.p plays.has 3400 15000 (omega arith) (omega arith) w1.memory' out.typed out.output out.drawn w1.sh' w1.mid.state.shape w1.cells' w1.holds S w1.mid.state.stands (w1.cells' 16) (w1.cells' 17) (term_value t.program m a) (term_value t.program m b) w1.words.0 w1.words.1.0))
