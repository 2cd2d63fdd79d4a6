-- A query of objects is answered at once, or the first object is tried: one turn of the story.
use Rattle.std.proofs.Common.{◌≡◌, ◌≢◌, ℕ, suc, ◌+◌, ◌-◌, ◌*◌, ◌<◌, ◌≤◌, Bool, true, false, List, [], ◌∷◌, ◌++◌, length, map, Option, Some, None, refl, sym, ap, ◌∙◌, subst, arith}
use Rattle.std.specs.Prelude.{is_some, not, if◌then◌else◌}
use Rattle.std.specs.List.{slice_get}
use Rattle.dg_base.specs.declared.program.PlaceKind.{PlaceKind}
use Rattle.dg_base.specs.declared.program.PlaceKind.TheVariants.{Flag, ObjectFlag, ObjectVar, Parent, Global}
use Rattle.dg_base.specs.declared.program.Term.{Term}
use Rattle.dg_base.specs.declared.run.Ending.TheVariants.{TrailLimit}
use Rattle.dg_meaning.specs.Cells.{cells as cells_of}
use Rattle.dg_meaning.specs.Facts.{Fact, set, is_object, kinds_of}
use Rattle.dg_meaning.specs.Substitutions.{Substitution, walk, links}
use Rattle.dg_meaning.specs.Unify.{Unified}
use Rattle.dg_meaning.specs.Values.{Label, Value, Var, Node, Values}
use Rattle.dg_mid.specs.State.{Mid}
use Rattle.dg_mid.specs.Step.{bound, more, trail_more}
use Rattle.z_model.specs.declared.end.Halt.TheVariants.{AtQuit}
use Rattle.z_model.specs.Run.{ZState}
use Rattle.z_lang.specs.declared.act.Act.{Act}
use Rattle.z_lang.specs.declared.act.Act.TheVariants as acts
use Rattle.z_lang.specs.declared.act.Args.TheVariants as args
use Rattle.z_lang.specs.declared.act.Atom.TheVariants as atoms
use Rattle.z_lang.specs.State.{State}
use Rattle.z_lang.specs.Runs.{ActsRun, ActsOutcome, Returns, Stops, calls, returns}
use Rattle.dg_rt.specs.declared.numbers.TheConstants.{FAIL, IF_RAISED, READ_VALUE, SEEK, SOUGHT, IF_OBJECT}
use Rattle.dg_rt.specs.declared.changes.TheConstants.{IF_RAISED_ACTS}
use Rattle.dg_rt.specs.declared.tries.TheConstants.{SOUGHT_ACTS, IF_OBJECT_ACTS}
use Rattle.dg_rt.specs.inside.Walks.{steps}
use Rattle.dg_rt.specs.Areas.{state}
use Rattle.dg_rt.specs.Cells.{at_cell, with_cell, replaced, Holds, bit}
use Rattle.dg_rt.specs.Changes.{SetIn, TableIn, ReadsValue, Argued, set_of}
use Rattle.dg_rt.specs.Closings.{closing, closing_most}
use Rattle.dg_rt.specs.Conditions.{next_if}
use Rattle.dg_rt.specs.RunTime.{routine_of}
use Rattle.dg_rt.specs.Shapes.{Shows}
use Rattle.dg_rt.specs.Tables.{IsTable}
use Rattle.dg_rt.specs.Unifies.{price}
use Rattle.dg_rt.proofs.Cells.{other_cell, same_cell}
use Rattle.dg_rt.proofs.Following.{word as word_is, register, IsPut, puts}
use Rattle.dg_rt.proofs.Reading.{raised_works, read_works}
use Rattle.dg_rt.proofs.Seeking.{seek_works, sought_works, object_works}
use Rattle.dg_rt.proofs.UnifySteps.{steps_are}
use Rattle.dg_turn.specs.Told.{Telling}
use Rattle.dg_turn.specs.Layout.{words_at, bytes_at}
use Rattle.dg_turn.specs.Tries.{Sought, AnyObject, Flagged, Valued, sought_terms}
use Rattle.dg_turn.specs.Lies.{MidIn}
use Rattle.dg_turn.specs.Plays.{Playing, Outside, Comes, Closes}
use Rattle.dg_turn.specs.Terms.{terms_acts}
use Rattle.dg_turn.specs.Turns.{agreed_next, match_acts}
use Rattle.dg_turn.specs.Operating.{term_value, term_links, InFront, Deciding}
use Rattle.dg_turn.specs.World.{FactsIn, HasWorld, HasValues, value_equation, value_unified}
use Rattle.dg_turn.specs.Seeking.{find_acts, find_routine, IsValued, HasSought, sought_of, first_walked, find_most, ComesSeeking, SeekingAll, FindingValue, SeekTurns}
use Rattle.dg_turn.proofs.DecidingTurn.{next_is, Called}
use Rattle.dg_turn.proofs.Ends.{next_small}
use Rattle.dg_turn.proofs.Matching.{Goes, skips, matches}
use Rattle.dg_turn.proofs.Moving.{moved, moves, closes_within}
use Rattle.dg_turn.proofs.Places.{table_of, bytes_of, facts_same}
use Rattle.dg_turn.proofs.ReadingTurn.{word_small, if_raised_at, read_value_at}
use Rattle.dg_turn.proofs.Deciders.{seek_stands, sought_stands, if_object_stands, Written, written, no_room, argued, args_there, decides, seeks}
use Rattle.dg_turn.proofs.Staying.{mid_same}

-- ## A value

module _ (t : Telling) (plays : Playing t) (out : Outside) (place : ℕ) (a c : Term) (behind tries : ℕ) (m : Mid) (z : ZState) (e : InFront t out (find_routine t.program (Valued place) (a ∷ c ∷ []) behind tries) (a ∷ c ∷ []) m z) where
  abbrev w : ℕ
  w = words_at t.program place

  abbrev objects : ℕ
  objects = length t.program.objects

  abbrev rest4 : List Act
  rest4 = acts.Call (Some 52) (atoms.Routine SOUGHT) (args.Two (atoms.Routine behind) (atoms.Var 24)) ∷ acts.Return (atoms.Var 52) ∷ []

  abbrev rest3 : List Act
  rest3 = match_acts 33 52 1 ++ rest4

  abbrev rest2 : List Act
  rest2 = acts.Call (Some 52) (atoms.Routine READ_VALUE) (args.Two (atoms.Num (at_cell w)) (atoms.Num objects)) ∷ rest3

  abbrev rest1 : List Act
  rest1 = acts.Call (Some 24) (atoms.Routine SEEK) (args.Two (atoms.Routine FAIL) (atoms.Routine tries)) ∷ rest2

  abbrev W : Type 0
  W = Written t plays out a (c ∷ []) (omega arith) rest1 m z e

  abbrev S : Substitution
  S = m.state.subst

  abbrev v0 : Value
  v0 = term_value t.program m a

  abbrev vc : Value
  vc = term_value t.program m c

  abbrev n : ℕ
  n = cells_of t.program (a ∷ c ∷ [])

  abbrev body : List Act
  body = terms_acts t.program 32 (a ∷ c ∷ []) ++ rest1

  abbrev here : List ℕ → State
  here memory = state memory [] out.typed out.drawn out.output

  abbrev Run : List Act → List ℕ → ActsOutcome → State → ℕ → Type 0
  Run acts' memory o s' j = ActsRun t.p 3500 19000 body acts' (here memory) o s' j

  high : 64 + 2 * 15945 ≤ t.p.world.layout.base
  high = plays.has.mapped.room

  -- behind the routine that seeks
  record Sought1 (w1 : W) (y : ℕ) : Type 0 where
    memory' : List ℕ
    cells' : ℕ → ℕ
    holds : Holds t.p.world.layout memory' cells'
    back : cells' 8 ≡ y
    others : (j : ℕ) → j ≢ 8 → j ≢ 11 → cells' j ≡ w1.cells' j
    count : ℕ
    few : count ≤ 5 * links S v0 + 9
    runs : (o : ActsOutcome) (s' : State) (j : ℕ) → Run rest2 memory' o s' j → Run body e.rep.memory o s' (steps w1.count (count + j))

  abbrev fail : ℕ
  fail = t.p.names.routine FAIL

  abbrev all : ℕ
  all = t.p.names.routine tries

  arg1 : (w1 : W) → Argued t.p w1.memory' w1.sh' w1.cells' S v0
  arg1 w1 = argued t plays out a (c ∷ []) (omega arith) rest1 m z e w1 w1.memory' w1.cells' w1.holds w1.mid refl

  one_sought : (w1 : W) (l : Label) (ls : Values) → walk S v0 ≡ Node l ls → Sought1 w1 fail
  one_sought w1 l ls is =
      let room = high in
      let k = seek_works.one t.p plays.has 3400 15000 (omega arith) (omega arith) w1.memory' out.typed out.output out.drawn w1.sh' w1.cells' S v0 (arg1 w1) fail all l ls is in
      let put = puts t.p (here w1.memory') w1.cells' 24 fail w1.holds (omega arith) (omega arith) (omega arith) (plays.words FAIL) in
      let few = k.few in
      record {
        memory' = with_cell w1.memory' 8 fail;
        cells' = replaced w1.cells' 8 fail;
        holds = put.holds;
        back = same_cell w1.cells' 8 fail;
        others = λ j n8 n11. other_cell w1.cells' 8 fail j n8;
        count = suc k.count;
        few = omega arith;
        runs = λ o s' j go. w1.runs o s' (suc k.count + j) (calls {f' = 3400} {w' = 15000} {n = k.count} {n' = j} {xs = (fail, all, 0)} {s1 = state w1.memory' k.locals' out.typed out.drawn out.output} {s2 = here (with_cell w1.memory' 8 fail)} refl refl (seek_stands t.p plays.has) (omega arith) (omega arith) k.runs put.put_is go);
      }

  record SoughtAll (w1 : W) : Type 0 where
    sought : Sought1 w1 all
    key : sought.cells' 11 ≡ 0

  all_sought : (w1 : W) (x : ℕ) → walk S v0 ≡ Var x → SoughtAll w1
  all_sought w1 x is =
      let room = high in
      let k = seek_works.all t.p plays.has 3400 15000 (omega arith) (omega arith) w1.memory' out.typed out.output out.drawn w1.sh' w1.cells' S v0 (arg1 w1) fail all x is in
      let put = puts t.p (here k.memory') k.cells' 24 all k.holds (omega arith) (omega arith) (omega arith) (plays.words tries) in
      let few = k.few in
      record {
        sought = record {
          memory' = with_cell k.memory' 8 all;
          cells' = replaced k.cells' 8 all;
          holds = put.holds;
          back = same_cell k.cells' 8 all;
          others = λ j n8 n11. other_cell k.cells' 8 all j n8 ∙ k.others j n11;
          count = suc k.count;
          few = omega arith;
          runs = λ o s' j go. w1.runs o s' (suc k.count + j) (calls {f' = 3400} {w' = 15000} {n = k.count} {n' = j} {xs = (fail, all, 0)} {s1 = state k.memory' k.locals' out.typed out.drawn out.output} {s2 = here (with_cell k.memory' 8 all)} refl refl (seek_stands t.p plays.has) (omega arith) (omega arith) k.runs put.put_is go);
        };
        key = other_cell k.cells' 8 all 11 (λ q. (omega arith)) ∙ k.key;
      }

  -- it is read
  module _ (w1 : W) (y : ℕ) (y_small : y < 65536) (k1 : Sought1 w1 y) (set' : Option Value) (reads : (memory : List ℕ) (cells : ℕ → ℕ) → Holds t.p.world.layout memory cells → Argued t.p memory w1.sh' cells S v0 → MidIn t out.words w1.sh' cells e.rep.trail (more n m) → ReadsValue t.p 3400 15000 memory out.typed out.output out.drawn w objects cells set' (5 * links S v0 + 40)) where
    mid1 : MidIn t out.words w1.sh' k1.cells' e.rep.trail (more n m)
    mid1 = mid_same t w1.sh' w1.cells' k1.cells' e.rep.trail (more n m) (λ j ne far. k1.others j (λ (q : j ≡ 8). (let i = far.0 (omega arith) in omega arith)) (λ (q : j ≡ 11). (let i = far.0 (omega arith) in omega arith))) w1.mid

    k : ReadsValue t.p 3400 15000 k1.memory' out.typed out.output out.drawn w objects k1.cells' set' (5 * links S v0 + 40)
    k = reads k1.memory' k1.cells' k1.holds (argued t plays out a (c ∷ []) (omega arith) rest1 m z e w1 k1.memory' k1.cells' k1.holds mid1 (k1.others 16 (λ q. (omega arith)) (λ q. (omega arith)))) mid1

    abbrev m2 : List ℕ
    m2 = with_cell k.memory' 36 k.word

    abbrev c2 : ℕ → ℕ
    c2 = replaced k.cells' 36 k.word

    put2 : IsPut t.p (here k.memory') k.cells' 52 k.word
    put2 = let room = high in puts t.p (here k.memory') k.cells' 52 k.word k.holds (omega arith) (omega arith) (omega arith) (word_small k.word set' k.is)

    stays : (j : ℕ) → j ≢ 8 → j ≢ 11 → j ≢ 13 → j ≢ 36 → c2 j ≡ w1.cells' j
    stays j n8 n11 n13 n36 = other_cell k.cells' 36 k.word j n36 ∙ k.others j n13 ∙ k1.others j n8 n11

    mid2 : MidIn t out.words w1.sh' c2 e.rep.trail (more n m)
    mid2 = mid_same t w1.sh' w1.cells' c2 e.rep.trail (more n m) (λ j ne far. stays j (λ (q : j ≡ 8). (let i = far.0 (omega arith) in omega arith)) (λ (q : j ≡ 11). (let i = far.0 (omega arith) in omega arith)) (λ (q : j ≡ 13). (let i = far.0 (omega arith) in omega arith)) (λ (q : j ≡ 36). (let i = far.1 (omega arith) in omega arith))) w1.mid

    back2 : c2 8 ≡ y
    back2 = other_cell k.cells' 36 k.word 8 (λ q. (omega arith)) ∙ k.others 8 (λ q. (omega arith)) ∙ k1.back

    clash_is : c2 13 ≡ bit (not (is_some set'))
    clash_is = other_cell k.cells' 36 k.word 13 (λ q. (omega arith)) ∙ k.clash

    to_match : (o : ActsOutcome) (s' : State) (j : ℕ) → Run rest3 m2 o s' j → Run body e.rep.memory o s' (steps w1.count (k1.count + (suc k.count + j)))
    to_match o s' j go = k1.runs o s' (suc k.count + j) (calls {f' = 3400} {w' = 15000} {n = k.count} {n' = j} {xs = (at_cell w, objects, 0)} {s1 = state k.memory' k.locals' out.typed out.drawn out.output} {s2 = here m2} refl refl (read_value_at t.p plays.has) (omega arith) (omega arith) k.runs put2.put_is go)

    -- what comes behind is answered
    record Answered (memory : List ℕ) (cells : ℕ → ℕ) (x : ℕ) : Type 0 where
      memory' : List ℕ
      cells' : ℕ → ℕ
      holds : Holds t.p.world.layout memory' cells'
      others : (j : ℕ) → j ≢ 36 → cells' j ≡ cells j
      runs : Run rest4 memory (Returns x) (here memory') 4

    abbrev next : ℕ
    next = t.p.names.routine behind

    answered_by : (memory : List ℕ) (cells : ℕ → ℕ) (x : ℕ) → Holds t.p.world.layout memory cells → cells 8 ≡ y → x < 65536 → ActsRun t.p 3400 15000 SOUGHT_ACTS SOUGHT_ACTS (state memory (next ∷ y ∷ []) out.typed out.drawn out.output) (Returns x) (state memory (next ∷ y ∷ []) out.typed out.drawn out.output) 2 → Answered memory cells x
    answered_by memory cells x h back small run =
        let room = high in
        let put = puts t.p (here memory) cells 52 x h (omega arith) (omega arith) (omega arith) small in
        let m3 = with_cell memory 36 x in
        record {
          memory' = m3;
          cells' = replaced cells 36 x;
          holds = put.holds;
          others = λ j ne. other_cell cells 36 x j ne;
          runs = calls {f' = 3400} {w' = 15000} {n = 2} {n' = 1} {xs = (next, y, 0)} {s1 = state memory (next ∷ y ∷ []) out.typed out.drawn out.output} {s2 = here m3} refl (rw (register t.p (here memory) cells 24 h (omega arith) (omega arith) (omega arith) ∙ ap word_is back) refl) (sought_stands t.p plays.has) (omega arith) (omega arith) run put.put_is
              (returns (register t.p (here m3) (replaced cells 36 x) 52 put.holds (omega arith) (omega arith) (omega arith) ∙ ap word_is (same_cell cells 36 x)));
        }

    answers : (memory : List ℕ) (cells : ℕ → ℕ) → Holds t.p.world.layout memory cells → cells 8 ≡ y → cells 13 ≡ 0 → Answered memory cells next
    answers memory cells h back none = answered_by memory cells next h back (plays.words behind) (sought_works.goes t.p plays.has 3400 15000 memory out.typed out.output out.drawn next y cells h none)

    fails : (memory : List ℕ) (cells : ℕ → ℕ) → Holds t.p.world.layout memory cells → cells 8 ≡ y → cells 13 ≡ 1 → Answered memory cells y
    fails memory cells h back one = answered_by memory cells y h back y_small (sought_works.fails t.p plays.has 3400 15000 memory out.typed out.output out.drawn next y cells h (λ (q : cells 13 ≡ 0). (omega arith)))

    -- where nothing is set the other routine comes next
    record Nothing : Type 0 where
      memory' : List ℕ
      cells' : ℕ → ℕ
      holds : Holds t.p.world.layout memory' cells'
      others : (j : ℕ) → j ≢ 36 → cells' j ≡ c2 j
      count : ℕ
      few : count + 2 ≤ find_most t.program a (c ∷ []) m
      runs : Run body e.rep.memory (Returns y) (here memory') count

    nothing : set' ≡ None → Nothing
    nothing is =
        let one : c2 13 ≡ 1 = clash_is ∙ ap (λ (x : Option Value). bit (not (is_some x))) is in
        let last = fails m2 c2 put2.holds back2 one in
        let skip = skips t out.words plays.has 3500 19000 (omega arith) (omega arith) w1.sh' out.typed out.output out.drawn body rest4 1 33 52 m2 c2 put2.holds (omega arith) (omega arith) (omega arith) (omega arith) (λ (q : c2 13 ≡ 0). (omega arith)) (Returns y) (here last.memory') 4 last.runs in
        let few1 = w1.few in
        let few2 = k1.few in
        let few3 = k.few in
        let e1 = steps_are w1.count (k1.count + (suc k.count + steps (3 * 1) 4)) in
        let e2 = steps_are (3 * 1) 4 in
        record {
          memory' = last.memory';
          cells' = last.cells';
          holds = last.holds;
          others = last.others;
          count = steps w1.count (k1.count + (suc k.count + steps (3 * 1) 4));
          few = omega arith;
          runs = to_match (Returns y) (here last.memory') (steps (3 * 1) 4) skip;
        }

    -- where something is, it is matched
    module _ (v : Value) (is : set' ≡ Some v) where
      abbrev u : Unified
      u = value_unified t.program c v m

      abbrev cost : ℕ
      cost = price m.state.subst (value_equation t.program c v m)

      shows_set : Shows w1.sh' (c2 36) v
      shows_set = subst (λ (i : ℕ). Shows w1.sh' i v) (sym (same_cell k.cells' 36 k.word)) (subst (SetIn k.word) is k.is w1.sh')

      shows_second : Shows w1.sh' (c2 17) vc
      shows_second = subst (λ (i : ℕ). Shows w1.sh' i vc) (sym (stays 17 (λ q. (omega arith)) (λ q. (omega arith)) (λ q. (omega arith)) (λ q. (omega arith)))) w1.words.1.0

      matched : Goes t out.words 3500 19000 body rest4 rest3 w1.sh' m2 out.typed out.output out.drawn c2 (more n m) u (cost + 6 * 1)
      matched = matches t out.words plays.has 3500 19000 (omega arith) (omega arith) w1.sh' out.typed out.output out.drawn body rest4 1 33 52 m2 c2 e.rep.trail (more n m) (vc ∷ []) (v ∷ []) refl refl put2.holds mid2 (clash_is ∙ ap (λ (x : Option Value). bit (not (is_some x))) is) (omega arith) (omega arith) (omega arith) (omega arith) (shows_second, tt) (shows_set, tt)

      value_matched : y ≡ fail → trail_more m.state u ≤ 2000 → Comes t out (agreed_next t.p behind u.agrees) (bound u (more n m)) (find_most t.program a (c ∷ []) m + cost) z
      value_matched y_is fit = by_answer u.agrees refl
        where
          by_answer : (b : Bool) → u.agrees ≡ b → Comes t out (agreed_next t.p behind b) (bound u (more n m)) (find_most t.program a (c ∷ []) m + cost) z
          by_answer b agree_is =
              let g = matched.matched fit in
              let x = agreed_next t.p behind b in
              let back : g.cells' 8 ≡ y = g.others 8 (λ q. (omega arith)) (λ q. (omega arith)) (omega arith) ∙ back2 in
              let last = last_by b g.memory' g.cells' g.holds back (g.clash ∙ ap (λ (i : Bool). 1 - bit i) agree_is) in
              let few1 = w1.few in
              let few2 = k1.few in
              let few3 = k.few in
              let few4 = g.few in
              let e1 = steps_are w1.count (k1.count + (suc k.count + steps g.count 4)) in
              let e2 = steps_are g.count 4 in
              moves t plays out e.x m z e.rep (routine_of 0 body) e.there (omega arith) x (steps w1.count (k1.count + (suc k.count + steps g.count 4))) (find_most t.program a (c ∷ []) m + cost) last.memory' [] last.cells' w1.sh' g.trail' (bound u (more n m))
              (to_match (Returns x) (here last.memory') (steps g.count 4) (g.runs (Returns x) (here last.memory') 4 last.runs))
              last.holds (next_small t.p plays.words behind b) (mid_same t w1.sh' g.cells' last.cells' g.trail' (bound u (more n m)) (λ j ne far. last.others j (λ (q : j ≡ 36). (let i = far.1 (omega arith) in omega arith))) g.mid) (omega arith)
            where
              last_by : (b' : Bool) (memory : List ℕ) (cells : ℕ → ℕ) → Holds t.p.world.layout memory cells → cells 8 ≡ y → cells 13 ≡ 1 - bit b' → Answered memory cells (agreed_next t.p behind b')
              last_by true memory cells h back none = answers memory cells h back none
              last_by false memory cells h back one = subst (Answered memory cells) y_is (fails memory cells h back one)

      trail_full : 2000 < trail_more m.state u → Closes t out TrailLimit (find_most t.program a (c ∷ []) m + cost + closing_most) z
      trail_full over =
          let g = matched.full over in
          let few1 = w1.few in
          let few2 = k1.few in
          let few3 = k.few in
          let few4 = g.few in
          let e1 = steps_are w1.count (k1.count + (suc k.count + g.count)) in
          let last : c2 28 ≡ e.rep.cells 28 = stays 28 (λ q. (omega arith)) (λ q. (omega arith)) (λ q. (omega arith)) (λ q. (omega arith)) ∙ w1.others 28 (λ q. (omega arith)) (λ q. (omega arith)) (λ q. (omega arith)) (λ q. (omega arith)) (omega arith) in
          closes_within t plays out e.x m z e.rep (routine_of 0 body) e.there (omega arith) 3500 19000 (omega arith) (omega arith) (steps w1.count (k1.count + (suc k.count + g.count))) (find_most t.program a (c ∷ []) m + cost + closing_most) TrailLimit g.memory' g.locals'
          (subst (λ (j : ℕ). Run body e.rep.memory (Stops AtQuit) (state g.memory' g.locals' out.typed out.drawn (out.output ++ closing j TrailLimit)) (steps w1.count (k1.count + (suc k.count + g.count)))) last
          (to_match (Stops AtQuit) (state g.memory' g.locals' out.typed out.drawn (out.output ++ closing (c2 28) TrailLimit)) g.count g.runs))
          (omega arith)

  -- what is read of each kind that has values
  abbrev Reads : (w1 : W) → Option Value → Type 0
  Reads w1 set' = (memory : List ℕ) (cells : ℕ → ℕ) → Holds t.p.world.layout memory cells → Argued t.p memory w1.sh' cells S v0 → MidIn t out.words w1.sh' cells e.rep.trail (more n m) → ReadsValue t.p 3400 15000 memory out.typed out.output out.drawn w objects cells set' (5 * links S v0 + 40)

  module _ (set' : Option Value) (reads : (w1 : W) → Reads w1 set') where
    finding : (l : Label) (ls : Values) → walk S v0 ≡ Node l ls → FindingValue t out a c behind set' m z
    finding l ls is = record {
      fails = λ room none. (let w1 = written t plays out a (c ∷ []) (omega arith) rest1 m z e room in not_found w1 none);
      unifies = λ v room some fit. (let w1 = written t plays out a (c ∷ []) (omega arith) rest1 m z e room in value_matched w1 fail (plays.words FAIL) (one_sought w1 l ls is) set' (reads w1) v some refl fit);
      meets_heap = λ over. no_room t plays out a (c ∷ []) (omega arith) rest1 m z e over;
      meets_trail = λ v room some over. (let w1 = written t plays out a (c ∷ []) (omega arith) rest1 m z e room in trail_full w1 fail (plays.words FAIL) (one_sought w1 l ls is) set' (reads w1) v some over);
    }
      where
        not_found : (w1 : W) → set' ≡ None → Comes t out fail (more n m) (find_most t.program a (c ∷ []) m) z
        not_found w1 none =
            let k1 = one_sought w1 l ls is in
            let q = nothing w1 fail (plays.words FAIL) k1 set' (reads w1) none in
            let mid = mid2 w1 fail (plays.words FAIL) k1 set' (reads w1) in
            moves t plays out e.x m z e.rep (routine_of 0 body) e.there (omega arith) fail q.count (find_most t.program a (c ∷ []) m) q.memory' [] q.cells' w1.sh' e.rep.trail (more n m) q.runs q.holds (plays.words FAIL)
            (mid_same t w1.sh' (c2 w1 fail (plays.words FAIL) k1 set' (reads w1)) q.cells' e.rep.trail (more n m) (λ j ne far. q.others j (λ (i : j ≡ 36). (let b = far.1 (omega arith) in omega arith))) mid) q.few

    seeking : set' ≡ None → (x : ℕ) → walk S v0 ≡ Var x → SeekingAll t out (a ∷ c ∷ []) tries (find_most t.program a (c ∷ []) m) m z
    seeking none x is = record {
      seeks = λ room. sought (written t plays out a (c ∷ []) (omega arith) rest1 m z e room);
      meets = λ over. no_room t plays out a (c ∷ []) (omega arith) rest1 m z e over;
    }
      where
        sought : (w1 : W) → ComesSeeking t out tries (map (term_value t.program m) (a ∷ c ∷ [])) (more n m) (find_most t.program a (c ∷ []) m) z
        sought w1 =
            let both = all_sought w1 x is in
            let k1 = both.sought in
            let q = nothing w1 all (plays.words tries) k1 set' (reads w1) none in
            let mid = mid2 w1 all (plays.words tries) k1 set' (reads w1) in
            let k2 = k w1 all (plays.words tries) k1 set' (reads w1) in
            let go = moved t plays out e.x m z e.rep (routine_of 0 body) e.there (omega arith) all q.count q.memory' [] q.cells' w1.sh' e.rep.trail (more n m) q.runs q.holds (plays.words tries)
            (mid_same t w1.sh' (c2 w1 all (plays.words tries) k1 set' (reads w1)) q.cells' e.rep.trail (more n m) (λ j ne far. q.others j (λ (i : j ≡ 36). (let b = far.1 (omega arith) in omega arith))) mid) in
            let few = q.few in
            record {
              there = go.there;
              count = q.count + 2;
              some = omega arith;
              few = few;
              leads = go.leads;
              rep = go.rep;
              args_are = args_there t plays out a (c ∷ []) (omega arith) rest1 m z e w1 go.rep.sh go.rep.cells go.shape_is (λ j low lt. go.cells_are j (λ i. (omega arith)) ∙ q.others j (λ i. (omega arith)) ∙ stays w1 all (plays.words tries) k1 set' (reads w1) j (λ i. (omega arith)) (λ i. (omega arith)) (λ i. (omega arith)) (λ i. (omega arith)));
              key_is = go.cells_are 11 (λ i. (omega arith)) ∙ q.others 11 (λ i. (omega arith)) ∙ other_cell k2.cells' 36 k2.word 11 (λ i. (omega arith)) ∙ k2.others 11 (λ i. (omega arith)) ∙ both.key;
            }

  reads_by : HasWorld t → (facts : List Fact) → FactsIn t.program facts out.words → IsValued t.program place → (w1 : W) → Reads w1 (set_of facts place (walk S v0))
  reads_by world facts facts_out valued w1 memory cells h arg mid = by_kind valued.kind valued.is valued.has
    where
      read_by : TableIn cells w objects facts place → IsTable t.p w objects → ReadsValue t.p 3400 15000 memory out.typed out.output out.drawn w objects cells (set_of facts place (walk S v0)) (5 * links S v0 + 40)
      read_by lies table = read_works t.p plays.has 3400 15000 (omega arith) (omega arith) memory out.typed out.output out.drawn w1.sh' cells S v0 arg w objects place facts table world.few lies

      facts_here : FactsIn t.program facts cells
      facts_here = facts_same t.program facts out.words cells (λ j le. mid.rest.outside.areas j le) facts_out

      by_kind : (kind : PlaceKind) → slice_get (kinds_of t.program) place ≡ Some kind → HasValues kind → ReadsValue t.p 3400 15000 memory out.typed out.output out.drawn w objects cells (set_of facts place (walk S v0)) (5 * links S v0 + 40)
      by_kind Flag is has = absurd has
      by_kind ObjectFlag is has = absurd has
      by_kind ObjectVar is has = read_by (facts_here.each place ObjectVar is) (table_of t world place objects ObjectVar is refl)
      by_kind Parent is has = read_by (facts_here.each place Parent is) (table_of t world place objects Parent is refl)
      by_kind Global is has = absurd has

-- ## All

module _ (t : Telling) (plays : Playing t) (out : Outside) (a : Term) (behind tries : ℕ) (m : Mid) (z : ZState) where
  abbrev decider_most : ℕ
  decider_most = 5 * term_links t.program m a + 40

  -- any object
  module _ (e : InFront t out (find_routine t.program AnyObject (a ∷ []) behind tries) (a ∷ []) m z) where
    abbrev WObject : Type 0
    WObject = Written t plays out a [] (omega arith) (find_acts t.program AnyObject behind tries) m z e

    object_called : (w1 : WObject) (b : Bool) → is_object (first_walked t.program a m) ≡ b → Called t out IF_OBJECT (args.Two (atoms.Var 32) (atoms.Routine behind)) w1.memory' (agreed_next t.p behind b) decider_most
    object_called w1 b is =
        let room = plays.has.mapped.room in
        let next = t.p.names.routine behind in
        let v = term_value t.program m a in
        let k = object_works t.p plays.has 3400 15000 (omega arith) (omega arith) w1.memory' out.typed out.output out.drawn w1.sh' w1.mid.state.shape w1.cells' w1.holds m.state.subst w1.mid.state.stands (w1.cells' 16) next v w1.words.0 in
        let few = k.few in
        record {
          xs = (w1.cells' 16, next, 0);
          given_is = rw (register t.p (state w1.memory' [] out.typed out.drawn out.output) w1.cells' 32 w1.holds (omega arith) (omega arith) (omega arith)) refl;
          called = routine_of 2 IF_OBJECT_ACTS;
          stands = if_object_stands t.p plays.has;
          few_locals = omega arith;
          locals' = k.locals';
          count = k.count;
          few = omega arith;
          runs = subst (λ (i : ℕ). ActsRun t.p 3400 15000 IF_OBJECT_ACTS IF_OBJECT_ACTS (state w1.memory' (w1.cells' 16 ∷ next ∷ []) out.typed out.drawn out.output) (Returns i) (state w1.memory' k.locals' out.typed out.drawn out.output) k.count) (ap (λ (q : Bool). next_if t.p q next) is ∙ next_is t.p behind b) k.runs;
        }

  -- a flag
  module _ (world : HasWorld t) (place : ℕ) (has : slice_get (kinds_of t.program) place ≡ Some ObjectFlag) (facts : List Fact) (facts_out : FactsIn t.program facts out.words) (e : InFront t out (find_routine t.program (Flagged place) (a ∷ []) behind tries) (a ∷ []) m z) where
    abbrev WFlag : Type 0
    WFlag = Written t plays out a [] (omega arith) (find_acts t.program (Flagged place) behind tries) m z e

    flag_called : (w1 : WFlag) → Called t out IF_RAISED (args.Three (atoms.Num (64 + bytes_at t.program place)) (atoms.Num (length t.program.objects)) (atoms.Routine behind)) w1.memory' (agreed_next t.p behind (is_some (set_of facts place (first_walked t.program a m)))) decider_most
    flag_called w1 =
        let n = length t.program.objects in
        let c = bytes_at t.program place in
        let next = t.p.names.routine behind in
        let b = is_some (set_of facts place (first_walked t.program a m)) in
        let here = facts_same t.program facts out.words w1.cells' (λ j le. w1.mid.rest.outside.areas j le) facts_out in
        let k = raised_works t.p plays.has 3400 15000 (omega arith) (omega arith) w1.memory' out.typed out.output out.drawn w1.sh' w1.cells' m.state.subst (term_value t.program m a) (record { shape = w1.mid.state.shape; holds = w1.holds; stands = w1.mid.state.stands; first = w1.words.0 }) c n place next facts (bytes_of t world place has) world.few (here.each place ObjectFlag has) in
        record {
          xs = (64 + c, n, next);
          given_is = refl;
          called = routine_of 3 IF_RAISED_ACTS;
          stands = if_raised_at t.p plays.has;
          few_locals = omega arith;
          locals' = k.locals';
          count = k.count;
          few = k.few;
          runs = subst (λ (i : ℕ). ActsRun t.p 3400 15000 IF_RAISED_ACTS IF_RAISED_ACTS (state w1.memory' ((64 + c) ∷ n ∷ next ∷ []) out.typed out.drawn out.output) (Returns i) (state w1.memory' k.locals' out.typed out.drawn out.output) k.count) (next_is t.p behind b) k.runs;
        }

-- that a value is an object is that something is set of it
some_object : (v : Value) → is_object v ≡ is_some (if is_object v then Some set else None)
some_object v = by (is_object v)
  where
    by : (b : Bool) → b ≡ is_some (if b then Some set else None)
    by true = refl
    by false = refl

pub seek_turns : SeekTurns
seek_turns = record {
  all = λ t plays world out s a others behind tries x facts m z has count facts_out is e. all_by t plays world out s a others behind tries x facts m z has count facts_out is e;
  one = λ t plays world out s a behind tries l ls facts m z has count facts_out is e. one_by t plays world out s a behind tries l ls facts m z has count facts_out is e;
  value = λ t plays world out place a c behind tries l ls facts m z valued facts_out is e. finding t plays out place a c behind tries m z e (set_of facts place (first_walked t.program a m)) (reads_by t plays out place a c behind tries m z e world facts facts_out valued) l ls is;
}
  where
    all_by : (t : Telling) (plays : Playing t) (world : HasWorld t) (out : Outside) (s : Sought) (a : Term) (others : List Term) (behind tries x : ℕ) (facts : List Fact) (m : Mid) (z : ZState) → HasSought t.program s → length (a ∷ others) ≡ sought_terms s → FactsIn t.program facts out.words → first_walked t.program a m ≡ Var x → InFront t out (find_routine t.program s (a ∷ others) behind tries) (a ∷ others) m z → SeekingAll t out (a ∷ others) tries (find_most t.program a others m) m z
    all_by t plays world out AnyObject a [] behind tries x facts m z has count facts_out is e = seeks t plays out a IF_OBJECT (args.Two (atoms.Var 32) (atoms.Routine behind)) tries m z e x is (decider_most t plays out a behind tries m z) (find_most t.program a [] m) (omega arith) (t.p.names.routine FAIL) (plays.words FAIL) (λ w1. object_called t plays out a behind tries m z e w1 false (ap is_object is))
    all_by t plays world out AnyObject a (c ∷ others) behind tries x facts m z has count facts_out is e = absurd (omega arith)
    all_by t plays world out (Flagged place) a [] behind tries x facts m z has count facts_out is e =
        let b = is_some (set_of facts place (first_walked t.program a m)) in
        seeks t plays out a IF_RAISED (args.Three (atoms.Num (64 + bytes_at t.program place)) (atoms.Num (length t.program.objects)) (atoms.Routine behind)) tries m z e x is (decider_most t plays out a behind tries m z) (find_most t.program a [] m) (omega arith) (agreed_next t.p behind b) (next_small t.p plays.words behind b) (λ w1. flag_called t plays out a behind tries m z world place has facts facts_out e w1)
    all_by t plays world out (Flagged place) a (c ∷ others) behind tries x facts m z has count facts_out is e = absurd (omega arith)
    all_by t plays world out (Valued place) a [] behind tries x facts m z has count facts_out is e = absurd (omega arith)
    all_by t plays world out (Valued place) a (c ∷ []) behind tries x facts m z has count facts_out is e = seeking t plays out place a c behind tries m z e (set_of facts place (first_walked t.program a m)) (reads_by t plays out place a c behind tries m z e world facts facts_out has) (ap (set_of facts place) is) x is
    all_by t plays world out (Valued place) a (c ∷ b ∷ others) behind tries x facts m z has count facts_out is e = absurd (omega arith)

    one_by : (t : Telling) (plays : Playing t) (world : HasWorld t) (out : Outside) (s : Sought) (a : Term) (behind tries : ℕ) (l : Label) (ls : Values) (facts : List Fact) (m : Mid) (z : ZState) → HasSought t.program s → sought_terms s ≡ 1 → FactsIn t.program facts out.words → first_walked t.program a m ≡ Node l ls → InFront t out (find_routine t.program s (a ∷ []) behind tries) (a ∷ []) m z → Deciding t out (a ∷ []) behind (is_some (sought_of facts s (first_walked t.program a m))) (find_most t.program a [] m) m z
    one_by t plays world out AnyObject a behind tries l ls facts m z has count facts_out is e =
        let b = is_some (sought_of facts AnyObject (first_walked t.program a m)) in
        decides t plays out a IF_OBJECT (args.Two (atoms.Var 32) (atoms.Routine behind)) tries m z e l ls is behind b (decider_most t plays out a behind tries m z) (find_most t.program a [] m) (omega arith) (λ w1. object_called t plays out a behind tries m z e w1 b (some_object (first_walked t.program a m)))
    one_by t plays world out (Flagged place) a behind tries l ls facts m z has count facts_out is e =
        let b = is_some (set_of facts place (first_walked t.program a m)) in
        decides t plays out a IF_RAISED (args.Three (atoms.Num (64 + bytes_at t.program place)) (atoms.Num (length t.program.objects)) (atoms.Routine behind)) tries m z e l ls is behind b (decider_most t plays out a behind tries m z) (find_most t.program a [] m) (omega arith) (λ w1. flag_called t plays out a behind tries m z world place has facts facts_out e w1)
    one_by t plays world out (Valued place) a behind tries l ls facts m z has count facts_out is e = absurd (omega arith)
