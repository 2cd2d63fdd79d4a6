-- An object is tried: one turn of the story.
use Rattle.std.proofs.Common.{◌≡◌, ◌≢◌, ℕ, zero, suc, ◌+◌, ◌-◌, ◌*◌, ◌<◌, ◌≤◌, inl, inr, Bool, true, false, List, [], ◌∷◌, ◌++◌, length, Option, Some, None, refl, sym, ap, ◌∙◌, subst, arith}
use Rattle.std.specs.Prelude.{is_some, not}
use Rattle.std.specs.List.{slice_get, zip}
use Rattle.std.proofs.lemmas.Bool.{cases_eq}
use Rattle.dg_base.specs.declared.program.CoreProgram.{CoreProgram}
use Rattle.dg_base.specs.declared.program.PlaceKind.{PlaceKind}
use Rattle.dg_base.specs.declared.program.PlaceKind.TheVariants.{Flag, ObjectFlag, ObjectVar, Parent, Global}
use Rattle.dg_base.specs.declared.run.Ending.TheVariants.{HeapLimit, TrailLimit}
use Rattle.dg_meaning.specs.Changes.{found}
use Rattle.dg_meaning.specs.Facts.{Fact, set, value_at, kinds_of}
use Rattle.dg_meaning.specs.Unify.{Unified, Equations, solve}
use Rattle.dg_meaning.specs.Values.{Object, Value, leaf}
use Rattle.dg_mid.specs.State.{Find, Tries, Mid, place_of}
use Rattle.dg_mid.specs.Step.{bound, inside, within, trail_more, trying_cells}
use Rattle.z_model.specs.declared.end.Halt.TheVariants.{AtQuit}
use Rattle.z_model.specs.Run.{ZState}
use Rattle.z_lang.specs.declared.act.Act.{Act}
use Rattle.z_lang.specs.declared.act.Act.TheVariants as acts
use Rattle.z_lang.specs.declared.act.Args.TheVariants as args
use Rattle.z_lang.specs.declared.act.Atom.TheVariants as atoms
use Rattle.z_lang.specs.State.{Program, State}
use Rattle.z_lang.specs.Runs.{ActsRun, ActsOutcome, Returns, Stops, calls, calls_last, returns}
use Rattle.dg_rt.specs.declared.numbers.TheConstants.{FAIL, TRY, LOOK_VALUE, LOOK_FLAG, LAND}
use Rattle.dg_rt.specs.declared.tries.TheConstants.{TRY_ACTS, LOOK_VALUE_ACTS, LOOK_FLAG_ACTS, LAND_ACTS}
use Rattle.dg_rt.specs.inside.Walks.{steps}
use Rattle.dg_rt.specs.Areas.{heap_at, trail_at, state}
use Rattle.dg_rt.specs.Back.{at_place, Grown}
use Rattle.dg_rt.specs.Cells.{at_cell, with_cell, replaced, Holds, bit}
use Rattle.dg_rt.specs.Changes.{SetIn}
use Rattle.dg_rt.specs.Closings.{closing, closing_most}
use Rattle.dg_rt.specs.Frames.{RowIs}
use Rattle.dg_rt.specs.RunTime.{routine_of, HasRunTime}
use Rattle.dg_rt.specs.Shapes.{Shape, IsFixed, Cell, Shows, object}
use Rattle.dg_rt.specs.Tries.{LooksUp, AnyWord}
use Rattle.dg_rt.specs.Unifies.{price}
use Rattle.dg_rt.proofs.Backs.{grown_none}
use Rattle.dg_rt.proofs.Cells.{other_cell, same_cell}
use Rattle.dg_rt.proofs.Following.{word as word_is, register, puts}
use Rattle.dg_rt.proofs.Rows.{row_same}
use Rattle.dg_rt.proofs.Landing.{look_value_works, look_flag_works, land_works}
use Rattle.dg_rt.proofs.Trying.{try_works}
use Rattle.dg_rt.proofs.UnifySteps.{steps_are}
use Rattle.dg_turn.specs.Told.{Telling}
use Rattle.dg_turn.specs.Tries.{Sought, AnyObject, Flagged, Valued, sought_by, sought_at, sought_terms, look_acts, tried_acts, landing_acts, try_acts, tries_by, tries_routine, ObjectsFrom}
use Rattle.dg_turn.specs.Lies.{TriesIn, WayIn, FramesIn, InnersIn, MidIn}
use Rattle.dg_turn.specs.Layout.{words_at, bytes_at}
use Rattle.dg_turn.specs.Plays.{Playing, Outside, Represented, registers, Comes, Closes}
use Rattle.dg_turn.specs.Seeking.{HasSought, TriesAt, tried_in, try_equations, try_unified, try_most, ComesLanded, GoesOnTried, Trying, TryTurns, NoneTriedTurns}
use Rattle.dg_turn.specs.Turns.{match_acts}
use Rattle.dg_turn.specs.World.{FactsIn, HasWorld, HasValues}
use Rattle.dg_turn.proofs.Beyond.{mid_beyond}
use Rattle.dg_turn.proofs.Ends.{concludes}
use Rattle.dg_turn.proofs.Finding.{row_front}
use Rattle.dg_turn.proofs.Growing.{grown_inner}
use Rattle.dg_turn.proofs.LandedTurn.{facing, bounced}
use Rattle.dg_turn.proofs.Matching.{Goes, Matched, skips, matches}
use Rattle.dg_turn.proofs.Moving.{moves, closes, closes_within}
use Rattle.dg_turn.proofs.Opening.{opened_in}
use Rattle.dg_turn.proofs.Places.{table_of, bytes_of, facts_same}
use Rattle.dg_turn.proofs.Rows.{InRegisters, regs_of, regs_stay, length_registers}
use Rattle.dg_turn.proofs.Staying.{IsKept, mid_with, mid_same}

-- ## Where the routines stand

module _ (p : Program) (has : HasRunTime p) where
  try_stands : p.routine_at (p.names.routine TRY) ≡ Some (routine_of 2 TRY_ACTS)
  try_stands = has.each (TRY - 1) (routine_of 2 TRY_ACTS) refl

  look_value_stands : p.routine_at (p.names.routine LOOK_VALUE) ≡ Some (routine_of 1 LOOK_VALUE_ACTS)
  look_value_stands = has.each (LOOK_VALUE - 1) (routine_of 1 LOOK_VALUE_ACTS) refl

  look_flag_stands : p.routine_at (p.names.routine LOOK_FLAG) ≡ Some (routine_of 1 LOOK_FLAG_ACTS)
  look_flag_stands = has.each (LOOK_FLAG - 1) (routine_of 1 LOOK_FLAG_ACTS) refl

  land_stands : p.routine_at (p.names.routine LAND) ≡ Some (routine_of 1 LAND_ACTS)
  land_stands = has.each (LAND - 1) (routine_of 1 LAND_ACTS) refl

-- ## What is sought

-- so many are left
from_low : (n at : ℕ) (os : List ℕ) → ObjectsFrom n at os → at ≤ n
from_low n at [] e = omega arith
from_low n at (o ∷ os) e = let r = from_low n (suc at) os e.1 in omega arith

-- with objects one is tried
tries_some : (program : CoreProgram) (n : ℕ) (s : Sought) (many : Bool) (next : ℕ) → 1 ≤ n → tries_by program n s many next ≡ try_acts program n s many next
tries_some program zero s many next le = absurd (omega arith)
tries_some program (suc n) s many next le = refl

pub tried_is : (v x n : ℕ) → tried_acts v x n ≡ match_acts v x n
tried_is v x zero = refl
tried_is v x (suc n) = ap (λ (l : List Act). acts.Call None (atoms.Routine 27) (args.Two (atoms.Var v) (atoms.Var x)) ∷ l) (tried_is (suc v) (suc x) n)

-- what is found of an object
pub found_by : List Fact → Sought → ℕ → Option Value
found_by facts AnyObject o = Some set
found_by facts (Flagged q) o = value_at facts q o
found_by facts (Valued q) o = value_at facts q o

-- What is sought at a place of the program.
pub record SoughtAt (program : CoreProgram) (place : Option ℕ) (s : Sought) : Type 0 where
  pub has : HasSought program s
  pub found_is : (facts : List Fact) (o : ℕ) → found facts place o ≡ found_by facts s o

module _ (program : CoreProgram) (s : Sought) where
  by_kind : (q : ℕ) (k : Option PlaceKind) → slice_get (kinds_of program) q ≡ k → sought_by q k ≡ Some s → SoughtAt program (Some q) s
  unfolding found_by
  by_kind q None is e = absurd (cc)
  by_kind q (Some Flag) is e = absurd (cc)
  by_kind q (Some ObjectFlag) is e = let same : Flagged q ≡ s = cc in subst (SoughtAt program (Some q)) same (record { has = is; found_is = λ facts o. refl })
  by_kind q (Some ObjectVar) is e = let same : Valued q ≡ s = cc in subst (SoughtAt program (Some q)) same (record { has = record { kind = ObjectVar; is = is; has = tt }; found_is = λ facts o. refl })
  by_kind q (Some Parent) is e = let same : Valued q ≡ s = cc in subst (SoughtAt program (Some q)) same (record { has = record { kind = Parent; is = is; has = tt }; found_is = λ facts o. refl })
  by_kind q (Some Global) is e = absurd (cc)

  pub sought_here : (place : Option ℕ) → sought_at program place ≡ Some s → SoughtAt program place s
  unfolding found_by
  sought_here None e = let same : AnyObject ≡ s = cc in subst (SoughtAt program None) same (record { has = tt; found_is = λ facts o. refl })
  sought_here (Some q) e = by_kind q (slice_get (kinds_of program) q) refl e

pub few_terms : (s : Sought) → sought_terms s ≤ 2
few_terms AnyObject = omega arith
few_terms (Flagged q) = omega arith
few_terms (Valued q) = omega arith

-- the values with which arguments are matched
made_of : Sought → ℕ → Value → List Value
made_of AnyObject o v = leaf (Object o) ∷ []
made_of (Flagged q) o v = leaf (Object o) ∷ []
made_of (Valued q) o v = leaf (Object o) ∷ v ∷ []

made_length : (s : Sought) (o : ℕ) (v : Value) → length (made_of s o v) ≡ sought_terms s
unfolding made_of
made_length AnyObject o v = refl
made_length (Flagged q) o v = refl
made_length (Valued q) o v = refl

made_equations : (s : Sought) (xs : List Value) (o : ℕ) (v : Value) → length xs ≡ sought_terms s → zip xs (made_of s o v) ≡ try_equations xs o v
unfolding made_of
made_equations AnyObject [] o v e = absurd (omega arith)
made_equations AnyObject (a ∷ []) o v e = refl
made_equations AnyObject (a ∷ b ∷ xs) o v e = absurd (omega arith)
made_equations (Flagged q) [] o v e = absurd (omega arith)
made_equations (Flagged q) (a ∷ []) o v e = refl
made_equations (Flagged q) (a ∷ b ∷ xs) o v e = absurd (omega arith)
made_equations (Valued q) [] o v e = absurd (omega arith)
made_equations (Valued q) (a ∷ []) o v e = absurd (omega arith)
made_equations (Valued q) (a ∷ b ∷ []) o v e = refl
made_equations (Valued q) (a ∷ b ∷ c ∷ xs) o v e = absurd (omega arith)

-- ## The turn

module _ (t : Telling) (plays : Playing t) (world : HasWorld t) (out : Outside) (f : Find) (o : ℕ) (os : List ℕ) (facts : List Fact) (m : Mid) (z : ZState) (facts_out : FactsIn t.program facts out.words) (at : TriesAt t out f (o ∷ os) m z) where
  abbrev r : Represented t out at.x m z
  r = at.rep

  abbrev d : TriesIn t r.sh at.x (registers r.cells 16 (length f.args)) (r.cells 11) f (o ∷ os)
  d = at.tries

  abbrev s : Sought
  s = d.sought

  abbrev n : ℕ
  n = length t.program.objects

  abbrev k : ℕ
  k = sought_terms s

  abbrev rest3 : List Act
  rest3 = landing_acts f.many d.next

  abbrev rest2 : List Act
  rest2 = tried_acts 32 64 k ++ rest3

  abbrev rest1 : List Act
  rest1 = look_acts t.program s ++ rest2

  abbrev body : List Act
  body = try_acts t.program n s f.many d.next

  abbrev now : List ℕ → State
  now memory = state memory [] out.typed out.drawn out.output

  abbrev Run : List Act → List ℕ → ActsOutcome → State → ℕ → Type 0
  Run acts' memory e s' j = ActsRun t.p 3500 19000 body acts' (now memory) e s' j

  here : SoughtAt t.program f.place s
  here = sought_here t.program s f.place d.sought_is

  key : o ≡ r.cells 11
  key = d.objects_are.0

  below : suc (r.cells 11) ≤ n
  below = from_low n (suc (r.cells 11)) os d.objects_are.1

  small : n ≤ 4096
  small = world.few

  there : t.p.routine_at at.x ≡ Some (routine_of 0 body)
  there = let lt = below in d.is ∙ ap (λ (b : List Act). Some (routine_of 0 b)) (tries_some t.program n s f.many d.next (omega arith))

  heap_is : r.cells 3 ≡ r.sh.top
  heap_is = r.mid.heap ∙ sym r.mid.state.heap

  high : 64 + 2 * 15945 ≤ t.p.world.layout.base
  high = plays.has.mapped.room

  -- ## The object

  abbrev Others : Shape → (ℕ → ℕ) → List ℕ → Type 0
  Others sh' cells' [] = sh' ≡ r.sh
  Others sh' cells' (q ∷ qs) = InnersIn sh' m.stops (at_place m.state.heap) (place_of m ∷ m.inner) × IsFixed sh' (r.sh.top + 3) × (cells' (heap_at + (r.sh.top + 3)) ≡ r.cells 6)

  record Tried (l : List ℕ) : Type 0 where
    memory' : List ℕ
    cells' : ℕ → ℕ
    holds : Holds t.p.world.layout memory' cells'
    sh' : Shape
    grown : Grown r.sh sh'
    mid : MidIn t out.words sh' cells' r.trail (tried_in f l m)
    object_is : cells' 48 ≡ 24576 + r.cells 11
    key_is : cells' 11 ≡ r.cells 11
    clash : cells' 13 ≡ 0
    cut : cells' 9 ≡ at_place r.sh.top
    args_are : (j : ℕ) → 16 ≤ j → j < 29 → cells' j ≡ r.cells j
    inner_same : cells' 6 ≡ r.cells 6
    block : Others sh' cells' l
    count : ℕ
    few : count ≤ 46
    runs : (e : ActsOutcome) (s' : State) (j : ℕ) → Run rest1 memory' e s' j → Run body r.memory e s' (count + j)

  abbrev word : ℕ
  word = 24576 + r.cells 11

  tried_last : ObjectsFrom n (suc (r.cells 11)) [] → Tried []
  tried_last is =
      let le = small in
      let room = high in
      let fits = r.mid.state.few in
      let top = r.mid.state.heap in
      let few2 = few_terms s in
      let q = try_works.last t.p plays.has 3400 15000 r.memory out.typed out.output out.drawn n k r.cells r.sh.top r.holds heap_is (omega arith) le (omega arith) is in
      let put = puts t.p (now q.memory') q.cells' 64 word q.holds (omega arith) (omega arith) (omega arith) (omega arith) in
      let c1 = replaced q.cells' 48 word in
      let same : (j : ℕ) → j ≢ 9 → j ≢ 11 → j ≢ 13 → j ≢ 37 → j ≢ 48 → c1 j ≡ r.cells j = λ j n9 n11 n13 n37 n48. other_cell q.cells' 48 word j n48 ∙ q.others j n9 n11 n13 n37 in
      record {
        memory' = with_cell q.memory' 48 word;
        cells' = c1;
        holds = put.holds;
        sh' = r.sh;
        grown = grown_none r.sh;
        mid = mid_same t r.sh r.cells c1 r.trail m (λ j ne far. same j (λ (e : j ≡ 9). (let y = far.0 (omega arith) in omega arith)) (λ (e : j ≡ 11). (let y = far.0 (omega arith) in omega arith)) (λ (e : j ≡ 13). (let y = far.0 (omega arith) in omega arith)) (λ (e : j ≡ 37). (let y = far.1 (omega arith) in omega arith)) (λ (e : j ≡ 48). (let y = far.1 (omega arith) in omega arith))) r.mid;
        object_is = same_cell q.cells' 48 word;
        key_is = other_cell q.cells' 48 word 11 (λ e. (omega arith)) ∙ q.key;
        clash = other_cell q.cells' 48 word 13 (λ e. (omega arith)) ∙ q.clash;
        cut = other_cell q.cells' 48 word 9 (λ e. (omega arith)) ∙ q.cut;
        args_are = λ j low lt. same j (λ e. (omega arith)) (λ e. (omega arith)) (λ e. (omega arith)) (λ e. (omega arith)) (λ e. (omega arith));
        inner_same = same 6 (λ e. (omega arith)) (λ e. (omega arith)) (λ e. (omega arith)) (λ e. (omega arith)) (λ e. (omega arith));
        block = refl;
        count = suc 9;
        few = omega arith;
        runs = λ e s' j go. calls {f' = 3400} {w' = 15000} {n = 9} {n' = j} {xs = (n, k, 0)} {s1 = state q.memory' q.locals' out.typed out.drawn out.output} {s2 = now (with_cell q.memory' 48 word)} refl refl (try_stands t.p plays.has) (omega arith) (omega arith) q.runs put.put_is go;
      }

  tried_more : (q0 : ℕ) (qs : List ℕ) → ObjectsFrom n (suc (r.cells 11)) (q0 ∷ qs) → m.state.heap + (10 + length f.args) ≤ 10000 → Tried (q0 ∷ qs)
  tried_more q0 qs is fits =
      let le = small in
      let room = high in
      let top = r.mid.state.heap in
      let few2 = few_terms s in
      let count = d.count in
      let more = from_low n (suc (suc (r.cells 11))) qs is.1 in
      let args = registers r.cells 16 (length f.args) in
      let q = try_works.further t.p plays.has 3400 15000 (omega arith) (omega arith) r.memory out.typed out.output out.drawn n k r.cells r.sh.top r.holds heap_is le (omega arith) (omega arith) (omega arith) in
      let put = puts t.p (now q.memory') q.cells' 64 word q.holds (omega arith) (omega arith) (omega arith) (omega arith) in
      let c1 = replaced q.cells' 48 word in
      let apart : (j : ℕ) → j ≢ 48 → c1 j ≡ q.cells' j = λ j n48. other_cell q.cells' 48 word j n48 in
      let row = row_same q.cells' c1 (r.sh.top + 0) (r.cells 5 ∷ r.cells 0 ∷ r.cells 4 ∷ r.cells 6 ∷ r.cells 7 ∷ r.cells 1 ∷ r.cells 29 ∷ r.cells 8 ∷ 65535 ∷ suc (r.cells 11) ∷ r.cells 16 ∷ r.cells 17 ∷ r.cells 18 ∷ r.cells 19 ∷ r.cells 20 ∷ r.cells 21 ∷ r.cells 22 ∷ r.cells 23 ∷ r.cells 24 ∷ r.cells 25 ∷ r.cells 26 ∷ r.cells 27 ∷ []) (λ j low. apart (heap_at + j) (λ e. (omega arith))) q.row in
      let words : RowIs c1 (r.sh.top + 0) (r.cells 5 ∷ r.cells 0 ∷ r.cells 4 ∷ r.cells 6 ∷ r.cells 7 ∷ r.cells 1 ∷ r.cells 29 ∷ r.cells 8 ∷ 65535 ∷ suc (r.cells 11) ∷ args) =
      (row.0, (row.1.0, (row.1.1.0, (row.1.1.1.0, (row.1.1.1.1.0, (row.1.1.1.1.1.0, (row.1.1.1.1.1.1.0, (row.1.1.1.1.1.1.1.0, (row.1.1.1.1.1.1.1.1.0, (row.1.1.1.1.1.1.1.1.1.0, row_front r.cells c1 (suc (suc (suc (suc (suc (suc (suc (suc (suc (suc (r.sh.top + 0))))))))))) 16 (length f.args) 12 (omega arith) row.1.1.1.1.1.1.1.1.1.1)))))))))) in
      let way : WayIn t r.sh (r.cells 0) args (r.cells 8) (at_place m.state.heap) 65535 (suc (r.cells 11)) m.state.subst (Tries f (q0 ∷ qs)) = record {
        sought = s;
        sought_is = d.sought_is;
        count = d.count;
        next = d.next;
        next_is = d.next_is;
        is = subst (λ (y : ℕ). t.p.routine_at y ≡ Some (tries_routine t.program s f.many d.next)) (sym r.next_is) d.is;
        args_are = d.args_are;
        objects_are = is;
      } in
      let same : (j : ℕ) → j ≢ 2 → j ≢ 3 → j ≢ 5 → j ≢ 9 → j ≢ 10 → j ≢ 11 → j ≢ 12 → j ≢ 13 → j ≢ 37 → j ≢ 48 → (heap_at + r.sh.top ≤ j → heap_at + (r.sh.top + 22) ≤ j) → c1 j ≡ r.cells j =
      λ j n2 n3 n5 n9 n10 n11 n12 n13 n37 n48 far. apart j n48 ∙ q.others j n3 n5 n2 n9 n10 n11 n12 n13 n37 far in
      let w = opened_in t r.sh r.cells c1 r.trail m (Tries f (q0 ∷ qs)) (length f.args) (r.cells 0) (r.cells 8) 65535 (suc (r.cells 11)) args r.mid fits (length_registers r.cells 16 (length f.args)) refl way
      tt (apart 3 (λ e. (omega arith)) ∙ q.heap ∙ omega arith) (apart 5 (λ e. (omega arith)) ∙ q.choice) (apart 2 (λ e. (omega arith)) ∙ q.mark) words
      (λ j n0 n2 n3 n5 kept far. same j n2 n3 n5 (λ (e : j ≡ 9). (let y = kept.0 (omega arith) in omega arith)) (λ (e : j ≡ 10). (let y = kept.0 (omega arith) in omega arith)) (λ (e : j ≡ 11). (let y = kept.0 (omega arith) in omega arith)) (λ (e : j ≡ 12). (let y = kept.0 (omega arith) in omega arith)) (λ (e : j ≡ 13). (let y = kept.0 (omega arith) in omega arith)) (λ (e : j ≡ 37). (let y = kept.1 (omega arith) in omega arith)) (λ (e : j ≡ 48). (let y = kept.1 (omega arith) in omega arith)) (λ low. (let y : trail_at ≤ j = far low in omega arith))) in
      let first = w.mid.choices in
      let top' = w.mid.state.heap in
      let three : suc (suc (suc m.state.heap)) ≡ m.state.heap + 3 = omega arith in
      let four : suc (suc (suc (suc m.state.heap))) ≡ m.state.heap + 4 = omega arith in
      let eight : suc (suc (suc (suc (suc (suc (suc (suc m.state.heap))))))) ≡ m.state.heap + 8 = omega arith in
      let l_is : Cell w.sh' (m.state.heap + 3) first.l = subst (λ (i : ℕ). Cell w.sh' i first.l) three first.cells_are.1.1.1.0 in
      let inner : InnersIn w.sh' m.stops (at_place m.state.heap) (place_of m ∷ m.inner) = record {
        word_is = refl;
        below = omega arith;
        l = first.l;
        l_is = l_is;
        stop = first.stop;
        stop_is = subst (λ (i : ℕ). Cell w.sh' i first.stop) four first.cells_are.1.1.1.1.0;
        outer_is = first.stop_is;
        value = first.many;
        value_is = subst (λ (i : ℕ). Cell w.sh' i first.many) eight first.cells_are.1.1.1.1.1.1.1.1.0;
        gathers_is = w.many_is;
        around_is = grown_inner first.back.grown m.stops first.l m.inner first.inner;
      } in
      let same_top : m.state.heap + 3 ≡ r.sh.top + 3 = omega arith in
      let third : suc (suc (suc (r.sh.top + 0))) ≡ r.sh.top + 3 = omega arith in
      record {
        memory' = with_cell q.memory' 48 word;
        cells' = c1;
        holds = put.holds;
        sh' = w.sh';
        grown = w.grown;
        mid = w.mid;
        object_is = same_cell q.cells' 48 word;
        key_is = apart 11 (λ e. (omega arith)) ∙ q.key;
        clash = apart 13 (λ e. (omega arith)) ∙ q.clash;
        cut = apart 9 (λ e. (omega arith)) ∙ q.cut;
        args_are = λ j low lt. same j (λ e. (omega arith)) (λ e. (omega arith)) (λ e. (omega arith)) (λ e. (omega arith)) (λ e. (omega arith)) (λ e. (omega arith)) (λ e. (omega arith)) (λ e. (omega arith)) (λ e. (omega arith)) (λ e. (omega arith)) (λ e. (omega arith));
        inner_same = same 6 (λ e. (omega arith)) (λ e. (omega arith)) (λ e. (omega arith)) (λ e. (omega arith)) (λ e. (omega arith)) (λ e. (omega arith)) (λ e. (omega arith)) (λ e. (omega arith)) (λ e. (omega arith)) (λ e. (omega arith)) (λ e. (omega arith));
        block = (inner, subst (IsFixed w.sh') same_top l_is.fixed, subst (λ (i : ℕ). c1 (heap_at + i) ≡ r.cells 6) third words.1.1.1.0);
        count = suc 44;
        few = omega arith;
        runs = λ e s' j go. calls {f' = 3400} {w' = 15000} {n = 44} {n' = j} {xs = (n, k, 0)} {s1 = state q.memory' q.locals' out.typed out.drawn out.output} {s2 = now (with_cell q.memory' 48 word)} refl refl (try_stands t.p plays.has) (omega arith) (omega arith) q.runs put.put_is go;
      }

  tried : (l : List ℕ) → ObjectsFrom n (suc (r.cells 11)) l → m.state.heap + trying_cells f l ≤ 10000 → Tried l
  tried [] is room = tried_last is
  tried (q ∷ qs) is room = tried_more q qs is room

  -- the heap's limit is met
  no_room : (l : List ℕ) → ObjectsFrom n (suc (r.cells 11)) l → 10000 < m.state.heap + trying_cells f l → Closes t out HeapLimit (20 + closing_most) z
  no_room [] is over = absurd (let fits = r.mid.state.few in omega arith)
  no_room (q0 ∷ qs) is over =
      let le = small in
      let top = r.mid.state.heap in
      let fits = r.mid.state.few in
      let few2 = few_terms s in
      let count = d.count in
      let more = from_low n (suc (suc (r.cells 11))) qs is.1 in
      let q = try_works.meets t.p plays.has 3400 15000 (omega arith) (omega arith) r.memory out.typed out.output out.drawn n k r.cells r.sh.top r.holds heap_is (omega arith) le (omega arith) (omega arith) (omega arith) in
      let few = q.few in
      closes t plays out at.x m z r (routine_of 0 body) there (omega arith) (suc q.count) (20 + closing_most) HeapLimit q.memory' []
      (calls_last {f' = 3400} {w' = 15000} {n = q.count} {xs = (n, k, 0)} refl refl (try_stands t.p plays.has) (omega arith) (omega arith) q.runs)
      (omega arith)

  -- ## What is set of it

  record Looked (l : List ℕ) (w1 : Tried l) (s0 : Sought) (there_is : Option Value) : Type 0 where
    memory' : List ℕ
    cells' : ℕ → ℕ
    holds : Holds t.p.world.layout memory' cells'
    clash : cells' 13 ≡ bit (not (is_some there_is))
    others : (j : ℕ) → j ≢ 13 → j ≢ 49 → cells' j ≡ w1.cells' j
    shows : (v : Value) → there_is ≡ Some v → InRegisters w1.sh' cells' 48 (made_of s0 o v)
    count : ℕ
    few : count ≤ 16
    runs : (e : ActsOutcome) (s' : State) (j : ℕ) → Run (tried_acts 32 64 (sought_terms s0) ++ rest3) memory' e s' j → Run (look_acts t.program s0 ++ (tried_acts 32 64 (sought_terms s0) ++ rest3)) w1.memory' e s' (count + j)

  module _ (l : List ℕ) (w1 : Tried l) where
    object_shows : (c : ℕ → ℕ) → c 48 ≡ w1.cells' 48 → Shows w1.sh' (c 48) (leaf (Object o))
    object_shows c e =
        let le = small in
        let lt = below in
        let k' = key in
        let is : 24576 + o ≡ c 48 = sym (e ∙ w1.object_is ∙ ap (λ (i : ℕ). 24576 + i) (sym key)) in
        subst (λ (y : ℕ). Shows w1.sh' y (leaf (Object o))) is (object o (omega arith))

    facts_here : FactsIn t.program facts w1.cells'
    facts_here = facts_same t.program facts out.words w1.cells' (λ j le. w1.mid.rest.outside.areas j le) facts_out

    -- a word is answered
    looked_by : (number : ℕ) (acts' : List Act) (local : ℕ) (s0 : Sought) (is : ℕ → Option Value → Type 0) (there_is : Option Value) → t.p.routine_at (t.p.names.routine number) ≡ Some (routine_of 1 acts') →
        look_acts t.program s0 ≡ acts.Call (Some 65) (atoms.Routine number) (args.One (atoms.Num local)) ∷ [] → (q : LooksUp t.p 3400 15000 acts' w1.memory' out.typed out.output out.drawn local w1.cells' is there_is) →
        ((c : ℕ → ℕ) → c 48 ≡ w1.cells' 48 → c 49 ≡ q.word → (v : Value) → there_is ≡ Some v → InRegisters w1.sh' c 48 (made_of s0 o v)) → Looked l w1 s0 there_is
    looked_by number acts' local s0 is there_is stands acts_are q shown =
        let room = high in
        let put = puts t.p (now q.memory') q.cells' 65 q.word q.holds (omega arith) (omega arith) (omega arith) q.small in
        let c2 = replaced q.cells' 49 q.word in
        let few = q.few in
        record {
          memory' = with_cell q.memory' 49 q.word;
          cells' = c2;
          holds = put.holds;
          clash = other_cell q.cells' 49 q.word 13 (λ e. (omega arith)) ∙ q.clash;
          others = λ j n13 n49. other_cell q.cells' 49 q.word j n49 ∙ q.others j n13;
          shows = λ v e. shown c2 (other_cell q.cells' 49 q.word 48 (λ i. (omega arith)) ∙ q.others 48 (λ i. (omega arith))) (same_cell q.cells' 49 q.word) v e;
          count = suc q.count;
          few = omega arith;
          runs = λ e s' j go. subst (λ (front : List Act). Run (front ++ (tried_acts 32 64 (sought_terms s0) ++ rest3)) w1.memory' e s' (suc q.count + j)) (sym acts_are)
              (calls {f' = 3400} {w' = 15000} {n = q.count} {n' = j} {xs = (local, 0, 0)} {s1 = state q.memory' q.locals' out.typed out.drawn out.output} {s2 = now (with_cell q.memory' 49 q.word)} refl refl stands (omega arith) (omega arith) q.runs put.put_is go);
        }

    at_key : (place : ℕ) → value_at facts place (w1.cells' 11) ≡ value_at facts place o
    at_key place = ap (value_at facts place) (w1.key_is ∙ sym key)

    key_low : w1.cells' 11 < n
    key_low = let lt = below in let e = w1.key_is in omega arith

    -- of a kind that has values
    value_by : (place : ℕ) → LooksUp t.p 3400 15000 LOOK_VALUE_ACTS w1.memory' out.typed out.output out.drawn (at_cell (words_at t.program place)) w1.cells' SetIn (value_at facts place (w1.cells' 11)) → Looked l w1 (Valued place) (value_at facts place (w1.cells' 11))
    unfolding made_of
    value_by place q = looked_by LOOK_VALUE LOOK_VALUE_ACTS (at_cell (words_at t.program place)) (Valued place) SetIn (value_at facts place (w1.cells' 11)) (look_value_stands t.p plays.has) refl q
        (λ c e48 e49 v e. (object_shows c e48, (subst (λ (y : ℕ). Shows w1.sh' y v) (sym e49) (subst (SetIn q.word) e q.word_is w1.sh'), tt)))

    value_looked : (place : ℕ) (kind : PlaceKind) → slice_get (kinds_of t.program) place ≡ Some kind → HasValues kind → Looked l w1 (Valued place) (value_at facts place o)
    value_looked place Flag is has = absurd has
    value_looked place ObjectFlag is has = absurd has
    value_looked place ObjectVar is has = subst (Looked l w1 (Valued place)) (at_key place) (value_by place (look_value_works t.p plays.has 3400 15000 (omega arith) (omega arith) w1.memory' out.typed out.output out.drawn (words_at t.program place) n place w1.cells' facts w1.holds (table_of t world place n ObjectVar is refl) (facts_here.each place ObjectVar is) w1.clash key_low))
    value_looked place Parent is has = subst (Looked l w1 (Valued place)) (at_key place) (value_by place (look_value_works t.p plays.has 3400 15000 (omega arith) (omega arith) w1.memory' out.typed out.output out.drawn (words_at t.program place) n place w1.cells' facts w1.holds (table_of t world place n Parent is refl) (facts_here.each place Parent is) w1.clash key_low))
    value_looked place Global is has = absurd has

    looked : (s0 : Sought) → HasSought t.program s0 → Looked l w1 s0 (found_by facts s0 o)
    unfolding found_by made_of
    looked AnyObject has = record {
      memory' = w1.memory';
      cells' = w1.cells';
      holds = w1.holds;
      clash = w1.clash;
      others = λ j n13 n49. refl;
      shows = λ v e. (object_shows w1.cells' refl, tt);
      count = 0;
      few = omega arith;
      runs = λ e s' j go. (let none : 0 + j ≡ j = omega arith in subst (λ (i : ℕ). Run (tried_acts 32 64 1 ++ rest3) w1.memory' e s' i) (sym none) go);
    }
    looked (Flagged place) has = subst (Looked l w1 (Flagged place)) (at_key place)
        (let q = look_flag_works t.p plays.has 3400 15000 (omega arith) (omega arith) w1.memory' out.typed out.output out.drawn (bytes_at t.program place) n place w1.cells' facts w1.holds (bytes_of t world place has) (facts_here.each place ObjectFlag has) w1.clash key_low in
        looked_by LOOK_FLAG LOOK_FLAG_ACTS (64 + bytes_at t.program place) (Flagged place) AnyWord (value_at facts place (w1.cells' 11)) (look_flag_stands t.p plays.has) refl q
        (λ c e48 e49 v e. (object_shows c e48, tt)))
    looked (Valued place) has = value_looked place has.kind has.is has.has

  -- ## What comes behind

  -- the routine that fails
  record Failing (many : Bool) (memory : List ℕ) (c : ℕ → ℕ) : Type 0 where
    memory' : List ℕ
    cells' : ℕ → ℕ
    holds : Holds t.p.world.layout memory' cells'
    others : (j : ℕ) → j ≢ 36 → cells' j ≡ c j
    runs : Run (landing_acts many d.next) memory (Returns (t.p.names.routine FAIL)) (now memory') 4

  failing : (many : Bool) (memory : List ℕ) (c : ℕ → ℕ) → Holds t.p.world.layout memory c → c 13 ≡ 1 → Failing many memory c
  failing true memory c h one = (let q = concludes t.p plays.has plays.words 3500 19000 (omega arith) (omega arith) body memory out.typed out.output out.drawn d.next c h false one in record { memory' = q.memory'; cells' = q.cells'; holds = q.holds; others = q.others; runs = q.runs })
  failing false memory c h one =
      let room = high in
      let y = t.p.names.routine FAIL in
      let next = t.p.names.routine d.next in
      let put = puts t.p (now memory) c 52 y h (omega arith) (omega arith) (omega arith) (plays.words FAIL) in
      let m1 = with_cell memory 36 y in
      record {
        memory' = m1;
        cells' = replaced c 36 y;
        holds = put.holds;
        others = λ j ne. other_cell c 36 y j ne;
        runs = calls {f' = 3400} {w' = 15000} {n = 2} {n' = 1} {xs = (next, 0, 0)} {s1 = state memory (next ∷ []) out.typed out.drawn out.output} {s2 = now m1} refl refl (land_stands t.p plays.has) (omega arith) (omega arith) (land_works.fails t.p plays.has 3400 15000 memory out.typed out.output out.drawn next c h (λ (q : c 13 ≡ 0). (omega arith))) put.put_is
            (returns (register t.p (now m1) (replaced c 36 y) 52 put.holds (omega arith) (omega arith) (omega arith) ∙ ap word_is (same_cell c 36 y)));
      }

  -- an inner construct
  record Landing (memory : List ℕ) (c : ℕ → ℕ) : Type 0 where
    memory' : List ℕ
    cells' : ℕ → ℕ
    holds : Holds t.p.world.layout memory' cells'
    inner : cells' 6 ≡ at_place r.sh.top
    around : cells' (heap_at + (r.sh.top + 3)) ≡ c 6
    others : (j : ℕ) → j ≢ 6 → j ≢ 36 → j ≢ heap_at + (r.sh.top + 3) → cells' j ≡ c j
    runs : Run (landing_acts false d.next) memory (Returns (t.p.names.routine d.next)) (now memory') 6

  landing : (memory : List ℕ) (c : ℕ → ℕ) → Holds t.p.world.layout memory c → c 13 ≡ 0 → c 9 ≡ at_place r.sh.top → Landing memory c
  landing memory c h none cut =
      let room = high in
      let fits = r.mid.state.few in
      let top = r.mid.state.heap in
      let y = t.p.names.routine d.next in
      let q = land_works.lands t.p plays.has 3400 15000 memory out.typed out.output out.drawn y r.sh.top c h none cut (omega arith) in
      let put = puts t.p (now q.memory') q.cells' 52 y q.holds (omega arith) (omega arith) (omega arith) (plays.words d.next) in
      let m1 = with_cell q.memory' 36 y in
      record {
        memory' = m1;
        cells' = replaced q.cells' 36 y;
        holds = put.holds;
        inner = other_cell q.cells' 36 y 6 (λ e. (omega arith)) ∙ q.inner;
        around = other_cell q.cells' 36 y (heap_at + (r.sh.top + 3)) (λ e. (omega arith)) ∙ q.around;
        others = λ j n6 n36 nh. other_cell q.cells' 36 y j n36 ∙ q.others j n6 nh;
        runs = calls {f' = 3400} {w' = 15000} {n = 4} {n' = 1} {xs = (y, 0, 0)} {s1 = state q.memory' (y ∷ []) out.typed out.drawn out.output} {s2 = now m1} refl refl (land_stands t.p plays.has) (omega arith) (omega arith) q.runs put.put_is
            (returns (register t.p (now m1) (replaced q.cells' 36 y) 52 put.holds (omega arith) (omega arith) (omega arith) ∙ ap word_is (same_cell q.cells' 36 y)));
      }

  -- ## What comes of it

  module _ (l : List ℕ) (w1 : Tried l) (w2 : Looked l w1 s (found_by facts s o)) where
    abbrev inside_it : Mid
    inside_it = tried_in f l m

    mid2 : MidIn t out.words w1.sh' w2.cells' r.trail inside_it
    mid2 = mid_same t w1.sh' w1.cells' w2.cells' r.trail inside_it (λ j ne far. w2.others j (λ (e : j ≡ 13). (let y = far.0 (omega arith) in omega arith)) (λ (e : j ≡ 49). (let y = far.1 (omega arith) in omega arith))) w1.mid

    -- up to the matches
    to_match : (e : ActsOutcome) (s' : State) (j : ℕ) → Run rest2 w2.memory' e s' j → Run body r.memory e s' (w1.count + (w2.count + j))
    to_match e s' j go = w1.runs e s' (w2.count + j) (w2.runs e s' j go)

    none_set : found_by facts s o ≡ None → Comes t out (t.p.names.routine FAIL) inside_it 120 z
    none_set is =
        let few0 = few_terms s in
        let one : w2.cells' 13 ≡ 1 = w2.clash ∙ ap (λ (x : Option Value). bit (not (is_some x))) is in
        let last = failing f.many w2.memory' w2.cells' w2.holds one in
        let y = t.p.names.routine FAIL in
        let skip = skips t out.words plays.has 3500 19000 (omega arith) (omega arith) w1.sh' out.typed out.output out.drawn body rest3 k 32 64 w2.memory' w2.cells' w2.holds (omega arith) (omega arith) (omega arith) (omega arith) (λ (q : w2.cells' 13 ≡ 0). (omega arith)) (Returns y) (now last.memory') 4 last.runs in
        let skipped : Run rest2 w2.memory' (Returns y) (now last.memory') (steps (3 * k) 4) = subst (λ (front : List Act). Run (front ++ rest3) w2.memory' (Returns y) (now last.memory') (steps (3 * k) 4)) (sym (tried_is 32 64 k)) skip in
        let few1 = w1.few in
        let few2 = w2.few in
        let e2 = steps_are (3 * k) 4 in
        moves t plays out at.x m z r (routine_of 0 body) there (omega arith) y (w1.count + (w2.count + steps (3 * k) 4)) 120 last.memory' [] last.cells' w1.sh' r.trail inside_it
        (to_match (Returns y) (now last.memory') (steps (3 * k) 4) skipped)
        last.holds (plays.words FAIL) (mid_same t w1.sh' w2.cells' last.cells' r.trail inside_it (λ j ne far. last.others j (λ (q : j ≡ 36). (let v = far.1 (omega arith) in omega arith))) mid2) (omega arith)

    -- where something is set
    module _ (v : Value) (is : found_by facts s o ≡ Some v) where
      abbrev es : Equations
      es = try_equations f.args o v

      abbrev u : Unified
      u = try_unified f o v inside_it

      matched : Goes t out.words 3500 19000 body rest3 rest2 w1.sh' w2.memory' out.typed out.output out.drawn w2.cells' inside_it u (price inside_it.state.subst es + 6 * k)
      matched =
          let few0 = few_terms s in
          let count = d.count in
          let args : InRegisters w1.sh' w2.cells' 16 f.args = regs_stay r.sh w1.sh' r.cells w2.cells' w1.grown 16 f.args (λ j low lt. w2.others j (λ e. (omega arith)) (λ e. (omega arith)) ∙ w1.args_are j low (omega arith)) (regs_of r.sh r.cells 16 f.args d.args_are) in
          let none : w2.cells' 13 ≡ 0 = w2.clash ∙ ap (λ (x : Option Value). bit (not (is_some x))) is in
          let g = matches t out.words plays.has 3500 19000 (omega arith) (omega arith) w1.sh' out.typed out.output out.drawn body rest3 k 32 64 w2.memory' w2.cells' r.trail inside_it f.args (made_of s o v) d.count (made_length s o v) w2.holds mid2 none (omega arith) (omega arith) (omega arith) (omega arith) args (w2.shows v is) in
          let zips = made_equations s f.args o v d.count in
          let g' : Goes t out.words 3500 19000 body rest3 (match_acts 32 64 k ++ rest3) w1.sh' w2.memory' out.typed out.output out.drawn w2.cells' inside_it u (price inside_it.state.subst es + 6 * k) = subst (λ (q : Equations). Goes t out.words 3500 19000 body rest3 (match_acts 32 64 k ++ rest3) w1.sh' w2.memory' out.typed out.output out.drawn w2.cells' inside_it (solve inside_it.state.subst q) (price inside_it.state.subst q + 6 * k)) zips g in
          subst (λ (front : List Act). Goes t out.words 3500 19000 body rest3 (front ++ rest3) w1.sh' w2.memory' out.typed out.output out.drawn w2.cells' inside_it u (price inside_it.state.subst es + 6 * k)) (sym (tried_is 32 64 k)) g'

      abbrev Met : Type 0
      Met = Matched t out.words 3500 19000 body rest3 rest2 w1.sh' w2.memory' out.typed out.output out.drawn w2.cells' inside_it u (price inside_it.state.subst es + 6 * k)

      clashed : trail_more inside_it.state u ≤ 2000 → u.agrees ≡ false → Comes t out (t.p.names.routine FAIL) (bound u inside_it) (try_most f o v inside_it) z
      clashed fit clash_all =
          let few0 = few_terms s in
          let g = matched.matched fit in
          let y = t.p.names.routine FAIL in
          let last = failing f.many g.memory' g.cells' g.holds (g.clash ∙ ap (λ (b : Bool). 1 - bit b) clash_all) in
          let few1 = w1.few in
          let few2 = w2.few in
          let few3 = g.few in
          let e2 = steps_are g.count 4 in
          moves t plays out at.x m z r (routine_of 0 body) there (omega arith) y (w1.count + (w2.count + steps g.count 4)) (try_most f o v inside_it) last.memory' [] last.cells' w1.sh' g.trail' (bound u inside_it)
          (to_match (Returns y) (now last.memory') (steps g.count 4) (g.runs (Returns y) (now last.memory') 4 last.runs))
          last.holds (plays.words FAIL) (mid_same t w1.sh' g.cells' last.cells' g.trail' (bound u inside_it) (λ j ne far. last.others j (λ (q : j ≡ 36). (let i = far.1 (omega arith) in omega arith))) g.mid) (omega arith)

      full : 2000 < trail_more inside_it.state u → Closes t out TrailLimit (try_most f o v inside_it + closing_most) z
      full over =
          let few0 = few_terms s in
          let g = matched.full over in
          let few1 = w1.few in
          let few2 = w2.few in
          let few3 = g.few in
          let last : w2.cells' 28 ≡ r.cells 28 = w2.others 28 (λ q. (omega arith)) (λ q. (omega arith)) ∙ w1.args_are 28 (omega arith) (omega arith) in
          closes_within t plays out at.x m z r (routine_of 0 body) there (omega arith) 3500 19000 (omega arith) (omega arith) (w1.count + (w2.count + g.count)) (try_most f o v inside_it + closing_most) TrailLimit g.memory' g.locals'
          (subst (λ (j : ℕ). Run body r.memory (Stops AtQuit) (state g.memory' g.locals' out.typed out.drawn (out.output ++ closing j TrailLimit)) (w1.count + (w2.count + g.count))) last
          (to_match (Stops AtQuit) (state g.memory' g.locals' out.typed out.drawn (out.output ++ closing (w2.cells' 28) TrailLimit)) g.count g.runs))
          (omega arith)

      -- it goes on
      module _ (g : Met) (same_all : u.agrees ≡ true) where
        zero_is : g.cells' 13 ≡ 0
        zero_is = g.clash ∙ ap (λ (b : Bool). 1 - bit b) same_all

        cut_is : g.cells' 9 ≡ at_place r.sh.top
        cut_is = g.others 9 (λ e. (omega arith)) (λ e. (omega arith)) (omega arith) ∙ w2.others 9 (λ e. (omega arith)) (λ e. (omega arith)) ∙ w1.cut

        six_is : g.cells' 6 ≡ r.cells 6
        six_is = g.others 6 (λ e. (omega arith)) (λ e. (omega arith)) (omega arith) ∙ w2.others 6 (λ e. (omega arith)) (λ e. (omega arith)) ∙ w1.inner_same

        landed : Landing g.memory' g.cells'
        landed = landing g.memory' g.cells' g.holds zero_is cut_is

        all_runs : (many : Bool) → f.many ≡ many → (memory' : List ℕ) (j : ℕ) → Run (landing_acts many d.next) g.memory' (Returns (t.p.names.routine d.next)) (now memory') j → Run body r.memory (Returns (t.p.names.routine d.next)) (now memory') (w1.count + (w2.count + steps g.count j))
        all_runs many e memory' j go =
            let y = t.p.names.routine d.next in
            to_match (Returns y) (now memory') (steps g.count j) (g.runs (Returns y) (now memory') j (subst (λ (b : Bool). Run (landing_acts b d.next) g.memory' (Returns y) (now memory') j) (sym e) go))

        goes_many : f.many ≡ true → Comes t out (t.p.names.routine d.next) (bound u inside_it) (try_most f o v inside_it) z
        goes_many e =
            let few0 = few_terms s in
            let y = t.p.names.routine d.next in
            let last = concludes t.p plays.has plays.words 3500 19000 (omega arith) (omega arith) body g.memory' out.typed out.output out.drawn d.next g.cells' g.holds true zero_is in
            let few1 = w1.few in
            let few2 = w2.few in
            let few3 = g.few in
            let e2 = steps_are g.count 4 in
            moves t plays out at.x m z r (routine_of 0 body) there (omega arith) y (w1.count + (w2.count + steps g.count 4)) (try_most f o v inside_it) last.memory' [] last.cells' w1.sh' g.trail' (bound u inside_it)
            (all_runs true e last.memory' 4 last.runs)
            last.holds (plays.words d.next) (mid_same t w1.sh' g.cells' last.cells' g.trail' (bound u inside_it) (λ j ne far. last.others j (λ (q : j ≡ 36). (let i = far.1 (omega arith) in omega arith))) g.mid) (omega arith)

  goes_last : (w1 : Tried []) (w2 : Looked [] w1 s (found_by facts s o)) (v : Value) (is : found_by facts s o ≡ Some v) (g : Met [] w1 w2 v is) → (same_all : (try_unified f o v m).agrees ≡ true) → f.many ≡ false → ComesLanded t out (t.p.names.routine d.next) (within (place_of m) (bound (try_unified f o v m) m)) (try_most f o v m) z
  goes_last w1 w2 v is g same_all e =
      let few0 = few_terms s in
      let y = t.p.names.routine d.next in
      let k3 = landed [] w1 w2 v is g same_all in
      let few1 = w1.few in
      let few2 = w2.few in
      let few3 = g.few in
      let e2 = steps_are g.count 6 in
      let top = r.mid.state.heap in
      let fits = r.mid.state.few in
      let h3 = heap_at + (m.state.heap + 3) in
      let c4 = replaced k3.cells' 0 y in
      let same_h : heap_at + (r.sh.top + 3) ≡ h3 = omega arith in
      let around : c4 h3 ≡ g.cells' 6 = other_cell k3.cells' 0 y h3 (λ q. (omega arith)) ∙ ap k3.cells' (sym same_h) ∙ k3.around in
      let c5 = replaced c4 6 (c4 h3) in
      let same : (j : ℕ) → j ≢ 0 → IsKept j → (heap_at + w1.sh'.top ≤ j → trail_at ≤ j) → c5 j ≡ g.cells' j = λ j n0 kept far. (elim (cases_eq j 6) [
        | inl q ↦ subst (λ (i : ℕ). c5 i ≡ g.cells' i) (sym q) (same_cell c4 6 (c4 h3) ∙ around)
        | inr n6 ↦ other_cell c4 6 (c4 h3) j n6 ∙ other_cell k3.cells' 0 y j n0 ∙ k3.others j n6 (λ (q : j ≡ 36). (let i = kept.1 (omega arith) in omega arith)) (λ (q : j ≡ heap_at + (r.sh.top + 3)). (let shape = ap (λ (x : Shape). x.top) w1.block in let i = far (omega arith) in omega arith))
      ]) in
      let b = bounced t plays out at.x z (facing t out at.x m z r) (routine_of 0 body) there (omega arith) y (w1.count + (w2.count + steps g.count 6)) k3.memory' [] k3.cells' (all_runs [] w1 w2 v is g same_all false e k3.memory' 6 k3.runs) k3.holds (plays.words d.next) in
      record {
        there = b.there;
        count = w1.count + (w2.count + steps g.count 6) + 2;
        some = omega arith;
        few = omega arith;
        leads = b.leads;
        landed = record {
          memory = b.memory;
          is = b.is;
          kept = b.kept;
          cells = c4;
          holds = b.holds;
          next_is = same_cell k3.cells' 0 y;
          place = place_of m;
          places = m.inner;
          inner_are = refl;
          height = refl;
          inner = other_cell k3.cells' 0 y 6 (λ q. (omega arith)) ∙ k3.inner ∙ ap at_place top;
          sh = w1.sh';
          trail = g.trail';
          mid = mid_beyond t w1.sh' g.cells' c5 g.trail' (bound (try_unified f o v m) m) same g.mid;
        };
      }

  goes_more : (q0 : ℕ) (qs : List ℕ) (w1 : Tried (q0 ∷ qs)) (w2 : Looked (q0 ∷ qs) w1 s (found_by facts s o)) (v : Value) (is : found_by facts s o ≡ Some v) (g : Met (q0 ∷ qs) w1 w2 v is) → (same_all : (try_unified f o v (inside (Tries f (q0 ∷ qs)) (length f.args) m)).agrees ≡ true) → f.many ≡ false →
      Comes t out (t.p.names.routine d.next) (within (place_of m) (bound (try_unified f o v (inside (Tries f (q0 ∷ qs)) (length f.args) m)) (inside (Tries f (q0 ∷ qs)) (length f.args) m))) (try_most f o v (inside (Tries f (q0 ∷ qs)) (length f.args) m)) z
  goes_more q0 qs w1 w2 v is g same_all e =
      let l = q0 ∷ qs in
      let few0 = few_terms s in
      let y = t.p.names.routine d.next in
      let k3 = landed l w1 w2 v is g same_all in
      let few1 = w1.few in
      let few2 = w2.few in
      let few3 = g.few in
      let e2 = steps_are g.count 6 in
      let M = bound (try_unified f o v (inside (Tries f l) (length f.args) m)) (inside (Tries f l) (length f.args) m) in
      let h3 = heap_at + (r.sh.top + 3) in
      let fixed = w1.block.1 in
      let low = fixed.0 in
      let top = g.mid.state.heap in
      let fits = g.mid.state.few in
      let third : g.cells' h3 ≡ r.cells 6 = g.mid.state.stands.fixed (r.sh.top + 3) (omega arith) fixed ∙ sym (w1.mid.state.stands.fixed (r.sh.top + 3) (omega arith) fixed) ∙ w1.block.2 in
      let six = six_is l w1 w2 v is g same_all in
      let same : (j : ℕ) → j ≢ 6 → j ≢ 36 → k3.cells' j ≡ g.cells' j = λ j n6 n36. (elim (cases_eq j h3) [
        | inl q ↦ subst (λ (i : ℕ). k3.cells' i ≡ g.cells' i) (sym q) (k3.around ∙ six ∙ sym third)
        | inr nh ↦ k3.others j n6 n36 nh
      ]) in
      let inner : InnersIn w1.sh' m.stops (k3.cells' 6) (place_of m ∷ m.inner) = subst (λ (w : ℕ). InnersIn w1.sh' m.stops w (place_of m ∷ m.inner)) (sym (k3.inner ∙ ap at_place r.mid.state.heap)) w1.block.0 in
      let frames : FramesIn t w1.sh' m.stops (k3.cells' 4) m.frames = subst (λ (w : ℕ). FramesIn t w1.sh' m.stops w m.frames) (sym (same 4 (λ q. (omega arith)) (λ q. (omega arith)))) g.mid.frames in
      let mid3 = mid_with t w1.sh' g.cells' k3.cells' g.trail' M m.frames (place_of m ∷ m.inner) (λ j n0 n4 n6 far. same j n6 (λ (q : j ≡ 36). (let i = far.1 (omega arith) in omega arith))) frames inner g.mid in
      moves t plays out at.x m z r (routine_of 0 body) there (omega arith) y (w1.count + (w2.count + steps g.count 6)) (try_most f o v (inside (Tries f l) (length f.args) m)) k3.memory' [] k3.cells' w1.sh' g.trail' (within (place_of m) M)
      (all_runs l w1 w2 v is g same_all false e k3.memory' 6 k3.runs)
      k3.holds (plays.words d.next) mid3 (omega arith)

  goes_on : (l : List ℕ) (w1 : Tried l) (w2 : Looked l w1 s (found_by facts s o)) (v : Value) (is : found_by facts s o ≡ Some v) (g : Met l w1 w2 v is) → (try_unified f o v (tried_in f l m)).agrees ≡ true → (many : Bool) → f.many ≡ many → GoesOnTried t out (t.p.names.routine d.next) many l (place_of m) (bound (try_unified f o v (tried_in f l m)) (tried_in f l m)) (try_most f o v (tried_in f l m)) z
  goes_on l w1 w2 v is g same_all true e = goes_many l w1 w2 v is g same_all e
  goes_on [] w1 w2 v is g same_all false e = goes_last w1 w2 v is g same_all e
  goes_on (q ∷ qs) w1 w2 v is g same_all false e = goes_more q qs w1 w2 v is g same_all e

  trying : Trying t out f o os (found_by facts s o) m z
  trying =
      let left = d.objects_are.1 in
      let looks : (room : m.state.heap + trying_cells f os ≤ 10000) → Looked os (tried os left room) s (found_by facts s o) = λ room. looked os (tried os left room) s here.has in
      record {
        fails = λ room is. none_set os (tried os left room) (looks room) is;
        clashes = λ v room is fit clash_all. clashed os (tried os left room) (looks room) v is fit clash_all;
        agrees = λ v room is fit same_all. subst (λ (y : ℕ). GoesOnTried t out y f.many os (place_of m) (bound (try_unified f o v (tried_in f os m)) (tried_in f os m)) (try_most f o v (tried_in f os m)) z) d.next_is (goes_on os (tried os left room) (looks room) v is ((matched os (tried os left room) (looks room) v is).matched fit) same_all f.many refl);
        meets_heap = λ over. no_room os left over;
        meets_trail = λ v room is over. full os (tried os left room) (looks room) v is over;
      }

pub try_turns : TryTurns
try_turns t plays world out f o os facts m z facts_out at =
    let here' = sought_here t.program at.tries.sought f.place at.tries.sought_is in
    subst (λ (x : Option Value). Trying t out f o os x m z) (sym (here'.found_is facts o)) (trying t plays world out f o os facts m z facts_out at)

pub none_tried_turns : NoneTriedTurns
none_tried_turns t plays out f m z none at =
    let r = at.rep in
    let d = at.tries in
    let y = t.p.names.routine FAIL in
    let body = acts.Return (atoms.Routine FAIL) ∷ [] in
    let there : t.p.routine_at at.x ≡ Some (routine_of 0 body) = d.is ∙ ap (λ (os : List (List ℕ)). Some (routine_of 0 (tries_by t.program (length os) d.sought f.many d.next))) none in
    moves t plays out at.x m z r (routine_of 0 body) there (omega arith) y 1 3 r.memory [] r.cells r.sh r.trail m (returns refl) r.holds (plays.words FAIL) r.mid (omega arith)
