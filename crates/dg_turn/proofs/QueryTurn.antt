-- A query of a closure looks its value up: one turn of the story.
use Rattle.std.proofs.Common.{◌≡◌, ◌≢◌, ℕ, suc, ◌+◌, ◌*◌, ◌<◌, ◌≤◌, Bool, List, [], ◌∷◌, ◌++◌, length, map, Option, Some, None, refl, sym, ap, ◌∙◌, subst, arith}
use Rattle.dg_base.specs.declared.program.Term.{Term}
use Rattle.dg_base.specs.declared.run.Ending.TheVariants.{HeapLimit}
use Rattle.dg_base.specs.Goals.{option_terms}
use Rattle.dg_meaning.specs.Cells.{nodes_of, cells as cells_of}
use Rattle.dg_meaning.specs.Substitutions.{Substitution, walk, links}
use Rattle.dg_meaning.specs.Values.{Value, Var, Node, value_of}
use Rattle.dg_mid.specs.State.{Mid, vars_of}
use Rattle.dg_mid.specs.Step.{more}
use Rattle.z_model.specs.Run.{ZState}
use Rattle.z_lang.specs.declared.act.Act.{Act}
use Rattle.z_lang.specs.declared.act.Act.TheVariants as acts
use Rattle.z_lang.specs.declared.act.Atom.TheVariants as atoms
use Rattle.z_lang.specs.State.{State}
use Rattle.z_lang.specs.Runs.{ActsRun, ActsOutcome, Returns, done, calls, returns, left_with}
use Rattle.dg_rt.specs.inside.Walks.{steps, ending}
use Rattle.dg_rt.specs.Cells.{with_cell, replaced, Holds}
use Rattle.dg_rt.specs.Areas.{heap_at, state}
use Rattle.dg_rt.specs.Shapes.{Shape, Shows}
use Rattle.dg_rt.specs.Rules.{KeyIs}
use Rattle.dg_rt.specs.RunTime.{routine_of}
use Rattle.dg_rt.specs.Closings.{closing_most}
use Rattle.dg_rt.proofs.Cells.{other_cell, same_cell}
use Rattle.dg_rt.proofs.Following.{copies, register, puts}
use Rattle.dg_rt.proofs.Keying.{key_works}
use Rattle.dg_rt.proofs.Showing.{word_small}
use Rattle.dg_rt.proofs.Standing.{walk_at, key_of_at}
use Rattle.dg_rt.proofs.UnifySteps.{steps_are}
use Rattle.dg_rt.proofs.Walking.{walk_works}
use Rattle.dg_turn.specs.Told.{Telling}
use Rattle.dg_turn.specs.Lies.{bit_of, WordsIn, MidIn}
use Rattle.dg_turn.specs.Plays.{Playing, Outside, Represented, registers, Closes}
use Rattle.dg_turn.specs.Terms.{terms_acts, AreNodes, written_in}
use Rattle.dg_turn.specs.Bodies.{look_acts, query_routine, query_call, asked_value, Looks, QueryTurns}
use Rattle.dg_turn.proofs.Environment.{bit_few}
use Rattle.dg_turn.proofs.Growing.{stands_same}
use Rattle.dg_turn.proofs.Rows.{registers_same, length_map}
use Rattle.dg_turn.proofs.Staying.{mid_same}
use Rattle.dg_turn.proofs.Terms.{writes_terms, meets_terms}
use Rattle.dg_turn.proofs.Moving.{moved, closes}

-- what a walk ends with
ending_few : (v : Value) → ending v ≤ 4
ending_few (Var n) = omega arith
ending_few (Node f vs) = omega arith

few_terms : (b : Option Term) → length (option_terms b) ≤ 1
few_terms None = omega arith
few_terms (Some t) = omega arith

-- ## Behind the terms

-- What comes behind is in its register, whether all answers are wanted and the number of arguments are put into theirs, and the value is looked up.
module _ (t : Telling) {outer : ℕ → ℕ} (plays : Playing t) (body : List Act) (typed output : List ℕ) (drawn : ℕ) (b : Option Term) (many : Bool) (find : ℕ) (sh : Shape) (trail : List ℕ) (m : Mid) (v : Value) (memory : List ℕ) (c : ℕ → ℕ) (holds : Holds t.p.world.layout memory c) (mid : MidIn t outer sh c trail m) (shown : Shows sh (c 15) v) where
  abbrev now : List ℕ → State
  now memory = state memory [] typed drawn output

  abbrev count : ℕ
  count = length (option_terms b)

  abbrev c2 : ℕ → ℕ
  c2 = replaced c 10 (bit_of many)

  abbrev c3 : ℕ → ℕ
  c3 = replaced c2 37 count

  front : (k : ℕ) → k ≢ 10 → k ≢ 37 → c3 k ≡ c k
  front k n10 n37 = other_cell c2 37 count k n37 ∙ other_cell c 10 (bit_of many) k n10

  -- the words behind it
  pub record LookedUp : Type 0 where
    pub memory' : List ℕ
    pub cells' : ℕ → ℕ
    pub holds' : Holds t.p.world.layout memory' cells'
    pub mid' : MidIn t outer sh cells' trail m
    pub shown' : Shows sh (cells' 15) (walk m.state.subst v)
    pub key_is : KeyIs (walk m.state.subst v) (cells' 11)
    pub many_is : cells' 10 ≡ bit_of many
    pub count_is : cells' 37 ≡ count
    pub others : (k : ℕ) → k ≢ 10 → k ≢ 37 → k ≢ 11 → k ≢ 15 → cells' k ≡ c k
    pub steps' : ℕ
    pub few : steps' ≤ 10 * links m.state.subst v + 23
    pub runs : ActsRun t.p 3500 19000 body (look_acts b many find) (now memory) (Returns (t.p.names.routine find)) (now memory') steps'

  pub looked_up : LookedUp
  looked_up =
      let high = plays.has.mapped.room in
      let bit = bit_few many in
      let few = few_terms b in
      let S = m.state.subst in
      let p2 = puts t.p (now memory) c 26 (bit_of many) holds (omega arith) (omega arith) (omega arith) (omega arith) in
      let memory2 = with_cell memory 10 (bit_of many) in
      let p3 = puts t.p (now memory2) c2 53 count p2.holds (omega arith) (omega arith) (omega arith) (omega arith) in
      let memory3 = with_cell memory2 37 count in
      let st3 = stands_same sh c c3 S mid.state.low (λ k lt. front (heap_at + k) (λ e. (omega arith)) (λ e. (omega arith))) mid.state.stands in
      let same15 : c3 15 ≡ c 15 = front 15 (λ e. (omega arith)) (λ e. (omega arith)) in
      let shown3 : Shows sh (c3 15) v = subst (λ (w : ℕ). Shows sh w v) (sym same15) shown in
      let k = key_works t.p plays.has 3000 18000 (omega arith) (omega arith) memory3 typed output drawn sh mid.state.shape c3 p3.holds S st3 (c3 15) v shown3 in
      let p4 = puts t.p (left_with (now memory3) (state memory3 k.locals' typed drawn output)) c3 27 k.key p3.holds (omega arith) (omega arith) (omega arith) k.small in
      let memory4 = with_cell memory3 11 k.key in
      let c4 = replaced c3 11 k.key in
      let four : (j : ℕ) → j ≢ 11 → c4 j ≡ c3 j = λ j ne. other_cell c3 11 k.key j ne in
      let st4 = stands_same sh c3 c4 S mid.state.low (λ j lt. four (heap_at + j) (λ e. (omega arith))) st3 in
      let shown4 : Shows sh (c4 15) v = subst (λ (w : ℕ). Shows sh w v) (sym (four 15 (λ e. (omega arith)))) shown3 in
      let w = walk_works t.p plays.has sh mid.state.shape 3000 18000 memory4 typed output drawn 0 0 c4 p4.holds S st4 (c4 15) 0 v shown4 in
      let small = word_small mid.state.shape w.shows in
      let p5 = puts t.p (left_with (now memory4) (state memory4 w.locals' typed drawn output)) c4 31 w.word p4.holds (omega arith) (omega arith) (omega arith) small in
      let memory5 = with_cell memory4 15 w.word in
      let c5 = replaced c4 15 w.word in
      let five : (j : ℕ) → j ≢ 15 → c5 j ≡ c4 j = λ j ne. other_cell c4 15 w.word j ne in
      let last = ending_few (walk S v) in
      let few1 = k.few in
      let few2 = w.few in
      let others : (j : ℕ) → j ≢ 10 → j ≢ 37 → j ≢ 11 → j ≢ 15 → c5 j ≡ c j = λ j n10 n37 n11 n15. five j n15 ∙ four j n11 ∙ front j n10 n37 in
      record {
        memory' = memory5;
        cells' = c5;
        holds' = p5.holds;
        mid' = mid_same t sh c c5 trail m (λ j n0 far. others j (λ (e : j ≡ 10). (let q = far.0 (omega arith) in omega arith)) (λ (e : j ≡ 37). (let q = far.1 (omega arith) in omega arith)) (λ (e : j ≡ 11). (let q = far.0 (omega arith) in omega arith)) (λ (e : j ≡ 15). (let q = far.0 (omega arith) in omega arith))) mid;
        shown' = subst (λ (i : ℕ). Shows sh i (walk S v)) (sym (same_cell c4 15 w.word)) w.shows;
        key_is = subst (KeyIs (walk S v)) (sym (five 11 (λ e. (omega arith)) ∙ same_cell c3 11 k.key)) k.is;
        many_is = five 10 (λ e. (omega arith)) ∙ four 10 (λ e. (omega arith)) ∙ other_cell c2 37 count 10 (λ e. (omega arith)) ∙ same_cell c 10 (bit_of many);
        count_is = five 37 (λ e. (omega arith)) ∙ four 37 (λ e. (omega arith)) ∙ same_cell c2 37 count;
        others = others;
        steps' = suc (suc (suc k.count + (suc w.count + 1)));
        few = omega arith;
        runs = done (copies t.p (now memory) (now memory2) 26 (atoms.Num (bit_of many)) (bit_of many) refl p2.put_is)
            (done (copies t.p (now memory2) (now memory3) 53 (atoms.Num count) count refl p3.put_is)
            (calls {f' = 3000} {w' = 18000} {n = k.count} {n' = suc w.count + 1} {xs = (c3 15, 0, 0)} {s1 = state memory3 k.locals' typed drawn output} {s2 = now memory4} refl (rw (register t.p (now memory3) c3 31 p3.holds (omega arith) (omega arith) (omega arith)) refl) (key_of_at t.p plays.has) (omega arith) (omega arith) k.runs p4.put_is
            (calls {f' = 3000} {w' = 18000} {n = w.count} {n' = 1} {xs = (c4 15, 0, 0)} {s1 = state memory4 w.locals' typed drawn output} {s2 = now memory5} refl (rw (register t.p (now memory4) c4 31 p4.holds (omega arith) (omega arith) (omega arith)) refl) (walk_at t.p plays.has) (omega arith) (omega arith) w.runs p5.put_is
            (returns refl))));
      }

-- ## The turns

module _ (t : Telling) (plays : Playing t) (out : Outside) (x : ℕ) (a : Term) (b : Option Term) (many : Bool) (find : ℕ) (front : List Act) (m : Mid) (z : ZState) (there : t.p.routine_at x ≡ Some (routine_of 0 (terms_acts t.program 31 (a ∷ option_terms b) ++ (front ++ look_acts b many find)))) (r : Represented t out x m z) where
  abbrev ts : List Term
  ts = a ∷ option_terms b

  abbrev n : ℕ
  n = cells_of t.program ts

  abbrev m' : Mid
  m' = more n m

  abbrev env : List Value
  env = vars_of m.frames

  abbrev v : Value
  v = value_of t.program env a

  abbrev args_of : List Value
  args_of = map (value_of t.program env) (option_terms b)

  abbrev all : List Act
  all = terms_acts t.program 31 ts ++ (front ++ look_acts b many find)

  abbrev at : List ℕ → State
  at memory = state memory [] out.typed out.drawn out.output

  -- What comes behind was put into its register, and memory stands for a machine.
  pub record Fronted (sh : Shape) (memory : List ℕ) (c : ℕ → ℕ) (left : Mid) (y : ℕ) : Type 0 where
    pub memory' : List ℕ
    pub cells' : ℕ → ℕ
    pub holds' : Holds t.p.world.layout memory' cells'
    pub mid' : MidIn t out.words sh cells' r.trail left
    pub back_is : cells' 8 ≡ y
    pub others : (k : ℕ) → 10 < k → k < 303 → cells' k ≡ c k
    pub count : ℕ
    pub few : count ≤ 10
    pub runs : (o : ActsOutcome) (s' : State) (k : ℕ) → ActsRun t.p 3500 19000 all (look_acts b many find) (at memory') o s' k → ActsRun t.p 3500 19000 all (front ++ look_acts b many find) (at memory) o s' (count + k)

  pub turn : (left : Mid) (next : ℕ) → left.state.subst ≡ m.state.subst → AreNodes t.program (nodes_of ts) → m.state.heap + n ≤ 10000 →
      ((sh : Shape) (memory : List ℕ) (c : ℕ → ℕ) → Holds t.p.world.layout memory c → MidIn t out.words sh c r.trail m' → Fronted sh memory c left (t.at_block next)) →
      Looks t out find (query_call t.program a b many next m) (asked_value t.program a m) left (written_in t.program ts + 10 * links m.state.subst v + 50) z
  turn left next same nodes room fronts =
      let few = few_terms b in
      let w1 = writes_terms t plays.has 3500 19000 r.sh r.memory out.typed out.output out.drawn r.cells r.trail m r.holds r.mid all (omega arith) (omega arith) (front ++ look_acts b many find) 31 ts (omega arith) (omega arith) (λ q. (omega arith)) nodes room in
      let g = fronts w1.sh' w1.memory' w1.cells' w1.holds w1.mid in
      let shown : Shows w1.sh' (g.cells' 15) v = subst (λ (w : ℕ). Shows w1.sh' w v) (sym (g.others 15 (omega arith) (omega arith))) w1.words.0 in
      let k = looked_up t plays all out.typed out.output out.drawn b many find w1.sh' r.trail left v g.memory' g.cells' g.holds' g.mid' shown in
      let go = moved t plays out x m z r (routine_of 0 all) there (omega arith) (t.p.names.routine find) (steps w1.count (g.count + k.steps')) k.memory' [] k.cells' w1.sh' r.trail left (w1.runs (Returns (t.p.names.routine find)) (at k.memory') (g.count + k.steps') (g.runs (Returns (t.p.names.routine find)) (at k.memory') k.steps' k.runs)) k.holds' (plays.words find) k.mid' in
      let size = length_map t.program env (option_terms b) in
      let looks = ap (λ (S : Substitution). links S v) same in
      let few1 = w1.few in
      let few2 = k.few in
      let few3 = g.few in
      let e = steps_are w1.count (g.count + k.steps') in
      record {
        there = go.there;
        count = steps w1.count (g.count + k.steps') + 2;
        some = omega arith;
        few = omega arith;
        leads = go.leads;
        finds = record {
          rep = go.rep;
          shown = subst (λ (S : Substitution). Shows go.rep.sh (go.rep.cells 15) (walk S v)) same (subst (λ (s : Shape). Shows s (go.rep.cells 15) (walk left.state.subst v)) (sym go.shape_is) (subst (λ (w : ℕ). Shows w1.sh' w (walk left.state.subst v)) (sym (go.cells_are 15 (λ q. (omega arith)))) k.shown'));
          key_is = subst (λ (S : Substitution). KeyIs (walk S v) (go.rep.cells 11)) same (subst (KeyIs (walk left.state.subst v)) (sym (go.cells_are 11 (λ q. (omega arith)))) k.key_is);
          args_are = subst (λ (s : Shape). WordsIn s (registers go.rep.cells 16 (length args_of)) args_of) (sym go.shape_is) (subst (λ (l : List ℕ). WordsIn w1.sh' l args_of) (sym (registers_same w1.cells' go.rep.cells 16 (length args_of) (λ j low lt. go.cells_are j (λ q. (omega arith)) ∙ k.others j (λ q. (omega arith)) (λ q. (omega arith)) (λ q. (omega arith)) (λ q. (omega arith)) ∙ g.others j (omega arith) (omega arith)))) w1.words.1);
          count_is = go.cells_are 37 (λ q. (omega arith)) ∙ k.count_is ∙ sym size;
          next_is = go.cells_are 8 (λ q. (omega arith)) ∙ k.others 8 (λ q. (omega arith)) (λ q. (omega arith)) (λ q. (omega arith)) (λ q. (omega arith)) ∙ g.back_is;
          many_is = go.cells_are 10 (λ q. (omega arith)) ∙ k.many_is;
        };
      }

  pub no_room : 10000 < m.state.heap + n → Closes t out HeapLimit (10 + closing_most) z
  no_room over =
      let k = meets_terms t plays.has 3500 19000 r.sh r.memory out.typed out.output out.drawn r.cells r.trail m r.holds r.mid all (omega arith) (omega arith) (front ++ look_acts b many find) 31 ts over in
      let few = k.few in
      closes t plays out x m z r (routine_of 0 all) there (omega arith) k.count (10 + closing_most) HeapLimit k.memory' k.locals' k.runs (omega arith)

-- what comes behind is a routine
fronted : (t : Telling) (plays : Playing t) (out : Outside) (x : ℕ) (a : Term) (b : Option Term) (behind : ℕ) (many : Bool) (find next : ℕ) (m : Mid) (z : ZState) (there : t.p.routine_at x ≡ Some (query_routine t.program a b behind many find)) (r : Represented t out x m z) → t.p.names.routine behind ≡ t.at_block next → (sh : Shape) (memory : List ℕ) (c : ℕ → ℕ) → Holds t.p.world.layout memory c → MidIn t out.words sh c r.trail (more (cells_of t.program (a ∷ option_terms b)) m) →
    Fronted t plays out x a b many find (acts.Copy 24 (atoms.Routine behind) ∷ []) m z there r sh memory c (more (cells_of t.program (a ∷ option_terms b)) m) (t.at_block next)
fronted t plays out x a b behind many find next m z there r goes sh memory c holds mid =
    let high = plays.has.mapped.room in
    let y = t.p.names.routine behind in
    let m' = more (cells_of t.program (a ∷ option_terms b)) m in
    let put = puts t.p (state memory [] out.typed out.drawn out.output) c 24 y holds (omega arith) (omega arith) (omega arith) (plays.words behind) in
    record {
      memory' = with_cell memory 8 y;
      cells' = replaced c 8 y;
      holds' = put.holds;
      mid' = mid_same t sh c (replaced c 8 y) r.trail m' (λ j n0 far. other_cell c 8 y j (λ (e : j ≡ 8). (let q = far.0 (omega arith) in omega arith))) mid;
      back_is = same_cell c 8 y ∙ goes;
      others = λ k low lt. other_cell c 8 y k (λ e. (omega arith));
      count = 1;
      few = omega arith;
      runs = λ o s' k run. subst (ActsRun t.p 3500 19000 (query_routine t.program a b behind many find).body (acts.Copy 24 (atoms.Routine behind) ∷ look_acts b many find) (state memory [] out.typed out.drawn out.output) o s') (let sum : suc k ≡ 1 + k = omega arith in sum)
          (done (copies t.p (state memory [] out.typed out.drawn out.output) (state (with_cell memory 8 y) [] out.typed out.drawn out.output) 24 (atoms.Routine behind) y refl put.put_is) run);
    }

pub query_turns : QueryTurns
query_turns = record {
  asks = λ t plays out x a b behind many next find m z there goes nodes room r.
      turn t plays out x a b many find (acts.Copy 24 (atoms.Routine behind) ∷ []) m z there r (more (cells_of t.program (a ∷ option_terms b)) m) next refl nodes room
      (λ sh memory c holds mid. fronted t plays out x a b behind many find next m z there r goes sh memory c holds mid);
  meets = λ t plays out x a b behind many find m z there over r. no_room t plays out x a b many find (acts.Copy 24 (atoms.Routine behind) ∷ []) m z there r over;
}
