-- The last query of a rule is asked: one turn of the story.
use Rattle.std.proofs.Common.{◌≡◌, ◌≢◌, ℕ, suc, ◌+◌, ◌*◌, ◌<◌, ◌≤◌, Bool, true, false, List, [], ◌∷◌, length, map, Some, refl, sym, ap, ◌∙◌, subst, arith}
use Rattle.dg_base.specs.declared.program.Term.{Term}
use Rattle.dg_base.specs.declared.run.Ending.TheVariants.{HeapLimit}
use Rattle.dg_meaning.specs.Cells.{nodes_of, cells as cells_of}
use Rattle.dg_meaning.specs.Moves.{first_looks}
use Rattle.dg_meaning.specs.Substitutions.{Substitution, links}
use Rattle.dg_meaning.specs.Values.{Value, value_of}
use Rattle.dg_unify.specs.Store.{State as State'}
use Rattle.dg_mid.specs.Actions.{registers_of}
use Rattle.dg_mid.specs.State.{Frame, Call, Mid, vars_of}
use Rattle.dg_mid.specs.Step.{call_of, more, first_of}
use Rattle.z_model.specs.Run.{ZState}
use Rattle.z_lang.specs.declared.act.Act.{Act}
use Rattle.z_lang.specs.declared.act.Act.TheVariants as acts
use Rattle.z_lang.specs.declared.act.Args.TheVariants as args
use Rattle.z_lang.specs.declared.act.Atom.TheVariants as atoms
use Rattle.z_lang.specs.declared.act.Routine.{Routine}
use Rattle.z_lang.specs.State.{State}
use Rattle.z_lang.specs.Runs.{ActsRun, ActsOutcome, Returns, calls, returns, left_with}
use Rattle.dg_rt.specs.declared.numbers.TheConstants.{TAIL_CALL}
use Rattle.dg_rt.specs.declared.queries.TheConstants.{TAIL_CALL_ACTS}
use Rattle.dg_rt.specs.inside.Walks.{steps}
use Rattle.dg_rt.specs.Cells.{with_cell, replaced, Holds}
use Rattle.dg_rt.specs.Areas.{heap_at, state}
use Rattle.dg_rt.specs.Shapes.{Shape, Cell}
use Rattle.dg_rt.specs.Back.{at_place}
use Rattle.dg_rt.specs.RunTime.{HasRunTime}
use Rattle.dg_rt.specs.Closings.{closing_most}
use Rattle.dg_rt.proofs.Cells.{other_cell, same_cell}
use Rattle.dg_rt.proofs.Following.{register, puts}
use Rattle.dg_rt.proofs.TailCalling.{tail_call_works}
use Rattle.dg_rt.proofs.UnifySteps.{steps_are}
use Rattle.dg_turn.specs.Told.{Telling, FirstIs}
use Rattle.dg_turn.specs.Lies.{bit_of, WordsIn, FramesIn, InnersIn, MidIn}
use Rattle.dg_turn.specs.Plays.{Playing, Outside, Represented, registers, Closes}
use Rattle.dg_turn.specs.Terms.{AreNodes}
use Rattle.dg_turn.specs.Queries.{some_of, ask_acts, asking_most, AskedAt}
use Rattle.dg_turn.specs.LastQueries.{last_routine, left_at, next_of, LastTurns}
use Rattle.dg_turn.proofs.Standing.{ask_at, tail_call_at}
use Rattle.dg_turn.proofs.Staying.{mid_with, mid_same}
use Rattle.dg_turn.proofs.Rows.{registers_same, length_map}
use Rattle.dg_turn.proofs.Terms.{writes_terms, meets_terms}
use Rattle.dg_turn.proofs.AskTurn.{asks_of, CallApart, apart_same, apart_high}
use Rattle.dg_turn.proofs.Moving.{moved, closes}

-- ## The frame at hand

-- What the routine does: where it goes on is answered, and memory stands for the machine of the call.
pub record Tailed (t : Telling) (outer : ℕ → ℕ) (f w : ℕ) (memory typed output : List ℕ) (drawn : ℕ) (sh : Shape) (c : ℕ → ℕ) (trail : List ℕ) (left : Mid) (end y : ℕ) : Type 0 where
  pub memory' : List ℕ
  pub cells' : ℕ → ℕ
  pub locals' : List ℕ
  pub holds' : Holds t.p.world.layout memory' cells'
  pub mid' : MidIn t outer sh cells' trail left
  pub others : (k : ℕ) → k ≢ 4 → k ≢ 6 → cells' k ≡ c k
  pub small : y < 65536
  pub count : ℕ
  pub few : count ≤ 8
  pub runs : ActsRun t.p f w TAIL_CALL_ACTS TAIL_CALL_ACTS (state memory (end ∷ 0 ∷ []) typed drawn output) (Returns y) (state memory' locals' typed drawn output) count

module _ (t : Telling) {outer : ℕ → ℕ} (has : HasRunTime t.p) (f w : ℕ) (typed output : List ℕ) (drawn : ℕ) (sh : Shape) (memory : List ℕ) (c : ℕ → ℕ) (trail : List ℕ) (m : Mid) (holds : Holds t.p.world.layout memory c) (mid : MidIn t outer sh c trail m) (fr : Frame) (fs : List Frame) (h : FramesIn t sh m.stops (c 4) (fr ∷ fs)) (end : ℕ) (end_is : end ≡ t.at_block 0) (end_small : end < 65536) where
  abbrev At : Bool → Type 0
  At b = Tailed t outer f w memory typed output drawn sh c trail (left_at b fr fs m) end (t.at_block (next_of b fr))

  at_cell : (k y : ℕ) → Cell sh k y → c (heap_at + k) ≡ y
  at_cell k y cell = let low = cell.fixed.0 in let top = mid.state.heap in let fits = mid.state.few in mid.state.stands.fixed k (omega arith) cell.fixed ∙ cell.is

  by_many : (b : Bool) → fr.many ≡ b → At b
  by_many true e =
      let below = h.below in
      let top = mid.state.heap in
      let fits = mid.state.few in
      let n = length h.own in
      let size : c (heap_at + (h.at + 4)) ≡ 2 * n + 1 = at_cell (h.at + 4) (2 * n + bit_of fr.many) h.many ∙ ap (λ (b : Bool). 2 * n + bit_of b) e in
      let k = tail_call_works.leaves t.p has f w memory typed output drawn h.at n end c holds h.word_is (omega arith) size (omega arith) in
      let to : c (heap_at + (h.at + 1)) ≡ t.at_block fr.next = at_cell (h.at + 1) (t.at_block fr.next) h.next in
      let frames : FramesIn t sh m.stops (k.cells' 4) fs = subst (λ (x : ℕ). FramesIn t sh m.stops x fs) (sym (k.frame ∙ at_cell (h.at + 0) h.e h.e_is)) h.behind_is in
      let inner : InnersIn sh m.stops (k.cells' 6) fr.inner = subst (λ (x : ℕ). InnersIn sh m.stops x fr.inner) (sym (k.inner ∙ at_cell (h.at + 3) h.l h.l_is)) h.inner in
      record {
        memory' = k.memory';
        cells' = k.cells';
        locals' = k.locals';
        holds' = k.holds;
        mid' = mid_with t sh c k.cells' trail m fs fr.inner (λ j n0 n4 n6 far. k.others j n4 n6) frames inner mid;
        others = λ j n4 n6. k.others j n4 n6;
        small = subst (λ (x : ℕ). x < 65536) to (holds.words (heap_at + (h.at + 1)));
        count = 8;
        few = omega arith;
        runs = subst (λ (x : ℕ). ActsRun t.p f w TAIL_CALL_ACTS TAIL_CALL_ACTS (state memory (end ∷ 0 ∷ []) typed drawn output) (Returns x) (state k.memory' k.locals' typed drawn output) 8) to k.runs;
      }
  by_many false e =
      let below = h.below in
      let top = mid.state.heap in
      let fits = mid.state.few in
      let n = length h.own in
      let size : c (heap_at + (h.at + 4)) ≡ 2 * n = at_cell (h.at + 4) (2 * n + bit_of fr.many) h.many ∙ ap (λ (b : Bool). 2 * n + bit_of b) e ∙ (let z : 2 * n + 0 ≡ 2 * n = omega arith in z) in
      let k = tail_call_works.stays t.p has f w memory typed output drawn h.at n end c holds h.word_is (omega arith) size (omega arith) in
      let frames : FramesIn t sh m.stops (k.cells' 4) m.frames = subst (λ (x : ℕ). FramesIn t sh m.stops x m.frames) (sym (k.others 4 (λ q. (omega arith)))) mid.frames in
      let few' = k.few in
      record {
        memory' = k.memory';
        cells' = k.cells';
        locals' = k.locals';
        holds' = k.holds;
        mid' = mid_with t sh c k.cells' trail m m.frames [] (λ j n0 n4 n6 far. k.others j n6) frames k.inner mid;
        others = λ j n4 n6. k.others j n6;
        small = subst (λ (x : ℕ). x < 65536) end_is end_small;
        count = k.count;
        few = omega arith;
        runs = subst (λ (x : ℕ). ActsRun t.p f w TAIL_CALL_ACTS TAIL_CALL_ACTS (state memory (end ∷ 0 ∷ []) typed drawn output) (Returns x) (state k.memory' k.locals' typed drawn output) k.count) end_is k.runs;
      }

  pub tailed : At fr.many
  tailed = by_many fr.many refl

-- without a frame it is as where one answer is wanted
pub tailed_alone : (t : Telling) {outer : ℕ → ℕ} → HasRunTime t.p → (f w : ℕ) (typed output : List ℕ) (drawn : ℕ) (sh : Shape) (memory : List ℕ) (c : ℕ → ℕ) (trail : List ℕ) (m : Mid) → Holds t.p.world.layout memory c → MidIn t outer sh c trail m → m.frames ≡ [] → (end : ℕ) → end ≡ t.at_block 0 → end < 65536 →
    Tailed t outer f w memory typed output drawn sh c trail (record m { inner = [] }) end (t.at_block 0)
tailed_alone t has f w typed output drawn sh memory c trail m holds mid none end end_is small =
    let empty : c 4 ≡ 0 = subst (FramesIn t sh m.stops (c 4)) none mid.frames in
    let k = tail_call_works.has_none t.p has f w memory typed output drawn end c holds empty in
    let frames : FramesIn t sh m.stops (k.cells' 4) m.frames = subst (λ (x : ℕ). FramesIn t sh m.stops x m.frames) (sym (k.others 4 (λ q. (omega arith)))) mid.frames in
    let few' = k.few in
    record {
      memory' = k.memory';
      cells' = k.cells';
      locals' = k.locals';
      holds' = k.holds;
      mid' = mid_with t sh c k.cells' trail m m.frames [] (λ j n0 n4 n6 far. k.others j n6) frames k.inner mid;
      others = λ j n4 n6. k.others j n6;
      small = subst (λ (x : ℕ). x < 65536) end_is small;
      count = k.count;
      few = omega arith;
      runs = subst (λ (x : ℕ). ActsRun t.p f w TAIL_CALL_ACTS TAIL_CALL_ACTS (state memory (end ∷ 0 ∷ []) typed drawn output) (Returns x) (state k.memory' k.locals' typed drawn output) k.count) end_is k.runs;
    }

-- the state of the store stays
pub same_state : (b : Bool) (f : Frame) (fs : List Frame) (m : Mid) → (left_at b f fs m).state ≡ m.state
same_state true f fs m = refl
same_state false f fs m = refl

-- the looks at a first argument depend on what is bound alone
looks_same : (a b : Mid) → a.state.subst ≡ b.state.subst → (vs : List Value) → first_looks (registers_of a) vs ≡ first_looks (registers_of b) vs
looks_same a b e [] = refl
looks_same a b e (v ∷ vs) = ap (λ (S : Substitution). 1 + links S v) e

-- ## Behind the arguments

module _ (t : Telling) {outer : ℕ → ℕ} (plays : Playing t) (body : List Act) (typed output : List ℕ) (drawn : ℕ) (memory : List ℕ) (c : ℕ → ℕ) (sh : Shape) (trail : List ℕ) (m : Mid) (left : Mid) (same : left.state ≡ m.state) (y end rules : ℕ) (k : Tailed t outer 3000 18000 memory typed output drawn sh c trail left (t.p.names.routine end) y) where
  abbrev now : List ℕ → State
  now memory = state memory [] typed drawn output

  -- What comes behind was answered into a register.
  record Answered : Type 0 where
    memory' : List ℕ
    cells' : ℕ → ℕ
    holds' : Holds t.p.world.layout memory' cells'
    mid' : MidIn t outer sh cells' trail left
    answer : cells' 36 ≡ y
    small : y < 65536
    stay : (j : ℕ) → 6 < j → j ≢ 36 → cells' j ≡ c j
    count : ℕ
    few : count ≤ 9
    runs : (rest : List Act) (o : ActsOutcome) (s' : State) (n : ℕ) → ActsRun t.p 3500 19000 body rest (now memory') o s' n → ActsRun t.p 3500 19000 body (acts.Call (Some 52) (atoms.Routine TAIL_CALL) (args.One (atoms.Routine end)) ∷ rest) (now memory) o s' (count + n)

  answers : Answered
  answers =
      let high = plays.has.mapped.room in
      let s1 = state k.memory' k.locals' typed drawn output in
      let put = puts t.p (left_with (now memory) s1) k.cells' 52 y k.holds' (omega arith) (omega arith) (omega arith) k.small in
      let few' = k.few in
      record {
        memory' = with_cell k.memory' 36 y;
        cells' = replaced k.cells' 36 y;
        holds' = put.holds;
        mid' = mid_same t sh k.cells' (replaced k.cells' 36 y) trail left (λ j n0 far. other_cell k.cells' 36 y j (λ (e : j ≡ 36). (let q : 302 < j = far.1 (omega arith) in omega arith))) k.mid';
        answer = same_cell k.cells' 36 y;
        small = k.small;
        stay = λ j low n36. other_cell k.cells' 36 y j n36 ∙ k.others j (λ e. (omega arith)) (λ e. (omega arith));
        count = suc k.count;
        few = omega arith;
        runs = λ rest o s' n r. calls {f' = 3000} {w' = 18000} {n = k.count} {n' = n} {xs = (t.p.names.routine end, 0, 0)} {s1 = s1} {s2 = now (with_cell k.memory' 36 y)} refl refl (tail_call_at t.p plays.has) (omega arith) (omega arith) k.runs put.put_is r;
      }

  module _ (env : List Value) (ts : List Term) (many : Bool) (call : Call) (args_are : call.args ≡ map (value_of t.program env) ts) (words : WordsIn sh (registers c 16 (length (map (value_of t.program env) ts))) (map (value_of t.program env) ts)) where
    abbrev values : List Value
    values = map (value_of t.program env) ts

    -- The query is asked.
    pub record Asked : Type 0 where
      pub memory' : List ℕ
      pub cells' : ℕ → ℕ
      pub holds' : Holds t.p.world.layout memory' cells'
      pub mid' : MidIn t outer sh cells' trail left
      pub back : cells' 8 ≡ y
      pub cut : cells' 9 ≡ at_place m.state.heap
      pub wanted : cells' 10 ≡ bit_of many
      pub key : FirstIs (first_of m.state.subst call) (cells' 11)
      pub begin : cells' 12 ≡ 0
      pub stay : (j : ℕ) → 12 < j → j ≢ 36 → cells' j ≡ c j
      pub count : ℕ
      pub few : count ≤ 5 * first_looks (registers_of m) values + 31
      pub runs : ActsRun t.p 3500 19000 body (acts.Call (Some 52) (atoms.Routine TAIL_CALL) (args.One (atoms.Routine end)) ∷ ask_acts (atoms.Var 52) many ts rules) (now memory) (Returns (t.p.names.routine rules)) (now memory') count

    asks : length values ≤ 12 → Answered → Asked
    asks short q =
        let high = plays.has.mapped.room in
        let same_subst : left.state.subst ≡ m.state.subst = ap (λ (s : State'). s.subst) same in
        let same_heap : left.state.heap ≡ m.state.heap = ap (λ (s : State'). s.heap) same in
        let looks = looks_same left m same_subst values in
        let words2 : WordsIn sh (registers q.cells' 16 (length values)) values = subst (λ (l : List ℕ). WordsIn sh l values) (sym (registers_same c q.cells' 16 (length values) (λ j low lt. q.stay j (omega arith) (λ e. (omega arith))))) words in
        let b = asks_of t plays.has 3000 18000 (omega arith) (omega arith) typed output drawn q.memory' q.cells' sh trail left q.holds' q.mid' env many y q.small ts call args_are words2 in
        let apart : CallApart q.cells' b.cells' = λ j n8 n10 n9 n12 n11. b.others j n8 n10 n9 n12 n11 in
        let few1 = q.few in
        let few2 = b.few in
        record {
          memory' = b.memory';
          cells' = b.cells';
          holds' = b.holds;
          mid' = mid_same t sh q.cells' b.cells' trail left (apart_same q.cells' b.cells' apart) q.mid';
          back = b.back;
          cut = b.cut ∙ ap at_place same_heap;
          wanted = b.wanted;
          key = subst (λ (S : Substitution). FirstIs (first_of S call) (b.cells' 11)) same_subst b.key;
          begin = b.begin;
          stay = λ j low n36. apart_high q.cells' b.cells' apart j low ∙ q.stay j (omega arith) n36;
          count = q.count + (suc b.count + 1);
          few = omega arith;
          runs = q.runs (ask_acts (atoms.Var 52) many ts rules) (Returns (t.p.names.routine rules)) (now b.memory') (suc b.count + 1)
              (calls {f' = 3000} {w' = 18000} {n = b.count} {n' = 1} {xs = (y, bit_of many, some_of ts)} {s1 = state b.memory' (y ∷ bit_of many ∷ some_of ts ∷ 0 ∷ []) typed drawn output} {s2 = now b.memory'} refl (rw (register t.p (now q.memory') q.cells' 52 q.holds' (omega arith) (omega arith) (omega arith), q.answer) refl) (ask_at t.p plays.has) (omega arith) (omega arith) b.runs refl (returns refl));
        }

    pub asked : length values ≤ 12 → Asked
    asked short = asks short answers

-- ## The turn

module _ (t : Telling) (plays : Playing t) (out : Outside) (ts : List Term) (many : Bool) (x end rules : ℕ) (m : Mid) (z : ZState) (r : Represented t out x m z) (there : t.p.routine_at x ≡ Some (last_routine t.program ts end many rules)) (short : length ts ≤ 12) (nodes : AreNodes t.program (nodes_of ts)) where
  abbrev routine : Routine
  routine = last_routine t.program ts end many rules

  abbrev behind_terms : List Act
  behind_terms = acts.Call (Some 52) (atoms.Routine TAIL_CALL) (args.One (atoms.Routine end)) ∷ ask_acts (atoms.Var 52) many ts rules

  abbrev m' : Mid
  m' = more (cells_of t.program ts) m

  abbrev TailsTo : Mid → ℕ → Type 0
  TailsTo left y = (sh : Shape) (memory : List ℕ) (c : ℕ → ℕ) → Holds t.p.world.layout memory c → MidIn t out.words sh c r.trail m' → Tailed t out.words 3000 18000 memory out.typed out.output out.drawn sh c r.trail left (t.p.names.routine end) y

  turn : m.state.heap + cells_of t.program ts ≤ 10000 → (left : Mid) → left.state ≡ m'.state → (next : ℕ) → TailsTo left (t.at_block next) →
      let call = call_of (map (value_of t.program (vars_of m.frames)) ts) many next m' in AskedAt t out rules call (first_of m.state.subst call) left (asking_most t.program ts m) z
  turn room left same next tails =
      let p = t.p in
      let env = vars_of m.frames in
      let values = map (value_of t.program env) ts in
      let call = call_of values many next m' in
      let w1 = writes_terms t plays.has 3500 19000 r.sh r.memory out.typed out.output out.drawn r.cells r.trail m r.holds r.mid routine.body (omega arith) (omega arith) behind_terms 32 ts (omega arith) (omega arith) (λ q. (omega arith)) nodes room in
      let size = length_map t.program env ts in
      let b = asked t plays routine.body out.typed out.output out.drawn w1.memory' w1.cells' w1.sh' r.trail m' left same (t.at_block next) end rules (tails w1.sh' w1.memory' w1.cells' w1.holds w1.mid) env ts many call refl w1.words (omega arith) in
      let go = moved t plays out x m z r routine there (omega arith) (p.names.routine rules) (steps w1.count b.count) b.memory' [] b.cells' w1.sh' r.trail left (w1.runs (Returns (p.names.routine rules)) (state b.memory' [] out.typed out.drawn out.output) b.count b.runs) b.holds' (plays.words rules) b.mid' in
      let few1 = w1.few in
      let few2 = b.few in
      let e = steps_are w1.count b.count in
      record {
        key = b.cells' 11;
        key_is = b.key;
        there = go.there;
        count = steps w1.count b.count + 2;
        some = omega arith;
        few = omega arith;
        leads = go.leads;
        looks = record {
          rep = go.rep;
          call_is = record {
            args_are = subst (λ (s : Shape). WordsIn s (registers go.rep.cells 16 (length values)) values) (sym go.shape_is) (subst (λ (l : List ℕ). WordsIn w1.sh' l values) (sym (registers_same w1.cells' go.rep.cells 16 (length values) (λ j low lt. go.cells_are j (λ q. (omega arith)) ∙ b.stay j (omega arith) (λ q. (omega arith))))) w1.words);
            next_is = go.cells_are 8 (λ q. (omega arith)) ∙ b.back;
            cut_is = go.cells_are 9 (λ q. (omega arith)) ∙ b.cut;
            many_is = go.cells_are 10 (λ q. (omega arith)) ∙ b.wanted;
          };
          key_is = go.cells_are 11 (λ q. (omega arith));
          found_is = go.cells_are 12 (λ q. (omega arith)) ∙ b.begin;
        };
      }

  no_room : 10000 < m.state.heap + cells_of t.program ts → Closes t out HeapLimit (10 + closing_most) z
  no_room over =
      let k = meets_terms t plays.has 3500 19000 r.sh r.memory out.typed out.output out.drawn r.cells r.trail m r.holds r.mid routine.body (omega arith) (omega arith) behind_terms 32 ts over in
      let few = k.few in
      closes t plays out x m z r routine there (omega arith) k.count (10 + closing_most) HeapLimit k.memory' k.locals' k.runs (omega arith)

pub last_turns : LastTurns
last_turns = record {
  asks = λ t plays out ts many rules f fs m z a room.
      turn t plays out ts many a.x a.end rules m z a.rep a.there a.short a.nodes room (left_at f.many f fs (more (cells_of t.program ts) m)) (same_state f.many f fs (more (cells_of t.program ts) m)) (next_of f.many f)
      (λ sh memory c holds mid. tailed t plays.has 3000 18000 out.typed out.output out.drawn sh memory c a.rep.trail (more (cells_of t.program ts) m) holds mid f fs (subst (FramesIn t sh m.stops (c 4)) a.frames mid.frames) (t.p.names.routine a.end) a.end_is (plays.words a.end));
  asks_alone = λ t plays out ts many rules m z a room.
      turn t plays out ts many a.x a.end rules m z a.rep a.there a.short a.nodes room (record (more (cells_of t.program ts) m) { inner = [] }) refl 0
      (λ sh memory c holds mid. tailed_alone t plays.has 3000 18000 out.typed out.output out.drawn sh memory c a.rep.trail (more (cells_of t.program ts) m) holds mid a.frames (t.p.names.routine a.end) a.end_is (plays.words a.end));
  meets = λ t plays out ts many rules f fs m z a over. no_room t plays out ts many a.x a.end rules m z a.rep a.there a.short a.nodes over;
  alone_meets = λ t plays out ts many rules m z a over. no_room t plays out ts many a.x a.end rules m z a.rep a.there a.short a.nodes over;
}
