-- A query is asked: one turn of the story.
use Rattle.std.proofs.Common.{◌≡◌, ◌≢◌, ℕ, suc, ◌+◌, ◌*◌, ◌<◌, ◌≤◌, Bool, List, [], ◌∷◌, length, map, refl, sym, ◌∙◌, subst, arith}
use Rattle.dg_base.specs.declared.program.Term.{Term}
use Rattle.dg_base.specs.declared.run.Ending.TheVariants.{HeapLimit}
use Rattle.dg_meaning.specs.Cells.{cells as cells_of}
use Rattle.dg_meaning.specs.Moves.{first_looks}
use Rattle.dg_meaning.specs.Values.{Value, value_of}
use Rattle.dg_mid.specs.Actions.{registers_of}
use Rattle.dg_mid.specs.State.{Call, Mid, vars_of}
use Rattle.dg_mid.specs.Step.{more, first_of}
use Rattle.z_model.specs.Run.{ZState}
use Rattle.z_lang.specs.declared.act.Act.{Act}
use Rattle.z_lang.specs.declared.act.Atom.TheVariants as atoms
use Rattle.z_lang.specs.declared.act.Routine.{Routine}
use Rattle.z_lang.specs.Runs.{Returns, calls, returns}
use Rattle.dg_rt.specs.inside.Walks.{steps}
use Rattle.dg_rt.specs.Cells.{Holds}
use Rattle.dg_rt.specs.Areas.{state}
use Rattle.dg_rt.specs.Shapes.{Shape}
use Rattle.dg_rt.specs.RunTime.{HasRunTime}
use Rattle.dg_rt.specs.Queries.{Asks}
use Rattle.dg_rt.specs.Closings.{closing_most}
use Rattle.dg_rt.proofs.Asking.{ask_works}
use Rattle.dg_rt.proofs.UnifySteps.{steps_are}
use Rattle.dg_turn.specs.Told.{Telling, FirstIs}
use Rattle.dg_turn.specs.Lies.{bit_of, WordsIn, MidIn}
use Rattle.dg_turn.specs.Plays.{Playing, Outside, registers, Closes}
use Rattle.dg_turn.specs.Queries.{some_of, ask_acts, asking_routine, asked_call, asking_most, AskedAt, Asking, AskTurns}
use Rattle.dg_turn.proofs.Standing.{ask_at}
use Rattle.dg_turn.proofs.Environment.{bit_few}
use Rattle.dg_turn.proofs.Staying.{SameMachine, mid_same}
use Rattle.dg_turn.proofs.Rows.{registers_same, length_map}
use Rattle.dg_turn.proofs.Terms.{writes_terms, meets_terms}
use Rattle.dg_turn.proofs.Moving.{moved, closes}

-- ## Behind the arguments

module _ (t : Telling) {outer : ℕ → ℕ} (has : HasRunTime t.p) (f w : ℕ) (lf : 2 ≤ f) (lw : 8 ≤ w) (typed output : List ℕ) (drawn : ℕ) (memory : List ℕ) (c : ℕ → ℕ) (sh : Shape) (trail : List ℕ) (m : Mid) (holds : Holds t.p.world.layout memory c) (mid : MidIn t outer sh c trail m) (env : List Value) (many : Bool) (back : ℕ) (small : back < 65536) where
  abbrev AsksOf : List Term → Call → Type 0
  AsksOf ts call = Asks t.p f w memory typed output drawn back (bit_of many) (some_of ts) m.state.heap c (FirstIs (first_of m.state.subst call)) (5 * first_looks (registers_of m) (map (value_of t.program env) ts) + 20)

  -- the rest of a call, with these arguments
  pub asks_of : (ts : List Term) (call : Call) → call.args ≡ map (value_of t.program env) ts → WordsIn sh (registers c 16 (length (map (value_of t.program env) ts))) (map (value_of t.program env) ts) → AsksOf ts call
  asks_of [] call e are =
      let few = bit_few many in
      let k = ask_works.has_none t.p has f w memory typed output drawn back (bit_of many) m.state.heap c holds mid.heap mid.state.few small (omega arith) in
      let few' = k.few in
      subst (λ (l : List Value). AsksOf [] (record call { args = l })) (sym e) (record { memory' = k.memory'; cells' = k.cells'; holds = k.holds; back = k.back; wanted = k.wanted; cut = k.cut; begin = k.begin; key = k.key; others = k.others; count = k.count; few = omega arith; runs = k.runs })
  asks_of (a ∷ ts) call e are =
      let few = bit_few many in
      let k = ask_works.asks t.p has f w lf lw memory typed output drawn back (bit_of many) m.state.heap sh mid.state.shape c holds m.state.subst mid.state.stands (value_of t.program env a) are.0 mid.heap mid.state.few small (omega arith) in
      let few' = k.few in
      subst (λ (l : List Value). AsksOf (a ∷ ts) (record call { args = l })) (sym e) (record { memory' = k.memory'; cells' = k.cells'; holds = k.holds; back = k.back; wanted = k.wanted; cut = k.cut; begin = k.begin; key = k.key; others = k.others; count = k.count; few = omega arith; runs = k.runs })

-- words that differ in the registers of a call at most are of the same machine
abbrev pub CallApart : (ℕ → ℕ) → (ℕ → ℕ) → Type 0
CallApart c c' = (k : ℕ) → k ≢ 8 → k ≢ 10 → k ≢ 9 → k ≢ 12 → k ≢ 11 → c' k ≡ c k

pub apart_same : (c c' : ℕ → ℕ) → CallApart c c' → SameMachine c c'
apart_same c c' apart k n0 far =
    apart k (λ (e : k ≡ 8). (let q = far.0 (omega arith) in omega arith)) (λ (e : k ≡ 10). (let q = far.0 (omega arith) in omega arith)) (λ (e : k ≡ 9). (let q = far.0 (omega arith) in omega arith)) (λ (e : k ≡ 12). (let q = far.0 (omega arith) in omega arith)) (λ (e : k ≡ 11). (let q = far.0 (omega arith) in omega arith))

pub apart_high : (c c' : ℕ → ℕ) → CallApart c c' → (k : ℕ) → 12 < k → c' k ≡ c k
apart_high c c' apart k lt = apart k (λ e. (omega arith)) (λ e. (omega arith)) (λ e. (omega arith)) (λ e. (omega arith)) (λ e. (omega arith))

-- ## The turn

module _ (t : Telling) (plays : Playing t) (out : Outside) (ts : List Term) (many : Bool) (next rules : ℕ) (m : Mid) (z : ZState) (a : Asking t out ts many next rules m z) where
  abbrev routine : Routine
  routine = asking_routine t.program ts a.behind many rules

  abbrev behind_terms : List Act
  behind_terms = ask_acts (atoms.Routine a.behind) many ts rules

  turn : m.state.heap + cells_of t.program ts ≤ 10000 → let call = asked_call t.program ts many next m in AskedAt t out rules call (first_of m.state.subst call) (more (cells_of t.program ts) m) (asking_most t.program ts m) z
  turn room =
      let p = t.p in
      let r = a.rep in
      let n = cells_of t.program ts in
      let m' = more n m in
      let env = vars_of m.frames in
      let values = map (value_of t.program env) ts in
      let call = asked_call t.program ts many next m in
      let short = a.short in
      let w1 = writes_terms t plays.has 3500 19000 r.sh r.memory out.typed out.output out.drawn r.cells r.trail m r.holds r.mid routine.body (omega arith) (omega arith) behind_terms 32 ts (omega arith) (omega arith) (λ q. (omega arith)) a.nodes room in
      let size = length_map t.program env ts in
      let y = p.names.routine a.behind in
      let b = asks_of t plays.has 3000 18000 (omega arith) (omega arith) out.typed out.output out.drawn w1.memory' w1.cells' w1.sh' r.trail m' w1.holds w1.mid env many y (plays.words a.behind) ts call refl w1.words in
      let apart : CallApart w1.cells' b.cells' = λ j n8 n10 n9 n12 n11. b.others j n8 n10 n9 n12 n11 in
      let go = moved t plays out a.x m z r routine a.there (omega arith) (p.names.routine rules) (steps w1.count (suc b.count + 1)) b.memory' [] b.cells' w1.sh' r.trail m' (w1.runs (Returns (p.names.routine rules)) (state b.memory' [] out.typed out.drawn out.output) (suc b.count + 1)
      (calls {f' = 3000} {w' = 18000} {n = b.count} {n' = 1} {xs = (y, bit_of many, some_of ts)} {s1 = state b.memory' (y ∷ bit_of many ∷ some_of ts ∷ 0 ∷ []) out.typed out.drawn out.output} {s2 = state b.memory' [] out.typed out.drawn out.output} refl refl (ask_at p plays.has) (omega arith) (omega arith) b.runs refl (returns refl))) b.holds (plays.words rules)
      (mid_same t w1.sh' w1.cells' b.cells' r.trail m' (apart_same w1.cells' b.cells' apart) w1.mid) in
      let few1 = w1.few in
      let few2 = b.few in
      let e = steps_are w1.count (suc b.count + 1) in
      record {
        key = b.cells' 11;
        key_is = b.key;
        there = go.there;
        count = steps w1.count (suc b.count + 1) + 2;
        some = omega arith;
        few = omega arith;
        leads = go.leads;
        looks = record {
          rep = go.rep;
          call_is = record {
            args_are = subst (λ (s : Shape). WordsIn s (registers go.rep.cells 16 (length values)) values) (sym go.shape_is) (subst (λ (l : List ℕ). WordsIn w1.sh' l values) (sym (registers_same w1.cells' go.rep.cells 16 (length values) (λ j low lt. go.cells_are j (λ q. (omega arith)) ∙ apart_high w1.cells' b.cells' apart j (omega arith)))) w1.words);
            next_is = go.cells_are 8 (λ q. (omega arith)) ∙ b.back ∙ a.goes;
            cut_is = go.cells_are 9 (λ q. (omega arith)) ∙ b.cut;
            many_is = go.cells_are 10 (λ q. (omega arith)) ∙ b.wanted;
          };
          key_is = go.cells_are 11 (λ q. (omega arith));
          found_is = go.cells_are 12 (λ q. (omega arith)) ∙ b.begin;
        };
      }

  no_room : 10000 < m.state.heap + cells_of t.program ts → Closes t out HeapLimit (10 + closing_most) z
  no_room over =
      let r = a.rep in
      let k = meets_terms t plays.has 3500 19000 r.sh r.memory out.typed out.output out.drawn r.cells r.trail m r.holds r.mid routine.body (omega arith) (omega arith) behind_terms 32 ts over in
      let few = k.few in
      closes t plays out a.x m z r routine a.there (omega arith) k.count (10 + closing_most) HeapLimit k.memory' k.locals' k.runs (omega arith)

pub ask_turns : AskTurns
ask_turns = record {
  asks = λ t plays out ts many next rules m z a room. turn t plays out ts many next rules m z a room;
  meets = λ t plays out ts many next rules m z a over. no_room t plays out ts many next rules m z a over;
}
