-- A rule with variables and a head is entered: one turn of the story.
use Rattle.std.proofs.Common.{◌≡◌, ℕ, suc, ◌+◌, ◌*◌, ◌<◌, ◌≤◌, List, [], ◌∷◌, ◌++◌, length, map, None, sym, ap, ◌∙◌, subst, arith, refl}
use Rattle.std.specs.List.{zip}
use Rattle.dg_base.specs.declared.program.CoreProgram.{CoreProgram}
use Rattle.dg_base.specs.declared.program.Term.{Term}
use Rattle.dg_base.specs.declared.run.Ending.TheVariants.{HeapLimit, TrailLimit}
use Rattle.dg_meaning.specs.Cells.{nodes_of, cells as cells_of}
use Rattle.dg_meaning.specs.Moves.{new_vars}
use Rattle.dg_meaning.specs.Unify.{Unified, solve, top_of_pairs}
use Rattle.dg_meaning.specs.Values.{Value, value_of}
use Rattle.dg_meaning.specs.inside.Bindings.{top_of_values}
use Rattle.dg_mid.specs.State.{Call, Mid, vars_of}
use Rattle.dg_mid.specs.Step.{new_frame, bound, trail_more, more}
use Rattle.z_model.specs.declared.end.Halt.TheVariants.{AtQuit}
use Rattle.z_model.specs.Run.{ZState}
use Rattle.z_lang.specs.declared.act.Act.{Act}
use Rattle.z_lang.specs.declared.act.Act.TheVariants as acts
use Rattle.z_lang.specs.declared.act.Args.TheVariants as args
use Rattle.z_lang.specs.declared.act.Atom.TheVariants as atoms
use Rattle.z_lang.specs.Runs.{ActsRun, Returns, Stops, calls, calls_last}
use Rattle.dg_rt.specs.declared.numbers.TheConstants.{ENTER}
use Rattle.dg_rt.specs.declared.frames.TheConstants.{ENTER_ACTS}
use Rattle.dg_rt.specs.inside.Walks.{steps}
use Rattle.dg_rt.specs.Cells.{Holds}
use Rattle.dg_rt.specs.Areas.{state}
use Rattle.dg_rt.specs.Shapes.{Shape}
use Rattle.dg_rt.specs.RunTime.{HasRunTime}
use Rattle.dg_rt.specs.Unifies.{price}
use Rattle.dg_rt.specs.Closings.{closing, closing_most}
use Rattle.dg_rt.proofs.Entering.{enter_works}
use Rattle.dg_rt.proofs.Fresh.{shows_top, stands_top}
use Rattle.dg_rt.proofs.UnifySteps.{steps_are}
use Rattle.dg_turn.specs.Told.{Telling}
use Rattle.dg_turn.specs.Lies.{MidIn}
use Rattle.dg_turn.specs.Plays.{Playing, Outside, Represented, CallAt, Comes, Closes}
use Rattle.dg_turn.specs.Terms.{capped, AreNodes, written_in, Wrote}
use Rattle.dg_turn.specs.Turns.{agreed_next, matchers, unifying_acts, last_acts, head_acts, enter_routine, entered, head_unified, entering_most, Entering, EnterTurns}
use Rattle.dg_turn.proofs.Standing.{enter_at}
use Rattle.dg_turn.proofs.Environment.{bit_few}
use Rattle.dg_turn.proofs.Staying.{mid_same}
use Rattle.dg_turn.proofs.Rows.{InRegisters, regs_of, regs_stay, length_map}
use Rattle.dg_turn.proofs.Terms.{capped_is, caps, writes_terms}
use Rattle.dg_turn.proofs.Framing.{inside_rule, framed_in}
use Rattle.dg_turn.proofs.Suiting.{AllSuit, matchers_length, matchers_are, head_suits}
use Rattle.dg_turn.proofs.Matching.{Goes, unifies}
use Rattle.dg_turn.proofs.Ends.{next_small, concludes}
use Rattle.dg_turn.proofs.Moving.{moves, closes}

-- ## What is older than a rule

-- What is bound, the newest mark and the arguments of a call have no variables but those of a machine.
record Older (call : Call) (m : Mid) : Type 0 where
  young : m.state.since ≤ m.state.vars
  below : top_of_pairs m.state.subst ≤ m.state.vars
  arguments : top_of_values call.args ≤ m.state.vars

args_top : (sh : Shape) (c : ℕ → ℕ) (k : ℕ) (vs : List Value) → InRegisters sh c k vs → top_of_values vs ≤ sh.vars
args_top sh c k [] h = omega arith
args_top sh c k (v ∷ vs) h = omega (arith, shows_top h.0, args_top sh c (suc k) vs h.1)

are_older : (t : Telling) {outer : ℕ → ℕ} (sh : Shape) (c : ℕ → ℕ) (trail : List ℕ) (call : Call) (m : Mid) → MidIn t outer sh c trail m → CallAt t sh c call → Older call m
are_older t sh c trail call m mid call_is =
    let s = mid.state in
    let vars = s.vars in
    let old = mid.marked.old in
    let below = stands_top c m.state.subst s.stands s.known in
    let args = args_top sh c 16 call.args (regs_of sh c 16 call.args call_is.args_are) in
    record { young = omega arith; below = omega arith; arguments = omega arith }

-- ## The head

-- The head was written and matched.
record Headed (t : Telling) (outer : ℕ → ℕ) (f w : ℕ) (body acts' : List Act) (memory typed output : List ℕ) (drawn y : ℕ) (m : Mid) (most : ℕ) : Type 0 where
  memory' : List ℕ
  cells' : ℕ → ℕ
  sh' : Shape
  trail' : List ℕ
  holds : Holds t.p.world.layout memory' cells'
  mid : MidIn t outer sh' cells' trail' m
  count : ℕ
  few : count ≤ most
  runs : ActsRun t.p f w body acts' (state memory [] typed drawn output) (Returns y) (state memory' [] typed drawn output) count

-- Or the trail's limit was met.
record HeadFull (t : Telling) (f w : ℕ) (body acts' : List Act) (memory typed output : List ℕ) (drawn last most : ℕ) : Type 0 where
  memory' : List ℕ
  locals' : List ℕ
  count : ℕ
  few : count ≤ most + closing_most
  runs : ActsRun t.p f w body acts' (state memory [] typed drawn output) (Stops AtQuit) (state memory' locals' typed drawn (output ++ closing last TrailLimit)) count

module _ (t : Telling) {outer : ℕ → ℕ} (has : HasRunTime t.p) (words : (k : ℕ) → t.p.names.routine k < 65536) (f w : ℕ) (some : 3400 ≤ f) (enough : 16700 ≤ w) (body : List Act) (memory typed output : List ℕ) (drawn behind : ℕ) (sh : Shape) (c : ℕ → ℕ) (trail : List ℕ) (m : Mid) (xs : List Value) (head : List Term) (h : Holds t.p.world.layout memory c) (mid : MidIn t outer sh c trail m) (clash : c 13 ≡ 0) (args_are : InRegisters sh c 16 xs) (fits : length xs ≡ length head) (short : length head ≤ 12) (nodes : AreNodes t.program (nodes_of head)) (room : m.state.heap + cells_of t.program head ≤ 10000) (vars b : ℕ) (own : vars_of m.frames ≡ new_vars vars b) (young : m.state.since ≤ b) (below : top_of_pairs m.state.subst ≤ b) (older : top_of_values xs ≤ b) where
  abbrev taken : ℕ
  taken = cells_of t.program head

  abbrev values : List Value
  values = map (value_of t.program (vars_of m.frames)) head

  abbrev u : Unified
  u = solve m.state.subst (zip xs values)

  abbrev most : ℕ
  most = written_in t.program head + price m.state.subst (zip xs values) + 6 * length head + 10

  abbrev rest2 : List Act
  rest2 = unifying_acts 32 64 (matchers 0 head) ++ last_acts behind

  suits : AllSuit b (matchers 0 head) xs values
  suits =
      let none : b + 0 ≡ b = omega arith in
      subst (λ (k : ℕ). AllSuit k (matchers 0 head) xs values) none
      (subst (λ (env : List Value). AllSuit (b + 0) (matchers 0 head) xs (map (value_of t.program env) head)) (sym own) (head_suits t.program vars b 0 head xs nodes older))

  abbrev written : Wrote t outer f w body rest2 (head_acts t.program head behind) sh memory typed output drawn c trail m taken 64 values (written_in t.program head + 6)
  written = writes_terms t has f w sh memory typed output drawn c trail m h mid body (omega arith) (omega arith) rest2 64 head (omega arith) (omega arith) (λ q. (omega arith)) nodes room

  matching : Goes t outer f w body (last_acts behind) rest2 written.sh' written.memory' typed output drawn written.cells' (more taken m) u (price m.state.subst (zip xs values) + 6 * length head)
  matching =
      let w1 = written in
      let size = length_map t.program (vars_of m.frames) head in
      let args_there = regs_stay sh w1.sh' c w1.cells' w1.grown 16 xs (λ j low lt. w1.others j (λ e. (omega arith)) (λ e. (omega arith)) (λ e. (omega arith)) (λ q. (omega arith)) (omega arith)) args_are in
      let clash' : w1.cells' 13 ≡ 0 = w1.others 13 (λ e. (omega arith)) (λ e. (omega arith)) (λ e. (omega arith)) (λ q. (omega arith)) (omega arith) ∙ clash in
      unifies t outer has f w some enough w1.sh' typed output drawn body (last_acts behind) (length head) 32 64 (matchers 0 head) b w1.memory' w1.cells' trail (more taken m) xs values (matchers_length 0 head) fits size (matchers_are 0 head) suits w1.holds w1.mid clash' (omega arith) (omega arith) (omega arith) (omega arith) young below args_there (regs_of w1.sh' w1.cells' 48 values w1.words)

  heads : trail_more m.state u ≤ 2000 → Headed t outer f w body (head_acts t.program head behind) memory typed output drawn (agreed_next t.p behind u.agrees) (bound u (more taken m)) most
  heads few =
      let w1 = written in
      let k = matching.matched few in
      let last = concludes t.p has words f w (omega arith) (omega arith) body k.memory' typed output drawn behind k.cells' k.holds u.agrees k.clash in
      let few2 = w1.few in
      let few3 = k.few in
      let e1 = steps_are w1.count (steps k.count 4) in
      let e2 = steps_are k.count 4 in
      record {
        memory' = last.memory';
        cells' = last.cells';
        sh' = w1.sh';
        trail' = k.trail';
        holds = last.holds;
        mid = mid_same t w1.sh' k.cells' last.cells' k.trail' (bound u (more taken m)) (λ j ne far. last.others j (λ (e : j ≡ 36). (let q : 302 < j = far.1 (omega arith) in omega arith))) k.mid;
        count = steps w1.count (steps k.count 4);
        few = omega arith;
        runs = w1.runs (Returns (agreed_next t.p behind u.agrees)) (state last.memory' [] typed drawn output) (steps k.count 4) (k.runs (Returns (agreed_next t.p behind u.agrees)) (state last.memory' [] typed drawn output) 4 last.runs);
      }

  head_full : 2000 < trail_more m.state u → HeadFull t f w body (head_acts t.program head behind) memory typed output drawn (c 28) most
  head_full over =
      let w1 = written in
      let k = matching.full over in
      let few2 = w1.few in
      let few3 = k.few in
      let e1 = steps_are w1.count k.count in
      let last : w1.cells' 28 ≡ c 28 = w1.others 28 (λ e. (omega arith)) (λ e. (omega arith)) (λ e. (omega arith)) (λ q. (omega arith)) (omega arith) in
      record {
        memory' = k.memory';
        locals' = k.locals';
        count = steps w1.count k.count;
        few = omega arith;
        runs = subst (λ (i : ℕ). ActsRun t.p f w body (head_acts t.program head behind) (state memory [] typed drawn output) (Stops AtQuit) (state k.memory' k.locals' typed drawn (output ++ closing i TrailLimit)) (steps w1.count k.count)) last
            (w1.runs (Stops AtQuit) (state k.memory' k.locals' typed drawn (output ++ closing (w1.cells' 28) TrailLimit)) k.count k.runs);
      }

-- ## The frame

-- A frame was made, and its rule is at hand.
record Framed (t : Telling) (outer : ℕ → ℕ) (f w : ℕ) (memory typed output : List ℕ) (drawn : ℕ) (c : ℕ → ℕ) (trail : List ℕ) (call : Call) (m : Mid) (vars n : ℕ) : Type 0 where
  memory' : List ℕ
  cells' : ℕ → ℕ
  locals' : List ℕ
  sh' : Shape
  holds : Holds t.p.world.layout memory' cells'
  mid : MidIn t outer sh' cells' trail (inside_rule call vars m)
  clash : cells' 13 ≡ 0
  args_are : InRegisters sh' cells' 16 call.args
  last : cells' 28 ≡ c 28
  count : ℕ
  few : count ≤ 4 * vars + 22
  runs : ActsRun t.p f w ENTER_ACTS ENTER_ACTS (state memory (vars ∷ n ∷ 0 ∷ 0 ∷ []) typed drawn output) (Returns 0) (state memory' locals' typed drawn output) count

enters : (t : Telling) {outer : ℕ → ℕ} → HasRunTime t.p → (f w : ℕ) (memory typed output : List ℕ) (drawn : ℕ) (sh : Shape) (c : ℕ → ℕ) (trail : List ℕ) (call : Call) (m : Mid) (vars n : ℕ) → Holds t.p.world.layout memory c → MidIn t outer sh c trail m → CallAt t sh c call → length call.args ≤ 12 → m.state.heap + (6 + vars + n) ≤ 10000 → Framed t outer f w memory typed output drawn c trail call m vars n
enters t has f w memory typed output drawn sh c trail call m vars n h mid call_is short room =
    let top = mid.state.heap in
    let many = bit_few call.many in
    let many_is = call_is.many_is in
    let fr = enter_works.enters t.p has f w memory typed output drawn vars n c sh.top h (mid.heap ∙ sym top) (omega arith) (omega arith) in
    let inside = framed_in t sh c fr.cells' trail m call vars mid (omega arith) call_is.next_is call_is.cut_is many_is fr.heap fr.frame fr.inner fr.row fr.vars fr.others in
    record {
      memory' = fr.memory';
      cells' = fr.cells';
      locals' = fr.locals';
      sh' = inside.sh';
      holds = fr.holds;
      mid = inside.mid;
      clash = fr.clash;
      args_are = regs_stay sh inside.sh' c fr.cells' inside.grown 16 call.args (λ j low lt. fr.others j (λ e. (omega arith)) (λ e. (omega arith)) (λ e. (omega arith)) (λ e. (omega arith)) (λ q. (omega arith))) (regs_of sh c 16 call.args call_is.args_are);
      last = fr.others 28 (λ e. (omega arith)) (λ e. (omega arith)) (λ e. (omega arith)) (λ e. (omega arith)) (λ q. (omega arith));
      count = fr.count;
      few = fr.few;
      runs = fr.runs;
    }

-- the heap of a machine inside a rule
same_rule : (program : CoreProgram) (call : Call) (vars : ℕ) (head : List Term) (m : Mid) → bound (head_unified program call vars head m) (more (cells_of program head) (inside_rule call vars m)) ≡ entered program call vars head (head_unified program call vars head m) m
same_rule program call vars head m =
    let u = head_unified program call vars head m in
    let sum : m.state.heap + (6 + vars) + cells_of program head ≡ m.state.heap + (6 + vars + cells_of program head) = omega arith in
    ap (λ (k : ℕ). record m { state = record m.state { vars = m.state.vars + vars; heap = k; subst = u.subst; trail = trail_more m.state u }; frames = new_frame call vars m ∷ m.frames; inner = [] }) sum

-- ## The turn

module _ (t : Telling) (plays : Playing t) (out : Outside) (call : Call) (vars : ℕ) (head : List Term) (behind : ℕ) (m : Mid) (z : ZState) (e : Entering t out call vars head behind m z) where
  abbrev r : Represented t out e.x m z
  r = e.rep

  abbrev n : ℕ
  n = cells_of t.program head

  abbrev body : List Act
  body = acts.Call None (atoms.Routine ENTER) (args.Two (atoms.Num vars) (atoms.Num (capped n))) ∷ head_acts t.program head behind

  abbrev old : Older call m
  old = are_older t r.sh r.cells r.trail call m r.mid e.call_is

  -- the number of cells is as it is where they fit the heap
  frame : m.state.heap + (6 + vars + n) ≤ 10000 → Framed t out.words 0 0 r.memory out.typed out.output out.drawn r.cells r.trail call m vars (capped n)
  frame room =
      let same = capped_is n (omega arith) in
      let short = e.short in
      let fits = e.fits in
      enters t plays.has 0 0 r.memory out.typed out.output out.drawn r.sh r.cells r.trail call m vars (capped n) r.holds r.mid e.call_is (omega arith) (omega arith)

  turn : m.state.heap + (6 + vars + n) ≤ 10000 → trail_more m.state (head_unified t.program call vars head m) ≤ 2000 → Comes t out (agreed_next t.p behind (head_unified t.program call vars head m).agrees) (entered t.program call vars head (head_unified t.program call vars head m) m) (entering_most t.program call vars head m) z
  turn room few =
      let u = head_unified t.program call vars head m in
      let fr = frame room in
      let k = heads t plays.has plays.words 3500 19000 (omega arith) (omega arith) body fr.memory' out.typed out.output out.drawn behind fr.sh' fr.cells' r.trail (inside_rule call vars m) call.args head fr.holds fr.mid fr.clash fr.args_are e.fits e.short e.nodes (omega arith) vars m.state.vars refl old.young old.below old.arguments few in
      let y = agreed_next t.p behind u.agrees in
      let few1 = fr.few in
      let few2 = k.few in
      moves t plays out e.x m z r (enter_routine t.program vars head behind) e.there (omega arith) y (suc fr.count + k.count) (entering_most t.program call vars head m) k.memory' [] k.cells' k.sh' k.trail' (entered t.program call vars head u m)
      (calls {f' = 0} {w' = 0} {n = fr.count} {n' = k.count} {xs = (vars, capped n, 0)} {s1 = state fr.memory' fr.locals' out.typed out.drawn out.output} {s2 = state fr.memory' [] out.typed out.drawn out.output} refl refl (enter_at t.p plays.has) (omega arith) (omega arith) fr.runs refl k.runs)
      k.holds (next_small t.p plays.words behind u.agrees) (subst (MidIn t out.words k.sh' k.cells' k.trail') (same_rule t.program call vars head m) k.mid) (omega arith)

  full : m.state.heap + (6 + vars + n) ≤ 10000 → 2000 < trail_more m.state (head_unified t.program call vars head m) → Closes t out TrailLimit (entering_most t.program call vars head m + closing_most) z
  full room over =
      let fr = frame room in
      let k = head_full t plays.has plays.words 3500 19000 (omega arith) (omega arith) body fr.memory' out.typed out.output out.drawn behind fr.sh' fr.cells' r.trail (inside_rule call vars m) call.args head fr.holds fr.mid fr.clash fr.args_are e.fits e.short e.nodes (omega arith) vars m.state.vars refl old.young old.below old.arguments over in
      let few1 = fr.few in
      let few2 = k.few in
      closes t plays out e.x m z r (enter_routine t.program vars head behind) e.there (omega arith) (suc fr.count + k.count) (entering_most t.program call vars head m + closing_most) TrailLimit k.memory' k.locals'
      (calls {f' = 0} {w' = 0} {n = fr.count} {n' = k.count} {xs = (vars, capped n, 0)} {s1 = state fr.memory' fr.locals' out.typed out.drawn out.output} {s2 = state fr.memory' [] out.typed out.drawn out.output} refl refl (enter_at t.p plays.has) (omega arith) (omega arith) fr.runs refl
      (subst (λ (i : ℕ). ActsRun t.p 3500 19000 body (head_acts t.program head behind) (state fr.memory' [] out.typed out.drawn out.output) (Stops AtQuit) (state k.memory' k.locals' out.typed out.drawn (out.output ++ closing i TrailLimit)) k.count) fr.last k.runs))
      (omega arith)

  no_room : vars ≤ 300 → 10000 < m.state.heap + (6 + vars + n) → Closes t out HeapLimit (10 + closing_most) z
  no_room small over =
      let k = caps (m.state.heap + (6 + vars)) n (omega arith) in
      let few = k.few in
      let passes = k.passes in
      let low = r.mid.state.few in
      let q = enter_works.meets t.p plays.has 3000 18000 (omega arith) r.memory out.typed out.output out.drawn vars (capped n) r.cells m.state.heap r.holds r.mid.heap low small few (omega arith) in
      let few1 = q.few in
      closes t plays out e.x m z r (enter_routine t.program vars head behind) e.there (omega arith) (suc q.count) (10 + closing_most) HeapLimit q.memory' []
      (calls_last {f' = 3000} {w' = 18000} {n = q.count} {xs = (vars, capped n, 0)} refl refl (enter_at t.p plays.has) (omega arith) (omega arith) q.runs)
      (omega arith)

pub enter_turns : EnterTurns
enter_turns = record {
  enters = λ t plays out call vars head behind m z e room few. turn t plays out call vars head behind m z e room few;
  meets_heap = λ t plays out call vars head behind m z e small over. no_room t plays out call vars head behind m z e small over;
  meets_trail = λ t plays out call vars head behind m z e room over. full t plays out call vars head behind m z e room over;
}
