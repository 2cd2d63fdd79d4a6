-- Rules are found: the first is kept, behind a further one a choice is opened, and behind the last what was kept comes next.
use Rattle.std.proofs.Common.{◌≡◌, ◌≢◌, ℕ, zero, suc, ◌+◌, ◌<◌, ◌≤◌, true, false, List, [], ◌∷◌, ◌++◌, length, Option, Some, None, refl, sym, ap, ◌∙◌, subst, arith}
use Rattle.std.specs.Prelude.{not, ◌==◌, ◌||◌}
use Rattle.dg_base.specs.declared.run.Ending.TheVariants.{HeapLimit}
use Rattle.dg_meaning.specs.Values.{Label, Value}
use Rattle.dg_mid.specs.declared.code.RuleCode.{RuleCode}
use Rattle.dg_mid.specs.Code.{label_of, excluded}
use Rattle.dg_mid.specs.State.{Call, Calls as CallsWay, Mid}
use Rattle.dg_mid.specs.Step.{inside, first_of}
use Rattle.z_model.specs.declared.end.Halt.TheVariants.{AtQuit}
use Rattle.z_model.specs.Run.{ZState}
use Rattle.z_lang.specs.declared.act.Act.{Act}
use Rattle.z_lang.specs.declared.act.Act.TheVariants as acts
use Rattle.z_lang.specs.declared.act.Args.TheVariants as arguments
use Rattle.z_lang.specs.declared.act.Atom.TheVariants as atoms
use Rattle.z_lang.specs.declared.act.Comparison.TheVariants as comparisons
use Rattle.z_lang.specs.State.{State}
use Rattle.z_lang.specs.Acts.{answer_of}
use Rattle.z_lang.specs.Runs.{ActsRun, ActsOutcome, Returns, Stops, taken, done, calls, calls_last, returns, behind_label}
use Rattle.dg_rt.specs.declared.numbers.TheConstants.{FAIL, FOUND, NONE}
use Rattle.dg_rt.specs.declared.rules.TheConstants.{FOUND_ACTS, NONE_ACTS}
use Rattle.dg_rt.specs.Cells.{with_cell, replaced}
use Rattle.dg_rt.specs.Areas.{trail_at, state}
use Rattle.dg_rt.specs.Shapes.{Shape}
use Rattle.dg_rt.specs.Back.{at_place}
use Rattle.dg_rt.specs.RunTime.{routine_of}
use Rattle.dg_rt.specs.Frames.{RowIs}
use Rattle.dg_rt.specs.Rules.{key_word}
use Rattle.dg_rt.specs.Closings.{closing, closing_most}
use Rattle.dg_rt.specs.inside.Walks.{steps}
use Rattle.dg_rt.proofs.Cells.{other_cell, same_cell}
use Rattle.dg_rt.proofs.UnifySteps.{steps_are}
use Rattle.dg_rt.proofs.Following.{IsPut, bool, copies, register, puts, put_1, local_1}
use Rattle.dg_rt.proofs.Finding.{found_works}
use Rattle.dg_rt.proofs.Matching.{none_works}
use Rattle.dg_turn.specs.Told.{Telling, FirstIs, KeyFits, rule_acts, RuleAt, RulesAt}
use Rattle.dg_turn.specs.Lies.{WayIn, MidIn}
use Rattle.dg_turn.specs.Plays.{Playing, Outside, Represented, registers, CallAt, Closes}
use Rattle.dg_turn.specs.Rules.{LooksAt, Selects, EntersAt, NoneTurns, FoundTurns}
use Rattle.dg_turn.proofs.Standing.{found_at, none_at}
use Rattle.dg_turn.proofs.Staying.{mid_same}
use Rattle.dg_turn.proofs.Rows.{length_registers, call_stays, call_grows}
use Rattle.dg_turn.proofs.Keys.{key_tells}
use Rattle.dg_turn.proofs.Opening.{opened_in}
use Rattle.dg_turn.proofs.Moving.{moves, moved, closes}

-- ## Behind the last

pub none_turns : NoneTurns
none_turns = record {
  begins = λ t plays out call key found m z some l.
      let rep = l.rep in
      let small : found < 65536 = subst (λ (y : ℕ). y < 65536) l.found_is (rep.holds.words 12) in
      let is : rep.cells 12 ≢ 0 = λ e. some (sym l.found_is ∙ e) in
      let runs = none_works.begins t.p plays.has.mapped 3500 19000 rep.memory out.typed out.output out.drawn rep.cells rep.holds is in
      let runs' = subst (λ (y : ℕ). ActsRun t.p 3500 19000 NONE_ACTS NONE_ACTS (state rep.memory [] out.typed out.drawn out.output) (Returns y) (state rep.memory [] out.typed out.drawn out.output) 2) l.found_is runs in
      let go = moved t plays out (t.p.names.routine NONE) m z rep (routine_of 0 NONE_ACTS) (none_at t.p plays.has) (omega arith) found 2 rep.memory [] rep.cells rep.sh rep.trail m runs' rep.holds small rep.mid in
      record {
        there = go.there;
        count = 4;
        some = omega arith;
        few = omega arith;
        leads = go.leads;
        rep = go.rep;
        call_is = subst (λ (s : Shape). CallAt t s go.rep.cells call) (sym go.shape_is) (call_stays t rep.sh rep.cells go.rep.cells call (λ k low n12 lt. go.cells_are k (λ e. (omega arith))) l.call_is);
      };
  fails = λ t plays out call key m z l.
      let rep = l.rep in
      let runs = none_works.fails t.p plays.has.mapped 3500 19000 rep.memory out.typed out.output out.drawn rep.cells rep.holds l.found_is in
      moves t plays out (t.p.names.routine NONE) m z rep (routine_of 0 NONE_ACTS) (none_at t.p plays.has) (omega arith) (t.p.names.routine FAIL) 2 4 rep.memory [] rep.cells rep.sh rep.trail m runs rep.holds (plays.words FAIL) rep.mid (omega arith);
}

-- ## A rule that isn't excluded

-- Its acts from the call of the routine that finds on.
abbrev call_part : (enter self next : ℕ) → List Act
call_part enter self next = acts.Call (Some 1) (atoms.Routine FOUND) (arguments.Three (atoms.Routine enter) (atoms.Routine self) (atoms.Routine next)) ∷ acts.Return (atoms.Var 1) ∷ []

-- Its routine comes to that call, with the number of parameters in their register.
record Reaches (t : Telling) (o : Option Label) (n enter self next : ℕ) (memory typed output : List ℕ) (drawn : ℕ) : Type 0 where
  count : ℕ
  few : count ≤ 2
  runs : (ends : ActsOutcome) (s' : State) (k : ℕ) → ActsRun t.p 3500 19000 (rule_acts o n enter self next) (call_part enter self next) (state (with_cell memory 37 n) (0 ∷ []) typed drawn output) ends s' k → ActsRun t.p 3500 19000 (rule_acts o n enter self next) (rule_acts o n enter self next) (state memory (0 ∷ []) typed drawn output) ends s' (steps count k)

module _ (t : Telling) (plays : Playing t) (out : Outside) (r : RuleCode) (rs : List RuleCode) (number : ℕ) (call : Call) (first : Option Value) (key found : ℕ) (m : Mid) (z : ZState) (i : RuleAt (λ n. RulesAt t (length call.args) n rs) t (length call.args) number r) (is_key : FirstIs first key) (in_ : excluded first r.key ≡ false) (l : LooksAt t out number call key found m z) where
  abbrev rep : Represented t out (t.p.names.routine number) m z
  rep = l.rep

  abbrev n : ℕ
  n = length call.args

  abbrev a : ℕ
  a = t.p.names.routine number

  abbrev e : ℕ
  e = t.p.names.routine i.enter

  abbrev b : ℕ
  b = t.p.names.routine i.next

  abbrev memory0 : List ℕ
  memory0 = with_cell rep.memory 37 n

  abbrev cells0 : ℕ → ℕ
  cells0 = replaced rep.cells 37 n

  counted : IsPut t.p (state rep.memory (0 ∷ []) out.typed out.drawn out.output) rep.cells 53 n
  counted = let high = plays.has.mapped.room in let few = i.few in puts t.p (state rep.memory (0 ∷ []) out.typed out.drawn out.output) rep.cells 53 n rep.holds (omega arith) (omega arith) (omega arith) (omega arith)

  free : (k : ℕ) → k ≢ 37 → cells0 k ≡ rep.cells k
  free k ne = other_cell rep.cells 37 n k ne

  mid0 : MidIn t out.words rep.sh cells0 rep.trail m
  mid0 = mid_same t rep.sh rep.cells cells0 rep.trail m (λ j ne far. free j (λ (q : j ≡ 37). (let y : 302 < j = far.1 (omega arith) in omega arith))) rep.mid

  reaches : (o : Option Label) → label_of r.key ≡ o → Reaches t o n i.enter number i.next rep.memory out.typed out.output out.drawn
  unfolding behind_label
  reaches None q = record { count = 1; few = omega arith; runs = λ o s' k rest. done (copies t.p (state rep.memory (0 ∷ []) out.typed out.drawn out.output) (state memory0 (0 ∷ []) out.typed out.drawn out.output) 53 (atoms.Num n) n refl counted.put_is) rest }
  reaches (Some g) q =
      let high = plays.has.mapped.room in
      let s0 = state rep.memory (0 ∷ []) out.typed out.drawn out.output in
      let tells : ((key == 32768) || (key == key_word g)) ≡ true = key_tells first key r.key g q is_key (subst KeyFits q i.fits) ∙ ap not in_ in
      let test : answer_of t.p s0 (record { comparison = comparisons.Either (atoms.Num (key_word g)); first = atoms.Var 27; second = atoms.Num 32768; answer = true }) ≡ Some true =
      rw (register t.p s0 rep.cells 27 rep.holds (omega arith) (omega arith) (omega arith), l.key_is) (ap bool tells) in
      record { count = 2; few = omega arith; runs = λ o s' k rest. taken test refl (done (copies t.p s0 (state memory0 (0 ∷ []) out.typed out.drawn out.output) 53 (atoms.Num n) n refl counted.put_is) rest) }

  -- The routine that finds answers what comes next.
  record Answers (y most : ℕ) (memory' : List ℕ) : Type 0 where
    count : ℕ
    few : count ≤ most
    runs : ActsRun t.p 3500 19000 (rule_acts (label_of r.key) n i.enter number i.next) (rule_acts (label_of r.key) n i.enter number i.next) (state rep.memory (0 ∷ []) out.typed out.drawn out.output) (Returns y) (state memory' (y ∷ []) out.typed out.drawn out.output) count

  answers : (y k : ℕ) (memory' locals' : List ℕ) → ActsRun t.p 3499 18000 FOUND_ACTS FOUND_ACTS (state memory0 (e ∷ a ∷ b ∷ 0 ∷ []) out.typed out.drawn out.output) (Returns y) (state memory' locals' out.typed out.drawn out.output) k → Answers y (k + 4) memory'
  answers y k memory' locals' run =
      let go = reaches (label_of r.key) refl in
      let few = go.few in
      let sum = steps_are go.count (suc k + 1) in
      record {
        count = steps go.count (suc k + 1);
        few = omega arith;
        runs = go.runs (Returns y) (state memory' (y ∷ []) out.typed out.drawn out.output) (suc k + 1)
            (calls {f' = 3499} {w' = 18000} {n = k} {n' = 1} {xs = (e, a, b)} {s1 = state memory' locals' out.typed out.drawn out.output} {s2 = state memory' (y ∷ []) out.typed out.drawn out.output} refl refl (found_at t.p plays.has) (omega arith) (omega arith) run (put_1 t.p memory' 0 y [] out.typed out.drawn out.output) (returns (local_1 t.p memory' y [] out.typed out.drawn out.output)));
      }

  -- The first that is found is kept.
  keeps : found ≡ 0 → Selects t out rs call key (t.at_block r.block) m 10 z
  keeps none =
      let begin : cells0 12 ≡ 0 = free 12 (λ q. (omega arith)) ∙ l.found_is ∙ none in
      let f = found_works.keeps t.p plays.has 3499 18000 memory0 out.typed out.output out.drawn e a b cells0 counted.holds begin (plays.words i.enter) in
      let k = answers b 3 f.memory' (e ∷ a ∷ b ∷ 0 ∷ []) f.runs in
      let go = moved t plays out a m z rep (routine_of 1 (rule_acts (label_of r.key) n i.enter number i.next)) i.is (omega arith) b k.count f.memory' (b ∷ []) f.cells' rep.sh rep.trail m k.runs f.holds (plays.words i.next)
      (mid_same t rep.sh cells0 f.cells' rep.trail m (λ j ne far. f.others j (λ (q : j ≡ 12). (let y = far.0 (omega arith) in omega arith))) mid0) in
      let few = k.few in
      let short = i.few in
      record {
        number = i.next;
        rules_are = i.behind;
        there = go.there;
        count = k.count + 2;
        few = omega arith;
        leads = go.leads;
        looks = record {
          rep = go.rep;
          call_is = subst (λ (s : Shape). CallAt t s go.rep.cells call) (sym go.shape_is) (call_stays t rep.sh rep.cells go.rep.cells call (λ k' low n12 lt. go.cells_are k' (λ q. (omega arith)) ∙ f.others k' n12 ∙ free k' (λ q. (omega arith))) l.call_is);
          key_is = go.cells_are 11 (λ q. (omega arith)) ∙ f.others 11 (λ q. (omega arith)) ∙ free 11 (λ q. (omega arith)) ∙ l.key_is;
          found_is = go.cells_are 12 (λ q. (omega arith)) ∙ f.begin ∙ i.enter_is;
        };
      }

  -- Where the heap has no room for a choice, its limit is met.
  meets : found ≢ 0 → 10000 < m.state.heap + (10 + n) → Closes t out HeapLimit (15 + closing_most) z
  meets some over =
      let heap = mid0.heap in
      let few_cells = mid0.state.few in
      let short = i.few in
      let count = same_cell rep.cells 37 n in
      let begin : cells0 12 ≢ 0 = λ q. some (sym l.found_is ∙ sym (free 12 (λ p. (omega arith))) ∙ q) in
      let f = found_works.meets t.p plays.has 3499 18000 (omega arith) memory0 out.typed out.output out.drawn e a b cells0 m.state.heap counted.holds begin heap few_cells (omega arith) (omega arith) in
      let go = reaches (label_of r.key) refl in
      let few = go.few in
      let few' = f.few in
      let sum = steps_are go.count (suc f.count) in
      let last = free 28 (λ q. (omega arith)) in
      closes t plays out a m z rep (routine_of 1 (rule_acts (label_of r.key) n i.enter number i.next)) i.is (omega arith) (steps go.count (suc f.count)) (15 + closing_most) HeapLimit f.memory' []
      (subst (λ (y : ℕ). ActsRun t.p 3500 19000 (rule_acts (label_of r.key) n i.enter number i.next) (rule_acts (label_of r.key) n i.enter number i.next) (state rep.memory (0 ∷ []) out.typed out.drawn out.output) (Stops AtQuit) (state f.memory' [] out.typed out.drawn (out.output ++ closing y HeapLimit)) (steps go.count (suc f.count))) last
      (go.runs (Stops AtQuit) (state f.memory' [] out.typed out.drawn (out.output ++ closing (cells0 28) HeapLimit)) (suc f.count)
      (calls_last {f' = 3499} {w' = 18000} {n = f.count} {xs = (e, a, b)} refl refl (found_at t.p plays.has) (omega arith) (omega arith) f.runs)))
      (omega arith)

-- the words of registers, of which there are fewer
pub row_front : (c c' : ℕ → ℕ) (at k n m : ℕ) → n ≤ m → RowIs c' at (registers c k m) → RowIs c' at (registers c k n)
row_front c c' at k zero m le h = tt
row_front c c' at k (suc n) zero le h = absurd (omega arith)
row_front c c' at k (suc n) (suc m) le h = (h.0, row_front c c' (suc at) (suc k) n m (omega arith) h.1)

module _ (t : Telling) (plays : Playing t) (out : Outside) (r : RuleCode) (rs : List RuleCode) (number : ℕ) (call : Call) (key found : ℕ) (m : Mid) (z : ZState) (i : RuleAt (λ n. RulesAt t (length call.args) n rs) t (length call.args) number r) (is_key : FirstIs (first_of m.state.subst call) key) (in_ : excluded (first_of m.state.subst call) r.key ≡ false) (l : LooksAt t out number call key found m z) where
  -- A choice is opened.
  opens : found ≢ 0 → call.cut.height ≡ m.state.heap → m.state.heap + (10 + length call.args) ≤ 10000 → EntersAt t out found call (inside (CallsWay call (r ∷ rs)) (length call.args) m) 50 z
  opens some cut room =
      let p = t.p in
      let rep = l.rep in
      let n = length call.args in
      let c0 = replaced rep.cells 37 n in
      let few = i.few in
      let top = rep.sh.top in
      let heap_is = rep.mid.state.heap in
      let e = p.names.routine i.enter in
      let a = p.names.routine number in
      let b = p.names.routine i.next in
      let h0 = counted t plays out r rs number call (first_of m.state.subst call) key found m z i is_key in_ l in
      let keep = free t plays out r rs number call (first_of m.state.subst call) key found m z i is_key in_ l in
      let mid1 = mid0 t plays out r rs number call (first_of m.state.subst call) key found m z i is_key in_ l in
      let begin : c0 12 ≢ 0 = λ q. some (sym l.found_is ∙ sym (keep 12 (λ p. (omega arith))) ∙ q) in
      let is_found : c0 12 ≡ found = keep 12 (λ q. (omega arith)) ∙ l.found_is in
      let many = same_cell rep.cells 37 n in
      let o = found_works.opens p plays.has 3499 18000 (with_cell rep.memory 37 n) out.typed out.output out.drawn e a b c0 top h0.holds begin (mid1.heap ∙ sym heap_is) (omega arith) (plays.words number) in
      let args = registers c0 16 n in
      let call0 = call_stays t rep.sh rep.cells c0 call (λ k low n12 lt. keep k (λ q. (omega arith))) l.call_is in
      let row = o.row in
      let way : WayIn t rep.sh a args (c0 8) (at_place m.state.heap) (c0 10) (c0 11) m.state.subst (CallsWay call (r ∷ rs)) = record {
        number = number;
        routine_is = refl;
        rules_are = i;
        call_is = record { args_are = call0.args_are; next_is = call0.next_is; cut_is = ap at_place (sym cut); many_is = call0.many_is };
        key_is = subst (FirstIs (first_of m.state.subst call)) (sym (keep 11 (λ q. (omega arith)) ∙ l.key_is)) is_key;
      } in
      let words : RowIs o.cells' (top + 0) (c0 5 ∷ a ∷ c0 4 ∷ c0 6 ∷ c0 7 ∷ c0 1 ∷ c0 29 ∷ c0 8 ∷ c0 10 ∷ c0 11 ∷ args) =
      (row.0, (row.1.0, (row.1.1.0, (row.1.1.1.0, (row.1.1.1.1.0, (row.1.1.1.1.1.0, (row.1.1.1.1.1.1.0, (row.1.1.1.1.1.1.1.0, (row.1.1.1.1.1.1.1.1.0, (row.1.1.1.1.1.1.1.1.1.0, row_front c0 o.cells' (suc (suc (suc (suc (suc (suc (suc (suc (suc (suc (top + 0))))))))))) 16 n 12 (omega arith) row.1.1.1.1.1.1.1.1.1.1)))))))))) in
      let d = opened_in t rep.sh c0 o.cells' rep.trail m (CallsWay call (r ∷ rs)) n a (c0 8) (c0 10) (c0 11) args mid1 room (length_registers c0 16 n) refl way tt (o.heap ∙ omega arith) o.choice o.mark words (λ k n0 n2 n3 n5 mid' far. o.others k n3 n5 n2 (λ low. (let z' : trail_at ≤ k = far low in omega arith))) in
      let small : found < 65536 = subst (λ (y : ℕ). y < 65536) l.found_is (rep.holds.words 12) in
      let run = subst (λ (y : ℕ). ActsRun p 3499 18000 FOUND_ACTS FOUND_ACTS (state (with_cell rep.memory 37 n) (e ∷ a ∷ b ∷ 0 ∷ []) out.typed out.drawn out.output) (Returns y) (state o.memory' o.locals' out.typed out.drawn out.output) 32) is_found o.runs in
      let k = answers t plays out r rs number call (first_of m.state.subst call) key found m z i is_key in_ l found 32 o.memory' o.locals' run in
      let go = moved t plays out a m z rep (routine_of 1 (rule_acts (label_of r.key) n i.enter number i.next)) i.is (omega arith) found k.count o.memory' (found ∷ []) o.cells' d.sh' rep.trail (inside (CallsWay call (r ∷ rs)) n m) k.runs o.holds small d.mid in
      let few' = k.few in
      let stays : (j : ℕ) → 8 ≤ j → j < 303 → o.cells' j ≡ c0 j = λ j low lt. o.others j (λ q. (omega arith)) (λ q. (omega arith)) (λ q. (omega arith)) (λ q. (omega arith)) in
      let call1 = call_stays t rep.sh c0 go.rep.cells call (λ j low n12 lt. go.cells_are j (λ q. (omega arith)) ∙ stays j low (omega arith)) call0 in
      record {
        there = go.there;
        count = k.count + 2;
        some = omega arith;
        few = omega arith;
        leads = go.leads;
        rep = go.rep;
        call_is = subst (λ (s : Shape). CallAt t s go.rep.cells call) (sym go.shape_is) (call_grows t d.grown (registers go.rep.cells 16 n) (go.rep.cells 8) (go.rep.cells 9) (go.rep.cells 10) call call1);
      }

pub found_turns : FoundTurns
found_turns = record {
  keeps = λ t plays out r rs number call first key m z i is_key in_ l. keeps t plays out r rs number call first key 0 m z i is_key in_ l refl;
  opens = λ t plays out r rs number call key found m z i is_key in_ some cut room l. opens t plays out r rs number call key found m z i is_key in_ l some cut room;
  meets = λ t plays out r rs number call first key found m z i is_key in_ some over l. meets t plays out r rs number call first key found m z i is_key in_ l some over;
}
