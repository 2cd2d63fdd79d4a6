-- The routine of a closure's body: it comes to what enters the body, or fails.
use Rattle.std.proofs.Common.{◌≡◌, ◌≢◌, ℕ, suc, ◌+◌, ◌<◌, ◌≤◌, true, false, List, [], ◌∷◌, length, refl, sym, ap, ◌∙◌, subst, arith}
use Rattle.std.proofs.lemmas.Bool.{eq-eqb, ne_eqb}
use Rattle.dg_meaning.specs.Values.{Value}
use Rattle.dg_mid.specs.declared.code.BodyCode.{BodyCode}
use Rattle.dg_mid.specs.State.{Call, Mid}
use Rattle.z_model.specs.Run.{ZState}
use Rattle.z_lang.specs.declared.act.Act.{Act}
use Rattle.z_lang.specs.declared.act.Atom.TheVariants as atoms
use Rattle.z_lang.specs.declared.act.Comparison.TheVariants as comparisons
use Rattle.z_lang.specs.Leads.{Leads}
use Rattle.z_lang.specs.State.{State}
use Rattle.z_lang.specs.Runs.{ActsRun, Returns, taken, passed, done, calls, returns, behind_label, left_with}
use Rattle.dg_rt.specs.declared.numbers.TheConstants.{FAIL, ENTER_BODY}
use Rattle.dg_rt.specs.declared.closures.TheConstants.{IF_BODY_ACTS}
use Rattle.dg_rt.specs.Cells.{with_cell, replaced, Holds}
use Rattle.dg_rt.specs.Areas.{state}
use Rattle.dg_rt.specs.Shapes.{Shape, Shows}
use Rattle.dg_rt.proofs.Cells.{other_cell, same_cell}
use Rattle.dg_rt.proofs.Following.{word as word_is, tested, copies, register, puts, local_1, local_2, local_3}
use Rattle.dg_turn.specs.Told.{Telling}
use Rattle.dg_turn.specs.Lies.{bit_of, WordsIn}
use Rattle.dg_turn.specs.Plays.{Playing, Outside, Represented, registers}
use Rattle.dg_turn.specs.Bodies.{FindsAt, body_routine, BodyAt}
use Rattle.dg_turn.proofs.Moving.{moved}
use Rattle.dg_turn.proofs.Rows.{registers_same}
use Rattle.dg_turn.proofs.Standing.{if_body_at}
use Rattle.dg_turn.proofs.Staying.{mid_same}

module _ (t : Telling) (plays : Playing t) (out : Outside) (number place : ℕ) (c : BodyCode) (call : Call) (v : Value) (m : Mid) (z : ZState) (b : BodyAt t number place c) (f : FindsAt t out number call v m z) where
  abbrev rep : Represented t out (t.p.names.routine number) m z
  rep = f.rep

  abbrev block : ℕ
  block = t.p.names.routine b.block

  abbrev now : List ℕ → State
  now memory = state memory [] out.typed out.drawn out.output

  abbrev inner : List ℕ → State
  inner memory = state memory ((49152 + place) ∷ c.own ∷ block ∷ []) out.typed out.drawn out.output

  abbrev acts' : List Act
  acts' = (body_routine place c.own b.block).body

  -- The routine answered another: a register has its word.
  pub record Answers (y n : ℕ) (memory : List ℕ) (cells : ℕ → ℕ) : Type 0 where
    pub memory' : List ℕ
    pub cells' : ℕ → ℕ
    pub holds : Holds t.p.world.layout memory' cells'
    pub others : (k : ℕ) → k ≢ 36 → cells' k ≡ cells k
    pub runs : ActsRun t.p 3500 19000 acts' acts' (now rep.memory) (Returns y) (now memory') n

  answers : (y n : ℕ) → y < 65536 → (memory : List ℕ) (cells : ℕ → ℕ) → Holds t.p.world.layout memory cells → ActsRun t.p 3400 18000 IF_BODY_ACTS IF_BODY_ACTS (inner rep.memory) (Returns y) (inner memory) n → Answers y (suc n + 1) memory cells
  answers y n small memory cells h runs =
      let high = plays.has.mapped.room in
      let put = puts t.p (left_with (now rep.memory) (inner memory)) cells 52 y h (omega arith) (omega arith) (omega arith) small in
      let memory2 = with_cell memory 36 y in
      record {
        memory' = memory2;
        cells' = replaced cells 36 y;
        holds = put.holds;
        others = λ k ne. other_cell cells 36 y k ne;
        runs = calls {f' = 3400} {w' = 18000} {n = n} {n' = 1} {xs = (49152 + place, c.own, block)} {s1 = inner memory} {s2 = now memory2} refl refl (if_body_at t.p plays.has) (omega arith) (omega arith) runs put.put_is
            (returns (register t.p (now memory2) (replaced cells 36 y) 52 put.holds (omega arith) (omega arith) (omega arith) ∙ ap word_is (same_cell cells 36 y)));
      }

  -- with another key it fails
  pub other_body : rep.cells 11 ≢ 49152 + place → Answers (t.p.names.routine FAIL) 4 rep.memory rep.cells
  unfolding behind_label
  other_body other =
      let high = plays.has.mapped.room in
      answers (t.p.names.routine FAIL) 2 (plays.words FAIL) rep.memory rep.cells rep.holds
      (passed (tested t.p (inner rep.memory) comparisons.Equal (atoms.Var 27) (atoms.Var 1) true (rep.cells 11) (49152 + place) false (register t.p (inner rep.memory) rep.cells 27 rep.holds (omega arith) (omega arith) (omega arith)) (local_1 t.p rep.memory (49152 + place) (c.own ∷ block ∷ []) out.typed out.drawn out.output) (ne_eqb (rep.cells 11) (49152 + place) other)) (returns refl))

  -- The player is in front of what enters the body: the call is in registers, how many variables of its own the body has, and with which routine it
  -- goes on.
  pub record Reaches : Type 0 where
    pub there : ZState
    pub leads : Leads t.p.world 8 z there
    pub rep' : Represented t out (t.p.names.routine ENTER_BODY) m there
    pub shown : Shows rep'.sh (rep'.cells 15) v
    pub args_are : length call.args ≤ 1 → WordsIn rep'.sh (registers rep'.cells 16 (length call.args)) call.args
    pub count_is : rep'.cells 37 ≡ length call.args
    pub next_is : rep'.cells 8 ≡ t.at_block call.next
    pub many_is : rep'.cells 10 ≡ bit_of call.many
    pub own_is : rep'.cells 49 ≡ c.own
    pub block_is : rep'.cells 50 ≡ block

  pub reaches : rep.cells 11 ≡ 49152 + place → Reaches
  unfolding behind_label
  reaches same =
      let high = plays.has.mapped.room in
      let few = b.few in
      let y = t.p.names.routine ENTER_BODY in
      let first = puts t.p (inner rep.memory) rep.cells 65 c.own rep.holds (omega arith) (omega arith) (omega arith) (omega arith) in
      let m1 = with_cell rep.memory 49 c.own in
      let c1 = replaced rep.cells 49 c.own in
      let second = puts t.p (inner m1) c1 66 block first.holds (omega arith) (omega arith) (omega arith) (plays.words b.block) in
      let m2 = with_cell m1 50 block in
      let c2 = replaced c1 50 block in
      let k = answers y 4 (plays.words ENTER_BODY) m2 c2 second.holds
      (taken (tested t.p (inner rep.memory) comparisons.Equal (atoms.Var 27) (atoms.Var 1) true (rep.cells 11) (49152 + place) true (register t.p (inner rep.memory) rep.cells 27 rep.holds (omega arith) (omega arith) (omega arith)) (local_1 t.p rep.memory (49152 + place) (c.own ∷ block ∷ []) out.typed out.drawn out.output) (eq-eqb (rep.cells 11) (49152 + place) same)) refl
      (done (copies t.p (inner rep.memory) (inner m1) 65 (atoms.Var 2) c.own (local_2 t.p rep.memory (49152 + place) c.own (block ∷ []) out.typed out.drawn out.output) first.put_is)
      (done (copies t.p (inner m1) (inner m2) 66 (atoms.Var 3) block (local_3 t.p m1 (49152 + place) c.own block [] out.typed out.drawn out.output) second.put_is)
      (returns refl)))) in
      let stay : (j : ℕ) → j ≢ 36 → j ≢ 49 → j ≢ 50 → k.cells' j ≡ rep.cells j = λ j n36 n49 n50. k.others j n36 ∙ other_cell c1 50 block j n50 ∙ other_cell rep.cells 49 c.own j n49 in
      let go = moved t plays out (t.p.names.routine number) m z rep (body_routine place c.own b.block) b.is (omega arith) y 6 k.memory' [] k.cells' rep.sh rep.trail m k.runs k.holds (plays.words ENTER_BODY)
      (mid_same t rep.sh rep.cells k.cells' rep.trail m (λ j ne far. stay j (λ (q : j ≡ 36). (let x : 302 < j = far.1 (omega arith) in omega arith)) (λ (q : j ≡ 49). (let x : 302 < j = far.1 (omega arith) in omega arith)) (λ (q : j ≡ 50). (let x : 302 < j = far.1 (omega arith) in omega arith))) rep.mid) in
      let on : (j : ℕ) → j ≢ 0 → j ≢ 36 → j ≢ 49 → j ≢ 50 → go.rep.cells j ≡ rep.cells j = λ j n0 n36 n49 n50. go.cells_are j n0 ∙ stay j n36 n49 n50 in
      record {
        there = go.there;
        leads = go.leads;
        rep' = go.rep;
        shown = subst (λ (s : Shape). Shows s (go.rep.cells 15) v) (sym go.shape_is) (subst (λ (w : ℕ). Shows rep.sh w v) (sym (on 15 (λ q. (omega arith)) (λ q. (omega arith)) (λ q. (omega arith)) (λ q. (omega arith)))) f.shown);
        args_are = λ short. subst (λ (s : Shape). WordsIn s (registers go.rep.cells 16 (length call.args)) call.args) (sym go.shape_is) (subst (λ (l : List ℕ). WordsIn rep.sh l call.args) (sym (registers_same rep.cells go.rep.cells 16 (length call.args) (λ j low lt. on j (λ q. (omega arith)) (λ q. (omega arith)) (λ q. (omega arith)) (λ q. (omega arith))))) f.args_are);
        count_is = on 37 (λ q. (omega arith)) (λ q. (omega arith)) (λ q. (omega arith)) (λ q. (omega arith)) ∙ f.count_is;
        next_is = on 8 (λ q. (omega arith)) (λ q. (omega arith)) (λ q. (omega arith)) (λ q. (omega arith)) ∙ f.next_is;
        many_is = on 10 (λ q. (omega arith)) (λ q. (omega arith)) (λ q. (omega arith)) (λ q. (omega arith)) ∙ f.many_is;
        own_is = go.cells_are 49 (λ q. (omega arith)) ∙ k.others 49 (λ q. (omega arith)) ∙ other_cell c1 50 block 49 (λ q. (omega arith)) ∙ same_cell rep.cells 49 c.own;
        block_is = go.cells_are 50 (λ q. (omega arith)) ∙ k.others 50 (λ q. (omega arith)) ∙ same_cell c1 50 block;
      }
