-- A change of the world is a turn.
use Rattle.std.proofs.Common.{◌≡◌, ℕ, suc, ◌+◌, ◌<◌, ◌≤◌, ◌⊎◌, inl, inr, List, [], ◌∷◌, length, map, Option, Some, refl, sym, ap, ◌∙◌, arith}
use Rattle.std.specs.Prelude.{nat_lt, is_some, if◌then◌else◌}
use Rattle.std.proofs.lemmas.Bool.{cases_lt, lt-ltb, le-ltb, cond-true, cond-false}
use Rattle.dg_base.specs.declared.program.Term.{Term}
use Rattle.dg_base.specs.declared.run.Ending.TheVariants.{HeapLimit}
use Rattle.dg_meaning.specs.Cells.{cells as cells_of}
use Rattle.dg_meaning.specs.Facts.{Fact, Alteration}
use Rattle.dg_meaning.specs.Values.{Value}
use Rattle.dg_mid.specs.State.{Mid}
use Rattle.dg_mid.specs.Step.{more}
use Rattle.z_model.specs.Run.{ZState}
use Rattle.z_lang.specs.declared.act.Act.{Act}
use Rattle.z_lang.specs.declared.act.Act.TheVariants as acts
use Rattle.z_lang.specs.declared.act.Args.{Args}
use Rattle.z_lang.specs.declared.act.Atom.TheVariants as atoms
use Rattle.z_lang.specs.declared.act.Routine.{Routine}
use Rattle.z_lang.specs.State.{State}
use Rattle.z_lang.specs.Acts.{arguments}
use Rattle.z_lang.specs.Runs.{ActsRun, Returns, routine_entered, left_with, calls, returns}
use Rattle.dg_rt.specs.inside.Walks.{steps}
use Rattle.dg_rt.specs.Cells.{with_cell, replaced, Holds}
use Rattle.dg_rt.specs.Areas.{state}
use Rattle.dg_rt.specs.Changes.{facts_behind}
use Rattle.dg_rt.specs.Closings.{closing_most}
use Rattle.dg_rt.proofs.Cells.{other_cell, same_cell}
use Rattle.dg_rt.proofs.Following.{word as word_is, register, puts}
use Rattle.dg_rt.proofs.UnifySteps.{steps_are}
use Rattle.dg_turn.specs.Told.{Telling}
use Rattle.dg_turn.specs.Plays.{Playing, Outside, Represented, Closes}
use Rattle.dg_turn.specs.Rest.{aux_end}
use Rattle.dg_turn.specs.Terms.{written_in, Wrote}
use Rattle.dg_turn.specs.Turns.{agreed_next}
use Rattle.dg_turn.specs.Operating.{term_value, deciding_routine, InFront}
use Rattle.dg_turn.specs.World.{world_at, world_end, FactsIn, Changes, Changing}
use Rattle.dg_turn.proofs.Ends.{next_small}
use Rattle.dg_turn.proofs.Moving.{moves_to, closes}
use Rattle.dg_turn.proofs.Places.{facts_same}
use Rattle.dg_turn.proofs.Terms.{writes_terms, meets_terms}
use Rattle.dg_turn.proofs.Within.{mid_world}

-- ## One routine changes the world

-- A routine that is called changes words of the world alone, which then stand for these facts, and answers this.
pub record ChangedBy (t : Telling) (out : Outside) (decider : ℕ) (given : Args) (memory : List ℕ) (cells : ℕ → ℕ) (facts : List Fact) (y most : ℕ) : Type 0 where
  pub xs : ℕ × ℕ × ℕ
  pub given_is : arguments t.p (state memory [] out.typed out.drawn out.output) given ≡ Some xs
  pub called : Routine
  pub stands : t.p.routine_at (t.p.names.routine decider) ≡ Some called
  pub few_locals : called.locals ≤ 4
  pub memory' : List ℕ
  pub cells' : ℕ → ℕ
  pub holds : Holds t.p.world.layout memory' cells'
  pub inside : (k : ℕ) → (world_at ≤ k → world_end t.program ≤ k) → cells' k ≡ cells k
  pub facts_in : FactsIn t.program facts cells'
  pub locals' : List ℕ
  pub count : ℕ
  pub few : count ≤ most
  pub runs : ActsRun t.p 3400 15000 called.body called.body (routine_entered (state memory [] out.typed out.drawn out.output) called.locals xs) (Returns y) (state memory' locals' out.typed out.drawn out.output) count

-- The words outside of these, and behind what is gathered those.
abbrev pub joined : (ℕ → ℕ) → (ℕ → ℕ) → ℕ → ℕ
joined outer cells k = if nat_lt k aux_end then outer k else cells k

pub joined_low : (outer cells : ℕ → ℕ) (k : ℕ) → k < aux_end → joined outer cells k ≡ outer k
joined_low outer cells k lt = cond-true (nat_lt k aux_end) (outer k) (cells k) (lt-ltb k aux_end lt)

pub joined_high : (outer cells : ℕ → ℕ) (k : ℕ) → aux_end ≤ k → joined outer cells k ≡ cells k
joined_high outer cells k le = cond-false (nat_lt k aux_end) (outer k) (cells k) (le-ltb k aux_end le)

module _ (t : Telling) (plays : Playing t) (out : Outside) (ts : List Term) (few_terms : length ts ≤ 12) (decider : ℕ) (given : Args) (behind : ℕ) (change : Option Alteration) (facts : List Fact) (m : Mid) (z : ZState) (facts_out : FactsIn t.program facts out.words) (e : InFront t out (deciding_routine t.program ts decider given) ts m z) where
  abbrev r : Represented t out e.x m z
  r = e.rep

  abbrev n : ℕ
  n = cells_of t.program ts

  abbrev routine : Routine
  routine = deciding_routine t.program ts decider given

  abbrev last : List Act
  last = acts.Call (Some 52) (atoms.Routine decider) given ∷ acts.Return (atoms.Var 52) ∷ []

  abbrev now : List ℕ → State
  now memory = state memory [] out.typed out.drawn out.output

  abbrev vs : List Value
  vs = map (term_value t.program m) ts

  abbrev y : ℕ
  y = agreed_next t.p behind (is_some change)

  abbrev Written : Type 0
  Written = Wrote t out.words 3500 19000 routine.body last routine.body r.sh r.memory out.typed out.output out.drawn r.cells r.trail m n 32 vs (written_in t.program ts + 6)

  -- the world is in memory behind the terms
  facts_here : (w1 : Written) → FactsIn t.program facts w1.cells'
  facts_here w1 = facts_same t.program facts out.words w1.cells' (λ k le. w1.mid.rest.outside.areas k le) facts_out

  changed : (most all : ℕ) → written_in t.program ts + most + 10 ≤ all → (w1 : Written) → ChangedBy t out decider given w1.memory' w1.cells' (facts_behind change facts) y most → Changes t out behind change facts (more n m) all z
  changed most all le w1 k =
      let high = plays.has.mapped.room in
      let small = next_small t.p plays.words behind (is_some change) in
      let put = puts t.p (left_with (now w1.memory') (state k.memory' k.locals' out.typed out.drawn out.output)) k.cells' 52 y k.holds (omega arith) (omega arith) (omega arith) small in
      let memory2 = with_cell k.memory' 36 y in
      let c2 = replaced k.cells' 36 y in
      let words = joined out.words c2 in
      let out' : Outside = record out { words = words } in
      let mid2 = mid_world t w1.sh' w1.cells' c2 r.trail (more n m) words (λ j ne far lt. other_cell k.cells' 36 y j (λ (q : j ≡ 36). (let a = far.1 (omega arith) in omega arith)) ∙ k.inside j (λ le. absurd (omega arith))) (λ j lt. joined_low out.words c2 j lt) (λ j le. sym (joined_high out.words c2 j le)) w1.mid in
      let fit = k.few_locals in
      let few1 = w1.few in
      let few2 = k.few in
      let e1 = steps_are w1.count (suc k.count + 1) in
      let others_stay : (j : ℕ) → (world_at ≤ j → world_end t.program ≤ j) → (j < aux_end) ⊎ (aux_end ≤ j) → words j ≡ out.words j = λ j far side. elim side [
        | inl lt ↦ joined_low out.words c2 j lt
        | inr le ↦ joined_high out.words c2 j le ∙ other_cell k.cells' 36 y j (λ (q : j ≡ 36). (omega arith)) ∙ k.inside j far ∙ w1.mid.rest.outside.areas j le
      ] in
      record {
        outer = record {
          words' = words;
          others = λ j far. others_stay j far (cases_lt j aux_end);
          facts_in = facts_same t.program (facts_behind change facts) k.cells' words (λ j low. joined_high out.words c2 j low ∙ other_cell k.cells' 36 y j (λ (q : j ≡ 36). (omega arith))) k.facts_in;
        };
        comes = moves_to t plays out e.x m z r routine e.there (omega arith) out' y (steps w1.count (suc k.count + 1)) all memory2 [] c2 w1.sh' r.trail (more n m)
            (w1.runs (Returns y) (now memory2) (suc k.count + 1)
            (calls {f' = 3400} {w' = 15000} {n = k.count} {n' = 1} {xs = k.xs} {s1 = state k.memory' k.locals' out.typed out.drawn out.output} {s2 = now memory2} refl k.given_is k.stands (omega arith) (omega arith) k.runs put.put_is
            (returns (register t.p (now memory2) c2 52 put.holds (omega arith) (omega arith) (omega arith) ∙ ap word_is (same_cell k.cells' 36 y)))))
            put.holds small mid2 (omega arith);
      }

  no_room : 10000 < m.state.heap + n → Closes t out HeapLimit (10 + closing_most) z
  no_room over =
      let k = meets_terms t plays.has 3500 19000 r.sh r.memory out.typed out.output out.drawn r.cells r.trail m r.holds r.mid routine.body (omega arith) (omega arith) last 32 ts over in
      let few = k.few in
      closes t plays out e.x m z r routine e.there (omega arith) k.count (10 + closing_most) HeapLimit k.memory' k.locals' k.runs (omega arith)

  pub changing : (most all : ℕ) → written_in t.program ts + most + 10 ≤ all → ((w1 : Written) → FactsIn t.program facts w1.cells' → ChangedBy t out decider given w1.memory' w1.cells' (facts_behind change facts) y most) → Changing t out ts behind change facts all m z
  changing most all le by = record {
    changes = λ room. changed most all le (written room) (by (written room) (facts_here (written room)));
    meets = λ over. no_room over;
  }
    where
      written : m.state.heap + n ≤ 10000 → Written
      written room = writes_terms t plays.has 3500 19000 r.sh r.memory out.typed out.output out.drawn r.cells r.trail m r.holds r.mid routine.body (omega arith) (omega arith) last 32 ts (omega arith) (omega arith) (λ q. absurd (omega arith)) e.nodes room
