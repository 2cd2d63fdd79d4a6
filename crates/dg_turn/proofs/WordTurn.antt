-- A value is made of a word or a list, if there is one, and unified with a term, in one turn.
use Rattle.std.proofs.Common.{◌≡◌, ◌≢◌, ℕ, suc, ◌+◌, ◌-◌, ◌*◌, ◌<◌, ◌≤◌, inl, inr, false, List, [], ◌∷◌, ◌++◌, map, take, Option, Some, None, refl, sym, ap, ◌∙◌, subst, ◌⊎◌, arith}
use Rattle.std.specs.Prelude.{◌==◌, if◌then◌else◌}
use Rattle.std.proofs.lemmas.Bool.{cases_lt, ne_eqb, cond-false}
use Rattle.dg_base.specs.declared.program.Term.{Term}
use Rattle.dg_base.specs.declared.run.Ending.TheVariants.{HeapLimit, TrailLimit}
use Rattle.dg_meaning.specs.Cells.{cells as cells_of}
use Rattle.dg_meaning.specs.Copies.{copy_cells}
use Rattle.dg_meaning.specs.Substitutions.{Substitution}
use Rattle.dg_meaning.specs.Unify.{Unified}
use Rattle.dg_meaning.specs.Values.{Value}
use Rattle.dg_mid.specs.State.{Mid}
use Rattle.dg_mid.specs.Step.{bound, trail_more, more}
use Rattle.z_model.specs.declared.end.Halt.TheVariants.{AtQuit}
use Rattle.z_model.specs.Flow.{zeros}
use Rattle.z_model.specs.Run.{ZState}
use Rattle.z_lang.specs.declared.act.Act.{Act}
use Rattle.z_lang.specs.declared.act.Act.TheVariants as acts
use Rattle.z_lang.specs.declared.act.Args.TheVariants as args
use Rattle.z_lang.specs.declared.act.Atom.TheVariants as atoms
use Rattle.z_lang.specs.declared.act.Routine.{Routine}
use Rattle.z_lang.specs.State.{Program, State}
use Rattle.z_lang.specs.Runs.{ActsRun, ActsOutcome, Returns, Stops, Rests, rests, calls, calls_last}
use Rattle.dg_rt.specs.declared.numbers.TheConstants.{FAIL, MADE}
use Rattle.dg_rt.specs.declared.splitting.TheConstants.{MADE_ACTS}
use Rattle.dg_rt.specs.inside.Walks.{steps}
use Rattle.dg_rt.specs.Cells.{Holds, with_cell, replaced}
use Rattle.dg_rt.specs.Areas.{heap_at, state}
use Rattle.dg_rt.specs.Charges.{MeetsLimit}
use Rattle.dg_rt.specs.Closings.{closing, closing_most}
use Rattle.dg_rt.specs.Making.{IsGiven, LaysNone, LaysOn, MadeWorks}
use Rattle.dg_rt.specs.Operands.{no_value}
use Rattle.dg_rt.specs.RunTime.{routine_of, HasRunTime}
use Rattle.dg_rt.specs.Shapes.{Shape, IsShape, Shows, number, dict, object, nil, variable, boxed}
use Rattle.dg_rt.specs.Unifies.{price}
use Rattle.dg_rt.proofs.Cells.{other_cell, same_cell}
use Rattle.dg_rt.proofs.Following.{word as word_is, register, puts}
use Rattle.dg_rt.proofs.Grows.{grown_shows}
use Rattle.dg_rt.proofs.UnifySteps.{steps_are}
use Rattle.dg_turn.specs.Told.{Telling}
use Rattle.dg_turn.specs.Lies.{StateIn, MidIn}
use Rattle.dg_turn.specs.Plays.{Playing, Outside, Represented, Closes}
use Rattle.dg_turn.specs.Rest.{aux_end}
use Rattle.dg_turn.specs.Terms.{written_in, Wrote}
use Rattle.dg_turn.specs.Turns.{agreed_next, match_acts, last_acts}
use Rattle.dg_turn.specs.Operating.{term_value, InFront}
use Rattle.dg_turn.specs.World.{value_equation, value_unified}
use Rattle.dg_turn.specs.Typing.{HasTables}
use Rattle.dg_turn.specs.Wording.{word_routine, wording_most, worded_most, ComesLined, Wording}
use Rattle.dg_turn.proofs.Ends.{next_small, concludes}
use Rattle.dg_turn.proofs.Growing.{stands_same}
use Rattle.dg_turn.proofs.Grows.{mid_grown}
use Rattle.dg_turn.proofs.InputTurn.{acts_keep, joined, joined_low, joined_high}
use Rattle.dg_turn.proofs.Matching.{Goes, matches, skips}
use Rattle.dg_turn.proofs.Moving.{moves_to, closes}
use Rattle.dg_turn.proofs.Staying.{IsKept, mid_same}
use Rattle.dg_turn.proofs.Terms.{writes_terms, meets_terms}
use Rattle.dg_turn.proofs.Within.{mid_world}

-- the word of a value is below the mark of none
shown_low : {sh : Shape} → IsShape sh → {x : ℕ} {v : Value} → Shows sh x v → x < 60000
shown_low is (number n lt) = omega arith
shown_low is (dict n lt) = omega arith
shown_low is (object n lt) = omega arith
shown_low is nil = omega arith
shown_low is (variable n lt) = let w = is.within n lt in omega arith
shown_low is (boxed k h lt at c b) = omega arith

-- A routine makes a value, or none; where there is no room for it the heap's limit is met.
pub record Makes (p : Program) (f w : ℕ) (acts : List Act) (memory locals typed output : List ℕ) (drawn : ℕ) (cells : ℕ → ℕ) (sh : Shape) (S : Substitution) (made : Option Value) (most : ℕ) : Type 0 where
  pub nothing : made ≡ None → LaysNone p f w acts memory locals typed output drawn cells most
  pub lays : (v : Value) → made ≡ Some v → sh.top + copy_cells v ≤ 10000 → LaysOn p f w acts memory locals typed output drawn cells sh S v most
  pub meets : (v : Value) → made ≡ Some v → 10000 < sh.top + copy_cells v → MeetsLimit p f w acts memory locals typed output drawn cells most

made_at : (p : Program) → HasRunTime p → p.routine_at (p.names.routine MADE) ≡ Some (routine_of 1 MADE_ACTS)
made_at p has = has.each (MADE - 1) (routine_of 1 MADE_ACTS) refl

module _ (made_works : MadeWorks) (t : Telling) (plays : Playing t) (out : Outside) (maker many : ℕ) (making : List Act) (a b : Term) (behind : ℕ) (made : Option Value) (cost : ℕ) (m : Mid) (z : ZState) (e : InFront t out (word_routine t.program maker a b behind) (a ∷ b ∷ []) m z) where
  abbrev r : Represented t out e.x m z
  r = e.rep

  abbrev ts : List Term
  ts = a ∷ b ∷ []

  abbrev n : ℕ
  n = cells_of t.program ts

  abbrev vb : Value
  vb = term_value t.program m b

  abbrev routine : Routine
  routine = word_routine t.program maker a b behind

  abbrev matching : List Act
  matching = match_acts 33 52 1 ++ last_acts behind

  abbrev rest2 : List Act
  rest2 = acts.Call (Some 52) (atoms.Routine MADE) (args.One (atoms.Var 52)) ∷ matching

  abbrev rest1 : List Act
  rest1 = acts.Call (Some 52) (atoms.Routine maker) (args.One (atoms.Var 32)) ∷ rest2

  abbrev now : List ℕ → State
  now memory = state memory [] out.typed out.drawn out.output

  abbrev Run : List Act → State → ActsOutcome → State → ℕ → Type 0
  Run acts s o s' k = ActsRun t.p 3500 19000 routine.body acts s o s' k

  abbrev pub Written : Type 0
  Written = Wrote t out.words 3500 19000 routine.body rest1 routine.body r.sh r.memory out.typed out.output out.drawn r.cells r.trail m n 32 (map (term_value t.program m) ts) (written_in t.program ts + 6)

  -- what the routine is given, and what it makes
  abbrev pub given : Written → List ℕ
  given w1 = take many (w1.cells' 16 ∷ 0 ∷ 0 ∷ zeros)

  abbrev pub MadeOf : Written → Type 0
  MadeOf w1 = Makes t.p 3400 15000 making w1.memory' (given w1) out.typed out.output out.drawn w1.cells' w1.sh' m.state.subst made cost

  written : m.state.heap + n ≤ 10000 → Written
  written room = writes_terms t plays.has 3500 19000 r.sh r.memory out.typed out.output out.drawn r.cells r.trail m r.holds r.mid routine.body (omega arith) (omega arith) rest1 32 ts (omega arith) (omega arith) (λ q. absurd (omega arith)) e.nodes room

  no_room : 10000 < m.state.heap + n → Closes t out HeapLimit (10 + closing_most) z
  no_room over =
      let k = meets_terms t plays.has 3500 19000 r.sh r.memory out.typed out.output out.drawn r.cells r.trail m r.holds r.mid routine.body (omega arith) (omega arith) rest1 32 ts over in
      let few = k.few in
      closes t plays out e.x m z r routine e.there (omega arith) k.count (10 + closing_most) HeapLimit k.memory' k.locals' k.runs (omega arith)

  -- the word of the first term is given, in a story that has the tables
  pub is_given : HasTables t → (w1 : Written) → IsGiven t.p t.story t.program.words w1.memory' w1.cells' w1.sh' m.state.subst (w1.cells' 16) (term_value t.program m a)
  is_given tables w1 =
      let s = w1.mid.state in
      record {
        told = record {
          has = plays.has;
          told = λ memory place lt few kept.
              let same = s.told place in
              tables.captures.told memory place lt (omega arith) kept ∙ ap (λ (i : ℕ). Some i) (sym same);
        };
        spelled = tables.words;
        holds = w1.holds;
        kept = acts_keep t plays e.x routine e.there refl r.memory out.typed out.output out.drawn r.kept (Rests rest1) (now w1.memory') (steps w1.count 0) (w1.runs (Rests rest1) (now w1.memory') 0 rests);
        shape = s.shape;
        low = s.low;
        stands = s.stands;
        known = s.known;
        heap = w1.mid.heap ∙ sym s.heap;
        shows = w1.words.0;
      }

  module _ (stands : t.p.routine_at (t.p.names.routine maker) ≡ Some (routine_of many making)) (fits : many ≤ 15) (w1 : Written) (law : MadeOf w1) where
    -- words outside are as they were but for those of the line
    lined : (c : ℕ → ℕ) → ((k : ℕ) → aux_end ≤ k → (15315 ≤ k → 15945 ≤ k) → c k ≡ w1.cells' k) → (k : ℕ) → (15315 ≤ k → 15945 ≤ k) → joined out.words c k ≡ out.words k
    lined c same k far = by_side (cases_lt k aux_end)
      where
        by_side : (k < aux_end) ⊎ (aux_end ≤ k) → joined out.words c k ≡ out.words k
        by_side (inl lt) = joined_low out.words c k lt
        by_side (inr le) = joined_high out.words c k le ∙ same k le far ∙ w1.mid.rest.outside.areas k le

    -- ## What was answered

    -- What a routine answered was put where it is matched, and it was told whether that is a value.
    record Answered (x count1 : ℕ) (cells1 : ℕ → ℕ) : Type 0 where
      memory' : List ℕ
      cells' : ℕ → ℕ
      holds : Holds t.p.world.layout memory' cells'
      clash : cells' 13 ≡ (if x == no_value then 1 else 0)
      word : cells' 36 ≡ x
      others : (j : ℕ) → j ≢ 13 → j ≢ 36 → cells' j ≡ cells1 j
      count : ℕ
      few : count ≤ 4
      to_match : (o : ActsOutcome) (s' : State) (j : ℕ) → Run matching (now memory') o s' j → Run routine.body (now r.memory) o s' (steps w1.count (suc count1 + (suc count + j)))

    answered : (x count1 : ℕ) (memory1 locals1 : List ℕ) (cells1 : ℕ → ℕ) → x < 65536 → Holds t.p.world.layout memory1 cells1 → ActsRun t.p 3400 15000 making making (state w1.memory' (given w1) out.typed out.drawn out.output) (Returns x) (state memory1 locals1 out.typed out.drawn out.output) count1 → Answered x count1 cells1
    answered x count1 memory1 locals1 cells1 small h runs =
        let high = plays.has.mapped.room in
        let put1 = puts t.p (now memory1) cells1 52 x h (omega arith) (omega arith) (omega arith) small in
        let memory2 = with_cell memory1 36 x in
        let c2 = replaced cells1 36 x in
        let k = made_works t.p plays.has 3400 15000 memory2 out.typed out.output out.drawn x c2 put1.holds in
        let put2 = puts t.p (now k.memory') k.cells' 52 x k.holds (omega arith) (omega arith) (omega arith) small in
        let memory4 = with_cell k.memory' 36 x in
        record {
          memory' = memory4;
          cells' = replaced k.cells' 36 x;
          holds = put2.holds;
          clash = other_cell k.cells' 36 x 13 (λ q. (omega arith)) ∙ k.clash;
          word = same_cell k.cells' 36 x;
          others = λ j n13 n36. other_cell k.cells' 36 x j n36 ∙ k.others j n13 ∙ other_cell cells1 36 x j n36;
          count = k.count;
          few = k.few;
          to_match = λ o s' j go. w1.runs o s' (suc count1 + (suc k.count + j))
              (calls {f' = 3400} {w' = 15000} {n = count1} {n' = suc k.count + j} {xs = (w1.cells' 16, 0, 0)} {s1 = state memory1 locals1 out.typed out.drawn out.output} {s2 = now memory2} refl
              (rw (register t.p (now w1.memory') w1.cells' 32 w1.holds (omega arith) (omega arith) (omega arith)) refl) stands (omega arith) (omega arith) runs put1.put_is
              (calls {f' = 3400} {w' = 15000} {n = k.count} {n' = j} {xs = (x, 0, 0)} {s1 = state k.memory' (x ∷ []) out.typed out.drawn out.output} {s2 = now memory4} refl
              (rw (register t.p (now memory2) c2 52 put1.holds (omega arith) (omega arith) (omega arith) ∙ ap word_is (same_cell cells1 36 x)) refl) (made_at t.p plays.has) (omega arith) (omega arith) k.runs put2.put_is go));
        }

    -- ## None is made

    nothing : made ≡ None → ComesLined t out (t.p.names.routine FAIL) (more n m) (wording_most t.program a b cost) z
    nothing is =
        let g = law.nothing is in
        let k = answered 65535 g.count g.memory' g.locals' g.cells' (omega arith) g.holds g.runs in
        let c3 = k.cells' in
        let one : c3 13 ≡ 1 = k.clash in
        let stays : (j : ℕ) → j ≢ 13 → j ≢ 36 → (15315 ≤ j → 15945 ≤ j) → c3 j ≡ w1.cells' j = λ j n13 n36 far. k.others j n13 n36 ∙ g.others j far in
        let words3 = joined out.words c3 in
        let mid3 : MidIn t words3 w1.sh' c3 r.trail (more n m) = mid_world t w1.sh' w1.cells' c3 r.trail (more n m) words3
        (λ j n0 kept lt. stays j (λ (q : j ≡ 13). (let y = kept.0 (omega arith) in omega arith)) (λ (q : j ≡ 36). (let y = kept.1 (omega arith) in omega arith)) (λ q. absurd (omega arith)))
        (λ j lt. joined_low out.words c3 j lt) (λ j le. sym (joined_high out.words c3 j le)) w1.mid in
        let last = concludes t.p plays.has plays.words 3500 19000 (omega arith) (omega arith) routine.body k.memory' out.typed out.output out.drawn behind c3 k.holds false one in
        let y = t.p.names.routine FAIL in
        let skip = skips t words3 plays.has 3500 19000 (omega arith) (omega arith) w1.sh' out.typed out.output out.drawn routine.body (last_acts behind) 1 33 52 k.memory' c3 k.holds (omega arith) (omega arith) (omega arith) (omega arith) (λ (q : c3 13 ≡ 0). (omega arith)) (Returns y) (now last.memory') 4 last.runs in
        let few1 = w1.few in
        let few2 = g.few in
        let few3 = k.few in
        let e1 = steps_are w1.count (suc g.count + (suc k.count + steps (3 * 1) 4)) in
        let e2 = steps_are (3 * 1) 4 in
        record {
          words' = words3;
          others = lined c3 (λ j le far. stays j (λ q. (omega arith)) (λ q. (omega arith)) far);
          comes = moves_to t plays out e.x m z r routine e.there (omega arith) (record out { words = words3 }) y (steps w1.count (suc g.count + (suc k.count + steps (3 * 1) 4))) (wording_most t.program a b cost) last.memory' [] last.cells' w1.sh' r.trail (more n m)
              (k.to_match (Returns y) (now last.memory') (steps (3 * 1) 4) skip)
              last.holds (next_small t.p plays.words behind false) (mid_same t w1.sh' c3 last.cells' r.trail (more n m) (λ j ne far. last.others j (λ (q : j ≡ 36). (let v = far.1 (omega arith) in omega arith))) mid3) (omega arith);
        }

    -- ## A value is made

    module _ (v : Value) (is : made ≡ Some v) where
      -- there is no room for it
      value_full : 10000 < m.state.heap + n + copy_cells v → Closes t out HeapLimit (worded_most t.program a b v cost m + closing_most) z
      value_full over =
          let heap = w1.mid.state.heap in
          let g = law.meets v is (omega arith) in
          let few1 = w1.few in
          let few2 = g.few in
          let e1 = steps_are w1.count (suc g.count) in
          let text : w1.cells' 28 ≡ r.cells 28 = w1.others 28 (λ x. (omega arith)) (λ x. (omega arith)) (λ x. (omega arith)) (λ x. (omega arith)) (omega arith) in
          closes t plays out e.x m z r routine e.there (omega arith) (steps w1.count (suc g.count)) (worded_most t.program a b v cost m + closing_most) HeapLimit g.memory' []
          (w1.runs (Stops AtQuit) (state g.memory' [] out.typed out.drawn (out.output ++ closing (r.cells 28) HeapLimit)) (suc g.count)
          (calls_last {f' = 3400} {w' = 15000} {n = g.count} {xs = (w1.cells' 16, 0, 0)} {r = routine_of many making} refl
          (rw (register t.p (now w1.memory') w1.cells' 32 w1.holds (omega arith) (omega arith) (omega arith)) refl) stands (omega arith) (omega arith)
          (subst (λ (i : ℕ). ActsRun t.p 3400 15000 making making (state w1.memory' (given w1) out.typed out.drawn out.output) (Stops AtQuit) (state g.memory' [] out.typed out.drawn (out.output ++ closing i HeapLimit)) g.count) text g.runs)))
          (omega arith)

      module _ (room : m.state.heap + n + copy_cells v ≤ 10000) (g : LaysOn t.p 3400 15000 making w1.memory' (given w1) out.typed out.output out.drawn w1.cells' w1.sh' m.state.subst v cost) where
        abbrev m2 : Mid
        m2 = more (copy_cells v) (more n m)

        abbrev u : Unified
        u = value_unified t.program b v m

        low_word : g.word < 60000
        low_word = shown_low g.shape g.shows

        k : Answered g.word g.count g.cells'
        k = answered g.word g.count g.memory' g.locals' g.cells' (let low = low_word in omega arith) g.holds g.runs

        abbrev c3 : ℕ → ℕ
        c3 = k.cells'

        clear : c3 13 ≡ 0
        clear = let low = low_word in k.clash ∙ cond-false (g.word == no_value) 1 0 (ne_eqb g.word no_value (λ q. (omega arith)))

        stays : (j : ℕ) → j ≢ 3 → j ≢ 13 → j ≢ 36 → j ≢ 38 → j ≢ 39 → (heap_at + w1.sh'.top ≤ j → 10315 ≤ j) → (15315 ≤ j → 15945 ≤ j) → c3 j ≡ w1.cells' j
        stays j n3 n13 n36 n38 n39 far far' = k.others j n13 n36 ∙ g.others j n3 n38 n39 far far'

        abbrev words3 : ℕ → ℕ
        words3 = joined out.words c3

        -- words in front of the areas, and those behind as they were
        abbrev hybrid : ℕ → ℕ
        hybrid = joined c3 w1.cells'

        grown_state : StateIn t g.sh' hybrid r.trail m2.state
        grown_state =
            let s = w1.mid.state in
            let top = g.top in
            let heap = s.heap in
            let vars = g.vars in
            let vars' = s.vars in
            record {
              shape = g.shape;
              low = g.low;
              stands = stands_same g.sh' g.cells' hybrid m.state.subst g.low (λ j lt. (let few = g.shape.room in joined_low c3 w1.cells' (heap_at + j) (omega arith) ∙ k.others (heap_at + j) (λ q. (omega arith)) (λ q. (omega arith)))) g.stands;
              known = λ i le. s.known i (omega arith);
              heap = omega arith;
              vars = omega arith;
              trail_len = s.trail_len;
              few = omega arith;
              few_trail = s.few_trail;
              told = λ place. g.grown.told place ∙ s.told place;
            }

        mid_hybrid : MidIn t out.words g.sh' hybrid r.trail m2
        mid_hybrid =
            let heap : hybrid 3 ≡ m2.state.heap = (let a1 = g.heap in let b1 = w1.mid.state.heap in joined_low c3 w1.cells' 3 (omega arith) ∙ k.others 3 (λ q. (omega arith)) (λ q. (omega arith)) ∙ a1 ∙ (omega arith)) in
            mid_grown t w1.sh' g.sh' w1.cells' hybrid r.trail (more n m) m2.state g.grown g.boxes (λ i le lt. (let vars = g.vars in absurd (omega arith))) refl refl heap
            (λ j n0 n3 kept far. by_side j n3 kept far (cases_lt j aux_end)) grown_state w1.mid
          where
            by_side : (j : ℕ) → j ≢ 3 → IsKept j → (heap_at + w1.sh'.top ≤ j → 10315 ≤ j) → (j < aux_end) ⊎ (aux_end ≤ j) → hybrid j ≡ w1.cells' j
            by_side j n3 kept far (inl lt) =
                let few = w1.mid.state.few in
                let top = w1.mid.state.heap in
                joined_low c3 w1.cells' j lt ∙ stays j n3 (λ (q : j ≡ 13). (let y = kept.0 (omega arith) in omega arith)) (λ (q : j ≡ 36). (let y = kept.1 (omega arith) in omega arith)) (λ (q : j ≡ 38). (let y = kept.1 (omega arith) in omega arith)) (λ (q : j ≡ 39). (let y = kept.1 (omega arith) in omega arith)) far (λ q. absurd (omega arith))
            by_side j n3 kept far (inr le) = joined_high c3 w1.cells' j le

        mid3 : MidIn t words3 g.sh' c3 r.trail m2
        mid3 = mid_world t g.sh' hybrid c3 r.trail m2 words3 (λ j n0 kept lt. sym (joined_low c3 w1.cells' j lt)) (λ j lt. joined_low out.words c3 j lt) (λ j le. sym (joined_high out.words c3 j le)) mid_hybrid

        shows_term : Shows g.sh' (c3 17) vb
        shows_term = subst (λ (i : ℕ). Shows g.sh' i vb) (sym (stays 17 (λ q. (omega arith)) (λ q. (omega arith)) (λ q. (omega arith)) (λ q. (omega arith)) (λ q. (omega arith)) (λ q. absurd (omega arith)) (λ q. absurd (omega arith)))) (grown_shows g.grown w1.words.1.0)

        shows_value : Shows g.sh' (c3 36) v
        shows_value = subst (λ (i : ℕ). Shows g.sh' i v) (sym k.word) g.shows

        matched : Goes t words3 3500 19000 routine.body (last_acts behind) matching g.sh' k.memory' out.typed out.output out.drawn c3 m2 u (price m.state.subst (value_equation t.program b v m) + 6 * 1)
        matched = matches t words3 plays.has 3500 19000 (omega arith) (omega arith) g.sh' out.typed out.output out.drawn routine.body (last_acts behind) 1 33 52 k.memory' c3 r.trail m2 (vb ∷ []) (v ∷ []) refl refl k.holds mid3 clear (omega arith) (omega arith) (omega arith) (omega arith) (shows_term, tt) (shows_value, tt)

        all_few : (j all : ℕ) → written_in t.program ts + cost + 20 + j ≤ all → steps w1.count (suc g.count + (suc k.count + j)) ≤ all
        all_few j all le =
            let few1 = w1.few in
            let few2 = g.few in
            let few3 = k.few in
            let e1 = steps_are w1.count (suc g.count + (suc k.count + j)) in
            omega arith

        unified : trail_more m.state u ≤ 2000 → ComesLined t out (agreed_next t.p behind u.agrees) (bound u m2) (worded_most t.program a b v cost m) z
        unified few =
            let g3 = matched.matched few in
            let y = agreed_next t.p behind u.agrees in
            let last = concludes t.p plays.has plays.words 3500 19000 (omega arith) (omega arith) routine.body g3.memory' out.typed out.output out.drawn behind g3.cells' g3.holds u.agrees g3.clash in
            let few4 = g3.few in
            let e2 = steps_are g3.count 4 in
            record {
              words' = words3;
              others = lined c3 (λ j le far. (let top = w1.mid.state.heap in stays j (λ q. (omega arith)) (λ q. (omega arith)) (λ q. (omega arith)) (λ q. (omega arith)) (λ q. (omega arith)) (λ q. (omega arith)) far));
              comes = moves_to t plays out e.x m z r routine e.there (omega arith) (record out { words = words3 }) y (steps w1.count (suc g.count + (suc k.count + steps g3.count 4))) (worded_most t.program a b v cost m) last.memory' [] last.cells' g.sh' g3.trail' (bound u m2)
                  (k.to_match (Returns y) (now last.memory') (steps g3.count 4) (g3.runs (Returns y) (now last.memory') 4 last.runs))
                  last.holds (next_small t.p plays.words behind u.agrees) (mid_same t g.sh' g3.cells' last.cells' g3.trail' (bound u m2) (λ j ne far. last.others j (λ (q : j ≡ 36). (let i = far.1 (omega arith) in omega arith))) g3.mid)
                  (let all = all_few (steps g3.count 4) (worded_most t.program a b v cost m - 2) (omega arith) in omega arith);
            }

        trail_full : 2000 < trail_more m.state u → Closes t out TrailLimit (worded_most t.program a b v cost m + closing_most) z
        trail_full over =
            let g3 = matched.full over in
            let few4 = g3.few in
            let text : c3 28 ≡ r.cells 28 = stays 28 (λ q. (omega arith)) (λ q. (omega arith)) (λ q. (omega arith)) (λ q. (omega arith)) (λ q. (omega arith)) (λ q. absurd (omega arith)) (λ q. absurd (omega arith)) ∙ w1.others 28 (λ q. (omega arith)) (λ q. (omega arith)) (λ q. (omega arith)) (λ q. (omega arith)) (omega arith) in
            closes t plays out e.x m z r routine e.there (omega arith) (steps w1.count (suc g.count + (suc k.count + g3.count))) (worded_most t.program a b v cost m + closing_most) TrailLimit g3.memory' g3.locals'
            (subst (λ (j : ℕ). Run routine.body (now r.memory) (Stops AtQuit) (state g3.memory' g3.locals' out.typed out.drawn (out.output ++ closing j TrailLimit)) (steps w1.count (suc g.count + (suc k.count + g3.count)))) text
            (k.to_match (Stops AtQuit) (state g3.memory' g3.locals' out.typed out.drawn (out.output ++ closing (c3 28) TrailLimit)) g3.count g3.runs))
            (let all = all_few g3.count (worded_most t.program a b v cost m + closing_most - 1) (omega arith) in omega arith)

  pub word_turn : t.p.routine_at (t.p.names.routine maker) ≡ Some (routine_of many making) → many ≤ 15 → ((w1 : Written) → MadeOf w1) → Wording t out a b behind made cost m z
  word_turn stands fits makes = record {
    fails = λ room is. nothing stands fits (written room) (makes (written room)) is;
    unifies = λ v room is few. (let w1 = written (omega arith) in unified stands fits w1 (makes w1) v is room ((makes w1).lays v is (let heap = w1.mid.state.heap in omega arith)) few);
    meets_heap = λ over. no_room over;
    meets_value = λ v room is over. value_full stands fits (written room) (makes (written room)) v is over;
    meets_trail = λ v room is over. (let w1 = written (omega arith) in trail_full stands fits w1 (makes w1) v is room ((makes w1).lays v is (let heap = w1.mid.state.heap in omega arith)) over);
  }
