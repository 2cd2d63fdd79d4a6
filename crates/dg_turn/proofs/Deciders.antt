-- A query of objects by a decision: it is answered at once, or the first object is tried.
use Rattle.std.proofs.Common.{◌≡◌, ◌≢◌, ℕ, suc, ◌+◌, ◌-◌, ◌*◌, ◌<◌, ◌≤◌, Bool, List, [], ◌∷◌, ◌++◌, length, map, Some, refl, sym, ap, ◌∙◌, subst, arith}
use Rattle.dg_base.specs.declared.program.Term.{Term}
use Rattle.dg_base.specs.declared.run.Ending.TheVariants.{HeapLimit}
use Rattle.dg_meaning.specs.Cells.{cells as cells_of}
use Rattle.dg_meaning.specs.Substitutions.{Substitution, walk, links}
use Rattle.dg_meaning.specs.Values.{Label, Value, Var, Node, Values}
use Rattle.dg_mid.specs.State.{Mid}
use Rattle.dg_mid.specs.Step.{more}
use Rattle.z_model.specs.Run.{ZState}
use Rattle.z_lang.specs.declared.act.Act.{Act}
use Rattle.z_lang.specs.declared.act.Act.TheVariants as acts
use Rattle.z_lang.specs.declared.act.Args.{Args}
use Rattle.z_lang.specs.declared.act.Atom.TheVariants as atoms
use Rattle.z_lang.specs.State.{Program, State}
use Rattle.z_lang.specs.Runs.{ActsRun, ActsOutcome, Returns, calls, returns, left_with}
use Rattle.dg_rt.specs.declared.numbers.TheConstants.{SEEK, SOUGHT, IF_OBJECT}
use Rattle.dg_rt.specs.declared.tries.TheConstants.{SEEK_ACTS, SOUGHT_ACTS, IF_OBJECT_ACTS}
use Rattle.dg_rt.specs.inside.Walks.{steps}
use Rattle.dg_rt.specs.Areas.{state}
use Rattle.dg_rt.specs.Cells.{with_cell, replaced, Holds}
use Rattle.dg_rt.specs.Changes.{Argued}
use Rattle.dg_rt.specs.Closings.{closing_most}
use Rattle.dg_rt.specs.RunTime.{routine_of, HasRunTime}
use Rattle.dg_rt.specs.Shapes.{Shape, Shows}
use Rattle.dg_rt.proofs.Cells.{other_cell, same_cell}
use Rattle.dg_rt.proofs.Following.{word as word_is, register, IsPut, puts}
use Rattle.dg_rt.proofs.Seeking.{seek_works}
use Rattle.dg_rt.proofs.UnifySteps.{steps_are}
use Rattle.dg_turn.specs.Told.{Telling}
use Rattle.dg_turn.specs.Lies.{WordsIn, MidIn}
use Rattle.dg_turn.specs.Plays.{Playing, Outside, Represented, registers, Comes, Closes}
use Rattle.dg_turn.specs.Terms.{terms_acts, written_in, Wrote}
use Rattle.dg_turn.specs.Turns.{agreed_next}
use Rattle.dg_turn.specs.Operating.{term_value, InFront, Deciding}
use Rattle.dg_turn.specs.Seeking.{seek_acts, ComesSeeking, SeekingAll}
use Rattle.dg_turn.proofs.DecidingTurn.{Called}
use Rattle.dg_turn.proofs.Ends.{next_small}
use Rattle.dg_turn.proofs.Moving.{moved, moves, closes}
use Rattle.dg_turn.proofs.Rows.{registers_same}
use Rattle.dg_turn.proofs.Staying.{mid_same}
use Rattle.dg_turn.proofs.Terms.{writes_terms, meets_terms}

-- ## Where the routines stand

module _ (p : Program) (has : HasRunTime p) where
  pub seek_stands : p.routine_at (p.names.routine SEEK) ≡ Some (routine_of 3 SEEK_ACTS)
  seek_stands = has.each (SEEK - 1) (routine_of 3 SEEK_ACTS) refl

  pub sought_stands : p.routine_at (p.names.routine SOUGHT) ≡ Some (routine_of 2 SOUGHT_ACTS)
  sought_stands = has.each (SOUGHT - 1) (routine_of 2 SOUGHT_ACTS) refl

  pub if_object_stands : p.routine_at (p.names.routine IF_OBJECT) ≡ Some (routine_of 2 IF_OBJECT_ACTS)
  if_object_stands = has.each (IF_OBJECT - 1) (routine_of 2 IF_OBJECT_ACTS) refl

length_vs : (program : _) (m : Mid) (ts : List Term) → length (map (term_value program m) ts) ≡ length ts
length_vs program m [] = refl
length_vs program m (x ∷ ts) = ap suc (length_vs program m ts)

-- ## Terms are written

module _ (t : Telling) (plays : Playing t) (out : Outside) (a : Term) (others : List Term) (few_terms : length others ≤ 1) (rest1 : List Act) (m : Mid) (z : ZState) (e : InFront t out (routine_of 0 (terms_acts t.program 32 (a ∷ others) ++ rest1)) (a ∷ others) m z) where
  abbrev r : Represented t out e.x m z
  r = e.rep

  abbrev ts : List Term
  ts = a ∷ others

  abbrev n : ℕ
  n = cells_of t.program ts

  abbrev va : Value
  va = term_value t.program m a

  abbrev vs : List Value
  vs = map (term_value t.program m) ts

  abbrev body : List Act
  body = terms_acts t.program 32 ts ++ rest1

  abbrev now : List ℕ → State
  now memory = state memory [] out.typed out.drawn out.output

  abbrev pub Written : Type 0
  Written = Wrote t out.words 3500 19000 body rest1 body r.sh r.memory out.typed out.output out.drawn r.cells r.trail m n 32 vs (written_in t.program ts + 6)

  pub written : m.state.heap + n ≤ 10000 → Written
  written room = writes_terms t plays.has 3500 19000 r.sh r.memory out.typed out.output out.drawn r.cells r.trail m r.holds r.mid body (omega arith) (omega arith) rest1 32 ts (omega arith) (omega arith) (λ q. absurd (omega arith)) e.nodes room

  pub no_room : 10000 < m.state.heap + n → Closes t out HeapLimit (10 + closing_most) z
  no_room over =
      let k = meets_terms t plays.has 3500 19000 r.sh r.memory out.typed out.output out.drawn r.cells r.trail m r.holds r.mid body (omega arith) (omega arith) rest1 32 ts over in
      let few = k.few in
      closes t plays out e.x m z r (routine_of 0 body) e.there (omega arith) k.count (10 + closing_most) HeapLimit k.memory' k.locals' k.runs (omega arith)

  high : 64 + 2 * 15945 ≤ t.p.world.layout.base
  high = plays.has.mapped.room

  -- the first argument stands in its register, where registers behind the arguments alone are others
  pub argued : (w1 : Written) (memory : List ℕ) (c : ℕ → ℕ) → Holds t.p.world.layout memory c → MidIn t out.words w1.sh' c r.trail (more n m) → c 16 ≡ w1.cells' 16 → Argued t.p memory w1.sh' c m.state.subst va
  argued w1 memory c h mid same = record { shape = mid.state.shape; holds = h; stands = mid.state.stands; first = subst (λ (y : ℕ). Shows w1.sh' y va) (sym same) w1.words.0 }

  -- so do all of them
  pub args_there : (w1 : Written) (sh : Shape) (c : ℕ → ℕ) → sh ≡ w1.sh' → ((j : ℕ) → 16 ≤ j → j < 28 → c j ≡ w1.cells' j) → WordsIn sh (registers c 16 (length vs)) vs
  args_there w1 sh c shape same =
      let long = length_vs t.program m ts in
      subst (λ (q : Shape). WordsIn q (registers c 16 (length vs)) vs) (sym shape)
      (subst (λ (l : List ℕ). WordsIn w1.sh' l vs) (sym (registers_same w1.cells' c 16 (length vs) (λ j low lt. same j low (omega arith)))) w1.words)

-- ## By a decision

module _ (t : Telling) (plays : Playing t) (out : Outside) (a : Term) (decider : ℕ) (given : Args) (tries : ℕ) (m : Mid) (z : ZState) (e : InFront t out (routine_of 0 (terms_acts t.program 32 (a ∷ []) ++ (acts.Call (Some 52) (atoms.Routine decider) given ∷ seek_acts tries))) (a ∷ []) m z) where
  abbrev rest1 : List Act
  rest1 = acts.Call (Some 52) (atoms.Routine decider) given ∷ seek_acts tries

  abbrev W : Type 0
  W = Written t plays out a [] (omega arith) rest1 m z e

  abbrev S : Substitution
  S = m.state.subst

  abbrev v0 : Value
  v0 = term_value t.program m a

  abbrev cell_count : ℕ
  cell_count = cells_of t.program (a ∷ [])

  abbrev acts_all : List Act
  acts_all = terms_acts t.program 32 (a ∷ []) ++ rest1

  abbrev here : List ℕ → State
  here memory = state memory [] out.typed out.drawn out.output

  module _ (w1 : W) (y most : ℕ) (y_small : y < 65536) (q : Called t out decider given w1.memory' y most) where
    abbrev m2 : List ℕ
    m2 = with_cell w1.memory' 36 y

    abbrev c2 : ℕ → ℕ
    c2 = replaced w1.cells' 36 y

    put2 : IsPut t.p (left_with (here w1.memory') (state w1.memory' q.locals' out.typed out.drawn out.output)) w1.cells' 52 y
    put2 = let room = plays.has.mapped.room in puts t.p (left_with (here w1.memory') (state w1.memory' q.locals' out.typed out.drawn out.output)) w1.cells' 52 y w1.holds (omega arith) (omega arith) (omega arith) y_small

    mid2 : MidIn t out.words w1.sh' c2 e.rep.trail (more cell_count m)
    mid2 = mid_same t w1.sh' w1.cells' c2 e.rep.trail (more cell_count m) (λ j ne far. other_cell w1.cells' 36 y j (λ (i : j ≡ 36). (let b = far.1 (omega arith) in omega arith))) w1.mid

    arg2 : Argued t.p m2 w1.sh' c2 S v0
    arg2 = argued t plays out a [] (omega arith) rest1 m z e w1 m2 c2 put2.holds mid2 (other_cell w1.cells' 36 y 16 (λ i. (omega arith)))

    -- up to the call that seeks
    to_seek : (o : ActsOutcome) (s' : State) (j : ℕ) → ActsRun t.p 3500 19000 acts_all (seek_acts tries) (here m2) o s' j → ActsRun t.p 3500 19000 acts_all acts_all (here e.rep.memory) o s' (steps w1.count (suc q.count + j))
    to_seek o s' j go = let fit = q.few_locals in w1.runs o s' (suc q.count + j) (calls {f' = 3400} {w' = 15000} {n = q.count} {n' = j} {xs = q.xs} {s1 = state w1.memory' q.locals' out.typed out.drawn out.output} {s2 = here m2} refl q.given_is q.stands (omega arith) (omega arith) q.runs put2.put_is go)

  -- an object is known
  pub decides : (l : Label) (ls : Values) → walk S v0 ≡ Node l ls → (behind : ℕ) (passed : Bool) (most all : ℕ) → written_in t.program (a ∷ []) + most + 5 * links S v0 + 30 ≤ all → ((w1 : W) → Called t out decider given w1.memory' (agreed_next t.p behind passed) most) → Deciding t out (a ∷ []) behind passed all m z
  decides l ls is behind passed most all le by = record {
    decides = λ room. (let w1 = written t plays out a [] (omega arith) rest1 m z e room in decided w1 (by w1));
    meets = λ over. no_room t plays out a [] (omega arith) rest1 m z e over;
  }
    where
      y : ℕ
      y = agreed_next t.p behind passed

      small : y < 65536
      small = next_small t.p plays.words behind passed

      decided : (w1 : W) → Called t out decider given w1.memory' y most → Comes t out y (more cell_count m) all z
      decided w1 q =
          let room = plays.has.mapped.room in
          let at2 = arg2 w1 y most small q in
          let x = t.p.names.routine tries in
          let k = seek_works.one t.p plays.has 3400 15000 (omega arith) (omega arith) (m2 w1 y most small q) out.typed out.output out.drawn w1.sh' (c2 w1 y most small q) S v0 at2 y x l ls is in
          let put = puts t.p (here (m2 w1 y most small q)) (c2 w1 y most small q) 52 y at2.holds (omega arith) (omega arith) (omega arith) small in
          let m3 = with_cell (m2 w1 y most small q) 36 y in
          let c3 = replaced (c2 w1 y most small q) 36 y in
          let few1 = w1.few in
          let few2 = q.few in
          let few3 = k.few in
          let e1 = steps_are w1.count (suc q.count + (suc k.count + 1)) in
          moves t plays out e.x m z e.rep (routine_of 0 acts_all) e.there (omega arith) y (steps w1.count (suc q.count + (suc k.count + 1))) all m3 [] c3 w1.sh' e.rep.trail (more cell_count m)
          (to_seek w1 y most small q (Returns y) (here m3) (suc k.count + 1)
          (calls {f' = 3400} {w' = 15000} {n = k.count} {n' = 1} {xs = (y, x, 0)} {s1 = state (m2 w1 y most small q) k.locals' out.typed out.drawn out.output} {s2 = here m3} refl (rw (register t.p (here (m2 w1 y most small q)) (c2 w1 y most small q) 52 at2.holds (omega arith) (omega arith) (omega arith) ∙ ap word_is (same_cell w1.cells' 36 y)) refl) (seek_stands t.p plays.has) (omega arith) (omega arith) k.runs put.put_is
          (returns (register t.p (here m3) c3 52 put.holds (omega arith) (omega arith) (omega arith) ∙ ap word_is (same_cell (c2 w1 y most small q) 36 y)))))
          put.holds small (mid_same t w1.sh' (c2 w1 y most small q) c3 e.rep.trail (more cell_count m) (λ j ne far. other_cell (c2 w1 y most small q) 36 y j (λ (i : j ≡ 36). (let b = far.1 (omega arith) in omega arith))) (mid2 w1 y most small q)) (omega arith)

  -- all objects are sought
  pub seeks : (x : ℕ) → walk S v0 ≡ Var x → (most all : ℕ) → written_in t.program (a ∷ []) + most + 5 * links S v0 + 30 ≤ all → (y : ℕ) → y < 65536 → ((w1 : W) → Called t out decider given w1.memory' y most) → SeekingAll t out (a ∷ []) tries all m z
  seeks x is most all le y small by = record {
    seeks = λ room. (let w1 = written t plays out a [] (omega arith) rest1 m z e room in sought w1 (by w1));
    meets = λ over. no_room t plays out a [] (omega arith) rest1 m z e over;
  }
    where
      sought : (w1 : W) → Called t out decider given w1.memory' y most → ComesSeeking t out tries (map (term_value t.program m) (a ∷ [])) (more cell_count m) all z
      sought w1 q =
          let room = plays.has.mapped.room in
          let at2 = arg2 w1 y most small q in
          let x' = t.p.names.routine tries in
          let k = seek_works.all t.p plays.has 3400 15000 (omega arith) (omega arith) (m2 w1 y most small q) out.typed out.output out.drawn w1.sh' (c2 w1 y most small q) S v0 at2 y x' x is in
          let put = puts t.p (here k.memory') k.cells' 52 x' k.holds (omega arith) (omega arith) (omega arith) (plays.words tries) in
          let m3 = with_cell k.memory' 36 x' in
          let c3 = replaced k.cells' 36 x' in
          let few1 = w1.few in
          let few2 = q.few in
          let few3 = k.few in
          let e1 = steps_are w1.count (suc q.count + (suc k.count + 1)) in
          let same : (j : ℕ) → j ≢ 11 → j ≢ 36 → c3 j ≡ w1.cells' j = λ j n11 n36. other_cell k.cells' 36 x' j n36 ∙ k.others j n11 ∙ other_cell w1.cells' 36 y j n36 in
          let go = moved t plays out e.x m z e.rep (routine_of 0 acts_all) e.there (omega arith) x' (steps w1.count (suc q.count + (suc k.count + 1))) m3 [] c3 w1.sh' e.rep.trail (more cell_count m)
          (to_seek w1 y most small q (Returns x') (here m3) (suc k.count + 1)
          (calls {f' = 3400} {w' = 15000} {n = k.count} {n' = 1} {xs = (y, x', 0)} {s1 = state k.memory' k.locals' out.typed out.drawn out.output} {s2 = here m3} refl (rw (register t.p (here (m2 w1 y most small q)) (c2 w1 y most small q) 52 at2.holds (omega arith) (omega arith) (omega arith) ∙ ap word_is (same_cell w1.cells' 36 y)) refl) (seek_stands t.p plays.has) (omega arith) (omega arith) k.runs put.put_is
          (returns (register t.p (here m3) c3 52 put.holds (omega arith) (omega arith) (omega arith) ∙ ap word_is (same_cell k.cells' 36 x')))))
          put.holds (plays.words tries) (mid_same t w1.sh' w1.cells' c3 e.rep.trail (more cell_count m) (λ j ne far. same j (λ (i : j ≡ 11). (let b = far.0 (omega arith) in omega arith)) (λ (i : j ≡ 36). (let b = far.1 (omega arith) in omega arith))) w1.mid) in
          record {
            there = go.there;
            count = steps w1.count (suc q.count + (suc k.count + 1)) + 2;
            some = omega arith;
            few = omega arith;
            leads = go.leads;
            rep = go.rep;
            args_are = args_there t plays out a [] (omega arith) rest1 m z e w1 go.rep.sh go.rep.cells go.shape_is (λ j low' lt. go.cells_are j (λ i. (omega arith)) ∙ same j (λ i. (omega arith)) (λ i. (omega arith)));
            key_is = go.cells_are 11 (λ i. (omega arith)) ∙ other_cell k.cells' 36 x' 11 (λ i. (omega arith)) ∙ k.key;
          }
