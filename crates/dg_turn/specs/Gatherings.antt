-- Gatherings that are opened, values that are gathered, and gatherings that are taken out, as turns. Hold it against dg_mid/specs/Step.antt, "Stoppable
-- parts and gatherings" and "Entering and going back", and the Dialog manual, chapter "Control flow" (on collecting).
use Rattle.std.specs.Prelude.{◌≡◌, ℕ, ◌+◌, ◌*◌, ◌<◌, ◌≤◌, List, [], ◌∷◌, ◌++◌, length, Option, Some, None}
use Rattle.dg_base.specs.declared.program.CoreProgram.{CoreProgram}
use Rattle.dg_base.specs.declared.program.Term.{Term}
use Rattle.dg_base.specs.declared.run.Ending.TheVariants.{HeapLimit, TrailLimit, AuxLimit}
use Rattle.dg_meaning.specs.Cells.{cells}
use Rattle.dg_meaning.specs.Copies.{list_of, vars_in, copy_from, copy_cells}
use Rattle.dg_meaning.specs.Numbers.{total}
use Rattle.dg_meaning.specs.Substitutions.{resolved}
use Rattle.dg_meaning.specs.Unify.{Unified, Equations, solve}
use Rattle.dg_meaning.specs.Values.{Num, Value, leaf}
use Rattle.dg_meaning.specs.World.{Gathering, gathered_size}
use Rattle.dg_mid.specs.declared.code.Gathered.{Gathered}
use Rattle.dg_mid.specs.declared.code.Gathered.TheVariants as gathered
use Rattle.dg_mid.specs.State.{Place, Mid}
use Rattle.dg_mid.specs.Step.{bound, more, trail_more, gathering, with_gathering, newest_with}
use Rattle.z_model.specs.Run.{ZState}
use Rattle.z_lang.specs.declared.act.Act.TheVariants as acts
use Rattle.z_lang.specs.declared.act.Args.TheVariants as args
use Rattle.z_lang.specs.declared.act.Atom.TheVariants as atoms
use Rattle.z_lang.specs.declared.act.Routine.{Routine}
use Rattle.dg_rt.specs.declared.numbers.TheConstants.{OPEN, OPEN_GATHERING, KEEP_VALUE, TAKE_LIST, TAKE_SUM, FAIL}
use Rattle.dg_rt.specs.declared.registers.TheConstants.{ARGS, BACK, INNER, WORD}
use Rattle.dg_rt.specs.Areas.{back_reg}
use Rattle.dg_rt.specs.RunTime.{routine_of}
use Rattle.dg_rt.specs.Shapes.{Shows}
use Rattle.dg_rt.specs.CopiesIn.{HasCaptures}
use Rattle.dg_rt.specs.Gatherings.{keep_most, list_most}
use Rattle.dg_rt.specs.Unifies.{price}
use Rattle.dg_rt.specs.Closings.{closing_most}
use Rattle.dg_turn.specs.Told.{Telling, told_count}
use Rattle.dg_turn.specs.Lies.{OpensFewer, StopsFewer}
use Rattle.dg_turn.specs.Plays.{Playing, Outside, Represented, Comes, Closes}
use Rattle.dg_turn.specs.Terms.{terms_acts, written_in}
use Rattle.dg_turn.specs.Turns.{agreed_next, match_acts, last_acts}
use Rattle.dg_turn.specs.Operating.{term_value, InFront}

-- ## A gathering is opened

-- The routine that opens a gathering of a term's values, by the number of the routine that takes it out for another term, and goes on there: its choice and
-- its inner construct have the same cells.
abbrev pub collect_routine : CoreProgram → Term → Term → ℕ → ℕ → Routine
collect_routine program a b alt behind =
    routine_of 0 (terms_acts program ARGS (a ∷ b ∷ [])
    ++ (acts.Call None (atoms.Routine OPEN_GATHERING) args.Zero
    ∷ acts.Call (Some INNER) (atoms.Routine OPEN) (args.Three (atoms.Routine alt) (atoms.Var (ARGS + 1)) (atoms.Var ARGS))
    ∷ acts.Return (atoms.Routine behind) ∷ []))

-- The machine in it.
abbrev pub collected : CoreProgram → Term → Term → ℕ → Mid → Mid
collected program a b block m = gathering (term_value program m a) (term_value program m b) block (more (cells program (a ∷ b ∷ [])) m)

-- In one turn it is opened, or a limit is met: that of the heap by the terms or by the choice, or that of what is gathered.
pub record Collecting (t : Telling) (out : Outside) (a b : Term) (block behind : ℕ) (m : Mid) (z : ZState) : Type 0 where
  pub collects : m.state.heap + cells t.program (a ∷ b ∷ []) + 10 ≤ 10000 → gathered_size ((with_gathering m).gathered) ≤ 2000 →
      Comes t out (t.p.names.routine behind) (collected t.program a b block m) (written_in t.program (a ∷ b ∷ []) + 60) z
  pub meets_terms : 10000 < m.state.heap + cells t.program (a ∷ b ∷ []) → Closes t out HeapLimit (10 + closing_most) z
  pub meets_heap : m.state.heap + cells t.program (a ∷ b ∷ []) ≤ 10000 → 10000 < m.state.heap + cells t.program (a ∷ b ∷ []) + 10 →
      Closes t out HeapLimit (written_in t.program (a ∷ b ∷ []) + 40 + closing_most) z
  pub meets_aux : m.state.heap + cells t.program (a ∷ b ∷ []) + 10 ≤ 10000 → 2000 < gathered_size ((with_gathering m).gathered) →
      Closes t out AuxLimit (written_in t.program (a ∷ b ∷ []) + 40 + closing_most) z

-- So it is in front of that routine: `does` of a `Collect`.
abbrev pub CollectTurns : Type 0
CollectTurns = (t : Telling) → Playing t → (out : Outside) (a b : Term) (block alt behind : ℕ) (m : Mid) (z : ZState) →
    t.p.names.routine alt ≡ t.at_block block → InFront t out (collect_routine t.program a b alt behind) (a ∷ b ∷ []) m z →
    Collecting t out a b block behind m z

-- ## A value is gathered

-- The newest of some inner constructs gathers a value.
abbrev pub gathered_by : List Place → Option Value
gathered_by [] = None
gathered_by (p ∷ ps) = p.gathers

-- In one turn of the routine that every story has for it, the value of the newest inner construct is gathered, and it fails; or the limit of what is gathered
-- is met; where nothing gathers it fails: `keeps`.
pub record KeepTurns : Type 0 where
  pub keeps : (t : Telling) → Playing t → (out : Outside) (m : Mid) (v : Value) (x : Gathering) (xs : List Gathering) (z : ZState) →
      gathered_by m.inner ≡ Some v → m.gathered ≡ x ∷ xs → Represented t out (t.p.names.routine KEEP_VALUE) m z →
      let gs = newest_with (resolved m.state.subst v) m.gathered in
      gathered_size gs ≤ 2000 →
      Comes t out (t.p.names.routine FAIL) (record m { gathered = gs }) (keep_most m.state.subst m.state.vars v + 2) z
  pub meets : (t : Telling) → Playing t → (out : Outside) (m : Mid) (v : Value) (x : Gathering) (xs : List Gathering) (z : ZState) →
      gathered_by m.inner ≡ Some v → m.gathered ≡ x ∷ xs → Represented t out (t.p.names.routine KEEP_VALUE) m z →
      2000 < gathered_size (newest_with (resolved m.state.subst v) m.gathered) →
      Closes t out AuxLimit (keep_most m.state.subst m.state.vars v + closing_most + 2) z
  pub unopened : (t : Telling) → Playing t → (out : Outside) (m : Mid) (z : ZState) → m.gathered ≡ [] →
      Represented t out (t.p.names.routine KEEP_VALUE) m z → Comes t out (t.p.names.routine FAIL) m 10 z
  pub nothing : (t : Telling) → Playing t → (out : Outside) (m : Mid) (z : ZState) → gathered_by m.inner ≡ None →
      Represented t out (t.p.names.routine KEEP_VALUE) m z → Comes t out (t.p.names.routine FAIL) m 10 z

-- ## A gathering is taken out

-- The routine that takes a gathering out, as a list or as a sum, for the value whose word is in the register of what comes behind a query, and goes on there.
abbrev pub taker : Gathered → ℕ
taker gathered.List = TAKE_LIST
taker gathered.Sum = TAKE_SUM

abbrev pub take_routine : Gathered → ℕ → Routine
take_routine whole behind =
    routine_of 0 (acts.Call (Some WORD) (atoms.Routine (taker whole)) args.Zero ∷ acts.Copy ARGS (atoms.Var BACK)
    ∷ (match_acts ARGS WORD 1 ++ last_acts behind))

-- The player is in front of it, and the choices and stoppable parts that are left were opened where fewer gatherings were open.
pub record TakesHere (t : Telling) (out : Outside) (whole : Gathered) (behind : ℕ) (into : Value) (m : Mid) (z : ZState) : Type 0 where
  pub x : ℕ
  pub rep : Represented t out x m z
  pub there : t.p.routine_at x ≡ Some (take_routine whole behind)
  pub into_is : Shows rep.sh (rep.cells back_reg) into
  pub fewer : OpensFewer (length m.gathered) m.choices × StopsFewer (length m.gathered) m.stops

-- The machine behind a copy of a value.
abbrev pub with_copy : Value → Mid → Mid
with_copy v m = record m { state = record m.state { vars = m.state.vars + vars_in v; heap = m.state.heap + copy_cells v } }

-- The equation of a value and a copy of the list of others, and its unification.
abbrev pub list_equation : Value → List Value → Mid → Equations
list_equation into vs m = (into, copy_from m.state.vars (list_of vs)) ∷ []

abbrev pub list_unified : Value → List Value → Mid → Unified
list_unified into vs m = solve m.state.subst (list_equation into vs m)

-- What taking a list out takes at most.
abbrev pub taking_most : Value → List Value → Mid → ℕ
taking_most into vs m = list_most vs + price m.state.subst (list_equation into vs m) + 22

-- In one turn the newest gathering is taken out, and the list of its values is unified with a value; or the limit of the heap or of the trail is met.
pub record TakesList (t : Telling) (out : Outside) (behind : ℕ) (into : Value) (x : Gathering) (xs : List Gathering) (m : Mid) (z : ZState) : Type 0 where
  pub lists : m.state.heap + copy_cells (list_of x.values) ≤ 10000 →
      let u = list_unified into x.values m in
      trail_more m.state u ≤ 2000 →
      Comes t out (agreed_next t.p behind u.agrees) (bound u (with_copy (list_of x.values) (record m { gathered = xs }))) (taking_most into x.values m) z
  pub meets_heap : 10000 < m.state.heap + copy_cells (list_of x.values) → Closes t out HeapLimit (list_most x.values + closing_most + 4) z
  pub meets_trail : m.state.heap + copy_cells (list_of x.values) ≤ 10000 → 2000 < trail_more m.state (list_unified into x.values m) →
      Closes t out TrailLimit (taking_most into x.values m + closing_most) z

-- The equation of a value and a sum, and its unification.
abbrev pub sum_unified : Value → ℕ → Mid → Unified
sum_unified into n m = solve m.state.subst ((into, leaf (Num n)) ∷ [])

-- What taking a sum out takes at most, and unifying it.
abbrev pub adding_most : List Value → ℕ
adding_most vs = 10 * length vs + 40

abbrev pub summing_most : Value → List Value → ℕ → Mid → ℕ
summing_most into vs n m = adding_most vs + price m.state.subst ((into, leaf (Num n)) ∷ [])

-- In one turn it is taken out, and fails where there is no sum, and else the sum is unified with a value; or the trail's limit is met.
pub record TakesSum (t : Telling) (out : Outside) (behind : ℕ) (into : Value) (x : Gathering) (xs : List Gathering) (m : Mid) (z : ZState) : Type 0 where
  pub fails : total x.values ≡ None → Comes t out (t.p.names.routine FAIL) (record m { gathered = xs }) (adding_most x.values) z
  pub sums : (n : ℕ) → total x.values ≡ Some n →
      let u = sum_unified into n m in
      trail_more m.state u ≤ 2000 →
      Comes t out (agreed_next t.p behind u.agrees) (bound u (record m { gathered = xs })) (summing_most into x.values n m) z
  pub meets_trail : (n : ℕ) → total x.values ≡ Some n → 2000 < trail_more m.state (sum_unified into n m) →
      Closes t out TrailLimit (summing_most into x.values n m + closing_most) z

-- So it is with each gathering; without one it fails: `takes`.
pub record TakeTurns : Type 0 where
  pub list : (t : Telling) → Playing t → HasCaptures t.p t.story (told_count t.program) → (out : Outside) (behind : ℕ) (into : Value) (x : Gathering)
      (xs : List Gathering) (m : Mid) (z : ZState) → m.gathered ≡ x ∷ xs → TakesHere t out gathered.List behind into m z →
      TakesList t out behind into x xs m z
  pub sum : (t : Telling) → Playing t → (out : Outside) (behind : ℕ) (into : Value) (x : Gathering) (xs : List Gathering) (m : Mid) (z : ZState) →
      m.gathered ≡ x ∷ xs → TakesHere t out gathered.Sum behind into m z → TakesSum t out behind into x xs m z
  pub unopened : (t : Telling) → Playing t → (out : Outside) (whole : Gathered) (behind : ℕ) (into : Value) (m : Mid) (z : ZState) →
      m.gathered ≡ [] →
      TakesHere t out whole behind into m z → Comes t out (t.p.names.routine FAIL) m 40 z
