-- The last query of a rule, as a turn: it goes on where the rule does. Hold it against `asks_last` of dg_mid/specs/Step.antt.
use Rattle.std.specs.Prelude.{◌≡◌, ℕ, ◌+◌, ◌<◌, ◌≤◌, List, [], ◌∷◌, ◌++◌, length, map, Some, Bool, true, false}
use Rattle.dg_base.specs.declared.program.CoreProgram.{CoreProgram}
use Rattle.dg_base.specs.declared.program.Term.{Term}
use Rattle.dg_base.specs.declared.run.Ending.TheVariants.{HeapLimit}
use Rattle.dg_meaning.specs.Values.{value_of}
use Rattle.dg_meaning.specs.Cells.{nodes_of, cells}
use Rattle.dg_mid.specs.State.{Frame, Call, Mid, vars_of}
use Rattle.dg_mid.specs.Step.{call_of, more, first_of}
use Rattle.z_model.specs.Run.{ZState}
use Rattle.z_lang.specs.declared.act.Act.TheVariants as acts
use Rattle.z_lang.specs.declared.act.Args.TheVariants as args
use Rattle.z_lang.specs.declared.act.Atom.TheVariants as atoms
use Rattle.z_lang.specs.declared.act.Routine.{Routine}
use Rattle.dg_rt.specs.declared.numbers.TheConstants.{TAIL_CALL}
use Rattle.dg_rt.specs.declared.registers.TheConstants.{ARGS, WORD}
use Rattle.dg_rt.specs.RunTime.{routine_of}
use Rattle.dg_rt.specs.Closings.{closing_most}
use Rattle.dg_turn.specs.Told.{Telling}
use Rattle.dg_turn.specs.Plays.{Playing, Outside, Represented, Closes}
use Rattle.dg_turn.specs.Terms.{terms_acts, AreNodes}
use Rattle.dg_turn.specs.Queries.{ask_acts, asking_most, AskedAt}

-- The routine of a last query with these arguments. The routine that every story has for it says what comes behind: where all answers of the rule are
-- wanted, it is what comes behind the rule, and the frame is left; where one is, it is the routine that answers a rule, which has a number, and no inner
-- construct is open there.
abbrev pub last_routine : CoreProgram → List Term → ℕ → Bool → ℕ → Routine
last_routine program ts end many rules =
    routine_of 0 (terms_acts program ARGS ts
    ++ (acts.Call (Some WORD) (atoms.Routine TAIL_CALL) (args.One (atoms.Routine end)) ∷ ask_acts (atoms.Var WORD) many ts rules))

-- The machine in which it is called, and the block behind it.
abbrev pub left_at : Bool → Frame → List Frame → Mid → Mid
left_at true f fs m = record m { frames = fs; inner = f.inner }
left_at false f fs m = record m { inner = [] }

abbrev pub next_of : Bool → Frame → ℕ
next_of true f = f.next
next_of false f = 0

-- The call of a last query.
abbrev pub last_call : CoreProgram → List Term → Bool → Frame → Mid → Call
last_call program ts many f m = call_of (map (value_of program (vars_of m.frames)) ts) many (next_of f.many f) (more (cells program ts) m)

-- The player is in front of the routine of a last query, inside a rule.
pub record LastAsking (t : Telling) (out : Outside) (ts : List Term) (many : Bool) (rules : ℕ) (f : Frame) (fs : List Frame) (m : Mid)
    (z : ZState) : Type 0 where
  pub x : ℕ
  pub end : ℕ
  pub rep : Represented t out x m z
  pub there : t.p.routine_at x ≡ Some (last_routine t.program ts end many rules)
  pub end_is : t.p.names.routine end ≡ t.at_block 0
  pub frames : m.frames ≡ f ∷ fs
  pub short : length ts ≤ 12
  pub nodes : AreNodes t.program (nodes_of ts)

-- The same where there is no rule: it goes on as where one answer is wanted.
pub record LastAlone (t : Telling) (out : Outside) (ts : List Term) (many : Bool) (rules : ℕ) (m : Mid) (z : ZState) : Type 0 where
  pub x : ℕ
  pub end : ℕ
  pub rep : Represented t out x m z
  pub there : t.p.routine_at x ≡ Some (last_routine t.program ts end many rules)
  pub end_is : t.p.names.routine end ≡ t.at_block 0
  pub frames : m.frames ≡ []
  pub short : length ts ≤ 12
  pub nodes : AreNodes t.program (nodes_of ts)

-- In one turn it is asked, and its rules are looked at next; or the heap's limit is met.
pub record LastTurns : Type 0 where
  pub asks : (t : Telling) → Playing t → (out : Outside) (ts : List Term) (many : Bool) (rules : ℕ) (f : Frame) (fs : List Frame) (m : Mid)
      (z : ZState) → (a : LastAsking t out ts many rules f fs m z) → m.state.heap + cells t.program ts ≤ 10000 →
      let call = last_call t.program ts many f m in
      AskedAt t out rules call (first_of m.state.subst call) (left_at f.many f fs (more (cells t.program ts) m))
      (asking_most t.program ts m) z
  pub meets : (t : Telling) → Playing t → (out : Outside) (ts : List Term) (many : Bool) (rules : ℕ) (f : Frame) (fs : List Frame) (m : Mid)
      (z : ZState) → (a : LastAsking t out ts many rules f fs m z) → 10000 < m.state.heap + cells t.program ts →
      Closes t out HeapLimit (10 + closing_most) z
  pub asks_alone : (t : Telling) → Playing t → (out : Outside) (ts : List Term) (many : Bool) (rules : ℕ) (m : Mid) (z : ZState) →
      LastAlone t out ts many rules m z → m.state.heap + cells t.program ts ≤ 10000 →
      let call = call_of (map (value_of t.program (vars_of m.frames)) ts) many 0 (more (cells t.program ts) m) in
      AskedAt t out rules call (first_of m.state.subst call) (record (more (cells t.program ts) m) { inner = [] }) (asking_most t.program ts m) z
  pub alone_meets : (t : Telling) → Playing t → (out : Outside) (ts : List Term) (many : Bool) (rules : ℕ) (m : Mid) (z : ZState) →
      LastAlone t out ts many rules m z → 10000 < m.state.heap + cells t.program ts → Closes t out HeapLimit (10 + closing_most) z
