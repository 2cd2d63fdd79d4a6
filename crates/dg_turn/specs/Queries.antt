-- Queries that are asked, and going back to their further rules, as turns. Hold it against `does` and `goes_back` of dg_mid/specs/Step.antt.
use Rattle.std.specs.Prelude.{◌≡◌, ◌≢◌, ℕ, ◌+◌, ◌*◌, ◌<◌, ◌≤◌, List, [], ◌∷◌, ◌++◌, length, map, Option, Some, None, Bool}
use Rattle.dg_base.specs.declared.program.CoreProgram.{CoreProgram}
use Rattle.dg_base.specs.declared.program.Term.{Term}
use Rattle.dg_base.specs.declared.run.Ending.TheVariants.{Failed, HeapLimit}
use Rattle.dg_meaning.specs.Values.{Value, value_of}
use Rattle.dg_meaning.specs.Cells.{nodes_of, cells}
use Rattle.dg_meaning.specs.Moves.{first_looks}
use Rattle.dg_mid.specs.declared.code.RuleCode.{RuleCode}
use Rattle.dg_mid.specs.Code.{selected}
use Rattle.dg_mid.specs.State.{Call, Calls, Choice, Mid, Fails, vars_of}
use Rattle.dg_mid.specs.Step.{call_of, more, first_of, back_at}
use Rattle.dg_mid.specs.Actions.{registers_of}
use Rattle.dg_mid.specs.Units.{undone}
use Rattle.dg_mid.specs.Heights.{StatusOrdered}
use Rattle.z_model.specs.Run.{ZState}
use Rattle.z_lang.specs.declared.act.Act.{Act}
use Rattle.z_lang.specs.declared.act.Act.TheVariants as acts
use Rattle.z_lang.specs.declared.act.Args.TheVariants as args
use Rattle.z_lang.specs.declared.act.Atom.{Atom}
use Rattle.z_lang.specs.declared.act.Atom.TheVariants as atoms
use Rattle.z_lang.specs.declared.act.Routine.{Routine}
use Rattle.z_lang.specs.Leads.{Leads}
use Rattle.dg_rt.specs.declared.numbers.TheConstants.{FAIL, ASK}
use Rattle.dg_rt.specs.declared.registers.TheConstants.{ARGS}
use Rattle.dg_rt.specs.RunTime.{routine_of}
use Rattle.dg_rt.specs.Closings.{closing_most}
use Rattle.dg_turn.specs.Told.{Telling, FirstIs, RulesAt}
use Rattle.dg_turn.specs.Lies.{bit_of}
use Rattle.dg_turn.specs.Plays.{Playing, Outside, Represented, Closes}
use Rattle.dg_turn.specs.Terms.{terms_acts, AreNodes, written_in}
use Rattle.dg_turn.specs.Rules.{LooksAt, keyed, BegunTo, behind_first}

-- ## Asking

-- Whether there is a first argument.
abbrev pub some_of : List Term → ℕ
some_of [] = 0
some_of (a ∷ as') = 1

-- What comes behind the arguments of a query: the routine that every story has for it makes the rest of the call, of what comes behind the query and
-- whether all answers are wanted, with the key of the first argument, and the rules that begin at a number are looked at next.
abbrev pub ask_acts : Atom → Bool → List Term → ℕ → List Act
ask_acts behind many ts rules =
    acts.Call None (atoms.Routine ASK) (args.Three behind (atoms.Num (bit_of many)) (atoms.Num (some_of ts)))
    ∷ acts.Return (atoms.Routine rules) ∷ []

-- The routine of a query with these arguments: they are written into their registers first.
abbrev pub asking_routine : CoreProgram → List Term → ℕ → Bool → ℕ → Routine
asking_routine program ts behind many rules = routine_of 0 (terms_acts program ARGS ts ++ ask_acts (atoms.Routine behind) many ts rules)

-- The call of a query with these terms that goes on at a block, in the machine that asks it.
abbrev pub asked_call : CoreProgram → List Term → Bool → ℕ → Mid → Call
asked_call program ts many next m = call_of (map (value_of program (vars_of m.frames)) ts) many next (more (cells program ts) m)

-- What asking takes at most.
abbrev pub asking_most : CoreProgram → List Term → Mid → ℕ
asking_most program ts m = written_in program ts + 5 * first_looks (registers_of m) (map (value_of program (vars_of m.frames)) ts) + 40

-- In so many instructions at most the player comes to where the rules of a query are looked at.
pub record AskedAt (t : Telling) (out : Outside) (number : ℕ) (call : Call) (first : Option Value) (m : Mid) (most : ℕ)
    (z : ZState) : Type 0 where
  pub key : ℕ
  pub key_is : FirstIs first key
  pub there : ZState
  pub count : ℕ
  pub some : 1 ≤ count
  pub few : count ≤ most
  pub leads : Leads t.p.world count z there
  pub looks : LooksAt t out number call key 0 m there

-- The player is in front of the routine of a query.
pub record Asking (t : Telling) (out : Outside) (ts : List Term) (many : Bool) (next rules : ℕ) (m : Mid) (z : ZState) : Type 0 where
  pub x : ℕ
  pub behind : ℕ
  pub rep : Represented t out x m z
  pub there : t.p.routine_at x ≡ Some (asking_routine t.program ts behind many rules)
  pub goes : t.p.names.routine behind ≡ t.at_block next
  pub short : length ts ≤ 12
  pub nodes : AreNodes t.program (nodes_of ts)

-- In one turn a query is asked, and its rules are looked at next; or the heap's limit is met.
pub record AskTurns : Type 0 where
  pub asks : (t : Telling) → Playing t → (out : Outside) (ts : List Term) (many : Bool) (next rules : ℕ) (m : Mid) (z : ZState) →
      (a : Asking t out ts many next rules m z) → m.state.heap + cells t.program ts ≤ 10000 →
      let call = asked_call t.program ts many next m in
      AskedAt t out rules call (first_of m.state.subst call) (more (cells t.program ts) m)
      (asking_most t.program ts m) z
  pub meets : (t : Telling) → Playing t → (out : Outside) (ts : List Term) (many : Bool) (next rules : ℕ) (m : Mid) (z : ZState) →
      (a : Asking t out ts many next rules m z) → 10000 < m.state.heap + cells t.program ts →
      Closes t out HeapLimit (10 + closing_most) z

-- A whole query, whose terms fit the heap: `does` of an `Ask` in dg_mid/specs/Step.antt.
abbrev pub AskBegins : Type 0
AskBegins = (t : Telling) → Playing t → ((b : ℕ) → t.at_block b ≢ 0) → (out : Outside) (ts : List Term) (many : Bool) (next number : ℕ)
    (rules : List RuleCode) (m : Mid) (z : ZState) → RulesAt t (length ts) number rules →
    m.state.heap + cells t.program ts ≤ 10000 →
    (a : Asking t out ts many next number m z) →
    let call = asked_call t.program ts many next m in
    let first = first_of m.state.subst call in
    let found = selected first rules in
    BegunTo t out call found (behind_first first found) (more (cells t.program ts) m)
    (asking_most t.program ts m + 4 * keyed rules + 70) z

-- ## Going back

-- In so many instructions at most the player comes to where further rules of a query are looked at, back at their choice.
pub record GoneBack (t : Telling) (out : Outside) (rules : List RuleCode) (call : Call) (first : Option Value) (m : Mid) (most : ℕ)
    (z : ZState) : Type 0 where
  pub number : ℕ
  pub rules_are : RulesAt t (length call.args) number rules
  pub key : ℕ
  pub key_is : FirstIs first key
  pub there : ZState
  pub count : ℕ
  pub some : 1 ≤ count
  pub few : count ≤ most
  pub leads : Leads t.p.world count z there
  pub looks : LooksAt t out number call key 0 m there
  pub cut : call.cut.height ≡ m.state.heap

-- In one turn a failure goes back to a choice of further rules, in 6 instructions for each binding that is undone and 34: `goes_back` of
-- dg_mid/specs/Step.antt. What the frames and inner constructs are doesn't matter: the choice gives its own back.
abbrev pub FailTurns : Type 0
FailTurns = (t : Telling) → Playing t → (out : Outside) (m : Mid) (x : Choice) (xs : List Choice) (call : Call) (rules : List RuleCode)
    (z : ZState) → m.choices ≡ x ∷ xs → x.way ≡ Calls call rules → StatusOrdered (Fails m) → length call.args ≤ 12 →
    (r : Represented t out (t.p.names.routine FAIL) m z) →
    GoneBack t out rules call (first_of x.state.subst call) (back_at x xs m) (6 * undone m.choices m + 34) z

-- So it goes, with the rules that are looked at then.
abbrev pub FailBegins : Type 0
FailBegins = (t : Telling) → Playing t → ((b : ℕ) → t.at_block b ≢ 0) → (out : Outside) (m : Mid) (x : Choice) (xs : List Choice)
    (call : Call) (rules : List RuleCode) (z : ZState) → m.choices ≡ x ∷ xs → x.way ≡ Calls call rules → StatusOrdered (Fails m) →
    length call.args ≤ 12 → (r : Represented t out (t.p.names.routine FAIL) m z) →
    let first = first_of x.state.subst call in
    let found = selected first rules in
    BegunTo t out call found (behind_first first found) (back_at x xs m)
    (6 * undone m.choices m + 4 * keyed rules + 104) z

-- Without a choice the run has failed: its line ends it.
abbrev pub FailEnds : Type 0
FailEnds = (t : Telling) → Playing t → (out : Outside) (m : Mid) (z : ZState) → m.choices ≡ [] →
    (r : Represented t out (t.p.names.routine FAIL) m z) → Closes t out Failed 30 z
