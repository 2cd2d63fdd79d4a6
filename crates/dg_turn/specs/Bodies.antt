-- Queries of closures, as turns: a value is looked up, the body of its closure is found, and it is entered. Hold it against `queries` and `enters_body` of
-- dg_mid/specs/Step.antt.
use Rattle.std.specs.Prelude.{◌≡◌, ◌≢◌, ℕ, suc, ◌+◌, ◌*◌, ◌<◌, ◌≤◌, List, [], ◌∷◌, ◌++◌, length, map, Option, Some, Bool, true}
use Rattle.std.specs.List.{zip, slice_get}
use Rattle.dg_base.specs.declared.program.CoreProgram.{CoreProgram}
use Rattle.dg_base.specs.declared.program.Term.{Term}
use Rattle.dg_base.specs.declared.run.Ending.TheVariants.{HeapLimit, TrailLimit}
use Rattle.dg_base.specs.Goals.{option_terms}
use Rattle.dg_meaning.specs.Values.{Closure, Value, Node, Values, value_of}
use Rattle.dg_meaning.specs.Copies.{values_of}
use Rattle.dg_meaning.specs.Cells.{nodes_of, cells}
use Rattle.dg_meaning.specs.Moves.{new_vars}
use Rattle.dg_meaning.specs.Substitutions.{walk, links}
use Rattle.dg_meaning.specs.Unify.{Unified, Equations, solve}
use Rattle.dg_mid.specs.declared.code.BodyCode.{BodyCode}
use Rattle.dg_mid.specs.State.{Frame, Call, Mid, vars_of}
use Rattle.dg_mid.specs.Step.{call_of, more, bound, trail_more, parameter, body_frame}
use Rattle.z_model.specs.Run.{ZState}
use Rattle.z_lang.specs.Leads.{Leads}
use Rattle.z_lang.specs.declared.act.Act.{Act}
use Rattle.z_lang.specs.declared.act.Act.TheVariants as acts
use Rattle.z_lang.specs.declared.act.Args.TheVariants as args
use Rattle.z_lang.specs.declared.act.Atom.TheVariants as atoms
use Rattle.z_lang.specs.declared.act.Comparison.TheVariants as comparisons
use Rattle.z_lang.specs.declared.act.Routine.{Routine}
use Rattle.dg_rt.specs.declared.numbers.TheConstants.{WALK, FAIL, TAIL_CALL, KEY_OF, IF_BODY}
use Rattle.dg_rt.specs.declared.registers.TheConstants.{BACK, MANY, KEY, PARAMETERS, WORD}
use Rattle.dg_rt.specs.Areas.{back_reg, many_reg, key_reg, args_reg, parameters_reg}
use Rattle.dg_rt.specs.Shapes.{Shows}
use Rattle.dg_rt.specs.Rules.{KeyIs}
use Rattle.dg_rt.specs.RunTime.{routine_of}
use Rattle.dg_rt.specs.Unifies.{price}
use Rattle.dg_rt.specs.Closings.{closing_most}
use Rattle.dg_turn.specs.Told.{Telling}
use Rattle.dg_turn.specs.Lies.{bit_of, WordsIn}
use Rattle.dg_turn.specs.Plays.{Playing, Outside, Represented, registers, Comes, Closes}
use Rattle.dg_turn.specs.Terms.{terms_acts, AreNodes, written_in}
use Rattle.dg_turn.specs.LastQueries.{left_at, next_of}
use Rattle.dg_turn.specs.Turns.{agreed_next}

-- ## Asking

-- The register of the closure that is called, in front of that of the argument, as a variable and as a word.
abbrev pub CALLED : ℕ
CALLED = 31

abbrev pub called_reg : ℕ
called_reg = 15

-- Whether all answers are wanted and how many arguments there are is put into registers, the value is looked up, with its key, and the routine that finds
-- the body comes next.
abbrev pub look_acts : Option Term → Bool → ℕ → List Act
look_acts b many find =
    acts.Copy MANY (atoms.Num (bit_of many)) ∷ acts.Copy PARAMETERS (atoms.Num (length (option_terms b)))
    ∷ acts.Call (Some KEY) (atoms.Routine KEY_OF) (args.One (atoms.Var CALLED))
    ∷ acts.Call (Some CALLED) (atoms.Routine WALK) (args.One (atoms.Var CALLED)) ∷ acts.Return (atoms.Routine find) ∷ []

-- The routine of a query of a closure: its words are put into their registers, and the routine that comes behind it.
abbrev pub query_routine : CoreProgram → Term → Option Term → ℕ → Bool → ℕ → Routine
query_routine program a b behind many find =
    routine_of 0 (terms_acts program CALLED (a ∷ option_terms b) ++ (acts.Copy BACK (atoms.Routine behind) ∷ look_acts b many find))

-- The call of a query of a closure, in the machine that asks it.
abbrev pub query_call : CoreProgram → Term → Option Term → Bool → ℕ → Mid → Call
query_call program a b many next m =
    call_of (map (value_of program (vars_of m.frames)) (option_terms b)) many next (more (cells program (a ∷ option_terms b)) m)

-- The value that is asked, looked up.
abbrev pub asked_value : CoreProgram → Term → Mid → Value
asked_value program a m = walk m.state.subst (value_of program (vars_of m.frames) a)

-- What asking takes at most.
abbrev pub querying_most : CoreProgram → Term → Option Term → Mid → ℕ
querying_most program a b m =
    written_in program (a ∷ option_terms b) + 10 * links m.state.subst (value_of program (vars_of m.frames) a) + 50

-- The player is in front of the routine of a number: a call is in registers, whose value is in one, looked up, with its key in another.
pub record FindsAt (t : Telling) (out : Outside) (number : ℕ) (call : Call) (v : Value) (m : Mid) (z : ZState) : Type 0 where
  pub rep : Represented t out (t.p.names.routine number) m z
  pub shown : Shows rep.sh (rep.cells called_reg) v
  pub key_is : KeyIs v (rep.cells key_reg)
  pub args_are : WordsIn rep.sh (registers rep.cells args_reg (length call.args)) call.args
  pub count_is : rep.cells parameters_reg ≡ length call.args
  pub next_is : rep.cells back_reg ≡ t.at_block call.next
  pub many_is : rep.cells many_reg ≡ bit_of call.many

-- In so many instructions at most the player comes to where a body is looked for.
pub record Looks (t : Telling) (out : Outside) (number : ℕ) (call : Call) (v : Value) (m : Mid) (most : ℕ) (z : ZState) : Type 0 where
  pub there : ZState
  pub count : ℕ
  pub some : 1 ≤ count
  pub few : count ≤ most
  pub leads : Leads t.p.world count z there
  pub finds : FindsAt t out number call v m there

-- In one turn the value is looked up, and the body of a closure is looked for; or the heap's limit is met.
pub record QueryTurns : Type 0 where
  pub asks : (t : Telling) → Playing t → (out : Outside) (x : ℕ) (a : Term) (b : Option Term) (behind : ℕ) (many : Bool) (next find : ℕ) (m : Mid)
      (z : ZState) → t.p.routine_at x ≡ Some (query_routine t.program a b behind many find) → t.p.names.routine behind ≡ t.at_block next →
      AreNodes t.program (nodes_of (a ∷ option_terms b)) → m.state.heap + cells t.program (a ∷ option_terms b) ≤ 10000 →
      Represented t out x m z →
      Looks t out find (query_call t.program a b many next m) (asked_value t.program a m) (more (cells t.program (a ∷ option_terms b)) m)
      (querying_most t.program a b m) z
  pub meets : (t : Telling) → Playing t → (out : Outside) (x : ℕ) (a : Term) (b : Option Term) (behind : ℕ) (many : Bool) (find : ℕ) (m : Mid)
      (z : ZState) → t.p.routine_at x ≡ Some (query_routine t.program a b behind many find) →
      10000 < m.state.heap + cells t.program (a ∷ option_terms b) → Represented t out x m z → Closes t out HeapLimit (10 + closing_most) z

-- The routine of the last query of a rule: what comes behind is what the routine says that every story has for it, and where all answers of the rule are
-- wanted its frame is left.
abbrev pub last_query_routine : CoreProgram → Term → Option Term → ℕ → Bool → ℕ → Routine
last_query_routine program a b end many find =
    routine_of 0 (terms_acts program CALLED (a ∷ option_terms b)
    ++ (acts.Call (Some BACK) (atoms.Routine TAIL_CALL) (args.One (atoms.Routine end)) ∷ look_acts b many find))

-- In one turn it is asked inside a rule, or where there is none; or the heap's limit is met.
pub record LastQueryTurns : Type 0 where
  pub asks : (t : Telling) → Playing t → (out : Outside) (x : ℕ) (a : Term) (b : Option Term) (end : ℕ) (many : Bool) (find : ℕ) (f : Frame)
      (fs : List Frame) (m : Mid) (z : ZState) → t.p.routine_at x ≡ Some (last_query_routine t.program a b end many find) →
      t.p.names.routine end ≡ t.at_block 0 → m.frames ≡ f ∷ fs → AreNodes t.program (nodes_of (a ∷ option_terms b)) →
      m.state.heap + cells t.program (a ∷ option_terms b) ≤ 10000 → Represented t out x m z →
      Looks t out find (query_call t.program a b many (next_of f.many f) m) (asked_value t.program a m)
      (left_at f.many f fs (more (cells t.program (a ∷ option_terms b)) m))
      (querying_most t.program a b m) z
  pub asks_alone : (t : Telling) → Playing t → (out : Outside) (x : ℕ) (a : Term) (b : Option Term) (end : ℕ) (many : Bool) (find : ℕ)
      (m : Mid) (z : ZState) → t.p.routine_at x ≡ Some (last_query_routine t.program a b end many find) →
      t.p.names.routine end ≡ t.at_block 0 → m.frames ≡ [] → AreNodes t.program (nodes_of (a ∷ option_terms b)) →
      m.state.heap + cells t.program (a ∷ option_terms b) ≤ 10000 → Represented t out x m z →
      Looks t out find (query_call t.program a b many 0 m) (asked_value t.program a m)
      (record (more (cells t.program (a ∷ option_terms b)) m) { inner = [] })
      (querying_most t.program a b m) z
  pub meets : (t : Telling) → Playing t → (out : Outside) (x : ℕ) (a : Term) (b : Option Term) (end : ℕ) (many : Bool) (find : ℕ) (m : Mid)
      (z : ZState) → t.p.routine_at x ≡ Some (last_query_routine t.program a b end many find) →
      10000 < m.state.heap + cells t.program (a ∷ option_terms b) → Represented t out x m z → Closes t out HeapLimit (10 + closing_most) z

-- ## Finding

-- The routine that goes on at one of two others, by whether the key is less than a closure's.
abbrev pub fork_routine : (place left right : ℕ) → Routine
fork_routine place left right =
    routine_of 0 (acts.When (record { comparison = comparisons.Less; first = atoms.Var KEY; second = atoms.Num (49152 + place); answer = true }) 0
    ∷ acts.Return (atoms.Routine right) ∷ acts.Label 0 ∷ acts.Return (atoms.Routine left) ∷ [])

-- The routine of the body of a closure: where it is the one that is asked, it is entered and goes on at its block; else it fails.
abbrev pub body_routine : (place own block : ℕ) → Routine
body_routine place own block =
    routine_of 0 (acts.Call (Some WORD) (atoms.Routine IF_BODY) (args.Three (atoms.Num (49152 + place)) (atoms.Num own) (atoms.Routine block))
    ∷ acts.Return (atoms.Var WORD) ∷ [])

-- The routine of a number enters the body of a closure.
pub record BodyAt (t : Telling) (number place : ℕ) (c : BodyCode) : Type 0 where
  pub block : ℕ
  pub is : t.p.routine_at (t.p.names.routine number) ≡ Some (body_routine place c.own block)
  pub block_is : t.p.names.routine block ≡ t.at_block c.block
  pub small : place < 16384
  pub few : c.own ≤ 300

-- The routine of a number finds the body of each of some closures, of which the first has this place, in so many steps at most.
pub data FindsBodies (t : Telling) : (number place : ℕ) (cs : List BodyCode) (depth : ℕ) → Type 0 where
  no_body : (place depth : ℕ) → FindsBodies t FAIL place [] depth
  one_body : (number place depth : ℕ) (c : BodyCode) → BodyAt t number place c → FindsBodies t number place (c ∷ []) depth
  two_parts : (number left right place depth : ℕ) (cs ds : List BodyCode) →
      t.p.routine_at (t.p.names.routine number) ≡ Some (fork_routine (place + length cs) left right) → place + length cs < 16384 →
      FindsBodies t left place cs depth → FindsBodies t right (place + length cs) ds depth → FindsBodies t number place (cs ++ ds) (suc depth)

-- In so many instructions at most the player comes to the routine that enters the body of the closure that is asked.
pub record FoundBody (t : Telling) (out : Outside) (place : ℕ) (c : BodyCode) (call : Call) (v : Value) (m : Mid) (most : ℕ)
    (z : ZState) : Type 0 where
  pub number : ℕ
  pub body_at : BodyAt t number place c
  pub there : ZState
  pub count : ℕ
  pub few : count ≤ most
  pub leads : Leads t.p.world count z there
  pub finds : FindsAt t out number call v m there

-- In so many instructions at most it fails: in none where the program has no closures.
pub record FindsNone (t : Telling) (out : Outside) (m : Mid) (most : ℕ) (z : ZState) : Type 0 where
  pub there : ZState
  pub count : ℕ
  pub few : count ≤ most
  pub leads : Leads t.p.world count z there
  pub rep : Represented t out (t.p.names.routine FAIL) m there

-- The body is found, in 4 instructions a step; without one it fails.
pub record FindTurns : Type 0 where
  pub finds : (t : Telling) → Playing t → (out : Outside) (number place depth : ℕ) (cs : List BodyCode) → FindsBodies t number place cs depth →
      (n : ℕ) (c : BodyCode) (parts : Values) (call : Call) (m : Mid) (z : ZState) → slice_get cs n ≡ Some c →
      FindsAt t out number call (Node (Closure (place + n)) parts) m z →
      FoundBody t out (place + n) c call (Node (Closure (place + n)) parts) m (4 * depth) z
  pub fails : (t : Telling) → Playing t → (out : Outside) (number place depth : ℕ) (cs : List BodyCode) → FindsBodies t number place cs depth →
      (call : Call) (v : Value) (m : Mid) (z : ZState) →
      ((n : ℕ) (parts : Values) → n < length cs → v ≢ Node (Closure (place + n)) parts) → FindsAt t out number call v m z →
      FindsNone t out m (4 * depth + 6) z

-- ## Entering

-- The arguments of a call beside the parameter of a body, and their unification.
abbrev pub parameter_equations : CoreProgram → List Value → ℕ → Call → Mid → Equations
parameter_equations program captured own call m =
    zip call.args (map (value_of program (captured ++ new_vars own m.state.vars)) (parameter captured call.args))

abbrev pub body_unified : CoreProgram → List Value → ℕ → Call → Mid → Unified
body_unified program captured own call m = solve m.state.subst (parameter_equations program captured own call m)

-- The machine inside a body, with its frame.
abbrev pub in_body : ℕ → Mid → Mid
in_body own m = record m { state = record m.state { vars = m.state.vars + own; heap = m.state.heap + (6 + own) } }

abbrev pub entered_body : List Value → ℕ → Call → Unified → Mid → Mid
entered_body captured own call u m = record (bound u (in_body own m)) { frames = body_frame captured own call m ∷ m.frames; inner = [] }

-- What entering takes at most.
abbrev pub body_most : CoreProgram → List Value → ℕ → Call → Mid → ℕ
body_most program captured own call m = 4 * own + price m.state.subst (parameter_equations program captured own call m) + 80

-- In one turn a body is entered, with at most one argument, or a limit is met: `enters_body`.
pub record BodyTurns : Type 0 where
  pub enters : (t : Telling) → Playing t → (out : Outside) (number place : ℕ) (c : BodyCode) (call : Call) (parts : Values) (m : Mid) (z : ZState) →
      (b : BodyAt t number place c) → length call.args ≤ 1 → call.cut.height ≡ m.state.heap →
      FindsAt t out number call (Node (Closure place) parts) m z → m.state.heap + (6 + c.own) ≤ 10000 →
      let u = body_unified t.program (values_of parts) c.own call m in
      trail_more m.state u ≤ 2000 →
      Comes t out (agreed_next t.p b.block u.agrees) (entered_body (values_of parts) c.own call u m)
      (body_most t.program (values_of parts) c.own call m) z
  pub meets_heap : (t : Telling) → Playing t → (out : Outside) (number place : ℕ) (c : BodyCode) (call : Call) (parts : Values) (m : Mid) (z : ZState) →
      BodyAt t number place c → FindsAt t out number call (Node (Closure place) parts) m z → 10000 < m.state.heap + (6 + c.own) →
      Closes t out HeapLimit (25 + closing_most) z
  pub meets_trail : (t : Telling) → Playing t → (out : Outside) (number place : ℕ) (c : BodyCode) (call : Call) (parts : Values) (m : Mid)
      (z : ZState) → BodyAt t number place c → length call.args ≤ 1 → call.cut.height ≡ m.state.heap →
      FindsAt t out number call (Node (Closure place) parts) m z → m.state.heap + (6 + c.own) ≤ 10000 →
      2000 < trail_more m.state (body_unified t.program (values_of parts) c.own call m) →
      Closes t out TrailLimit (body_most t.program (values_of parts) c.own call m + closing_most) z
