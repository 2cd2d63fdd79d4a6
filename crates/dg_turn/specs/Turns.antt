-- Rules that are entered, terms that are unified, and inner constructs that are left: what their routines are, and each as a turn. Hold it against
-- dg_mid/specs/Step.antt.
use Rattle.std.specs.Prelude.{◌≡◌, ℕ, zero, suc, ◌+◌, ◌*◌, ◌<◌, ◌≤◌, max, nat_lt, List, [], ◌∷◌, ◌++◌, length, map, Some, None, Bool, true, false, ◌&&◌, if◌then◌else◌}
use Rattle.std.specs.List.{zip}
use Rattle.dg_base.specs.declared.program.CoreProgram.{CoreProgram}
use Rattle.dg_base.specs.declared.program.Term.{Term, out-Term}
use Rattle.dg_base.specs.declared.program.Term.TheOpen as term
use Rattle.dg_base.specs.declared.run.Ending.TheVariants.{HeapLimit, TrailLimit}
use Rattle.dg_meaning.specs.Values.{value_of}
use Rattle.dg_meaning.specs.Cells.{nodes_of, cells}
use Rattle.dg_meaning.specs.Unify.{Unified, Equations, solve}
use Rattle.dg_mid.specs.State.{Place, Call, Mid, vars_of}
use Rattle.dg_mid.specs.Step.{new_frame, bound, more, trail_more, cut_to}
use Rattle.dg_mid.specs.Units.{dropped}
use Rattle.dg_mid.specs.Heights.{AgreeAll}
use Rattle.z_model.specs.Run.{ZState}
use Rattle.z_lang.specs.declared.act.Act.{Act}
use Rattle.z_lang.specs.declared.act.Act.TheVariants as acts
use Rattle.z_lang.specs.declared.act.Args.TheVariants as args
use Rattle.z_lang.specs.declared.act.Atom.TheVariants as atoms
use Rattle.z_lang.specs.declared.act.Routine.{Routine}
use Rattle.z_lang.specs.State.{Program}
use Rattle.dg_rt.specs.declared.numbers.TheConstants.{ENTER, MATCH, TAKE, MATCHED, COMMIT, FAIL}
use Rattle.dg_rt.specs.declared.registers.TheConstants.{ARGS, CLASH, WORD}
use Rattle.dg_rt.specs.RunTime.{routine_of}
use Rattle.dg_rt.specs.Unifies.{price}
use Rattle.dg_rt.specs.Closings.{closing_most}
use Rattle.dg_turn.specs.Told.{Telling}
use Rattle.dg_turn.specs.Plays.{Playing, Outside, Represented, CallAt, Comes, Closes}
use Rattle.dg_turn.specs.Terms.{capped, terms_acts, AreNodes, written_in}

-- The routine that comes behind a unification: this one, or the one that fails.
abbrev pub agreed_next : Program → ℕ → Bool → ℕ
agreed_next p behind true = p.names.routine behind
agreed_next p behind false = p.names.routine FAIL

-- ## Terms whose variables are new

-- A number above the variable that a node is, or above those that it captures, and no less than another number.
abbrev pub above_node : ℕ → term.Term-F Term → ℕ
above_node n (term.Var v) = max n (suc v)
above_node n (term.Closure c) = max n 128
above_node n other = n

-- So it is with some nodes.
abbrev pub above : ℕ → List Term → ℕ
above n [] = n
above n (x ∷ xs) = above (above_node n (out-Term x)) xs

-- A node is no variable below a number, and no closure.
abbrev pub is_new : ℕ → term.Term-F Term → Bool
is_new n (term.Var v) = if nat_lt v n then false else true
is_new n (term.Closure c) = false
is_new n other = true

-- Each variable among some nodes is greater than those in front of it, and the first no less than a number; no closure is among them. So each stands there
-- once, and, where the number is above all variables in front of these nodes, nowhere before.
abbrev pub are_new : ℕ → List Term → Bool
are_new n [] = true
are_new n (x ∷ xs) = is_new n (out-Term x) && are_new (above_node n (out-Term x)) xs

-- ## A rule is entered

-- The routine that unifies an argument with the term of these nodes, all variables in front of which are below a number.
abbrev pub matcher : ℕ → List Term → ℕ
matcher n xs = if are_new n xs then TAKE else MATCH

-- The same of each of some terms.
abbrev pub matchers : ℕ → List Term → List ℕ
matchers n [] = []
matchers n (t ∷ ts) = matcher n (nodes_of (t ∷ [])) ∷ matchers (above n (nodes_of (t ∷ []))) ts

-- The variables from one on are unified with those from another on, by these routines.
abbrev pub unifying_acts : ℕ → ℕ → List ℕ → List Act
unifying_acts v x [] = []
unifying_acts v x (r ∷ rs) = acts.Call None (atoms.Routine r) (args.Two (atoms.Var v) (atoms.Var x)) ∷ unifying_acts (suc v) (suc x) rs

-- So many variables from one on are matched with those from another on.
abbrev pub match_acts : ℕ → ℕ → ℕ → List Act
match_acts v x zero = []
match_acts v x (suc n) = acts.Call None (atoms.Routine MATCH) (args.Two (atoms.Var v) (atoms.Var x)) ∷ match_acts (suc v) (suc x) n

-- What comes behind a unification is answered.
abbrev pub last_acts : ℕ → List Act
last_acts behind = acts.Call (Some WORD) (atoms.Routine MATCHED) (args.One (atoms.Routine behind)) ∷ acts.Return (atoms.Var WORD) ∷ []

-- Where the words of a head are put: behind all other registers.
abbrev pub HEAD : ℕ
HEAD = 64

-- The arguments are unified with the words of a head.
abbrev pub unified_acts : List Term → List Act
unified_acts head = unifying_acts ARGS HEAD (matchers 0 head)

-- The words of a head are put there, and unified with the arguments.
abbrev pub head_acts : CoreProgram → List Term → ℕ → List Act
head_acts program head behind = terms_acts program HEAD head ++ (unified_acts head ++ last_acts behind)

-- The routine that enters a rule of so many variables with this head, and goes on there.
abbrev pub enter_routine : CoreProgram → ℕ → List Term → ℕ → Routine
enter_routine program vars head behind =
    routine_of 0 (acts.Call None (atoms.Routine ENTER) (args.Two (atoms.Num vars) (atoms.Num (capped (cells program head))))
    ∷ head_acts program head behind)

-- The machine inside a rule, with its head written.
abbrev pub in_rule : CoreProgram → Call → ℕ → List Term → Mid → Mid
in_rule program call vars head m =
    record m { state = record m.state { vars = m.state.vars + vars; heap = m.state.heap + (6 + vars + cells program head) } }

-- The same with what a unification has bound, and its frame.
abbrev pub entered : CoreProgram → Call → ℕ → List Term → Unified → Mid → Mid
entered program call vars head u m =
    record (bound u (in_rule program call vars head m)) { frames = new_frame call vars m ∷ m.frames; inner = [] }

-- The arguments of a call beside the terms of a rule's head, and their unification.
abbrev pub head_equations : CoreProgram → Call → ℕ → List Term → Mid → Equations
head_equations program call vars head m = zip call.args (map (value_of program (new_frame call vars m).vars) head)

abbrev pub head_unified : CoreProgram → Call → ℕ → List Term → Mid → Unified
head_unified program call vars head m = solve m.state.subst (head_equations program call vars head m)

-- What entering takes at most.
abbrev pub entering_most : CoreProgram → Call → ℕ → List Term → Mid → ℕ
entering_most program call vars head m =
    4 * vars + written_in program head + price m.state.subst (head_equations program call vars head m) + 6 * length head + 40

-- The player is in front of the routine that enters a rule, with a call in registers.
pub record Entering (t : Telling) (out : Outside) (call : Call) (vars : ℕ) (head : List Term) (behind : ℕ) (m : Mid) (z : ZState) : Type 0 where
  pub x : ℕ
  pub rep : Represented t out x m z
  pub call_is : CallAt t rep.sh rep.cells call
  pub there : t.p.routine_at x ≡ Some (enter_routine t.program vars head behind)
  pub fits : length call.args ≡ length head
  pub short : length head ≤ 12
  pub nodes : AreNodes t.program (nodes_of head)

-- In one turn a rule is entered, or a limit is met: `enter` of dg_mid/specs/Step.antt.
pub record EnterTurns : Type 0 where
  pub enters : (t : Telling) → Playing t → (out : Outside) (call : Call) (vars : ℕ) (head : List Term) (behind : ℕ) (m : Mid) (z : ZState) →
      Entering t out call vars head behind m z → m.state.heap + (6 + vars + cells t.program head) ≤ 10000 →
      let u = head_unified t.program call vars head m in
      trail_more m.state u ≤ 2000 →
      Comes t out (agreed_next t.p behind u.agrees) (entered t.program call vars head u m) (entering_most t.program call vars head m) z
  pub meets_heap : (t : Telling) → Playing t → (out : Outside) (call : Call) (vars : ℕ) (head : List Term) (behind : ℕ) (m : Mid) (z : ZState) →
      (e : Entering t out call vars head behind m z) → vars ≤ 300 → 10000 < m.state.heap + (6 + vars + cells t.program head) →
      Closes t out HeapLimit (10 + closing_most) z
  pub meets_trail : (t : Telling) → Playing t → (out : Outside) (call : Call) (vars : ℕ) (head : List Term) (behind : ℕ) (m : Mid) (z : ZState) →
      (e : Entering t out call vars head behind m z) → m.state.heap + (6 + vars + cells t.program head) ≤ 10000 →
      2000 < trail_more m.state (head_unified t.program call vars head m) →
      Closes t out TrailLimit (entering_most t.program call vars head m + closing_most) z

-- ## Two terms are unified

-- The routine of a goal (= a b) that goes on there.
abbrev pub equal_routine : CoreProgram → Term → Term → ℕ → Routine
equal_routine program a b behind =
    routine_of 0 (terms_acts program ARGS (a ∷ b ∷ []) ++ (acts.Copy CLASH (atoms.Num 0) ∷ (match_acts ARGS (ARGS + 1) 1 ++ last_acts behind)))

-- The equation of two terms, and its unification.
abbrev pub equation : CoreProgram → Term → Term → Mid → Equations
equation program a b m = (value_of program (vars_of m.frames) a, value_of program (vars_of m.frames) b) ∷ []

abbrev pub equal_unified : CoreProgram → Term → Term → Mid → Unified
equal_unified program a b m = solve m.state.subst (equation program a b m)

-- What unifying them takes at most.
abbrev pub equal_most : CoreProgram → Term → Term → Mid → ℕ
equal_most program a b m = written_in program (a ∷ b ∷ []) + price m.state.subst (equation program a b m) + 30

-- The player is in front of the routine that unifies two terms.
pub record Equating (t : Telling) (out : Outside) (a b : Term) (behind : ℕ) (m : Mid) (z : ZState) : Type 0 where
  pub x : ℕ
  pub rep : Represented t out x m z
  pub there : t.p.routine_at x ≡ Some (equal_routine t.program a b behind)
  pub nodes : AreNodes t.program (nodes_of (a ∷ b ∷ []))

-- In one turn two terms are unified, or a limit is met: what `done` of dg_mid/specs/Step.antt does of a goal (= a b).
pub record EqualTurns : Type 0 where
  pub unifies : (t : Telling) → Playing t → (out : Outside) (a b : Term) (behind : ℕ) (m : Mid) (z : ZState) → Equating t out a b behind m z →
      m.state.heap + cells t.program (a ∷ b ∷ []) ≤ 10000 →
      let u = equal_unified t.program a b m in
      trail_more m.state u ≤ 2000 →
      Comes t out (agreed_next t.p behind u.agrees) (bound u (more (cells t.program (a ∷ b ∷ [])) m)) (equal_most t.program a b m) z
  pub meets_heap : (t : Telling) → Playing t → (out : Outside) (a b : Term) (behind : ℕ) (m : Mid) (z : ZState) →
      (e : Equating t out a b behind m z) → 10000 < m.state.heap + cells t.program (a ∷ b ∷ []) →
      Closes t out HeapLimit (10 + closing_most) z
  pub meets_trail : (t : Telling) → Playing t → (out : Outside) (a b : Term) (behind : ℕ) (m : Mid) (z : ZState) →
      (e : Equating t out a b behind m z) → m.state.heap + cells t.program (a ∷ b ∷ []) ≤ 10000 →
      2000 < trail_more m.state (equal_unified t.program a b m) →
      Closes t out TrailLimit (equal_most t.program a b m + closing_most) z

-- ## It goes on

-- The routine of an instruction that only goes on, at a block or at the routine that fails.
abbrev pub goto_routine : ℕ → Routine
goto_routine next = routine_of 0 (acts.Return (atoms.Routine next) ∷ [])

-- In one turn it goes on: `does` of a `Goto`, of a `Take` and of a `Back`.
abbrev pub GotoTurns : Type 0
GotoTurns = (t : Telling) → Playing t → (out : Outside) (x next : ℕ) (m : Mid) (z : ZState) →
    t.p.routine_at x ≡ Some (goto_routine next) → Represented t out x m z → Comes t out (t.p.names.routine next) m 3 z

-- ## An inner construct is left

-- The routine that leaves it and goes on there.
abbrev pub commit_routine : ℕ → Routine
commit_routine behind = routine_of 0 (acts.Call None (atoms.Routine COMMIT) args.Zero ∷ acts.Return (atoms.Routine behind) ∷ [])

-- In one turn the newest inner construct is left, and the choices inside it are dropped, in 4 instructions each: `commits` of
-- dg_mid/specs/Step.antt.
abbrev pub CommitTurns : Type 0
CommitTurns = (t : Telling) → Playing t → (out : Outside) (x : ℕ) (m : Mid) (z : ZState) (place : Place) (places : List Place) (behind : ℕ) →
    t.p.routine_at x ≡ Some (commit_routine behind) → m.inner ≡ place ∷ places → AgreeAll m.choices place → Represented t out x m z →
    Comes t out (t.p.names.routine behind) (cut_to place (record m { inner = places })) (4 * dropped place m.choices + 15) z
