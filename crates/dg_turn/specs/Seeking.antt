-- Queries of objects, answered at once or by trying objects one by one, as turns. Hold it against `seeks` and `tries` of dg_mid/specs/Step.antt, and
-- `ask_object` of dg_meaning/specs/Moves.antt.
use Rattle.std.specs.Prelude.{◌≡◌, ℕ, ◌+◌, ◌*◌, ◌<◌, ◌≤◌, List, [], ◌∷◌, ◌++◌, length, map, Option, Some, None, is_some, Bool, true, false, if◌then◌else◌}
use Rattle.std.specs.List.{slice_get}
use Rattle.dg_base.specs.declared.program.CoreProgram.{CoreProgram}
use Rattle.dg_base.specs.declared.program.PlaceKind.{PlaceKind}
use Rattle.dg_base.specs.declared.program.PlaceKind.TheVariants.{ObjectFlag}
use Rattle.dg_base.specs.declared.program.Term.{Term}
use Rattle.dg_base.specs.declared.run.Ending.TheVariants.{HeapLimit, TrailLimit}
use Rattle.dg_meaning.specs.Cells.{cells, nodes_of}
use Rattle.dg_meaning.specs.Changes.{found}
use Rattle.dg_meaning.specs.Copies.{copy_from}
use Rattle.dg_meaning.specs.Facts.{Fact, set, is_object, kinds_of}
use Rattle.dg_meaning.specs.Substitutions.{walk}
use Rattle.dg_meaning.specs.Unify.{Unified, Equations, solve}
use Rattle.dg_meaning.specs.Values.{Label, Object, Value, Var, Node, Values, leaf}
use Rattle.dg_meaning.specs.World.{Print}
use Rattle.dg_mid.specs.declared.code.Op.{Op}
use Rattle.dg_mid.specs.declared.code.Op.TheVariants as op
use Rattle.dg_mid.specs.Heights.{AgreeAll, StatusOrdered}
use Rattle.dg_mid.specs.State.{Place, Find, Tries, Choice, Mid, Runs, Resumes, Fails, place_of}
use Rattle.dg_mid.specs.Step.{Setting, bound, more, trail_more, inside, within, cut_to, back_at, trying_cells}
use Rattle.dg_mid.specs.Units.{dropped, undone}
use Rattle.z_model.specs.Run.{ZState}
use Rattle.z_lang.specs.declared.act.Act.{Act}
use Rattle.z_lang.specs.declared.act.Act.TheVariants as acts
use Rattle.z_lang.specs.declared.act.Args.TheVariants as args
use Rattle.z_lang.specs.declared.act.Atom.TheVariants as atoms
use Rattle.z_lang.specs.declared.act.Routine.{Routine}
use Rattle.z_lang.specs.Leads.{Leads}
use Rattle.z_lang.specs.Standing.{IsKept, state_at}
use Rattle.dg_rt.specs.declared.numbers.TheConstants.{FAIL, IF_RAISED, READ_VALUE, SEEK, SOUGHT, IF_OBJECT}
use Rattle.dg_rt.specs.declared.registers.TheConstants.{ARGS, BACK, WORD}
use Rattle.dg_rt.specs.Areas.{heap_at, inner_reg, key_reg, args_reg, state}
use Rattle.dg_rt.specs.Back.{at_place}
use Rattle.dg_rt.specs.Cells.{at_cell, replaced, Holds}
use Rattle.dg_rt.specs.Changes.{SetIn, set_of}
use Rattle.dg_rt.specs.Closings.{closing_most}
use Rattle.dg_rt.specs.RunTime.{routine_of}
use Rattle.dg_rt.specs.Shapes.{Shape}
use Rattle.dg_rt.specs.Unifies.{price}
use Rattle.dg_rt.specs.Start.{next_reg}
use Rattle.dg_turn.specs.Told.{Telling}
use Rattle.dg_turn.specs.Layout.{words_at, bytes_at}
use Rattle.dg_turn.specs.Tries.{Sought, AnyObject, Flagged, Valued, sought_at, sought_terms}
use Rattle.dg_turn.specs.Lies.{WordsIn, TriesIn, MidIn}
use Rattle.dg_turn.specs.Plays.{Outside, Playing, Represented, registers, Comes, Closes}
use Rattle.dg_turn.specs.Terms.{AreNodes, terms_acts, written_in}
use Rattle.dg_turn.specs.Turns.{agreed_next, match_acts, commit_routine}
use Rattle.dg_turn.specs.Operating.{term_value, term_links, InFront, Deciding}
use Rattle.dg_turn.specs.World.{FactsIn, HasWorld, HasValues, value_equation, value_unified}
use Rattle.dg_turn.specs.Paid.{paid}

-- ## Queries

-- Behind a decision: where the first argument is an unbound variable, the first object is tried.
abbrev pub seek_acts : ℕ → List Act
seek_acts tries = acts.Call (Some WORD) (atoms.Routine SEEK) (args.Two (atoms.Var WORD) (atoms.Routine tries)) ∷ acts.Return (atoms.Var WORD) ∷ []

-- What is answered of an object that is known, or the routine that tries objects.
abbrev pub find_acts : CoreProgram → Sought → (behind tries : ℕ) → List Act
find_acts program AnyObject behind tries =
    acts.Call (Some WORD) (atoms.Routine IF_OBJECT) (args.Two (atoms.Var ARGS) (atoms.Routine behind)) ∷ seek_acts tries
find_acts program (Flagged place) behind tries =
    acts.Call (Some WORD) (atoms.Routine IF_RAISED)
    (args.Three (atoms.Num (64 + bytes_at program place)) (atoms.Num (length program.objects)) (atoms.Routine behind)) ∷ seek_acts tries
find_acts program (Valued place) behind tries =
    acts.Call (Some BACK) (atoms.Routine SEEK) (args.Two (atoms.Routine FAIL) (atoms.Routine tries))
    ∷ acts.Call (Some WORD) (atoms.Routine READ_VALUE) (args.Two (atoms.Num (at_cell (words_at program place))) (atoms.Num (length program.objects)))
    ∷ (match_acts (ARGS + 1) WORD 1
    ++ (acts.Call (Some WORD) (atoms.Routine SOUGHT) (args.Two (atoms.Routine behind) (atoms.Var BACK)) ∷ acts.Return (atoms.Var WORD) ∷ []))

-- The routine of a query of objects: its terms are written, and it goes on at once or tries the first object.
abbrev pub find_routine : CoreProgram → Sought → List Term → (behind tries : ℕ) → Routine
find_routine program s ts behind tries = routine_of 0 (terms_acts program ARGS ts ++ find_acts program s behind tries)

-- A place is of the kind that is sought.
pub record IsValued (program : CoreProgram) (place : ℕ) : Type 0 where
  pub kind : PlaceKind
  pub is : slice_get (kinds_of program) place ≡ Some kind
  pub has : HasValues kind

abbrev pub HasSought : CoreProgram → Sought → Type 0
HasSought program AnyObject = Unit {0}
HasSought program (Flagged place) = slice_get (kinds_of program) place ≡ Some ObjectFlag
HasSought program (Valued place) = IsValued program place

-- What is set of a value, looked up: nothing where it is no object.
abbrev pub sought_of : List Fact → Sought → Value → Option Value
sought_of facts AnyObject v = if is_object v then Some set else None
sought_of facts (Flagged place) v = set_of facts place v
sought_of facts (Valued place) v = set_of facts place v

-- The first term, looked up.
abbrev pub first_walked : CoreProgram → Term → Mid → Value
first_walked program a m = walk m.state.subst (term_value program m a)

-- What a query takes at most.
abbrev pub find_most : CoreProgram → Term → List Term → Mid → ℕ
find_most program a others m = written_in program (a ∷ others) + 10 * term_links program m a + 120

-- It comes to the routine that tries the first object, with the words of these values as arguments.
pub record ComesSeeking (t : Telling) (out : Outside) (tries : ℕ) (vs : List Value) (m : Mid) (most : ℕ) (z : ZState) : Type 0 where
  pub there : ZState
  pub count : ℕ
  pub some : 1 ≤ count
  pub few : count ≤ most
  pub leads : Leads t.p.world count z there
  pub rep : Represented t out (t.p.names.routine tries) m there
  pub args_are : WordsIn rep.sh (registers rep.cells args_reg (length vs)) vs
  pub key_is : rep.cells key_reg ≡ 0

-- So it does where the first term is an unbound variable, or the heap's limit is met.
pub record SeekingAll (t : Telling) (out : Outside) (ts : List Term) (tries most : ℕ) (m : Mid) (z : ZState) : Type 0 where
  pub seeks : m.state.heap + cells t.program ts ≤ 10000 →
      ComesSeeking t out tries (map (term_value t.program m) ts) (more (cells t.program ts) m) most z
  pub meets : 10000 < m.state.heap + cells t.program ts → Closes t out HeapLimit (10 + closing_most) z

-- What is set is unified with the second term, or it fails where nothing is; or a limit is met.
pub record FindingValue (t : Telling) (out : Outside) (a c : Term) (behind : ℕ) (set : Option Value) (m : Mid) (z : ZState) : Type 0 where
  pub fails : m.state.heap + cells t.program (a ∷ c ∷ []) ≤ 10000 → set ≡ None →
      Comes t out (t.p.names.routine FAIL) (more (cells t.program (a ∷ c ∷ [])) m) (find_most t.program a (c ∷ []) m) z
  pub unifies : (v : Value) → m.state.heap + cells t.program (a ∷ c ∷ []) ≤ 10000 → set ≡ Some v →
      let u = value_unified t.program c v m in
      trail_more m.state u ≤ 2000 →
      Comes t out (agreed_next t.p behind u.agrees) (bound u (more (cells t.program (a ∷ c ∷ [])) m))
      (find_most t.program a (c ∷ []) m + price m.state.subst (value_equation t.program c v m)) z
  pub meets_heap : 10000 < m.state.heap + cells t.program (a ∷ c ∷ []) → Closes t out HeapLimit (10 + closing_most) z
  pub meets_trail : (v : Value) → m.state.heap + cells t.program (a ∷ c ∷ []) ≤ 10000 → set ≡ Some v →
      2000 < trail_more m.state (value_unified t.program c v m) →
      Closes t out TrailLimit (find_most t.program a (c ∷ []) m + price m.state.subst (value_equation t.program c v m) + closing_most) z

-- A query of objects is such a turn, by what its first term is.
pub record SeekTurns : Type 0 where
  pub all : (t : Telling) → Playing t → HasWorld t → (out : Outside) (s : Sought) (a : Term) (others : List Term) (behind tries x : ℕ)
      (facts : List Fact) (m : Mid) (z : ZState) → HasSought t.program s → length (a ∷ others) ≡ sought_terms s →
      FactsIn t.program facts out.words →
      first_walked t.program a m ≡ Var x → InFront t out (find_routine t.program s (a ∷ others) behind tries) (a ∷ others) m z →
      SeekingAll t out (a ∷ others) tries (find_most t.program a others m) m z
  pub one : (t : Telling) → Playing t → HasWorld t → (out : Outside) (s : Sought) (a : Term) (behind tries : ℕ) (l : Label) (vs : Values)
      (facts : List Fact) (m : Mid) (z : ZState) → HasSought t.program s → sought_terms s ≡ 1 → FactsIn t.program facts out.words →
      first_walked t.program a m ≡ Node l vs → InFront t out (find_routine t.program s (a ∷ []) behind tries) (a ∷ []) m z →
      Deciding t out (a ∷ []) behind (is_some (sought_of facts s (first_walked t.program a m))) (find_most t.program a [] m) m z
  pub value : (t : Telling) → Playing t → HasWorld t → (out : Outside) (place : ℕ) (a c : Term) (behind tries : ℕ) (l : Label) (vs : Values)
      (facts : List Fact) (m : Mid) (z : ZState) → IsValued t.program place → FactsIn t.program facts out.words →
      first_walked t.program a m ≡ Node l vs → InFront t out (find_routine t.program (Valued place) (a ∷ c ∷ []) behind tries) (a ∷ c ∷ []) m z →
      FindingValue t out a c behind (set_of facts place (first_walked t.program a m)) m z

-- ## Objects that are tried

-- The player is in front of the routine that tries the first of some objects.
pub record TriesAt (t : Telling) (out : Outside) (f : Find) (objects : List ℕ) (m : Mid) (z : ZState) : Type 0 where
  pub x : ℕ
  pub rep : Represented t out x m z
  pub tries : TriesIn t rep.sh x (registers rep.cells args_reg (length f.args)) (rep.cells key_reg) f objects

-- The machine inside the choice of further objects, where there are any.
abbrev pub tried_in : Find → List ℕ → Mid → Mid
tried_in f [] m = m
tried_in f (o ∷ os) m = inside (Tries f (o ∷ os)) (length f.args) m

-- The equations of an object that is tried, of which this is set, and their unification.
abbrev pub try_equations : List Value → ℕ → Value → Equations
try_equations [] o v = []
try_equations (a ∷ []) o v = (a, leaf (Object o)) ∷ []
try_equations (a ∷ b ∷ others) o v = (a, leaf (Object o)) ∷ (b, v) ∷ []

abbrev pub try_unified : Find → ℕ → Value → Mid → Unified
try_unified f o v m = solve m.state.subst (try_equations f.args o v)

-- What trying an object takes at most.
abbrev pub try_most : Find → ℕ → Value → Mid → ℕ
try_most f o v m = price m.state.subst (try_equations f.args o v) + 120

-- Memory stands for a machine whose newest inner construct has no cells: it begins where the heap ends, and the fourth cell from there on names the one
-- around it.
pub record Landed (t : Telling) (out : Outside) (next : ℕ) (m : Mid) (z : ZState) : Type 0 where
  pub memory : List ℕ
  pub is : z ≡ state_at (state memory [] out.typed out.drawn out.output) t.context t.pc
  pub kept : IsKept t.p.world.layout.base t.story memory
  pub cells : ℕ → ℕ
  pub holds : Holds t.p.world.layout memory cells
  pub next_is : cells next_reg ≡ next
  pub place : Place
  pub places : List Place
  pub inner_are : m.inner ≡ place ∷ places
  pub height : place.height ≡ m.state.heap
  pub inner : cells inner_reg ≡ at_place m.state.heap
  pub sh : Shape
  pub trail : List ℕ
  pub mid : MidIn t out.words sh (replaced cells inner_reg (cells (heap_at + (m.state.heap + 3)))) trail (record m { inner = places })

-- It comes there.
pub record ComesLanded (t : Telling) (out : Outside) (next : ℕ) (m : Mid) (most : ℕ) (z : ZState) : Type 0 where
  pub there : ZState
  pub count : ℕ
  pub some : 1 ≤ count
  pub few : count ≤ most
  pub leads : Leads t.p.world count z there
  pub landed : Landed t out next m there

-- Where an object agrees it goes on: where one answer is wanted in an inner construct, which has no cells where no other objects follow.
abbrev pub GoesOnTried : Telling → Outside → ℕ → Bool → List ℕ → Place → Mid → ℕ → ZState → Type 0
GoesOnTried t out next true os p m most z = Comes t out next m most z
GoesOnTried t out next false [] p m most z = ComesLanded t out next (within p m) most z
GoesOnTried t out next false (o ∷ os) p m most z = Comes t out next (within p m) most z

-- In one turn an object is tried of which this is set: a choice of the others is opened, and the object is unified with the first argument and what is set
-- with the second; where nothing is set it fails. Or a limit is met.
pub record Trying (t : Telling) (out : Outside) (f : Find) (o : ℕ) (os : List ℕ) (set : Option Value) (m : Mid) (z : ZState) : Type 0 where
  pub fails : m.state.heap + trying_cells f os ≤ 10000 → set ≡ None → Comes t out (t.p.names.routine FAIL) (tried_in f os m) 120 z
  pub clashes : (v : Value) → m.state.heap + trying_cells f os ≤ 10000 → set ≡ Some v →
      let m' = tried_in f os m in
      let u = try_unified f o v m' in
      trail_more m'.state u ≤ 2000 → u.agrees ≡ false → Comes t out (t.p.names.routine FAIL) (bound u m') (try_most f o v m') z
  pub agrees : (v : Value) → m.state.heap + trying_cells f os ≤ 10000 → set ≡ Some v →
      let m' = tried_in f os m in
      let u = try_unified f o v m' in
      trail_more m'.state u ≤ 2000 → u.agrees ≡ true →
      GoesOnTried t out (t.at_block f.next) f.many os (place_of m) (bound u m') (try_most f o v m') z
  pub meets_heap : 10000 < m.state.heap + trying_cells f os → Closes t out HeapLimit (20 + closing_most) z
  pub meets_trail : (v : Value) → m.state.heap + trying_cells f os ≤ 10000 → set ≡ Some v →
      let m' = tried_in f os m in
      2000 < trail_more m'.state (try_unified f o v m') → Closes t out TrailLimit (try_most f o v m' + closing_most) z

abbrev pub TryTurns : Type 0
TryTurns = (t : Telling) → Playing t → HasWorld t → (out : Outside) (f : Find) (o : ℕ) (os : List ℕ) (facts : List Fact) (m : Mid) (z : ZState) →
    FactsIn t.program facts out.words → TriesAt t out f (o ∷ os) m z → Trying t out f o os (found facts f.place o) m z

-- Without objects it fails.
abbrev pub NoneTriedTurns : Type 0
NoneTriedTurns = (t : Telling) → Playing t → (out : Outside) (f : Find) (m : Mid) (z : ZState) → t.program.objects ≡ [] → TriesAt t out f [] m z →
    Comes t out (t.p.names.routine FAIL) m 3 z

-- ## Leaving and going back

-- An inner construct without cells is left, as one with cells is.
abbrev pub LandedTurns : Type 0
LandedTurns = (t : Telling) → Playing t → (out : Outside) (x : ℕ) (m : Mid) (z : ZState) (place : Place) (places : List Place) (behind : ℕ) →
    t.p.routine_at x ≡ Some (commit_routine behind) → m.inner ≡ place ∷ places → AgreeAll m.choices place → Landed t out x m z →
    Comes t out (t.p.names.routine behind) (cut_to place (record m { inner = places })) (4 * dropped place m.choices + 15) z

-- The player is back at a choice of further objects.
pub record BackTrying (t : Telling) (out : Outside) (f : Find) (objects : List ℕ) (m : Mid) (most : ℕ) (z : ZState) : Type 0 where
  pub there : ZState
  pub count : ℕ
  pub some : 1 ≤ count
  pub few : count ≤ most
  pub leads : Leads t.p.world count z there
  pub at : TriesAt t out f objects m there

-- In one turn a failure goes back to it, in 6 instructions for each binding that is undone and 34.
abbrev pub BackTryingTurns : Type 0
BackTryingTurns = (t : Telling) → Playing t → (out : Outside) (m : Mid) (x : Choice) (xs : List Choice) (f : Find) (objects : List ℕ) (z : ZState) →
    m.choices ≡ x ∷ xs → x.way ≡ Tries f objects → StatusOrdered (Fails m) → Represented t out (t.p.names.routine FAIL) m z →
    BackTrying t out f objects (back_at x xs m) (6 * undone m.choices m + 34) z

-- ## What it costs

-- A query of objects is paid for, and so is an object that is tried, of which this is set: where it is matched, it is its own copy.
pub record TriesArePaid : Type 0 where
  pub find : (g : Setting) (ps : List Print) (m : Mid) (place : Option ℕ) (s : Sought) (a : Term) (others : List Term) (many : Bool) (next : ℕ)
      (ops : List Op) → m.ops ≡ op.Find place (a ∷ others) many next ∷ ops → sought_at g.game.program place ≡ Some s →
      AreNodes g.game.program (nodes_of (a ∷ others)) → find_most g.game.program a others m ≤ paid g ps (Runs m)
  pub answer : (g : Setting) (ps : List Print) (m : Mid) (place : ℕ) (a c : Term) (many : Bool) (next : ℕ) (ops : List Op)
      (word : ℕ) (v : Value) → m.ops ≡ op.Find (Some place) (a ∷ c ∷ []) many next ∷ ops → IsValued g.game.program place →
      AreNodes g.game.program (nodes_of (a ∷ c ∷ [])) → set_of m.lasting.facts place (first_walked g.game.program a m) ≡ Some v →
      SetIn word (Some v) →
      find_most g.game.program a (c ∷ []) m + price m.state.subst (value_equation g.game.program c v m) ≤ paid g ps (Runs m)
  pub tries : (g : Setting) (ps : List Print) (m : Mid) (f : Find) (o : ℕ) (os : List ℕ) (v : Value) →
      found m.lasting.facts f.place o ≡ Some v → (2 ≤ length f.args → (i : ℕ) → copy_from i v ≡ v) →
      try_most f o v (tried_in f os m) ≤ paid g ps (Resumes (Tries f (o ∷ os)) m)
  pub fails : (g : Setting) (ps : List Print) (m : Mid) (f : Find) (o : ℕ) (os : List ℕ) → 120 ≤ paid g ps (Resumes (Tries f (o ∷ os)) m)
