-- Global variables: a change and a query as turns. Hold it against docs/LANGUAGE.md, "The world" and "Limits", and dg_meaning/specs/Changes.antt, where it
-- says what sets or clears a global variable.
use Rattle.std.specs.Prelude.{◌≡◌, ℕ, ◌+◌, ◌*◌, ◌≤◌, ◌<◌, List, [], ◌∷◌, ◌++◌, Option, Some, None, is_some, Bool}
use Rattle.std.specs.List.{slice_get}
use Rattle.dg_base.specs.declared.program.CoreProgram.{CoreProgram}
use Rattle.dg_base.specs.declared.program.PlaceKind.TheVariants.{Global}
use Rattle.dg_base.specs.declared.program.Term.{Term}
use Rattle.dg_base.specs.declared.run.Ending.TheVariants.{HeapLimit, TrailLimit, KeepLimit}
use Rattle.dg_meaning.specs.Cells.{cells}
use Rattle.dg_meaning.specs.Copies.{vars_in, copy_from, copy_cells}
use Rattle.dg_meaning.specs.Facts.{Fact, value_at, Alteration, altered, kinds_of, kept_size}
use Rattle.dg_meaning.specs.Letters.{letters_in}
use Rattle.dg_meaning.specs.Substitutions.{resolved}
use Rattle.dg_meaning.specs.Unify.{Unified, Equations, looks, size, solve}
use Rattle.dg_meaning.specs.Values.{Value}
use Rattle.dg_mid.specs.State.{Mid}
use Rattle.dg_mid.specs.Step.{bound, more, trail_more}
use Rattle.z_model.specs.Run.{ZState}
use Rattle.z_lang.specs.declared.act.Act.TheVariants as acts
use Rattle.z_lang.specs.declared.act.Args.TheVariants as args
use Rattle.z_lang.specs.declared.act.Atom.TheVariants as atoms
use Rattle.z_lang.specs.declared.act.Routine.{Routine}
use Rattle.dg_rt.specs.declared.numbers.TheConstants.{READ_KEPT, FAIL}
use Rattle.dg_rt.specs.declared.registers.TheConstants.{ARGS, WORD}
use Rattle.dg_rt.specs.RunTime.{routine_of}
use Rattle.dg_rt.specs.Unifies.{price}
use Rattle.dg_rt.specs.Cells.{at_cell}
use Rattle.dg_rt.specs.Areas.{kept_at, line_at}
use Rattle.dg_rt.specs.Changes.{facts_behind}
use Rattle.dg_rt.specs.CopiesIn.{HasCaptures}
use Rattle.dg_rt.specs.Closings.{closing_most}
use Rattle.dg_turn.specs.Told.{Telling, told_count}
use Rattle.dg_turn.specs.Plays.{Outside, Playing, Comes, Closes}
use Rattle.dg_turn.specs.Terms.{terms_acts, written_in}
use Rattle.dg_turn.specs.Turns.{agreed_next, match_acts, last_acts}
use Rattle.dg_turn.specs.Operating.{term_value, InFront}
use Rattle.dg_turn.specs.World.{world_at, world_end, words_at, FactsIn, HasWorld, now_routine, change_in}

-- ## Changes

-- What is kept behind a change, if there is one.
abbrev pub kept_behind : CoreProgram → Option Alteration → List Fact → ℕ
kept_behind program None facts = 0
kept_behind program (Some c) facts = kept_size (kinds_of program) (altered c facts)

-- What a change takes at most: its value is looked through and copied, and the other values are moved, which take so many words.
abbrev pub global_most : CoreProgram → Term → ℕ → Mid → ℕ
global_most program a moved m =
    let v = term_value program m a in
    let S = m.state.subst in
    written_in program (a ∷ []) + 35 * looks S m.state.vars v + 8 * letters_in (resolved S v) + 20 * moved + 80

-- Words outside that stand for other facts; those that are neither the world's nor kept are the same.
pub record KeptOuter (program : CoreProgram) (facts : List Fact) (words : ℕ → ℕ) : Type 0 where
  pub words' : ℕ → ℕ
  pub others : (k : ℕ) → (kept_at ≤ k → line_at ≤ k) → (world_at ≤ k → world_end program ≤ k) → words' k ≡ words k
  pub facts_in : FactsIn program facts words'

-- In one turn a global variable is changed, where there is a change, and it goes on; else all stays, and it fails.
pub record Keeps (t : Telling) (out : Outside) (behind : ℕ) (change : Option Alteration) (facts : List Fact) (m : Mid) (most : ℕ)
    (z : ZState) : Type 0 where
  pub outer : KeptOuter t.program facts out.words
  pub comes : Comes t (record out { words = outer.words' }) (agreed_next t.p behind (is_some change)) m most z

-- So it does, or the heap's limit is met, or that of what is kept where it would be passed.
pub record Keeping (t : Telling) (out : Outside) (ts : List Term) (behind : ℕ) (change : Option Alteration) (facts : List Fact) (most : ℕ)
    (m : Mid) (z : ZState) : Type 0 where
  pub changes : m.state.heap + cells t.program ts ≤ 10000 → kept_size (kinds_of t.program) facts ≤ 500 →
      Keeps t out behind change facts (more (cells t.program ts) m) most z
  pub meets_heap : 10000 < m.state.heap + cells t.program ts → Closes t out HeapLimit (10 + closing_most) z
  pub meets_keep : m.state.heap + cells t.program ts ≤ 10000 → 500 < kept_size (kinds_of t.program) facts →
      Closes t out KeepLimit (most + closing_most) z

-- A change of a global variable is such a turn: `change_place` of dg_meaning/specs/Moves.antt.
abbrev pub GlobalTurns : Type 0
GlobalTurns = (t : Telling) → Playing t → HasWorld t → (out : Outside) (place : ℕ) (a : Term) (sets : Bool) (behind : ℕ) (facts : List Fact)
    (m : Mid) (z : ZState) → slice_get (kinds_of t.program) place ≡ Some Global → FactsIn t.program facts out.words →
    InFront t out (now_routine t.program Global place (a ∷ []) sets behind) (a ∷ []) m z →
    let change = change_in t.program Global place (a ∷ []) sets m in
    Keeping t out (a ∷ []) behind change (facts_behind change facts) (global_most t.program a (kept_behind t.program change facts) m) m z

-- ## Queries

-- The routine of a query: a copy of the value is made, and unified with a term.
abbrev pub global_routine : CoreProgram → ℕ → Term → ℕ → Routine
global_routine program place a behind =
    routine_of 0 (terms_acts program ARGS (a ∷ [])
    ++ (acts.Call (Some WORD) (atoms.Routine READ_KEPT) (args.One (atoms.Num (at_cell (words_at program place))))
    ∷ (match_acts ARGS WORD 1 ++ last_acts behind)))

-- The machine behind a copy.
abbrev pub copied_in : Value → Mid → Mid
copied_in v m = record m { state = record m.state { vars = m.state.vars + vars_in v; heap = m.state.heap + copy_cells v } }

-- The equation of a term and a copy, and its unification.
abbrev pub copy_equation : CoreProgram → Term → Value → Mid → Equations
copy_equation program a v m = (term_value program m a, copy_from m.state.vars v) ∷ []

abbrev pub copy_unified : CoreProgram → Term → Value → Mid → Unified
copy_unified program a v m = solve m.state.subst (copy_equation program a v m)

-- What reading takes at most, and unifying what was read.
abbrev pub global_read_most : CoreProgram → Term → ℕ
global_read_most program a = written_in program (a ∷ []) + 60

abbrev pub global_copied_most : CoreProgram → Term → Value → Mid → ℕ
global_copied_most program a v m = global_read_most program a + 38 * size v + 8 * letters_in v + price m.state.subst (copy_equation program a v m)

-- In one turn it fails where nothing is set, and else a copy of what is set is unified with the term; or the limit of the heap or of the trail is met.
pub record ReadingGlobal (t : Telling) (out : Outside) (a : Term) (behind : ℕ) (set : Option Value) (m : Mid) (z : ZState) : Type 0 where
  pub fails : m.state.heap + cells t.program (a ∷ []) ≤ 10000 → set ≡ None →
      Comes t out (t.p.names.routine FAIL) (more (cells t.program (a ∷ [])) m) (global_read_most t.program a) z
  pub unifies : (v : Value) → m.state.heap + cells t.program (a ∷ []) + copy_cells v ≤ 10000 → set ≡ Some v →
      let u = copy_unified t.program a v m in
      trail_more m.state u ≤ 2000 →
      Comes t out (agreed_next t.p behind u.agrees) (bound u (copied_in v (more (cells t.program (a ∷ [])) m)))
      (global_copied_most t.program a v m) z
  pub meets_heap : 10000 < m.state.heap + cells t.program (a ∷ []) → Closes t out HeapLimit (10 + closing_most) z
  pub meets_copy : (v : Value) → m.state.heap + cells t.program (a ∷ []) ≤ 10000 → set ≡ Some v →
      10000 < m.state.heap + cells t.program (a ∷ []) + copy_cells v → Closes t out HeapLimit (global_copied_most t.program a v m + closing_most) z
  pub meets_trail : (v : Value) → m.state.heap + cells t.program (a ∷ []) + copy_cells v ≤ 10000 → set ≡ Some v →
      2000 < trail_more m.state (copy_unified t.program a v m) → Closes t out TrailLimit (global_copied_most t.program a v m + closing_most) z

-- A query of a global variable is such a turn, where the table of captures stands in the story: `ask_place` of dg_meaning/specs/Moves.antt.
abbrev pub ReadGlobalTurns : Type 0
ReadGlobalTurns = (t : Telling) → Playing t → HasWorld t → HasCaptures t.p t.story (told_count t.program) → (out : Outside) (place : ℕ)
    (a : Term) (behind : ℕ) (facts : List Fact) (m : Mid) (z : ZState) → slice_get (kinds_of t.program) place ≡ Some Global →
    FactsIn t.program facts out.words → InFront t out (global_routine t.program place a behind) (a ∷ []) m z →
    ReadingGlobal t out a behind (value_at facts place 0) m z
