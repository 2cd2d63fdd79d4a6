-- Typed lines as turns. Hold it against docs/LANGUAGE.md, "Typed lines and words", and `takes_line` of dg_meaning/specs/Moves.antt.
use Rattle.std.specs.Prelude.{◌≡◌, ◌≢◌, ℕ, ◌+◌, ◌*◌, ◌<◌, ◌≤◌, List, [], ◌∷◌, ◌++◌, length, Some, None}
use Rattle.dg_base.specs.declared.program.CoreProgram.{CoreProgram}
use Rattle.dg_base.specs.declared.program.GapKind.TheVariants.{Line}
use Rattle.dg_base.specs.declared.program.Term.{Term}
use Rattle.dg_base.specs.declared.run.Ending.TheVariants.{HeapLimit, TrailLimit}
use Rattle.dg_meaning.specs.Cells.{cells}
use Rattle.dg_meaning.specs.Copies.{copy_cells}
use Rattle.dg_meaning.specs.Letters.{letters_in}
use Rattle.dg_meaning.specs.Render.{Met, met_behind}
use Rattle.dg_meaning.specs.Unify.{size}
use Rattle.dg_meaning.specs.Values.{Value}
use Rattle.dg_meaning.specs.Words.{first_line, behind_first, letters_of, line_value}
use Rattle.dg_meaning.specs.World.{GapOf}
use Rattle.dg_mid.specs.State.{Mid}
use Rattle.dg_mid.specs.Step.{bound, more, trail_more}
use Rattle.z_model.specs.declared.end.ZEnd.TheVariants as ends
use Rattle.z_model.specs.Run.{ZState}
use Rattle.z_lang.specs.declared.act.Act.{Act}
use Rattle.z_lang.specs.declared.act.Act.TheVariants as acts
use Rattle.z_lang.specs.declared.act.Args.TheVariants as args
use Rattle.z_lang.specs.declared.act.Atom.TheVariants as atoms
use Rattle.z_lang.specs.declared.act.Routine.{Routine}
use Rattle.z_lang.specs.Leads.{Ends}
use Rattle.dg_rt.specs.declared.numbers.TheConstants.{READ_LINE, LINE_CELLS, WRITTEN_VALUE, BREAK_LINE}
use Rattle.dg_rt.specs.declared.registers.TheConstants.{ARGS, CLASH, WORD}
use Rattle.dg_rt.specs.Areas.{line_at, fixed_end, last_reg, lines_reg, spaces_reg, asked_reg, upper_reg}
use Rattle.dg_rt.specs.Closings.{closing_most}
use Rattle.dg_rt.specs.CopiesIn.{HasCaptures}
use Rattle.dg_rt.specs.Dictionary.{HasSpellings}
use Rattle.dg_rt.specs.Gaps.{Meets}
use Rattle.dg_rt.specs.RunTime.{routine_of}
use Rattle.dg_rt.specs.Unifies.{price}
use Rattle.dg_turn.specs.Told.{Telling, told_count}
use Rattle.dg_turn.specs.Plays.{Playing, Outside, Comes, Closes}
use Rattle.dg_turn.specs.Operating.{InFront}
use Rattle.dg_turn.specs.Terms.{terms_acts, written_in}
use Rattle.dg_turn.specs.Turns.{agreed_next, match_acts, last_acts}
use Rattle.dg_turn.specs.World.{value_equation, value_unified}

-- ## The routine

-- A line is read, and the value that it spells is laid on the heap; the text breaks there.
abbrev pub read_acts : List Act
read_acts =
    acts.Call (Some WORD) (atoms.Routine READ_LINE) args.Zero
    ∷ acts.Call (Some WORD) (atoms.Routine LINE_CELLS) (args.One (atoms.Var WORD))
    ∷ acts.Call (Some WORD) (atoms.Routine WRITTEN_VALUE) (args.One (atoms.Var WORD))
    ∷ acts.Call None (atoms.Routine BREAK_LINE) args.Zero ∷ acts.Copy CLASH (atoms.Num 0) ∷ []

-- The routine of typed input: its term is written, a line is read, and its value is unified with the term.
abbrev pub input_routine : CoreProgram → Term → ℕ → Routine
input_routine program a behind =
    routine_of 0 (terms_acts program ARGS (a ∷ []) ++ (read_acts ++ (match_acts ARGS WORD 1 ++ last_acts behind)))

-- ## What it comes to

-- The static tables that tell how many values closures capture, and the words of the program.
pub record HasTables (t : Telling) : Type 0 where
  pub captures : HasCaptures t.p t.story (told_count t.program)
  pub words : HasSpellings t.p t.story t.program.words

-- The value of the line that typed bytes begin with, and how many letters it has.
abbrev pub typed_value : CoreProgram → List ℕ → Value
typed_value program typed = line_value program.words (first_line typed)

abbrev pub typed_letters : List ℕ → ℕ
typed_letters typed = length (letters_of (first_line typed))

-- What reading it takes at most, and unifying its value.
abbrev pub input_most : CoreProgram → Term → List ℕ → Mid → ℕ
input_most program a typed m =
    let v = typed_value program typed in
    written_in program (a ∷ []) + 80 * typed_letters typed + 150 * (typed_letters typed * (1 + length program.words)) + 38 * size v + 8 * letters_in v
    + price m.state.subst (value_equation program a v m) + 420

-- What ends with the input takes at most.
abbrev pub ending_most : CoreProgram → Term → ℕ
ending_most program a = written_in program (a ∷ []) + 330

-- The run ends, since no typed byte is left; nothing more was written.
pub record EndsAtInput (t : Telling) (out : Outside) (most : ℕ) (z : ZState) : Type 0 where
  pub at_end : ZState
  pub written : at_end.output ≡ out.output
  pub count : ℕ
  pub some : 1 ≤ count
  pub few : count ≤ most
  pub ends : Ends t.p.world count z (record { end = ends.InputEnded; state = at_end })

-- A line was taken: the words outside are as before but for those of lines and letters, and the text breaks.
pub record TakesLine (t : Telling) (out : Outside) (met : Met) (typed : List ℕ) (next : ℕ) (m : Mid) (most : ℕ) (z : ZState) : Type 0 where
  pub words' : ℕ → ℕ
  pub meets : Meets words' (met_behind met (GapOf Line))
  pub others : (k : ℕ) → k ≢ last_reg → k ≢ lines_reg → k ≢ spaces_reg → k ≢ asked_reg → k ≢ upper_reg →
      (line_at ≤ k → fixed_end ≤ k) →
      words' k ≡ out.words k
  pub comes : Comes t (record out { typed = behind_first typed; words = words' }) next m most z

-- In one turn a line is taken and its value is unified with the term, or the run ends, with the input or at a limit.
pub record Typing (t : Telling) (out : Outside) (met : Met) (a : Term) (behind : ℕ) (m : Mid) (z : ZState) : Type 0 where
  pub ends : m.state.heap + cells t.program (a ∷ []) ≤ 10000 → out.typed ≡ [] → EndsAtInput t out (ending_most t.program a) z
  pub takes : (byte : ℕ) (typed : List ℕ) → out.typed ≡ byte ∷ typed →
      let v = typed_value t.program (byte ∷ typed) in
      let u = value_unified t.program a v m in
      m.state.heap + cells t.program (a ∷ []) + copy_cells v ≤ 10000 → trail_more m.state u ≤ 2000 →
      TakesLine t out met (byte ∷ typed) (agreed_next t.p behind u.agrees) (bound u (more (copy_cells v) (more (cells t.program (a ∷ [])) m)))
      (input_most t.program a (byte ∷ typed) m) z
  pub meets_heap : 10000 < m.state.heap + cells t.program (a ∷ []) → Closes t out HeapLimit (10 + closing_most) z
  pub meets_value : (byte : ℕ) (typed : List ℕ) → out.typed ≡ byte ∷ typed → m.state.heap + cells t.program (a ∷ []) ≤ 10000 →
      10000 < m.state.heap + cells t.program (a ∷ []) + copy_cells (typed_value t.program (byte ∷ typed)) →
      Closes t out HeapLimit (input_most t.program a (byte ∷ typed) m + closing_most) z
  pub meets_trail : (byte : ℕ) (typed : List ℕ) → out.typed ≡ byte ∷ typed →
      let v = typed_value t.program (byte ∷ typed) in
      m.state.heap + cells t.program (a ∷ []) + copy_cells v ≤ 10000 → 2000 < trail_more m.state (value_unified t.program a v m) →
      Closes t out TrailLimit (input_most t.program a (byte ∷ typed) m + closing_most) z

-- So is typed input, in a story that has the tables.
abbrev pub InputTurns : Type 0
InputTurns = (t : Telling) → Playing t → HasTables t → (out : Outside) (met : Met) (a : Term) (behind : ℕ) (m : Mid) (z : ZState) →
    Meets out.words met → InFront t out (input_routine t.program a behind) (a ∷ []) m z → Typing t out met a behind m z
