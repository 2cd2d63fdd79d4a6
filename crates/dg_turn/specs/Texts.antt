-- Text that is printed: the routines of a text, of a gap and of so many spaces, and each as a turn. Hold it against the Dialog manual, chapter "Output",
-- and dg_meaning/specs/Render.antt.
use Rattle.std.specs.Prelude.{◌≡◌, ◌≢◌, ℕ, ◌+◌, ◌*◌, ◌<◌, ◌≤◌, List, [], ◌∷◌, ◌++◌, length, map, Some, None, false, All, encode_utf8_all}
use Rattle.std.specs.List.{list_any}
use Rattle.dg_base.specs.declared.program.CoreProgram.{CoreProgram}
use Rattle.dg_base.specs.declared.program.GapKind.{GapKind}
use Rattle.dg_base.specs.declared.program.GapKind.TheVariants as kinds
use Rattle.dg_base.specs.declared.program.Term.{Term}
use Rattle.dg_base.specs.declared.run.Ending.TheVariants.{Quit, HeapLimit}
use Rattle.dg_base.specs.Sound.{IsPrintable}
use Rattle.dg_meaning.specs.Values.{Num, Node, Values, value_of}
use Rattle.dg_meaning.specs.Substitutions.{walk, links}
use Rattle.dg_meaning.specs.World.{Print, Piece, GapOf, SpacesOf}
use Rattle.dg_meaning.specs.Render.{is_upper, spaces_from, last_asked, last_of, Met, written, met_behind}
use Rattle.dg_meaning.specs.Cells.{cells, nodes_of}
use Rattle.dg_mid.specs.State.{Mid, vars_of}
use Rattle.dg_mid.specs.Step.{more}
use Rattle.z_model.specs.Run.{ZState}
use Rattle.z_lang.specs.declared.act.Act.{Act}
use Rattle.z_lang.specs.declared.act.Act.TheVariants as acts
use Rattle.z_lang.specs.declared.act.Args.TheVariants as args
use Rattle.z_lang.specs.declared.act.Atom.TheVariants as atoms
use Rattle.z_lang.specs.declared.act.Comparison.TheVariants as comparisons
use Rattle.z_lang.specs.declared.act.Print.TheVariants as prints
use Rattle.z_lang.specs.declared.act.Routine.{Routine}
use Rattle.dg_rt.specs.declared.numbers.TheConstants.{DONE, FAIL, SEPARATE, FIRST, ASK_SPACES}
use Rattle.dg_rt.specs.declared.registers.TheConstants.{ARGS, LAST, LINES, SPACES, ASKED, UPPER, WORD}
use Rattle.dg_rt.specs.Cells.{replaced, bit}
use Rattle.dg_rt.specs.Areas.{last_reg, lines_reg, spaces_reg, asked_reg, upper_reg}
use Rattle.dg_rt.specs.RunTime.{routine_of}
use Rattle.dg_rt.specs.Closings.{closing_most}
use Rattle.dg_rt.specs.Gaps.{last_word, break_word, asked_word, Meets}
use Rattle.dg_rt.specs.Operands.{no_value, number_word}
use Rattle.dg_turn.specs.Told.{Telling}
use Rattle.dg_turn.specs.Plays.{Playing, Outside, Represented, Comes, Closes}
use Rattle.dg_turn.specs.Terms.{terms_acts, AreNodes, written_in}
use Rattle.dg_turn.specs.Turns.{goto_routine}

-- ## Routines

-- A character is printed.
abbrev pub say : ℕ → Act
say c = acts.Print prints.Unicode (atoms.Num c)

-- The characters of a text are printed behind what separates it from the text before, the first as a capital where one is asked for.
abbrev pub text_acts : List ℕ → List Act
text_acts [] = []
text_acts (c ∷ cs) =
    acts.Call None (atoms.Routine SEPARATE) (args.One (atoms.Num c)) ∷ acts.Call None (atoms.Routine FIRST) (args.One (atoms.Num c)) ∷ map say cs

-- The routine that prints a text of these characters, keeps how the text ends, and goes on there.
abbrev pub text_routine : List ℕ → ℕ → Routine
text_routine cs behind =
    routine_of 0 (text_acts cs ++ acts.Copy LAST (atoms.Num (last_word (last_of None cs))) ∷ acts.Return (atoms.Routine behind) ∷ [])

-- What a gap writes: a line, unless a paragraph stands there, and a paragraph drop the spaces that were counted; of (space) and (no space) the last one
-- counts.
abbrev pub gap_acts : GapKind → List Act
gap_acts kinds.NoSpace = acts.Copy ASKED (atoms.Num 1) ∷ []
gap_acts kinds.Space = acts.Copy ASKED (atoms.Num 2) ∷ []
gap_acts kinds.Line =
    acts.When (record { comparison = comparisons.Equal; first = atoms.Var LINES; second = atoms.Num 0; answer = false }) 0
    ∷ acts.Copy LINES (atoms.Num 1) ∷ acts.Label 0 ∷ acts.Copy SPACES (atoms.Num 0) ∷ []
gap_acts kinds.Par = acts.Copy LINES (atoms.Num 2) ∷ acts.Copy SPACES (atoms.Num 0) ∷ []
gap_acts kinds.Upper = acts.Copy UPPER (atoms.Num 1) ∷ []

-- The routine of a gap that goes on there.
abbrev pub gap_routine : GapKind → ℕ → Routine
gap_routine kind behind = routine_of 0 (gap_acts kind ++ acts.Return (atoms.Routine behind) ∷ [])

-- The routine of as many spaces as a term says that goes on there; it fails where the term is no number.
abbrev pub gap_n_routine : CoreProgram → Term → ℕ → Routine
gap_n_routine program a behind =
    routine_of 0 (terms_acts program ARGS (a ∷ [])
    ++ acts.Call (Some WORD) (atoms.Routine ASK_SPACES) (args.Two (atoms.Var ARGS) (atoms.Routine behind)) ∷ acts.Return (atoms.Var WORD) ∷ [])

-- The routine of (quit): a run that has quit is closed as one that is done.
abbrev pub quit_routine : Routine
quit_routine = goto_routine DONE

-- ## What is outside

-- Words in which the registers say what is met.
abbrev pub met_words : Met → (ℕ → ℕ) → ℕ → ℕ
met_words m words =
    replaced (replaced (replaced (replaced (replaced words last_reg (last_word m.last)) lines_reg (break_word m.gap)) spaces_reg (spaces_from 0 m.gap))
    asked_reg (asked_word (last_asked None m.gap))) upper_reg (bit (list_any is_upper m.gap))

-- What is outside behind one more thing that is printed.
abbrev pub printed : Met → Print → Outside → Outside
printed m e out = record out { output = out.output ++ written m e; words = met_words (met_behind m e) out.words }

-- ## Turns

-- In one turn a text is printed, in 3 instructions a space in front of it, one a character and 30: `effect` of a text.
abbrev pub TextTurns : Type 0
TextTurns = (t : Telling) → Playing t → (out : Outside) (x behind : ℕ) (m : Mid) (z : ZState) (met : Met) (cs : List ℕ) →
    t.p.routine_at x ≡ Some (text_routine cs behind) → cs ≢ [] → All IsPrintable cs → Meets out.words met → Represented t out x m z →
    Comes t (printed met (Piece (encode_utf8_all cs)) out) (t.p.names.routine behind) m (3 * spaces_from 0 met.gap + length cs + 30) z

-- In one turn a gap is asked for: `effect` of a gap.
abbrev pub GapTurns : Type 0
GapTurns = (t : Telling) → Playing t → (out : Outside) (x behind : ℕ) (m : Mid) (z : ZState) (met : Met) (kind : GapKind) →
    t.p.routine_at x ≡ Some (gap_routine kind behind) → Meets out.words met → Represented t out x m z →
    Comes t (printed met (GapOf kind) out) (t.p.names.routine behind) m 6 z

-- What asking for as many spaces as a term says takes at most.
abbrev pub gap_n_most : CoreProgram → Term → Mid → ℕ
gap_n_most program a m = written_in program (a ∷ []) + 5 * links m.state.subst (value_of program (vars_of m.frames) a) + 30

-- The player is in front of the routine that asks for so many spaces.
pub record Spacing (t : Telling) (out : Outside) (a : Term) (behind : ℕ) (m : Mid) (z : ZState) : Type 0 where
  pub x : ℕ
  pub rep : Represented t out x m z
  pub there : t.p.routine_at x ≡ Some (gap_n_routine t.program a behind)
  pub nodes : AreNodes t.program (nodes_of (a ∷ []))

-- In one turn so many spaces are asked for, or it fails, as the term is no number, or the heap's limit is met: `spaces` of dg_meaning/specs/Moves.antt.
pub record GapNTurns : Type 0 where
  pub counts : (t : Telling) → Playing t → (out : Outside) (a : Term) (behind : ℕ) (m : Mid) (z : ZState) (met : Met) (n : ℕ) (parts : Values) →
      Spacing t out a behind m z → m.state.heap + cells t.program (a ∷ []) ≤ 10000 → Meets out.words met →
      walk m.state.subst (value_of t.program (vars_of m.frames) a) ≡ Node (Num n) parts →
      Comes t (printed met (SpacesOf n) out) (t.p.names.routine behind) (more (cells t.program (a ∷ [])) m) (gap_n_most t.program a m) z
  pub fails : (t : Telling) → Playing t → (out : Outside) (a : Term) (behind : ℕ) (m : Mid) (z : ZState) →
      Spacing t out a behind m z → m.state.heap + cells t.program (a ∷ []) ≤ 10000 →
      number_word (walk m.state.subst (value_of t.program (vars_of m.frames) a)) ≡ no_value →
      Comes t out (t.p.names.routine FAIL) (more (cells t.program (a ∷ [])) m) (gap_n_most t.program a m) z
  pub meets : (t : Telling) → Playing t → (out : Outside) (a : Term) (behind : ℕ) (m : Mid) (z : ZState) →
      Spacing t out a behind m z → 10000 < m.state.heap + cells t.program (a ∷ []) → Closes t out HeapLimit (10 + closing_most) z

-- The run quits.
abbrev pub QuitTurns : Type 0
QuitTurns = (t : Telling) → Playing t → (out : Outside) (x : ℕ) (m : Mid) (z : ZState) → t.p.routine_at x ≡ Some quit_routine →
    Represented t out x m z → Closes t out Quit 30 z
