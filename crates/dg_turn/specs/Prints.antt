-- A value that is printed, as a turn. Hold it against docs/LANGUAGE.md, "Printing", and `shown` of dg_meaning/specs/Moves.antt.
use Rattle.std.specs.Prelude.{ℕ, ◌+◌, ◌*◌, ◌<◌, ◌≤◌, List, [], ◌∷◌, ◌++◌, None}
use Rattle.dg_base.specs.declared.program.CoreProgram.{CoreProgram}
use Rattle.dg_base.specs.declared.program.Term.{Term}
use Rattle.dg_base.specs.declared.run.Ending.TheVariants.{HeapLimit}
use Rattle.dg_meaning.specs.Cells.{cells}
use Rattle.dg_meaning.specs.Pieces.{pieces}
use Rattle.dg_meaning.specs.Render.{Met, met_from, render_from, characters}
use Rattle.dg_meaning.specs.Substitutions.{resolved}
use Rattle.dg_meaning.specs.Unify.{looks}
use Rattle.dg_meaning.specs.World.{Print}
use Rattle.dg_mid.specs.State.{Mid}
use Rattle.dg_mid.specs.Step.{more}
use Rattle.z_model.specs.Run.{ZState}
use Rattle.z_lang.specs.declared.act.Act.TheVariants as acts
use Rattle.z_lang.specs.declared.act.Args.TheVariants as args
use Rattle.z_lang.specs.declared.act.Atom.TheVariants as atoms
use Rattle.z_lang.specs.declared.act.Routine.{Routine}
use Rattle.dg_rt.specs.declared.numbers.TheConstants.{PRINT_VALUE}
use Rattle.dg_rt.specs.declared.registers.TheConstants.{ARGS}
use Rattle.dg_rt.specs.RunTime.{routine_of}
use Rattle.dg_rt.specs.Closings.{closing_most}
use Rattle.dg_rt.specs.Gaps.{Meets}
use Rattle.dg_rt.specs.Prints.{all_pieces, Spells}
use Rattle.dg_turn.specs.Told.{Telling}
use Rattle.dg_turn.specs.Plays.{Playing, Outside, Comes, Closes}
use Rattle.dg_turn.specs.Terms.{terms_acts, written_in}
use Rattle.dg_turn.specs.Texts.{met_words}
use Rattle.dg_turn.specs.Operating.{term_value, InFront}

-- The routine that prints the value of a term and goes on there; two routines of the program print its words and its objects.
abbrev pub print_routine : CoreProgram → Term → (words objects behind : ℕ) → Routine
print_routine program a words objects behind =
    routine_of 0 (terms_acts program ARGS (a ∷ [])
    ++ acts.Call None (atoms.Routine PRINT_VALUE) (args.Three (atoms.Var ARGS) (atoms.Routine words) (atoms.Routine objects))
    ∷ acts.Return (atoms.Routine behind) ∷ [])

-- The pieces of a term's value, as what is printed.
abbrev pub term_pieces : CoreProgram → Mid → Term → List Print
term_pieces program m a = all_pieces (pieces program (resolved m.state.subst (term_value program m a)))

-- What is outside behind some more things that are printed.
abbrev pub all_printed : Met → List Print → Outside → Outside
all_printed met es out = record out { output = out.output ++ render_from met es; words = met_words (met_from met es) out.words }

-- What printing the value of a term takes at most: 200 for each node and link of it, and 20 for each character that appears.
abbrev pub print_most : CoreProgram → Met → Term → Mid → ℕ
print_most program met a m =
    written_in program (a ∷ []) + 200 * looks m.state.subst m.state.vars (term_value program m a)
    + 20 * characters (render_from met (term_pieces program m a)) + 20

-- In one turn the value of a term is printed, or the heap's limit is met: `effect` of (print).
pub record PrintTurns : Type 0 where
  pub prints : (t : Telling) → Playing t → (out : Outside) (a : Term) (words objects behind : ℕ) (m : Mid) (z : ZState) (met : Met) →
      Spells t.p t.story t.program (t.p.names.routine words) (t.p.names.routine objects) →
      InFront t out (print_routine t.program a words objects behind) (a ∷ []) m z → m.state.heap + cells t.program (a ∷ []) ≤ 10000 →
      Meets out.words met →
      Comes t (all_printed met (term_pieces t.program m a) out) (t.p.names.routine behind) (more (cells t.program (a ∷ [])) m)
      (print_most t.program met a m) z
  pub meets : (t : Telling) → Playing t → (out : Outside) (a : Term) (words objects behind : ℕ) (m : Mid) (z : ZState) →
      InFront t out (print_routine t.program a words objects behind) (a ∷ []) m z → 10000 < m.state.heap + cells t.program (a ∷ []) →
      Closes t out HeapLimit (10 + closing_most) z
