-- Rules that cut or are answered, as turns. Hold it against `returns` and, on (just), `done` of dg_mid/specs/Step.antt.
use Rattle.std.specs.Prelude.{◌≡◌, ℕ, ◌+◌, ◌*◌, List, [], ◌∷◌, Some, None}
use Rattle.dg_mid.specs.State.{Frame, Mid}
use Rattle.dg_mid.specs.Step.{Setting, cut_to, returned}
use Rattle.dg_mid.specs.Units.{dropped, dropped_once}
use Rattle.dg_mid.specs.Heights.{IsNamed}
use Rattle.z_model.specs.Run.{ZState}
use Rattle.z_lang.specs.declared.act.Act.{Act}
use Rattle.z_lang.specs.declared.act.Act.TheVariants as acts
use Rattle.z_lang.specs.declared.act.Args.TheVariants as args
use Rattle.z_lang.specs.declared.act.Atom.TheVariants as atoms
use Rattle.z_lang.specs.declared.act.Function.TheVariants as functions
use Rattle.z_lang.specs.declared.act.Routine.{Routine}
use Rattle.dg_rt.specs.declared.numbers.TheConstants.{CUT, LEAVE}
use Rattle.dg_rt.specs.declared.registers.TheConstants.{FRAME, WORD}
use Rattle.dg_rt.specs.RunTime.{routine_of}
use Rattle.dg_turn.specs.Told.{Telling}
use Rattle.dg_turn.specs.Plays.{Playing, Outside, Represented, Comes}

-- A variable becomes the word of a cell of the newest frame, by its number. The address of the first is 670, to which twice the frame's word is added;
-- both wrap.
abbrev pub field_act : ℕ → ℕ → Act
field_act v i = acts.Compute v functions.Word (atoms.Num (670 + 2 * i)) (atoms.Var FRAME)

-- ## (just)

-- The routine that cuts to the place that the newest frame keeps, and goes on there.
abbrev pub just_routine : ℕ → Routine
just_routine behind =
    routine_of 0 (field_act WORD 2 ∷ acts.Call None (atoms.Routine CUT) (args.One (atoms.Var WORD)) ∷ acts.Return (atoms.Routine behind) ∷ [])

-- In one turn the choices of the rule at hand are dropped, in 4 instructions each.
abbrev pub JustTurns : Type 0
JustTurns = (t : Telling) → Playing t → (out : Outside) (x behind : ℕ) (m : Mid) (f : Frame) (fs : List Frame) (z : ZState) →
    t.p.routine_at x ≡ Some (just_routine behind) → m.frames ≡ f ∷ fs → IsNamed m.next_tag m.state.heap m.choices f.cut →
    Represented t out x m z →
    Comes t out (t.p.names.routine behind) (cut_to f.cut m) (4 * dropped f.cut m.choices + 10) z

-- ## Answers

-- In one turn a rule is answered, by the routine that every story has for it: `returns` of dg_mid/specs/Step.antt.
abbrev pub ReturnTurns : Type 0
ReturnTurns = (g : Setting) (t : Telling) → Playing t → (out : Outside) (m : Mid) (f : Frame) (fs : List Frame) (z : ZState) →
    m.frames ≡ f ∷ fs → IsNamed m.next_tag m.state.heap m.choices f.cut → Represented t out (t.p.names.routine LEAVE) m z →
    Comes t out (t.at_block f.next) (returned g f.many f fs m) (4 * dropped_once m.frames m.choices + 20) z
