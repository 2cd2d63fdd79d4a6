-- How a story begins. Hold it against the Z-machine standard, section 6 (on calling routines), and docs/STORIES.md, where it says with which line a story
-- ends.
use Rattle.std.specs.Prelude.{ℕ, List, [], ◌∷◌, Bool, true, false, Some}
use Rattle.z_lang.specs.declared.act.Act.{Act}
use Rattle.z_lang.specs.declared.act.Act.TheVariants as acts
use Rattle.z_lang.specs.declared.act.Args.TheVariants as args
use Rattle.z_lang.specs.declared.act.Atom.TheVariants as atoms
use Rattle.dg_rt.specs.declared.closings.TheConstants.{KEEP_LIMIT_ACTS}
use Rattle.dg_rt.specs.declared.registers.TheConstants.{MARK, NEXT}

-- The word of the register that names the routine that comes next.
abbrev pub next_reg : ℕ
next_reg = 0

-- What a story does first and forever: it calls the routine that comes next, which answers the one that comes behind it.
abbrev pub turn_acts : List Act
turn_acts = acts.Label 0 ∷ acts.Call (Some NEXT) (atoms.Var NEXT) args.Zero ∷ acts.Goto 0 ∷ []

-- What a story does first where what starts keep is within its limit: the newest mark is at the first cell of the heap, the routine that asks the entry
-- comes next, and then one after another. Else its run ends with the line of that limit.
abbrev pub start_acts : (keeps : Bool) → (entry : ℕ) → List Act
start_acts false entry = KEEP_LIMIT_ACTS
start_acts true entry = acts.Copy MARK (atoms.Num 32768) ∷ acts.Copy NEXT (atoms.Routine entry) ∷ turn_acts
