-- Objects that are tried one by one: what is sought, the routine that tries the one at hand, and which are left. Hold it against `tries` of
-- dg_mid/specs/Step.antt, and `ask_place` of dg_meaning/specs/Moves.antt.
use Rattle.std.specs.Prelude.{◌≡◌, ℕ, zero, suc, ◌+◌, List, [], ◌∷◌, ◌++◌, length, Option, Some, None, Bool, true, false}
use Rattle.std.specs.List.{slice_get}
use Rattle.dg_base.specs.declared.program.CoreProgram.{CoreProgram}
use Rattle.dg_base.specs.declared.program.PlaceKind.{PlaceKind}
use Rattle.dg_base.specs.declared.program.PlaceKind.TheVariants.{ObjectFlag, ObjectVar, Parent}
use Rattle.dg_meaning.specs.Facts.{kinds_of}
use Rattle.z_lang.specs.declared.act.Act.{Act}
use Rattle.z_lang.specs.declared.act.Act.TheVariants as acts
use Rattle.z_lang.specs.declared.act.Args.TheVariants as args
use Rattle.z_lang.specs.declared.act.Atom.TheVariants as atoms
use Rattle.z_lang.specs.declared.act.Routine.{Routine}
use Rattle.dg_rt.specs.declared.numbers.TheConstants.{FAIL, MATCH, MATCHED, TRY, LOOK_VALUE, LOOK_FLAG, LAND}
use Rattle.dg_rt.specs.declared.registers.TheConstants.{ARGS, WORD}
use Rattle.dg_rt.specs.Cells.{at_cell}
use Rattle.dg_rt.specs.RunTime.{routine_of}
use Rattle.dg_turn.specs.Layout.{words_at, bytes_at}

-- ## What is sought

-- Any object, one whose flag at a place is set, or one of which a value at a place is set.
pub data Sought : Type 0 where
  AnyObject : Sought
  Flagged : (place : ℕ) → Sought
  Valued : (place : ℕ) → Sought

-- So it is at a place of a kind, if it speaks of objects; without a place any object is sought.
abbrev pub sought_by : ℕ → Option PlaceKind → Option Sought
sought_by place (Some ObjectFlag) = Some (Flagged place)
sought_by place (Some ObjectVar) = Some (Valued place)
sought_by place (Some Parent) = Some (Valued place)
sought_by place kind = None

abbrev pub sought_at : CoreProgram → Option ℕ → Option Sought
sought_at program None = Some AnyObject
sought_at program (Some place) = sought_by place (slice_get (kinds_of program) place)

-- How many arguments a query of it has: the object, and its value.
abbrev pub sought_terms : Sought → ℕ
sought_terms AnyObject = 1
sought_terms (Flagged place) = 1
sought_terms (Valued place) = 2

-- ## Trying

-- Where the word of the object is put, and what is set of it behind it: behind all other registers.
abbrev pub OBJECT_TRIED : ℕ
OBJECT_TRIED = 64

-- What is set of the object at hand is looked up.
abbrev pub look_acts : CoreProgram → Sought → List Act
look_acts program AnyObject = []
look_acts program (Flagged place) =
    acts.Call (Some (OBJECT_TRIED + 1)) (atoms.Routine LOOK_FLAG) (args.One (atoms.Num (64 + bytes_at program place))) ∷ []
look_acts program (Valued place) =
    acts.Call (Some (OBJECT_TRIED + 1)) (atoms.Routine LOOK_VALUE) (args.One (atoms.Num (at_cell (words_at program place)))) ∷ []

-- So many arguments are matched with them.
abbrev pub tried_acts : ℕ → ℕ → ℕ → List Act
tried_acts v x zero = []
tried_acts v x (suc n) = acts.Call None (atoms.Routine MATCH) (args.Two (atoms.Var v) (atoms.Var x)) ∷ tried_acts (suc v) (suc x) n

-- What comes behind: where one answer is wanted, in an inner construct.
abbrev pub landing_acts : Bool → ℕ → List Act
landing_acts true next = acts.Call (Some WORD) (atoms.Routine MATCHED) (args.One (atoms.Routine next)) ∷ acts.Return (atoms.Var WORD) ∷ []
landing_acts false next = acts.Call (Some WORD) (atoms.Routine LAND) (args.One (atoms.Routine next)) ∷ acts.Return (atoms.Var WORD) ∷ []

-- The object at hand is tried, of so many.
abbrev pub try_acts : CoreProgram → ℕ → Sought → Bool → ℕ → List Act
try_acts program objects s many next =
    acts.Call (Some OBJECT_TRIED) (atoms.Routine TRY) (args.Two (atoms.Num objects) (atoms.Num (sought_terms s)))
    ∷ (look_acts program s ++ (tried_acts ARGS OBJECT_TRIED (sought_terms s) ++ landing_acts many next))

-- Without objects it fails.
abbrev pub tries_by : CoreProgram → ℕ → Sought → Bool → ℕ → List Act
tries_by program zero s many next = acts.Return (atoms.Routine FAIL) ∷ []
tries_by program (suc n) s many next = try_acts program (suc n) s many next

-- The routine that tries the object at hand, and goes on there.
abbrev pub tries_routine : CoreProgram → Sought → Bool → ℕ → Routine
tries_routine program s many next = routine_of 0 (tries_by program (length program.objects) s many next)

-- ## What is left

-- These are the objects from a number on, of which there are so many.
abbrev pub ObjectsFrom : ℕ → ℕ → List ℕ → Type 0
ObjectsFrom n at [] = at ≡ n
ObjectsFrom n at (o ∷ os) = (o ≡ at) × ObjectsFrom n (suc at) os

-- They are left to be tried where there are some; without objects none are.
abbrev pub AreLeft : ℕ → ℕ → List ℕ → Type 0
AreLeft n at [] = n ≡ 0
AreLeft n at (o ∷ os) = ObjectsFrom n at (o ∷ os)
