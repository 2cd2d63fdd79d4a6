-- The routines of queries of objects and of global variables. Hold it against dg_turn/specs/Seeking.antt, Tries.antt and Globals.antt.
use Rattle.std.specs.Prelude.{◌≡◌, ◌⊎◌, ℕ, List, [], ◌∷◌, Option, Some, None, Bool}
use Rattle.std.specs.List.{slice_get}
use Rattle.dg_base.specs.declared.program.CoreProgram.{CoreProgram}
use Rattle.dg_base.specs.declared.program.PlaceKind.{PlaceKind}
use Rattle.dg_base.specs.declared.program.PlaceKind.TheVariants.{Global}
use Rattle.dg_base.specs.declared.program.Term.{Term}
use Rattle.dg_meaning.specs.Facts.{kinds_of}
use Rattle.dg_meaning.specs.Values.{Label}
use Rattle.z_lang.specs.declared.act.Act.{Act}
use Rattle.z_lang.specs.declared.act.Act.TheVariants as acts
use Rattle.z_lang.specs.declared.act.Args.TheVariants as args
use Rattle.z_lang.specs.declared.act.Atom.TheVariants as atoms
use Rattle.z_lang.specs.declared.act.Routine.{Routine}
use Rattle.dg_rt.specs.declared.numbers.TheConstants.{FAIL, TRY}
use Rattle.dg_turn.specs.Globals.{global_routine}
use Rattle.dg_turn.specs.Seeking.{find_routine}
use Rattle.dg_turn.specs.Tries.{OBJECT_TRIED, Sought, sought_at, sought_terms, tries_routine}
use Rattle.dg_turn.specs.Turns.{goto_routine}
use Rattle.dg_emit.specs.World.{WorldFits}

-- The routine of a query by what is sought; where nothing is it fails.
abbrev pub find_of : CoreProgram → Option Sought → List Term → (behind tries : ℕ) → Routine
find_of program None ts behind tries = goto_routine FAIL
find_of program (Some s) ts behind tries = find_routine program s ts behind tries

-- The kind of a place; without one of any object there is none.
abbrev pub kind_at : CoreProgram → Option ℕ → Option PlaceKind
kind_at program None = None
kind_at program (Some place) = slice_get (kinds_of program) place

-- The routine of a query with terms, by the kind of its place: that of a global variable has one, and others are of objects.
abbrev pub query_of : CoreProgram → Option PlaceKind → Option ℕ → List Term → (behind tries : ℕ) → Routine
query_of program (Some Global) (Some place) (a ∷ []) behind tries = global_routine program place a behind
query_of program kind place ts behind tries = find_of program (sought_at program place) ts behind tries

-- The one that tries the object at hand, and goes on there.
abbrev pub tries_of : CoreProgram → Option Sought → Bool → ℕ → Routine
tries_of program None many next = goto_routine FAIL
tries_of program (Some s) many next = tries_routine program s many next

-- So it is for a query that begins with a variable; one whose first term has a label tries no objects, and its routine fails.
abbrev pub tries_for : CoreProgram → Option Sought → Option Label → Bool → ℕ → Routine
tries_for program s None many next = tries_of program s many next
tries_for program s (Some f) many next = goto_routine FAIL

-- An object is tried, of so many, with so many arguments.
abbrev pub first_act : (objects arguments : ℕ) → Act
first_act objects arguments =
    acts.Call (Some OBJECT_TRIED) (atoms.Routine TRY) (args.Two (atoms.Num objects) (atoms.Num arguments))

-- A query is one of objects, with as many terms as it wants.
pub record FindFits (program : CoreProgram) (place : Option ℕ) (terms : ℕ) : Type 0 where
  pub sought : Sought
  pub sought_is : sought_at program place ≡ Some sought
  pub fits : terms ≡ sought_terms sought
  pub world : WorldFits program

-- Or it is one of a global variable, with one term.
pub record GlobalFits (program : CoreProgram) (place : Option ℕ) (terms : ℕ) : Type 0 where
  pub at : ℕ
  pub place_is : place ≡ Some at
  pub kind_is : slice_get (kinds_of program) at ≡ Some Global
  pub fits : terms ≡ 1

-- One of the two.
abbrev pub QueryFits : CoreProgram → Option ℕ → ℕ → Type 0
QueryFits program place terms = FindFits program place terms ⊎ GlobalFits program place terms
