-- Single acts. The proofs alone rest on it.
use Rattle.std.specs.Prelude.{ℕ, List, [], ◌∷◌, Option, Some, None, Bool, true, false, if◌then◌else◌}
use Rattle.z_lang.specs.declared.act.Act.{Act}
use Rattle.z_lang.specs.declared.act.Act.TheVariants as acts
use Rattle.z_lang.specs.declared.act.Args.TheVariants as args
use Rattle.z_lang.specs.declared.act.Atom.{Atom}
use Rattle.z_lang.specs.declared.act.Atom.TheVariants as atoms
use Rattle.z_lang.specs.declared.act.Comparison.{Comparison}
use Rattle.z_lang.specs.declared.act.Comparison.TheVariants as comparisons
use Rattle.z_lang.specs.declared.act.Function.TheVariants as functions
use Rattle.z_lang.specs.declared.act.Routine.{Routine}
use Rattle.z_lang.specs.declared.act.Test.{Test}
use Rattle.dg_rt.specs.declared.numbers.TheConstants.{CAPTURE, ASK, MATCH, OPEN, KEY_OF, WALK}
use Rattle.dg_rt.specs.declared.registers.TheConstants.{TERM, KEY, PARAMETERS, MANY}
use Rattle.dg_rt.specs.RunTime.{routine_of}
use Rattle.dg_turn.specs.Lies.{bit_of}
use Rattle.dg_turn.specs.Terms.{two_numbers}
use Rattle.dg_turn.specs.Bodies.{CALLED}
use Rattle.dg_turn.specs.Names.{is_long, name_acts}

-- The word of a box that lies so far behind the first cell is put into a variable.
abbrev pub box_act : ℕ → ℕ → Act
box_act v o = acts.Compute v functions.Add (atoms.Var TERM) (atoms.Num o)

-- The numbers of two captured variables in one.
abbrev pub two : List ℕ → ℕ → Atom
two vs i = atoms.Num (two_numbers vs i)

-- Six variables are captured.
abbrev pub capture_act : List ℕ → Act
capture_act vs = acts.Call None (atoms.Routine CAPTURE) (args.Three (two vs 0) (two vs 2) (two vs 4))

-- Another routine comes next, unless the register of keys compares so with a word.
abbrev pub key_acts : Comparison → ℕ → ℕ → List Act
key_acts comparison word other =
    acts.When (record { comparison = comparison; first = atoms.Var KEY; second = atoms.Num word; answer = true }) 0
    ∷ acts.Return (atoms.Routine other) ∷ acts.Label 0 ∷ []

-- A query is asked behind its arguments.
abbrev pub asking_acts : Atom → Bool → Bool → ℕ → List Act
asking_acts behind many has_first rules =
    acts.Call None (atoms.Routine ASK) (args.Three behind (atoms.Num (bit_of many)) (atoms.Num (bit_of has_first)))
    ∷ acts.Return (atoms.Routine rules) ∷ []

-- A choice is opened.
abbrev pub open_act : Option ℕ → ℕ → ℕ → Act
open_act into other gathers = acts.Call into (atoms.Routine OPEN) (args.Three (atoms.Routine other) (atoms.Num 0) (atoms.Num gathers))

-- The routine that calls one without arguments, and goes on.
abbrev pub calling_routine : ℕ → ℕ → Routine
calling_routine called behind = routine_of 0 (acts.Call None (atoms.Routine called) args.Zero ∷ acts.Return (atoms.Routine behind) ∷ [])

-- The value that is called is looked up, with its key, and what looks for its body comes next.
abbrev pub look_acts : ℕ → Bool → ℕ → List Act
look_acts arguments many find =
    acts.Copy MANY (atoms.Num (bit_of many)) ∷ acts.Copy PARAMETERS (atoms.Num arguments)
    ∷ acts.Call (Some KEY) (atoms.Routine KEY_OF) (args.One (atoms.Var CALLED))
    ∷ acts.Call (Some CALLED) (atoms.Routine WALK) (args.One (atoms.Var CALLED)) ∷ acts.Return (atoms.Routine find) ∷ []

-- An argument is matched with a word of a head.
abbrev pub match_act : ℕ → ℕ → Act
match_act v x = acts.Call None (atoms.Routine MATCH) (args.Two (atoms.Var v) (atoms.Var x))

-- Whether a local is less than a number.
abbrev pub below : ℕ → ℕ → Test
below v end = record { comparison = comparisons.Less; first = atoms.Var v; second = atoms.Num end; answer = false }

-- The routine of a name, if it is long.
abbrev pub long_one : List ℕ → List Routine
long_one cs = if is_long cs then routine_of 3 (name_acts cs) ∷ [] else []
