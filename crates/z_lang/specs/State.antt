-- What a routine works on: the story's memory, its own locals, and the outside.
use Rattle.std.specs.Prelude.{ℕ, ◌+◌, ◌-◌, List, length, Option, Some, None, Result, Ok, Err, nat_lt, ◌==◌, if◌then◌else◌, slice_get, slice_index, slice_set, ◌/◌, ◌%◌}
use Rattle.z_model.specs.declared.fault.ZFault.{ZFault}
use Rattle.z_model.specs.declared.story.Layout.{Layout}
use Rattle.z_model.specs.Machine.{global_at}
use Rattle.z_model.specs.Memory.{word_of}
use Rattle.z_model.specs.Run.{ZGiven}
use Rattle.z_lang.specs.declared.act.Atom.{Atom}
use Rattle.z_lang.specs.declared.act.Atom.TheVariants as atoms
use Rattle.z_lang.specs.declared.act.Routine.{Routine}
use Rattle.z_code.specs.Targets.{Names}

infixl 10 ◌>>=◌
abbrev pub ◌>>=◌ : {A B : Type 0} → Option A → (A → Option B) → Option B
(Some x) >>= f = f x
None >>= f = None

-- the value, where there is no fault
abbrev pub unless_fault : {A : Type 0} → Result A ZFault → Option A
unless_fault (Ok x) = Some x
unless_fault (Err fault) = None

-- Memory, the locals, the typed bytes left, the place in the dice, and the output.
pub record State : Type 0 where
  pub memory : List ℕ
  pub locals : List ℕ
  pub typed : List ℕ
  pub drawn : ℕ
  pub output : List ℕ

-- What stays the same: the world, the names, and which routine stands at a packed address.
pub record Program : Type 0 where
  pub world : ZGiven
  pub names : Names
  pub routine_at : ℕ → Option Routine

-- the value of a global
abbrev pub global : Layout → List ℕ → ℕ → ℕ
global layout memory v = word_of (slice_index memory (global_at layout v)) (slice_index memory (global_at layout v + 1))

abbrev pub with_global : Layout → List ℕ → ℕ → ℕ → List ℕ
with_global layout memory v x = slice_set (slice_set memory (global_at layout v) (x / 256)) (global_at layout v + 1) (x % 256)

-- the value of a variable, where there is such a one
unfoldable pub variable : Program → State → ℕ → Option ℕ
variable p s v = if v == 0 then None else if nat_lt v 16 then slice_get s.locals (v - 1) else Some (global p.world.layout s.memory v)

abbrev pub value : Program → State → Atom → Option ℕ
value p s (atoms.Num n) = Some n
value p s (atoms.Var v) = variable p s v
value p s (atoms.Routine r) = Some (p.names.routine r)
value p s (atoms.Table t) = Some (p.names.table t)
value p s (atoms.Text t) = Some (p.names.text t)

-- a local with another value, where there is such a one
unfoldable pub with_local : ℕ → ℕ → State → Option State
with_local v x s = if nat_lt (v - 1) (length s.locals) then Some (record s { locals = slice_set s.locals (v - 1) x }) else None

-- a variable with another value
unfoldable pub put : Program → ℕ → ℕ → State → Option State
put p v x s =
    if v == 0 then None else if nat_lt v 16 then with_local v x s
    else if nat_lt v 256 then Some (record s { memory = with_global p.world.layout s.memory v x }) else None

-- the same, where a variable is named
abbrev pub put_if : Program → Option ℕ → ℕ → State → Option State
put_if p None x s = Some s
put_if p (Some v) x s = put p v x s
