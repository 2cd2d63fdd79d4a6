-- What a change of the world comes to, and what is found of an object. Hold it against docs/LANGUAGE.md, "The world" and "Limits".
use Rattle.std.specs.Prelude.{ℕ, max, nat_lt, List, [], ◌∷◌, Option, Some, None, Bool, true, false, length, if◌then◌else◌}
use Rattle.dg_base.specs.declared.program.PlaceKind.{PlaceKind}
use Rattle.dg_base.specs.declared.program.PlaceKind.TheVariants.{Flag, ObjectFlag, Global}
use Rattle.dg_base.specs.declared.program.CoreProgram.{CoreProgram}
use Rattle.dg_meaning.specs.Values.{Object, Value, Var, Node}
use Rattle.dg_meaning.specs.Facts.{Fact, set, value_at, Alteration, Sets, Clears, ClearsAll, altered, takes, kinds_of, kept_size}
use Rattle.dg_meaning.specs.World.{World}

-- What is set of an object at a place; without a place something is set of every object.
abbrev pub found : List Fact → Option ℕ → ℕ → Option Value
found facts None object = Some set
found facts (Some place) object = value_at facts place object

-- ## Changes

-- A value is set at a place of a kind, of an object, if the place takes it.
abbrev pub sets_if_taken : PlaceKind → ℕ → ℕ → Value → Option Alteration
sets_if_taken kind place object v = if takes kind v then Some (Sets place object v) else None

-- What sets an object's flag, or a value of an object: of this kind, at this place, of this object, with what stands behind the object.
abbrev pub object_set : PlaceKind → ℕ → ℕ → List Value → Option Alteration
object_set ObjectFlag place object values = Some (Sets place object set)
object_set kind place object (v ∷ values) = sets_if_taken kind place object v
object_set kind place object [] = None

-- A change of an object, which is one of so many.
abbrev pub if_there : ℕ → ℕ → Option Alteration → Option Alteration
if_there objects object change = if nat_lt object objects then change else None

-- What sets or clears a place that speaks of so many objects, with these arguments, resolved; a clear with an unbound object clears all.
abbrev pub object_change : ℕ → PlaceKind → ℕ → Bool → List Value → Option Alteration
object_change objects kind place true (Node (Object o) vs ∷ values) = if_there objects o (object_set kind place o values)
object_change objects kind place false (Node (Object o) vs ∷ values) = if_there objects o (Some (Clears place o))
object_change objects kind place false (Var x ∷ values) = Some (ClearsAll place)
object_change objects kind place sets values = None

-- What sets or clears a global variable.
abbrev pub global_change : ℕ → Bool → List Value → Option Alteration
global_change place true (v ∷ values) = sets_if_taken Global place 0 v
global_change place true [] = None
global_change place false values = Some (Clears place 0)

-- What sets or clears a global flag.
abbrev pub flag_change : ℕ → Bool → Option Alteration
flag_change place true = Some (Sets place 0 set)
flag_change place false = Some (Clears place 0)

-- What a change of a place of a kind comes to among so many objects, with these arguments, resolved; or it fails.
abbrev pub change_of : ℕ → PlaceKind → ℕ → Bool → List Value → Option Alteration
change_of objects Flag place sets values = flag_change place sets
change_of objects Global place sets values = global_change place sets values
change_of objects kind place sets values = object_change objects kind place sets values

-- ## The world behind a change

-- The world in which something has changed; the kept size is what it then is.
abbrev pub changed : CoreProgram → Alteration → World → World
changed program a w =
    let facts = altered a w.facts in
    record w { facts = facts; meters = record w.meters { keep = max w.meters.keep (kept_size (kinds_of program) facts) } }

-- The work of a change in these facts: the kept size where it is of a global variable, and the objects that are cleared.
abbrev pub changing : CoreProgram → PlaceKind → Alteration → List Fact → ℕ
changing program Global a facts = kept_size (kinds_of program) (altered a facts)
changing program kind (ClearsAll place) facts = length program.objects
changing program kind a facts = 0
