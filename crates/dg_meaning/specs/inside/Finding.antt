-- At which places objects may be found. Hold it against docs/LANGUAGE.md, "The world".
use Rattle.std.specs.Prelude.{ℕ, List, Option, Some, None, Bool, true, false, slice_get}
use Rattle.dg_base.specs.declared.program.PlaceKind.{PlaceKind}
use Rattle.dg_base.specs.declared.program.PlaceKind.TheVariants.{Flag, Global}

-- A place of this kind, if it is one, speaks of objects.
abbrev pub has_objects : Option PlaceKind → Bool
has_objects None = false
has_objects (Some Flag) = false
has_objects (Some Global) = false
has_objects (Some kind) = true

-- Among places of these kinds, objects may be found at this one, or without a place.
abbrev pub may_find : List PlaceKind → Option ℕ → Bool
may_find kinds None = true
may_find kinds (Some place) = has_objects (slice_get kinds place)
