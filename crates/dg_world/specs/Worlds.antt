-- What a world stands for, and what its changes do. Hold it against docs/LANGUAGE.md, "The world".
use Rattle.std.specs.Prelude.{◌≡◌, ℕ, ◌+◌, ◌-◌, ◌<◌, ◌≤◌, List, [], length, map, get_or, slice_set, Option, Some, None, Bool, true, false, Result, Ok, Err, slice_get}
use Rattle.std.specs.List.{list_any}
use Rattle.dg_base.specs.declared.cells.Cell.{Cell}
use Rattle.dg_base.specs.declared.program.PlaceKind.{PlaceKind}
use Rattle.dg_base.specs.declared.program.PlaceKind.TheVariants.{Flag, ObjectFlag, Global as GlobalKind}
use Rattle.dg_meaning.specs.Values.{Value}
use Rattle.dg_meaning.specs.ValueCells.{cells_of}
use Rattle.dg_meaning.specs.Facts.{Fact, set, kept_size, Alteration, Sets, Clears, ClearsAll, altered, takes}
use Rattle.dg_world.specs.Tables.{Outline, IsKind, HasValues, HasObjects, shape, width_of, simple_value, is_fresh, AreTables}
use Rattle.dg_world.specs.Lists.{joined}
use Rattle.dg_world.specs.declared.change.Change.{Change}
use Rattle.dg_world.specs.declared.change.Change.TheVariants as change
use Rattle.dg_world.specs.declared.change.KeepFull.{KeepFull}
use Rattle.dg_world.specs.declared.world.World.{World}

-- A world stands for facts.
abbrev pub StandsFor : World → Outline → List Fact → Type 0
StandsFor w o facts = AreTables o facts w.tables.items w.area.lists w.area.keep

-- How large a world is, whatever is set in it: each of its places, how many lists are kept, and how many cells it may keep.
pub record Shape : Type 0 where
  pub tables : List (PlaceKind × ℕ)
  pub lists : ℕ
  pub keep : ℕ

abbrev pub shape_of : World → Shape
shape_of w = record { tables = map shape w.tables.items; lists = length w.area.lists; keep = w.area.keep }

-- How large each world is that is made so: a slot for each object, or one, or none, and a list for each place.
abbrev pub shape_in : Outline → Shape
shape_in o = record { tables = map (λ kind. (kind, width_of kind o.objects)) o.kinds; lists = length o.kinds; keep = o.keep }

-- What a change means, where its place is of a kind of which it speaks and its object is there: a kept value is written out as its cells.
abbrev pub Means : Outline → Change → Alteration → Type 0
Means o (change.Flag place true) a = IsKind o place Flag × (a ≡ Sets place 0 set)
Means o (change.Flag place false) a = IsKind o place Flag × (a ≡ Clears place 0)
Means o (change.ObjectFlag place object true) a = IsKind o place ObjectFlag × (object < o.objects) × (a ≡ Sets place object set)
Means o (change.ObjectFlag place object false) a = IsKind o place ObjectFlag × (object < o.objects) × (a ≡ Clears place object)
Means o (change.ObjectVar place object (Some value)) a = HasValues o place × (object < o.objects) × (a ≡ Sets place object (simple_value value))
Means o (change.ObjectVar place object None) a = HasValues o place × (object < o.objects) × (a ≡ Clears place object)
Means o (change.Global place (Some cells)) a = IsKind o place GlobalKind × ((v : Value) × (cells.now ≡ cells_of v) × (a ≡ Sets place 0 v))
Means o (change.Global place None) a = IsKind o place GlobalKind × (a ≡ Clears place 0)
Means o (change.ClearAll place) a = HasObjects o place × (a ≡ ClearsAll place)

-- Whether the place takes what a change sets; it always may be cleared.
abbrev pub takes_in : Option PlaceKind → Value → Bool
takes_in None v = true
takes_in (Some kind) v = takes kind v

abbrev pub is_taken : Outline → Alteration → Bool
is_taken o (Sets place object v) = takes_in (slice_get o.kinds place) v
is_taken o (Clears place object) = true
is_taken o (ClearsAll place) = true

-- What became of a change: it was made; its value isn't taken; or what is kept would be too much. Nothing was changed where it wasn't made.
abbrev pub Changed : Outline → List Fact → Alteration → World → World → Result Bool KeepFull → Type 0
Changed o facts a old new (Ok true) = (is_taken o a ≡ true) × StandsFor new o (altered a facts)
Changed o facts a old new (Ok false) = (is_taken o a ≡ false) × (new ≡ old)
Changed o facts a old new (Err e) = (is_taken o a ≡ true) × (o.keep < kept_size o.kinds (altered a facts)) × (new ≡ old)

-- There is room for a list of cells in the place of what is kept.
abbrev pub Fits : ℕ → List Cell → World → Type 0
Fits place l w = (length (joined w.area.lists) - length (get_or w.area.lists place [])) + length l ≤ w.area.keep

-- A list of cells takes the place of what was kept; or an unbound variable stands in it; or it has no room.
abbrev pub KeepsList : ℕ → List Cell → World → World → Result Bool KeepFull → Type 0
KeepsList place l old new (Ok true) = (list_any is_fresh l ≡ false) × Fits place l old ×
    (new ≡ record old { area = record old.area { lists = slice_set old.area.lists place l } })
KeepsList place l old new (Ok false) = (list_any is_fresh l ≡ true) × (new ≡ old)
KeepsList place l old new (Err e) = (list_any is_fresh l ≡ false) × (Fits place l old → ⊥) × (new ≡ old)
