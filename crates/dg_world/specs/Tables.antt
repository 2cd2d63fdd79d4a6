-- What tables of the world stand for. Hold it against docs/LANGUAGE.md, "The world".
use Rattle.std.specs.Prelude.{◌≡◌, ◌≢◌, ℕ, zero, suc, ◌+◌, ◌<◌, ◌≤◌, ◌⊎◌, List, [], ◌∷◌, Option, Some, None, Bool, true, false, map, length, slice_set, slice_get, slice_index_or}
use Rattle.std.specs.Option.{option_map}
use Rattle.dg_base.specs.declared.cells.Cell.{Cell}
use Rattle.dg_base.specs.declared.cells.Cell.TheVariants as cell
use Rattle.dg_base.specs.declared.cells.Simple.{Simple}
use Rattle.dg_base.specs.declared.cells.Simple.TheVariants as simple
use Rattle.dg_base.specs.declared.program.Place.{Place}
use Rattle.dg_base.specs.declared.program.PlaceKind.{PlaceKind}
use Rattle.dg_base.specs.declared.program.PlaceKind.TheVariants.{Flag, ObjectFlag, ObjectVar, Parent, Global}
use Rattle.dg_meaning.specs.Values.{Num, Word, Object, Nil, Value, leaf}
use Rattle.dg_meaning.specs.ValueCells.{cells_of}
use Rattle.dg_meaning.specs.Facts.{Fact, value_at, kept_size, takes}

-- What a world is made for: the kinds of its places, how many objects there are, and how many cells it may keep.
pub record Outline : Type 0 where
  pub kinds : List PlaceKind
  pub objects : ℕ
  pub keep : ℕ

-- What a world for these places is made for.
abbrev pub outline_of : List Place → ℕ → ℕ → Outline
outline_of places objects keep = record { kinds = map (λ place. place.kind) places; objects = objects; keep = keep }

-- A place is of a kind.
abbrev pub IsKind : Outline → ℕ → PlaceKind → Type 0
IsKind o place kind = slice_get o.kinds place ≡ Some kind

-- A place has a value for each object.
abbrev pub HasValues : Outline → ℕ → Type 0
HasValues o place = IsKind o place ObjectVar ⊎ IsKind o place Parent

-- A place speaks of objects.
abbrev pub HasObjects : Outline → ℕ → Type 0
HasObjects o place = IsKind o place ObjectFlag ⊎ HasValues o place

-- ## Tables

-- A place: its kind, and what is set in it, of each object in order, or of the one number 0.
pub record Table : Type 0 where
  pub kind : PlaceKind
  pub slots : List (Option Simple)

-- How large it is, whatever is set in it: its kind, and how many slots it has.
abbrev pub shape : Table → PlaceKind × ℕ
shape table = (table.kind, length table.slots)

-- The value that stands in a slot.
abbrev pub simple_value : Simple → Value
simple_value (simple.Num n) = leaf (Num n)
simple_value (simple.Word n) = leaf (Word n)
simple_value (simple.Object n) = leaf (Object n)
simple_value simple.Nil = leaf Nil

-- Whether a place of a kind takes what a slot is to hold; it always may be cleared.
abbrev pub takes_slot : PlaceKind → Option Simple → Bool
takes_slot kind None = true
takes_slot kind (Some s) = takes kind (simple_value s)

-- How many slots a place has, where there are so many objects.
abbrev pub width_of : PlaceKind → ℕ → ℕ
width_of Flag objects = 1
width_of ObjectFlag objects = objects
width_of ObjectVar objects = objects
width_of Parent objects = objects
width_of Global objects = 0

-- What is set in a slot of a table.
abbrev pub slot_in : Option Table → ℕ → Option Simple
slot_in None n = None
slot_in (Some table) n = slice_index_or table.slots n None

-- The first slot from one on in which something is set; or there is none.
abbrev pub IsFirstSlot : List (Option Simple) → ℕ → Option ℕ → Type 0
IsFirstSlot slots from None = (n : ℕ) → from ≤ n → n < length slots → slice_index_or slots n None ≡ None
IsFirstSlot slots from (Some first) = (from ≤ first) × (first < length slots) × (slice_index_or slots first None ≢ None) ×
    ((n : ℕ) → from ≤ n → n < first → slice_index_or slots n None ≡ None)

-- The tables with something set in a slot of one of them.
abbrev pub put_at : ℕ → ℕ → Option Simple → List Table → List Table
put_at place n s [] = []
put_at zero n s (table ∷ tables) = record table { slots = slice_set table.slots n s } ∷ tables
put_at (suc place) n s (table ∷ tables) = table ∷ put_at place n s tables

-- The tables with nothing set in one of them.
abbrev pub emptied : ℕ → List Table → List Table
emptied place [] = []
emptied zero (table ∷ tables) = record table { slots = map (λ s. None) table.slots } ∷ tables
emptied (suc place) (table ∷ tables) = table ∷ emptied place tables

-- ## What is kept

-- The cells of what is set, if anything is.
abbrev pub cells_set : Option Value → List Cell
cells_set None = []
cells_set (Some v) = cells_of v

-- The cells that are kept for a place of a kind: none but for a global variable.
abbrev pub stored : List Fact → ℕ → PlaceKind → List Cell
stored facts place Global = cells_set (value_at facts place 0)
stored facts place kind = []

-- Those of the places from a number on.
abbrev pub stored_from : ℕ → List PlaceKind → List Fact → List (List Cell)
stored_from place [] facts = []
stored_from place (kind ∷ kinds) facts = stored facts place kind ∷ stored_from (place + 1) kinds facts

-- An unbound variable.
abbrev pub is_fresh : Cell → Bool
is_fresh cell.Fresh = true
is_fresh c = false

-- These tables and kept lists stand for these facts; beyond the slots of a table nothing is set.
pub record AreTables (o : Outline) (facts : List Fact) (tables : List Table) (lists : List (List Cell)) (keep : ℕ) : Type 0 where
  pub kinds : map (λ (t : Table). t.kind) tables ≡ o.kinds
  pub widths : (place : ℕ) → (t : Table) → slice_get tables place ≡ Some t → length t.slots ≡ width_of t.kind o.objects
  pub slots : (place n : ℕ) → (kind : PlaceKind) → IsKind o place kind → kind ≢ Global →
      option_map simple_value (slot_in (slice_get tables place) n) ≡ value_at facts place n
  pub kept : lists ≡ stored_from 0 o.kinds facts
  pub limit : keep ≡ o.keep
  pub within : kept_size o.kinds facts ≤ o.keep
