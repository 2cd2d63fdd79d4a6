-- What a goal changes of the world. Hold it against docs/LANGUAGE.md, "The world".
use Rattle.std.specs.Prelude.{◌≡◌, ℕ, ◌<◌, List, [], ◌∷◌, Option, Some, None, Bool, true, false, Result, Ok, Err, map, if◌then◌else◌}
use Rattle.std.specs.Borrow.{Bor}
use Rattle.dg_base.specs.declared.cells.Simple.{Simple}
use Rattle.dg_base.specs.declared.program.PlaceKind.{PlaceKind}
use Rattle.dg_base.specs.declared.program.PlaceKind.TheVariants.{Flag, ObjectFlag, Global}
use Rattle.dg_meaning.specs.Values.{Value}
use Rattle.dg_meaning.specs.Substitutions.{resolved}
use Rattle.dg_meaning.specs.Facts.{Fact, Alteration, Sets, Clears, ClearsAll, altered, is_simple, kept_size}
use Rattle.dg_meaning.specs.Changes.{object_set}
use Rattle.dg_unify.specs.Store.{Store, told}
use Rattle.dg_unify.specs.declared.bindings.Ref.{Ref}
use Rattle.dg_world.specs.Tables.{Outline, simple_value}
use Rattle.dg_world.specs.Worlds.{StandsFor, Means, is_taken}
use Rattle.dg_world.specs.declared.change.Change.{Change}
use Rattle.dg_world.specs.declared.change.KeepFull.{KeepFull}
use Rattle.dg_world.specs.declared.world.World.{World}
use Rattle.dg_lists.specs.Formed.{IsFormed}

-- The first of some Refs, and those behind it.
abbrev pub IsFront : List Ref → Option (Ref × Bor (List Ref)) → Type 0
IsFront rs None = rs ≡ []
IsFront rs (Some front) = rs ≡ front.0 ∷ front.1.now

-- The value of a Ref, resolved.
abbrev pub in_store : Store → Ref → Value
in_store s r = resolved s.state.subst (told s r)

-- The values of some Refs, resolved.
abbrev pub all_in_store : Store → List Ref → List Value
all_in_store s rs = map (in_store s) rs

-- What a slot may hold of a value: itself, or nothing where it has parts or is none of the program's.
abbrev pub IsSlot : Value → Option Simple → Type 0
IsSlot v None = is_simple v ≡ false
IsSlot v (Some x) = v ≡ simple_value x

-- A place of this kind speaks of objects.
abbrev pub IsOfObjects : PlaceKind → Type 0
IsOfObjects Flag = ⊥
IsOfObjects Global = ⊥
IsOfObjects kind = Unit {0}

-- A place of this kind has values of objects.
abbrev pub IsOfValues : PlaceKind → Type 0
IsOfValues Flag = ⊥
IsOfValues ObjectFlag = ⊥
IsOfValues Global = ⊥
IsOfValues kind = Unit {0}

-- ## What is asked of the world

-- What sets or clears something of an object that is there.
abbrev pub one_change : PlaceKind → ℕ → ℕ → Bool → List Value → Option Alteration
one_change kind place object true values = object_set kind place object values
one_change kind place object false values = Some (Clears place object)

-- A change asks for what it means, if the place takes it; without a change nothing comes of it.
abbrev pub Asks : Outline → Option Alteration → Option Change → Type 0
Asks o a None = a ≡ None
Asks o a (Some change) = (b : Alteration) × Means o change b × (a ≡ (if is_taken o b then Some b else None))

-- ## What became of it

-- What is set is a value of the language.
abbrev pub SetsFormed : Alteration → Type 0
SetsFormed (Sets place object v) = IsFormed v
SetsFormed (Clears place object) = Unit {0}
SetsFormed (ClearsAll place) = Unit {0}

-- What became of a change, if it comes to one: it was made; or it was none, or what is kept would be too much, and nothing was changed.
abbrev pub Became : Outline → List Fact → Option Alteration → World → World → Result Bool KeepFull → Type 0
Became o facts None old new (Ok false) = new ≡ old
Became o facts (Some a) old new (Ok true) = StandsFor new o (altered a facts) × SetsFormed a
Became o facts (Some a) old new (Err e) = (o.keep < kept_size o.kinds (altered a facts)) × (new ≡ old)
Became o facts a old new result = ⊥
