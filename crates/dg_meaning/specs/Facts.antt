-- What is set in the world, and what changes it. Hold it against docs/LANGUAGE.md, "The world", and the Dialog manual on the state of the world.
use Rattle.std.specs.Prelude.{ℕ, ◌+◌, List, [], ◌∷◌, ◌++◌, Option, Some, None, Bool, true, false, ◌&&◌, not, nat_eq, map, filter, length, if◌then◌else◌}
use Rattle.dg_base.specs.declared.program.Term.{Term}
use Rattle.dg_base.specs.declared.program.CoreProgram.{CoreProgram}
use Rattle.dg_base.specs.declared.program.Place.{Place}
use Rattle.dg_base.specs.declared.program.PlaceKind.{PlaceKind}
use Rattle.dg_base.specs.declared.program.PlaceKind.TheVariants.{Flag, ObjectFlag, ObjectVar, Parent, Global}
use Rattle.dg_meaning.specs.Values.{Num, Word, Object, Nil, Value, Node, leaf, value_of}
use Rattle.dg_meaning.specs.TypeTests.{is_fully_bound}
use Rattle.dg_meaning.specs.ValueCells.{cells_of}

-- ## Facts

-- One thing that is set: at a place, of an object, or of 0 where the place has no objects, with a value, or with the empty list where it has none.
pub record Fact : Type 0 where
  pub place : ℕ
  pub object : ℕ
  pub value : Value

-- What a flag is set to.
abbrev pub set : Value
set = leaf Nil

-- The fact is at a place, of an object.
abbrev pub is_at : ℕ → ℕ → Fact → Bool
is_at place object fact = nat_eq fact.place place && nat_eq fact.object object

-- What is set at a place, of an object: the first fact decides.
abbrev pub value_at : List Fact → ℕ → ℕ → Option Value
value_at [] place object = None
value_at (fact ∷ facts) place object = if is_at place object fact then Some fact.value else value_at facts place object

-- ## Changes

-- A value is set at a place, of an object; it is cleared there; or a place is cleared of all objects.
pub data Alteration : Type 0 where
  Sets : (place : ℕ) → (object : ℕ) → (value : Value) → Alteration
  Clears : (place : ℕ) → (object : ℕ) → Alteration
  ClearsAll : (place : ℕ) → Alteration

-- The facts behind a change.
abbrev pub altered : Alteration → List Fact → List Fact
altered (Sets place object value) facts = record { place = place; object = object; value = value } ∷ facts
altered (Clears place object) facts = filter (λ fact. not (is_at place object fact)) facts
altered (ClearsAll place) facts = filter (λ fact. not (nat_eq fact.place place)) facts

-- A number, a word of the program, an object or the empty list.
abbrev pub is_simple : Value → Bool
is_simple (Node (Num n) parts) = true
is_simple (Node (Word n) parts) = true
is_simple (Node (Object n) parts) = true
is_simple (Node Nil parts) = true
is_simple v = false

-- An object.
abbrev pub is_object : Value → Bool
is_object (Node (Object n) parts) = true
is_object v = false

-- Whether a place of a kind takes a value: a parent is an object, a per-object variable a simple value, and a global variable a value without unbound
-- variables.
abbrev pub takes : PlaceKind → Value → Bool
takes Flag v = true
takes ObjectFlag v = true
takes ObjectVar v = is_simple v
takes Parent v = is_object v
takes Global v = is_fully_bound v

-- ## What is kept

-- The cells of what is set.
abbrev pub size_of : Option Value → ℕ
size_of None = 0
size_of (Some v) = length (cells_of v)

-- The cells of what is set at a place of a kind, if it is a global variable.
abbrev pub kept_at : List Fact → ℕ → PlaceKind → ℕ
kept_at facts place Global = size_of (value_at facts place 0)
kept_at facts place kind = 0

-- The cells of the global variables that are set, where the places from a number on have these kinds.
abbrev pub kept_from : ℕ → List PlaceKind → List Fact → ℕ
kept_from place [] facts = 0
kept_from place (kind ∷ kinds) facts = kept_at facts place kind + kept_from (place + 1) kinds facts

-- The kept size: the cells of all global variables that are set.
abbrev pub kept_size : List PlaceKind → List Fact → ℕ
kept_size kinds facts = kept_from 0 kinds facts

-- The kinds of the places of a program.
abbrev pub kinds_of : CoreProgram → List PlaceKind
kinds_of program = map (λ (place : Place). place.kind) program.places

-- ## The start

-- The program of nothing: what starts set has no variables and no closures, so it means the same in every program.
abbrev pub no_program : CoreProgram
no_program = record { preds = []; closures = []; places = []; objects = []; words = []; sites = 0; entry = 0 }

-- The value of a term that starts set.
abbrev pub start_value : Term → Value
start_value term = value_of no_program [] term

-- What starts set at the places from a number on.
abbrev pub starts_from : ℕ → List Place → List Fact
starts_from n [] = []
starts_from n (place ∷ places) = map (λ start. record { place = n; object = start.0; value = start_value start.1 }) place.start ++ starts_from (n + 1) places

-- The facts at the start.
abbrev pub start_facts : List Place → List Fact
start_facts places = starts_from 0 places
