-- What searches for quiet goals leave of the world as it was. Hold it against the Dialog manual on the state of the world, where it says how a flag and a
-- variable start.
use Rattle.std.specs.Prelude.{◌≡◌, ◌||◌, ◌-◌, ℕ, List, [], ◌∷◌, Option, Some, None, Bool, false, length, slice_get}
use Rattle.std.specs.List.{list_all}
use Rattle.dg_base.specs.declared.program.CoreProgram.{CoreProgram}
use Rattle.dg_base.specs.declared.program.Goal.{Goal, out-Goal}
use Rattle.dg_base.specs.declared.program.Goal.TheOpen.{Goal-F, Ask}
use Rattle.dg_base.specs.declared.program.PlaceKind.TheVariants.{ObjectVar}
use Rattle.dg_meaning.specs.Facts.{Fact, Clears, altered, kinds_of}
use Rattle.dg_meaning.specs.World.{World, prints}
use Rattle.dg_meaning.specs.Moves.{rules_of}
use Rattle.dg_meaning.specs.Quiet.{are_quiet, have_quiet_bodies}

-- ## What is asked

-- The rules of a predicate have quiet bodies, whether it changes or not; what is no predicate of the program has no rules.
abbrev pub has_quiet_rules : CoreProgram → List Bool → ℕ → Bool
has_quiet_rules program set pred = have_quiet_bodies set (rules_of (slice_get program.preds pred))

-- A goal is a query of such a predicate.
abbrev pub is_quiet_query : CoreProgram → List Bool → Goal-F Goal → Bool
is_quiet_query program set (Ask pred args many) = has_quiet_rules program set pred
is_quiet_query program set goal = false

-- Each of these goals is quiet, or such a query.
abbrev pub ask_quietly : CoreProgram → List Bool → List Goal → Bool
ask_quietly program set goals = list_all (λ goal. are_quiet set (goal ∷ []) || is_quiet_query program set (out-Goal goal)) goals

-- ## What stays

-- The text, the gatherings, the typed bytes, the dice, what selects have picked, and the counts of gatherings and of what is kept stay. Of the facts it says
-- nothing; and the counts of heap, trail and work, and the events of calls, may be others.
pub record SameButFacts (before after : World) : Type 0 where
  pub printed : prints after.events ≡ prints before.events
  pub gathered : after.gathered ≡ before.gathered
  pub typed : after.typed ≡ before.typed
  pub dice : after.dice ≡ before.dice
  pub sites : after.sites ≡ before.sites
  pub aux : after.meters.aux ≡ before.meters.aux
  pub keep : after.meters.keep ≡ before.meters.keep

-- The facts stay, too.
pub record SameFacts (before after : World) : Type 0 where
  pub facts : after.facts ≡ before.facts
  pub others : SameButFacts before after

-- Facts that are cleared at a place of an object, or of none.
abbrev pub cleared : ℕ → Option ℕ → List Fact → List Fact
cleared place None facts = facts
cleared place (Some object) facts = altered (Clears place object) facts

-- All facts stay but what is set at a place of an object: cleared there, they are the same. Without an object all stay.
pub record SameFactsBut (place : ℕ) (object : Option ℕ) (before after : World) : Type 0 where
  pub facts : cleared place object after.facts ≡ cleared place object before.facts
  pub others : SameButFacts before after

-- ## The place for answers

-- The last place of a program.
abbrev pub last_place : CoreProgram → ℕ
last_place program = length program.places - 1

-- It is a per-object variable.
abbrev pub EndsWithVariable : CoreProgram → Type 0
EndsWithVariable program = slice_get (kinds_of program) (last_place program) ≡ Some ObjectVar
