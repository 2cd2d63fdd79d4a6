-- What is asked of the world leaves it.
use Rattle.std.proofs.Common.{◌≡◌, ℕ, List, [], ◌∷◌, Option, Some, None, Bool, refl}
use Rattle.std.specs.Prelude.{slice_get}
use Rattle.dg_base.specs.declared.program.PlaceKind.{PlaceKind}
use Rattle.dg_base.specs.declared.program.PlaceKind.TheVariants.{Flag, Global}
use Rattle.dg_meaning.specs.Changes.{found}
use Rattle.dg_meaning.specs.Facts.{kinds_of}
use Rattle.dg_meaning.specs.Moves.{begun, reads, reads_if_set, finds, finds_if_set, ask_object, ask_objects, ask_place}
use Rattle.dg_meaning.specs.Path.{Step, Registers, Act, Stops, Effect, Acts, Offers}
use Rattle.dg_meaning.specs.Substitutions.{walk}
use Rattle.dg_meaning.specs.Values.{Object, Value, Var, Node}
use Rattle.dg_meaning.specs.World.{Game, World}
use Rattle.dg_mid.specs.Actions.{asked, found_at, registers_of, world_of, world_by}
use Rattle.dg_mid.specs.Reads.{lasting_of}
use Rattle.dg_mid.specs.State.{Lasting as LastingOf, Find, Mid}
use Rattle.dg_mid.specs.Step.{Setting, trying}

-- what is done leaves this that lasts, and is no stop
abbrev pub ActKeeps : LastingOf → Act → Type 0
ActKeeps o (Stops w) = ⊥
ActKeeps o act = lasting_of (world_by act) ≡ o

abbrev pub EffectKeeps : LastingOf → Effect → Type 0
EffectKeeps o (Acts act) = ActKeeps o act
EffectKeeps o (Offers k bs w) = Unit {0}

reads_keeps : (args : List Value) (r : Registers) (v : Value) (w : World) → ActKeeps (lasting_of w) (reads args r v w)
reads_keeps [] r v w = refl
reads_keeps (a ∷ args) r v w = refl

reads_if_keeps : (args : List Value) (r : Registers) (fact : Option Value) (w : World) → ActKeeps (lasting_of w) (reads_if_set args r fact w)
reads_if_keeps args r None w = refl
reads_if_keeps args r (Some v) w = reads_keeps args r v w

module _ (g : Game) (many : Bool) (steps : List Step) (r : Registers) where
  object_keeps : (place : Option ℕ) (u v : Value) (args : List Value) (w : World) → EffectKeeps (lasting_of w) (ask_object g place u v args many steps r w)
  object_keeps place (Var x) v args w = tt
  object_keeps place (Node (Object o) vs) v args w = reads_if_keeps args r (found w.facts place o) w
  object_keeps place u v args w = refl

  objects_keep : (place : Option ℕ) (args : List Value) (w : World) → EffectKeeps (lasting_of w) (ask_objects g place args many steps r w)
  objects_keep place [] w = refl
  objects_keep place (v ∷ args) w = object_keeps place (walk r.bound v) v args _

  place_keeps : (place : ℕ) (k : Option PlaceKind) (args : List Value) (w : World) → EffectKeeps (lasting_of w) (ask_place g place k args many steps r w)
  place_keeps place None args w = refl
  place_keeps place (Some Flag) args w = refl
  place_keeps place (Some Global) args w = reads_if_keeps args r _ w
  place_keeps place (Some kind) args w = objects_keep (Some place) args w

  pub asked_keeps : (place : Option ℕ) (args : List Value) (w : World) → EffectKeeps (lasting_of w) (asked g place args many steps r w)
  asked_keeps None args w = objects_keep None args w
  asked_keeps (Some place) args w = place_keeps place (slice_get (kinds_of g.program) place) args w

finds_keeps : (args : List Value) (o : ℕ) (r : Registers) (v : Value) (w : World) → ActKeeps (lasting_of w) (finds args o r v w)
finds_keeps [] o r v w = refl
finds_keeps (a ∷ []) o r v w = refl
finds_keeps (a ∷ b ∷ args) o r v w = refl

finds_if_keeps : (args : List Value) (o : ℕ) (r : Registers) (fact : Option Value) (w : World) → ActKeeps (lasting_of w) (finds_if_set args o r fact w)
finds_if_keeps args o r None w = refl
finds_if_keeps args o r (Some v) w = finds_keeps args o r v w

pub found_keeps : (f : Find) (o : ℕ) (m : Mid) → ActKeeps m.lasting (found_at [] f o m)
found_keeps f o m = finds_if_keeps f.args o (registers_of m) (found m.lasting.facts f.place o) (begun (registers_of m) 1 (world_of [] m))

pub trying_keeps : (g : Setting) (f : Find) (objects : List ℕ) (m : Mid) → (trying g f objects m).lasting ≡ m.lasting
trying_keeps g f [] m = refl
trying_keeps g f (o ∷ objects) m = refl

pub trying_gathered : (g : Setting) (f : Find) (objects : List ℕ) (m : Mid) → (trying g f objects m).gathered ≡ m.gathered
trying_gathered g f [] m = refl
trying_gathered g f (o ∷ objects) m = refl
