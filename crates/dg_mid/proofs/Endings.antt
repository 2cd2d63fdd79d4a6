-- With what goals that are done at once end a run, and that none but (stop) stops.
use Rattle.std.proofs.Common.{◌≡◌, ℕ, List, [], ◌∷◌, Option, Some, None, Bool}
use Rattle.std.specs.Prelude.{map, slice_get}
use Rattle.dg_base.specs.declared.program.PlaceKind.{PlaceKind}
use Rattle.dg_base.specs.declared.program.PlaceKind.TheVariants.{Flag, ObjectFlag, ObjectVar, Parent, Global}
use Rattle.dg_base.specs.declared.run.Ending.TheVariants.{StepLimit}
use Rattle.dg_meaning.specs.Values.{Num, Object, Value, Var, Node, value_of}
use Rattle.dg_meaning.specs.Substitutions.{walk, resolved}
use Rattle.dg_meaning.specs.Facts.{Alteration, kinds_of, value_at}
use Rattle.dg_meaning.specs.Changes.{found}
use Rattle.dg_meaning.specs.Choosing.{die}
use Rattle.dg_meaning.specs.Numbers.{of_numbers, calculated, thrown, total}
use Rattle.dg_meaning.specs.Words.{letters_in_word, joined_letters}
use Rattle.dg_meaning.specs.World.{Game, World}
use Rattle.dg_meaning.specs.Path.{Step, Registers, Whole, AsList, AsSum, Act, Ends, Stops, Effect, Acts, Offers}
use Rattle.dg_meaning.specs.Moves.{begun, reads, reads_if_set, finds, finds_if_set, ask_object, ask_objects, ask_place, gives_number, takes_out, spaces, changes, change_place, throws, splits, joins, takes_line}
use Rattle.dg_mid.specs.declared.code.Action.{Action}
use Rattle.dg_mid.specs.declared.code.Action.TheVariants as action
use Rattle.dg_mid.specs.declared.code.Gathered.{Gathered}
use Rattle.dg_mid.specs.Actions.{act_at, asked, found_at, registers_of, whole_of, world_of}
use Rattle.dg_mid.specs.State.{Find, Mid, vars_of}
use Rattle.dg_mid.specs.Step.{taken_out}

-- an act ends no run with a step limit, and is no stop
abbrev pub EndsWell : Act → Type 0
EndsWell (Ends e w) = e ≡ StepLimit → ⊥
EndsWell (Stops w) = ⊥
EndsWell act = Unit {0}

-- so does an effect
abbrev pub ActsWell : Effect → Type 0
ActsWell (Acts act) = EndsWell act
ActsWell (Offers k bs w) = Unit {0}

-- ## Values that are read

reads_well : (args : List Value) (r : Registers) (v : Value) (w : World) → EndsWell (reads args r v w)
reads_well [] r v w = tt
reads_well (a ∷ args) r v w = tt

if_set_well : (args : List Value) (r : Registers) (fact : Option Value) (w : World) → EndsWell (reads_if_set args r fact w)
if_set_well args r None w = tt
if_set_well args r (Some v) w = reads_well args r v w

module _ (g : Game) (many : Bool) (steps : List Step) (r : Registers) where
  object_well : (place : Option ℕ) (u v : Value) (args : List Value) (w : World) → ActsWell (ask_object g place u v args many steps r w)
  object_well place (Var x) v args w = tt
  object_well place (Node (Object o) vs) v args w = if_set_well args r (found w.facts place o) w
  object_well place u v args w = tt

  objects_well : (place : Option ℕ) (args : List Value) (w : World) → ActsWell (ask_objects g place args many steps r w)
  objects_well place [] w = tt
  objects_well place (v ∷ args) w = object_well place (walk r.bound v) v args _

  place_well : (place : ℕ) (k : Option PlaceKind) (args : List Value) (w : World) → ActsWell (ask_place g place k args many steps r w)
  place_well place None args w = tt
  place_well place (Some Flag) args w = tt
  place_well place (Some Global) args w = if_set_well args r (value_at w.facts place 0) w
  place_well place (Some ObjectFlag) args w = objects_well (Some place) args w
  place_well place (Some ObjectVar) args w = objects_well (Some place) args w
  place_well place (Some Parent) args w = objects_well (Some place) args w

  pub asked_well : (place : Option ℕ) (args : List Value) (w : World) → ActsWell (asked g place args many steps r w)
  asked_well None args w = objects_well None args w
  asked_well (Some place) args w = place_well place (slice_get (kinds_of g.program) place) args w

finds_well : (args : List Value) (o : ℕ) (r : Registers) (v : Value) (w : World) → EndsWell (finds args o r v w)
finds_well [] o r v w = tt
finds_well (a ∷ []) o r v w = tt
finds_well (a ∷ b ∷ args) o r v w = tt

finds_if_well : (args : List Value) (o : ℕ) (r : Registers) (fact : Option Value) (w : World) → EndsWell (finds_if_set args o r fact w)
finds_if_well args o r None w = tt
finds_if_well args o r (Some v) w = finds_well args o r v w

pub found_well : (f : Find) (o : ℕ) (m : Mid) → EndsWell (found_at [] f o m)
found_well f o m = finds_if_well f.args o (registers_of m) (found m.lasting.facts f.place o) (begun (registers_of m) 1 (world_of [] m))

-- ## Values that are made

number_well : (n : Option ℕ) (into : Value) (r : Registers) (w : World) → EndsWell (gives_number n into r w)
number_well None into r w = tt
number_well (Some n) into r w = tt

whole_well : (whole : Whole) (into : Value) (vs : List Value) (r : Registers) (w : World) → EndsWell (takes_out whole into vs r w)
whole_well AsList into vs r w = tt
whole_well AsSum into vs r w = number_well (total vs) into r _

pub taken_well : (whole : Gathered) (into : Value) (vs : List Value) (m : Mid) → EndsWell (taken_out [] whole into vs m)
taken_well whole into vs m = whole_well (whole_of whole) into vs (registers_of m) (world_of [] m)

spaces_well : (v : Value) (steps : List Step) (w : World) → EndsWell (spaces v steps w)
spaces_well (Node (Num n) vs) steps w = tt
spaces_well v steps w = tt

changes_well : (g : Game) (kind : PlaceKind) (a : Option Alteration) (steps : List Step) (w : World) → EndsWell (changes g kind a steps w)
changes_well g kind None steps w = tt
changes_well g kind (Some a) steps w = tt

change_well : (g : Game) (place : ℕ) (kind : Option PlaceKind) (args : List Value) (sets : Bool) (steps : List Step) (r : Registers) (w : World) → EndsWell (change_place g place kind args sets steps r w)
change_well g place None args sets steps r w = tt
change_well g place (Some kind) args sets steps r w = changes_well g kind _ steps _

throws_well : (n : Option ℕ) (into : Value) (r : Registers) (w : World) → EndsWell (throws n into r w)
throws_well None into r w = tt
throws_well (Some n) into r w = tt

splits_well : (g : Game) (letters : Option (List ℕ)) (into : Value) (r : Registers) (w : World) → EndsWell (splits g letters into r w)
splits_well g None into r w = tt
splits_well g (Some letters) into r w = tt

joins_well : (g : Game) (letters : Option (List ℕ)) (into : Value) (r : Registers) (w : World) → EndsWell (joins g letters into r w)
joins_well g None into r w = tt
joins_well g (Some letters) into r w = tt

line_well : (g : Game) (typed : List ℕ) (into : Value) (r : Registers) (w : World) → EndsWell (takes_line g typed into r w)
line_well g [] into r w = λ e. absurd (cc (e))
line_well g (b ∷ bytes) into r w = tt

-- ## Goals

-- so it is with an action that isn't (stop)
abbrev pub UnlessStop : Action → Type 0 → Type 0
UnlessStop action.Stop P = Unit {0}
UnlessStop a P = P

pub act_well : (g : Game) (a : Action) (m : Mid) → UnlessStop a (EndsWell (act_at g [] a m))
act_well g (action.Text name) m = tt
act_well g (action.Print t) m = tt
act_well g (action.Gap kind) m = tt
act_well g (action.GapN t) m = spaces_well (walk m.state.subst (value_of g.program (vars_of m.frames) t)) [] _
act_well g (action.Equal a b) m = tt
act_well g (action.Test kind t) m = tt
act_well g (action.Now place args sets) m = change_well g place (slice_get (kinds_of g.program) place) (map (value_of g.program (vars_of m.frames)) args) sets [] (registers_of m) _
act_well g (action.Arith f a b c) m =
    let v : _ → Value = λ t. walk m.state.subst (value_of g.program (vars_of m.frames) t) in
    number_well (of_numbers (calculated f) (v a) (v b)) (value_of g.program (vars_of m.frames) c) (registers_of m) _
act_well g (action.Compare f a b) m = tt
act_well g (action.Random a b c) m =
    let v : _ → Value = λ t. walk m.state.subst (value_of g.program (vars_of m.frames) t) in
    throws_well (of_numbers (thrown (die g.dice m.lasting.dice)) (v a) (v b)) (value_of g.program (vars_of m.frames) c) (registers_of m) _
act_well g (action.Input t) m = line_well g m.lasting.typed (value_of g.program (vars_of m.frames) t) (registers_of m) (world_of [] m)
act_well g (action.SplitWord a b) m = splits_well g (letters_in_word g.program.words (walk m.state.subst (value_of g.program (vars_of m.frames) a))) (value_of g.program (vars_of m.frames) b) (registers_of m) _
act_well g (action.JoinWords a b) m = joins_well g (joined_letters g.program.words (resolved m.state.subst (value_of g.program (vars_of m.frames) a))) (value_of g.program (vars_of m.frames) b) (registers_of m) _
act_well g action.Just m = tt
act_well g action.Fail m = tt
act_well g action.Stop m = tt
act_well g action.Quit m = λ e. absurd (cc (e))
