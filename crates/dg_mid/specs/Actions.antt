-- What is done at once: the act of a goal, in a machine. Hold it against the Dialog manual, chapters "Output" and "Control flow", and
-- docs/LANGUAGE.md on equations.
use Rattle.std.specs.Prelude.{ℕ, List, [], Option, Some, None, Bool, true, map, slice_get}
use Rattle.dg_meaning.specs.Values.{Value}
use Rattle.dg_meaning.specs.Facts.{kinds_of}
use Rattle.dg_meaning.specs.Changes.{found}
use Rattle.dg_base.specs.declared.program.Goal.{Goal, Goal-F}
use Rattle.dg_base.specs.declared.program.Goal.TheVariants as goal
use Rattle.dg_base.specs.declared.program.Goal.TheOpen as form
use Rattle.dg_base.specs.declared.program.Term.{Term}
use Rattle.dg_base.specs.Goals.{terms_held}
use Rattle.dg_meaning.specs.World.{Game, World, Print, Prints, prints}
use Rattle.dg_meaning.specs.Path.{Step, Registers, Act, Goes, Tests, Unifies, Ends, Fails as FailsNow, Stops, Effect, Acts, Offers, Whole, AsList, AsSum}
use Rattle.dg_meaning.specs.Moves.{begun, finds_if_set, ask_objects, ask_place, effect}
use Rattle.dg_mid.specs.declared.code.Action.{Action}
use Rattle.dg_mid.specs.declared.code.Action.TheVariants as action
use Rattle.dg_mid.specs.declared.code.Gathered.{Gathered}
use Rattle.dg_mid.specs.declared.code.Gathered.TheVariants as gathered
use Rattle.dg_mid.specs.State.{Find, Mid, vars_of, cut_of}

-- ## Goals

-- The form of the goal that an action does.
abbrev pub form_of : Action → Goal-F Goal
form_of (action.Text name) = form.Text name
form_of (action.Print t) = form.Print t
form_of (action.Gap kind) = form.Gap kind
form_of (action.GapN t) = form.GapN t
form_of (action.Equal a b) = form.Equal a b
form_of (action.Test kind t) = form.Test kind t
form_of (action.Now place args sets) = form.Now place args sets
form_of (action.Arith f a b c) = form.Arith f a b c
form_of (action.Compare f a b) = form.Compare f a b
form_of (action.Random a b c) = form.Random a b c
form_of (action.Input t) = form.Input t
form_of (action.SplitWord a b) = form.SplitWord a b
form_of (action.JoinWords a b) = form.JoinWords a b
form_of action.Just = form.Just
form_of action.Fail = form.Fail
form_of action.Stop = form.Stop
form_of action.Quit = form.Quit

-- That goal.
abbrev pub goal_of : Action → Goal
goal_of (action.Text name) = goal.Text name
goal_of (action.Print t) = goal.Print t
goal_of (action.Gap kind) = goal.Gap kind
goal_of (action.GapN t) = goal.GapN t
goal_of (action.Equal a b) = goal.Equal a b
goal_of (action.Test kind t) = goal.Test kind t
goal_of (action.Now place args sets) = goal.Now place args sets
goal_of (action.Arith f a b c) = goal.Arith f a b c
goal_of (action.Compare f a b) = goal.Compare f a b
goal_of (action.Random a b c) = goal.Random a b c
goal_of (action.Input t) = goal.Input t
goal_of (action.SplitWord a b) = goal.SplitWord a b
goal_of (action.JoinWords a b) = goal.JoinWords a b
goal_of action.Just = goal.Just
goal_of action.Fail = goal.Fail
goal_of action.Stop = goal.Stop
goal_of action.Quit = goal.Quit

-- The terms that an action writes before it is done.
abbrev pub terms_of : Action → List Term
terms_of a = terms_held (form_of a)

-- What a gathering is taken out as.
abbrev pub whole_of : Gathered → Whole
whole_of gathered.List = AsList
whole_of gathered.Sum = AsSum

-- ## Acts

-- A machine's registers as the search has them.
abbrev pub registers_of : Mid → Registers
registers_of m = record {
  next_tag = m.next_tag;
  stoppable = m.stop;
  bound = m.state.subst;
  next_var = m.state.vars;
  heap = m.state.heap;
  trail = m.state.trail;
}

-- The world as a machine has it that has printed this, where nothing is counted yet.
abbrev pub world_of : List Print → Mid → World
world_of ps m = record {
  events = map Prints ps;
  gathered = m.gathered;
  meters = record { heap = 0; trail = 0; aux = 0; keep = 0; work = 0 };
  typed = m.lasting.typed;
  dice = m.lasting.dice;
  facts = m.lasting.facts;
  sites = m.lasting.sites;
}

-- The act of an effect; an action offers no branches.
abbrev pub act_in : Effect → Act
act_in (Acts act) = act
act_in (Offers k bs w) = FailsNow w

-- An action does what its goal does, in the machine's registers and world.
abbrev pub act_at : Game → List Print → Action → Mid → Act
act_at g ps a m = act_in (effect g (form_of a) (vars_of m.frames) (cut_of m.frames).tag [] (registers_of m) (world_of ps m))

-- What a query of a place does, or without one a query of all objects.
abbrev pub asked : Game → Option ℕ → List Value → Bool → List Step → Registers → World → Effect
asked g (Some place) args many steps r w = ask_place g place (slice_get (kinds_of g.program) place) args many steps r w
asked g None args many steps r w = ask_objects g None args many steps r w

-- The same in a machine.
abbrev pub asked_at : Game → List Print → Option ℕ → List Value → Mid → Effect
asked_at g ps place args m = asked g place args true [] (registers_of m) (world_of ps m)

-- An object is tried in a machine.
abbrev pub found_at : List Print → Find → ℕ → Mid → Act
found_at ps f o m = finds_if_set f.args o (registers_of m) (found m.lasting.facts f.place o) (begun (registers_of m) 1 (world_of ps m))

-- The world that an act leaves.
abbrev pub world_by : Act → World
world_by (Goes steps w) = w
world_by (Tests passed w) = w
world_by (Unifies made es w) = w
world_by (Ends e w) = w
world_by (FailsNow w) = w
world_by (Stops w) = w

-- What an act prints, where nothing was printed before it.
abbrev pub said_by : Act → List Print
said_by act = prints (world_by act).events

-- The machine with what lasts in a world.
abbrev pub lasting_in : World → Mid → Mid
lasting_in w m = record m { lasting = record { typed = w.typed; dice = w.dice; facts = w.facts; sites = w.sites } }
