-- Where a run stands, and how an instruction leads on; what it does is z_model's.
use Rattle.std.specs.Prelude.{◌≡◌, ◌<◌, ◌≤◌, ℕ, List, [], ◌++◌, length, Bool, Option, Some, None}
use Rattle.z_model.specs.declared.end.Halt.{Halt}
use Rattle.z_model.specs.declared.end.Halt.TheVariants.{AtQuit, AtInput, AtFault}
use Rattle.z_model.specs.declared.story.Layout.{Layout}
use Rattle.z_model.specs.Table.{player_rows}
use Rattle.z_model.specs.Machine.{Machine}
use Rattle.z_model.specs.Run.{ZGiven, ZState, Next, On, Ended}
use Rattle.z_model.specs.Closing.{is_open}
use Rattle.dg_base.specs.Written.{SinkView, Wrote, BrokeOff}

-- The machine, the place in the dice, whether a line is begun, the typed bytes left, and what the sink tells.
pub record Scene : Type 0 where
  pub machine : Machine
  pub drawn : ℕ
  pub begun : Bool
  pub left : Option (List ℕ)
  pub seen : SinkView

abbrev pub scene : Machine → ℕ → Bool → Option (List ℕ) → SinkView → Scene
scene m drawn begun left seen = record { machine = m; drawn = drawn; begun = begun; left = left; seen = seen }

-- the player's table, with a layout and dice words
abbrev pub given_by : Layout → List ℕ → ZGiven
given_by layout dice = record { rows = player_rows; layout = layout; dice = dice }

abbrev pub state : Machine → List ℕ → ℕ → List ℕ → ZState
state m typed drawn output = record { machine = m; typed = typed; drawn = drawn; output = output }

abbrev pub next_of : Option Halt → ZState → Next
next_of None s = On s
next_of (Some halt) s = Ended halt s

abbrev pub SameIfOn : Option Halt → Machine → Machine → Type 0
SameIfOn None last new = last ≡ new
SameIfOn (Some halt) last new = Unit {0}

-- What follows came about, and the sink took what was printed.
pub record Came (follows : List ℕ → Next) (halt : Option Halt) (old new : Scene) : Type 0 where
  pub printed : List ℕ
  pub wrote : Wrote old.seen new.seen printed
  pub begins : new.begun ≡ is_open old.begun printed
  pub typed : List ℕ
  pub left : new.left ≡ Some typed
  pub last : Machine
  pub same : SameIfOn halt last new.machine
  pub is : (output : List ℕ) → follows output ≡ next_of halt (state last typed new.drawn (output ++ printed))

-- The sink failed in a text that what follows prints, before a typed byte was taken.
pub record CutOff (follows : List ℕ → Next) (before : List ℕ) (old new : Scene) : Type 0 where
  pub left : new.left ≡ Some before
  pub text : List ℕ
  pub cut : BrokeOff old.seen new.seen text
  pub halt : Option Halt
  pub last : Machine
  pub typed : List ℕ
  pub drawn : ℕ
  pub is : (output : List ℕ) → follows output ≡ next_of halt (state last typed drawn (output ++ text))

-- What follows ends for want of a typed byte, or takes at least the bytes that were taken.
abbrev pub IsBeyond : Option Halt → List ℕ → List ℕ → List ℕ → Type 0
IsBeyond None typed rest behind = (length behind ≤ length rest) × (length behind < length typed)
IsBeyond (Some AtQuit) typed rest behind = ⊥
IsBeyond (Some AtInput) typed rest behind = Unit {0}
IsBeyond (Some (AtFault fault at)) typed rest behind = ⊥

-- The source failed in a line that what follows takes; nothing was printed.
pub record Unread (follows : List ℕ → Next) (typed : List ℕ) (old new : Scene) : Type 0 where
  pub wrote : Wrote old.seen new.seen []
  pub begins : new.begun ≡ old.begun
  pub rest : List ℕ
  pub left : new.left ≡ Some rest
  pub most : length rest ≤ length typed
  pub halt : Option Halt
  pub last : Machine
  pub behind : List ℕ
  pub drawn : ℕ
  pub beyond : IsBeyond halt typed rest behind
  pub is : (output : List ℕ) → follows output ≡ next_of halt (state last behind drawn output)
