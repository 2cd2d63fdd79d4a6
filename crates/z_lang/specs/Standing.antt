-- How routines stand in a story, and what their instructions do.
use Rattle.std.specs.Prelude.{◌≡◌, ◌≢◌, ℕ, suc, ◌+◌, ◌*◌, ◌≤◌, ◌<◌, ◌==◌, List, [], ◌∷◌, length, drop, Option, Some, None, Result, Ok, if◌then◌else◌, slice_get}
use Rattle.z_model.specs.declared.fault.ZFault.{ZFault}
use Rattle.z_model.specs.declared.story.Layout.{Layout}
use Rattle.z_model.specs.Flow.{return_to}
use Rattle.z_model.specs.Machine.{Frame, Machine, words_in}
use Rattle.z_model.specs.Table.{player_rows}
use Rattle.z_model.specs.Laws.{IsLaid}
use Rattle.z_model.specs.Run.{ZGiven, ZState, halt_ending}
use Rattle.z_code.specs.Targets.{Names, label_from, OpsAt}
use Rattle.z_lang.specs.declared.act.Routine.{Routine}
use Rattle.z_lang.specs.declared.act.Act.{Act}
use Rattle.z_lang.specs.State.{State, Program}
use Rattle.z_lang.specs.Runs.{ActsOutcome, Returns, Stops, Rests, ActsRun}
use Rattle.z_lang.specs.Code.{ops_of_acts}
use Rattle.z_lang.specs.Leads.{Leads, Ends}

-- The player's table, and a story whose globals lie before the static base.
pub record IsLaidOut (given : ZGiven) : Type 0 where
  pub rows : given.rows ≡ player_rows
  pub laid : IsLaid given.layout

-- A routine stands at a packed address.
pub record StandsAt (p : Program) (story : List ℕ) (x : ℕ) (r : Routine) : Type 0 where
  pub labels : ℕ → ℕ
  pub some : x ≢ 0
  pub within : p.world.layout.base ≤ 8 * x
  pub few : r.locals ≤ 15
  pub count : slice_get story (8 * x) ≡ Some r.locals
  pub code_is : OpsAt story p.names labels (8 * x + 1) (ops_of_acts r.body)

-- All routines of a program stand in a story.
pub record RoutinesStand (p : Program) (story : List ℕ) : Type 0 where
  pub laid_out : IsLaidOut p.world
  pub each : (x : ℕ) (r : Routine) → p.routine_at x ≡ Some r → StandsAt p story x r

-- From the static base on, memory is as the story.
abbrev pub IsKept : ℕ → List ℕ → List ℕ → Type 0
IsKept base story memory = drop base memory ≡ drop base story

-- Where a routine was called from.
pub record Context : Type 0 where
  pub back : ℕ
  pub store : Option ℕ
  pub args : ℕ
  pub callers : List Frame

abbrev pub frame_of : State → Context → Frame
frame_of s c = record { back = c.back; store = c.store; args = c.args; locals = s.locals; stack = [] }

abbrev pub machine_at : State → Context → ℕ → Machine
machine_at s c pc = record { memory = s.memory; pc = pc; here = frame_of s c; callers = c.callers; tables = [] }

abbrev pub machine_state : State → Machine → ZState
machine_state s m = record { machine = m; typed = s.typed; drawn = s.drawn; output = s.output }

-- the player's state where a routine's instructions go on at an address
abbrev pub state_at : State → Context → ℕ → ZState
state_at s c pc = machine_state s (machine_at s c pc)

-- the machine behind a return
abbrev pub resumed : Layout → State → Context → ℕ → Result Machine ZFault
resumed layout s c x = return_to layout (machine_at s c 0) c.callers x

-- There is room for so many more frames and words.
pub record HasRoom (c : Context) (s : State) (f w : ℕ) : Type 0 where
  pub frames : length c.callers + f < 8192
  pub words : words_in c.callers + length s.locals + w ≤ 65536

-- Acts stand at an address, and a state comes to it.
pub record ComesAt (p : Program) (story : List ℕ) (labels : ℕ → ℕ) (c : Context) (acts : List Act) (s : State) (n : ℕ) (z : ZState) : Type 0 where
  pub pc : ℕ
  pub placed : OpsAt story p.names labels pc (ops_of_acts acts)
  pub from : p.world.layout.base ≤ pc
  pub leads : Leads p.world n z (state_at s c pc)

-- where a state comes to with an outcome
abbrev pub ArrivesAt : Program → List ℕ → (ℕ → ℕ) → Context → ActsOutcome → State → ℕ → ZState → Type 0
ArrivesAt p story labels c (Returns x) s n z = (m : Machine) → resumed p.world.layout s c x ≡ Ok m → Leads p.world n z (machine_state s m)
ArrivesAt p story labels c (Stops halt) s n z = (last : ZState) × (last.output ≡ s.output) ×
    Ends p.world n z (record { end = halt_ending halt; state = last })
ArrivesAt p story labels c (Rests acts) s n z = ComesAt p story labels c acts s n z

-- What comes of acts: memory is kept, and the player's state comes to the outcome.
pub record Follows (p : Program) (story : List ℕ) (labels : ℕ → ℕ) (c : Context) (o : ActsOutcome) (s' : State) (n : ℕ) (z : ZState) : Type 0 where
  pub kept : IsKept p.world.layout.base story s'.memory
  pub comes : ArrivesAt p story labels c o s' n z

-- Where a routine that stands in a story begins, its instructions do what its acts mean.
abbrev pub RoutinesFollow : Type 0
RoutinesFollow = (p : Program) (story : List ℕ) → RoutinesStand p story → (x : ℕ) (r : Routine) → p.routine_at x ≡ Some r →
    (labels : ℕ → ℕ) → OpsAt story p.names labels (8 * x + 1) (ops_of_acts r.body) → (c : Context) (f w n : ℕ) (s s' : State) (o : ActsOutcome) →
    IsKept p.world.layout.base story s.memory → HasRoom c s f w →
    ActsRun p f w r.body r.body s o s' n → Follows p story labels c o s' n (state_at s c (8 * x + 1))

-- ---- the routines of a list

-- the routine at a packed address, among routines numbered from here on
abbrev pub look : Names → ℕ → ℕ → List Routine → Option Routine
look names k x [] = None
look names k x (r ∷ rs) = if names.routine k == x then Some r else look names (suc k) x rs

abbrev pub program_of : ZGiven → Names → List Routine → Program
program_of given names rs = record { world = given; names = names; routine_at = λ x. look names 0 x rs }

-- A routine's count of locals and its instructions stand at the address of its number, behind the static base.
pub record StandsAs (given : ZGiven) (names : Names) (story : List ℕ) (k : ℕ) (r : Routine) : Type 0 where
  pub few : r.locals ≤ 15
  pub some : 0 < names.routine k
  pub behind : given.layout.base ≤ 8 * names.routine k
  pub count : slice_get story (8 * names.routine k) ≡ Some r.locals
  pub code_is : let at = 8 * names.routine k + 1 in OpsAt story names (label_from at (ops_of_acts r.body)) at (ops_of_acts r.body)

-- Routines that stand so are the routines of a program.
pub record ListStands (given : ZGiven) (names : Names) (rs : List Routine) (story : List ℕ) : Type 0 where
  pub stands : IsLaidOut given → ((k : ℕ) (r : Routine) → slice_get rs k ≡ Some r → StandsAs given names story k r) →
      RoutinesStand (program_of given names rs) story
