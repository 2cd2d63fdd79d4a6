-- A story that is played from one routine to the next: where the player is, and what memory stands for there. Hold it against the Z-machine standard,
-- section 6 (on calling routines), and dg_mid/specs/State.antt.
use Rattle.std.specs.Prelude.{◌≡◌, ℕ, zero, suc, ◌<◌, ◌≤◌, List, [], ◌∷◌, ◌++◌, length}
use Rattle.dg_base.specs.declared.run.Ending.{Ending}
use Rattle.dg_mid.specs.State.{Call, Mid}
use Rattle.z_model.specs.declared.end.ZEnd.TheVariants as ends
use Rattle.z_model.specs.Run.{ZState}
use Rattle.z_code.specs.Targets.{OpsAt}
use Rattle.z_lang.specs.Code.{ops_of_acts}
use Rattle.z_lang.specs.Leads.{Leads, Ends}
use Rattle.z_lang.specs.Standing.{RoutinesStand, IsKept, HasRoom, state_at}
use Rattle.dg_rt.specs.Cells.{Holds}
use Rattle.dg_rt.specs.Areas.{back_reg, cut_reg, many_reg, args_reg, last_reg, state}
use Rattle.dg_rt.specs.Shapes.{Shape}
use Rattle.dg_rt.specs.RunTime.{HasRunTime}
use Rattle.dg_rt.specs.Start.{next_reg, turn_acts}
use Rattle.dg_rt.specs.Closings.{closing}
use Rattle.dg_turn.specs.Told.{Telling}
use Rattle.dg_turn.specs.Lies.{CallIn, MidIn}

-- The story's routines stand in it, the run-time among them, its first one calls one after another, and there is room on the player's stack.
pub record Playing (t : Telling) : Type 0 where
  pub labels : ℕ → ℕ
  pub stands : RoutinesStand t.p t.story
  pub placed : OpsAt t.story t.p.names labels t.pc (ops_of_acts turn_acts)
  pub from : t.p.world.layout.base ≤ t.pc
  pub room : (m u o : List ℕ) (d : ℕ) → HasRoom t.context (state m [] u d o) 3600 20000
  pub has : HasRunTime t.p
  pub words : (k : ℕ) → t.p.names.routine k < 65536

-- What is outside of a machine: what was written, the typed bytes that are left, how many dice words were drawn, and the words of what turns leave as it
-- is.
pub record Outside : Type 0 where
  pub output : List ℕ
  pub typed : List ℕ
  pub drawn : ℕ
  pub words : ℕ → ℕ

-- The player is in front of the call of the next routine, this is outside, and memory stands for a machine.
pub record Represented (t : Telling) (out : Outside) (next : ℕ) (m : Mid) (z : ZState) : Type 0 where
  pub memory : List ℕ
  pub is : z ≡ state_at (state memory [] out.typed out.drawn out.output) t.context t.pc
  pub kept : IsKept t.p.world.layout.base t.story memory
  pub cells : ℕ → ℕ
  pub holds : Holds t.p.world.layout memory cells
  pub next_is : cells next_reg ≡ next
  pub sh : Shape
  pub trail : List ℕ
  pub mid : MidIn t out.words sh cells trail m

-- The words of registers in a row, so many.
abbrev pub registers : (ℕ → ℕ) → ℕ → ℕ → List ℕ
registers cells k zero = []
registers cells k (suc n) = cells k ∷ registers cells (suc k) n

-- Registers hold a call.
abbrev pub CallAt : Telling → Shape → (ℕ → ℕ) → Call → Type 0
CallAt t sh cells call = CallIn t sh (registers cells args_reg (length call.args)) (cells back_reg) (cells cut_reg) (cells many_reg) call

-- ## What a turn comes to

-- In so many instructions at most the player comes to where memory stands for a machine, and this routine comes next.
pub record Comes (t : Telling) (out : Outside) (next : ℕ) (m : Mid) (most : ℕ) (z : ZState) : Type 0 where
  pub there : ZState
  pub count : ℕ
  pub some : 1 ≤ count
  pub few : count ≤ most
  pub leads : Leads t.p.world count z there
  pub rep : Represented t out next m there

-- In so many instructions at most the run is over: the line of an ending has been written, behind a newline where something was printed.
pub record Closes (t : Telling) (out : Outside) (ending : Ending) (most : ℕ) (z : ZState) : Type 0 where
  pub at_end : ZState
  pub written : at_end.output ≡ out.output ++ closing (out.words last_reg) ending
  pub count : ℕ
  pub few : count ≤ most
  pub ends : Ends t.p.world count z (record { end = ends.Quit; state = at_end })
