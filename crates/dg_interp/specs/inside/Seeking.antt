-- What a search comes to that neither prints nor reads. Hold it against the Dialog manual, chapter "Choice points".
use Rattle.std.specs.Prelude.{ℕ, suc, ◌≡◌, ◌<◌, ◌≤◌, ◌⊎◌, length, Option, Some, None, Bool, true, false, Result, Ok, Err}
use Rattle.dg_base.specs.declared.run.Ending.{Ending}
use Rattle.dg_base.specs.declared.run.Ending.TheVariants.{Done as Done-Ending, Failed as Failed-Ending, StepLimit}
use Rattle.dg_base.specs.declared.program.CoreProgram.{CoreProgram}
use Rattle.dg_meaning.specs.Path.{Result as SearchResult, Failing, End}
use Rattle.dg_meaning.specs.Transcript.{Run}
use Rattle.dg_meaning.specs.World.{Game, World}
use Rattle.dg_lasting.specs.declared.lack.Lack.{Lack}
use Rattle.dg_lasting.specs.declared.lack.Lack.TheVariants as lack
use Rattle.dg_lasting.specs.Lasting.{outline}
use Rattle.dg_world.specs.Worlds.{StandsFor}
use Rattle.dg_world.specs.declared.world.World.{World as FactsWorld}
use Rattle.dg_interp.specs.declared.engine.Engine.{Engine}
use Rattle.dg_interp.specs.declared.seeking.Sought.{Sought}
use Rattle.dg_interp.specs.declared.seeking.Sought.TheVariants as sought
use Rattle.dg_interp.specs.inside.Engine.{IsReady, StandsAt, EndsAt, store_in}

-- The limit of the heap.
abbrev pub heap_limit_in : Engine → ℕ
heap_limit_in e = (store_in e.store).heap_limit

-- This holds of each run that comes from where an engine is, with all of its goals left.
abbrev pub Each : Engine → (Game → Run → Type 0) → Type 0
Each e P = (g : Game) (w : World) (run : Run) → StandsAt e g e.left w run → P g run

-- A run comes from where an engine is, with all of its goals left.
pub record ComesFrom (e : Engine) (g : Game) (run : Run) : Type 0 where
  pub world : World
  pub stands : StandsAt e g e.left world run

-- A run has ended so where an engine is.
pub record HasCome (result : SearchResult) (e : Engine) (g : Game) (run : Run) : Type 0 where
  pub left : ℕ
  pub world : World
  pub ends : EndsAt result e g left world run

-- A goal was taken, and each run goes on from another engine.
pub record SeeksOn (old new : Engine) : Type 0 where
  pub ready : IsReady new
  pub left : old.left ≡ suc new.left
  pub limit : heap_limit_in new ≡ heap_limit_in old
  pub comes : Each old (ComesFrom new)

-- Each run has ended so.
pub record SeeksNoMore (result : SearchResult) (old new : Engine) : Type 0 where
  pub limit : heap_limit_in new ≡ heap_limit_in old
  pub ends : Each old (HasCome result new)

-- The branch of a goal has begun, or the run has failed.
abbrev pub SeeksSo : Bool → Engine → Engine → Type 0
SeeksSo true old new = SeeksOn old new
SeeksSo false old new = SeeksNoMore Failing old new

-- The next goal is at hand, or the run is done or has failed.
abbrev pub Turns : Option Ending → Engine → Engine → Type 0
Turns None old new = SeeksOn old new × (0 < length new.here.goals.now)
Turns (Some Done-Ending) old new = SeeksNoMore (End Done-Ending) old new
Turns (Some Failed-Ending) old new = SeeksNoMore Failing old new
Turns (Some other) old new = ⊥

-- What was lacking: each run passes the limit of the heap, if it was that.
abbrev pub SeeksTooMuch : Lack → Engine → Type 0
SeeksTooMuch lack.Heap e = Each e (λ g run. heap_limit_in e < run.world.meters.heap)
SeeksTooMuch other e = Unit {0}

-- A run has ended so, within a limit of the heap, and a world stands for what is set at its end.
pub record Ended (ending : Ending) (limit : ℕ) (world : FactsWorld) (program : CoreProgram) (run : Run) : Type 0 where
  pub is : run.ending ≡ ending
  pub within : run.world.meters.heap ≤ limit
  pub stands : StandsFor world (outline program world.area.keep) run.world.facts

-- What a search came to that ended so.
abbrev pub sought_at : Ending → Sought
sought_at Done-Ending = sought.Answered
sought_at other = sought.Unanswered

-- What a search came to: an answer, or none, or it took too many goals or cells.
abbrev pub IsSought : Sought → ℕ → FactsWorld → CoreProgram → Run → Type 0
IsSought sought.Answered limit world program run = Ended Done-Ending limit world program run
IsSought sought.Unanswered limit world program run = Ended Failed-Ending limit world program run
IsSought sought.TooLong limit world program run = (run.ending ≡ StepLimit) ⊎ (limit < run.world.meters.heap)
