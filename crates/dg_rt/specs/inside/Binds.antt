-- What the routine that binds a variable does.
use Rattle.std.specs.Prelude.{ℕ, ◌+◌, ◌≤◌, List, [], ◌∷◌, ◌++◌}
use Rattle.dg_base.specs.declared.run.Ending.TheVariants.{TrailLimit}
use Rattle.z_model.specs.declared.end.Halt.TheVariants.{AtQuit}
use Rattle.dg_meaning.specs.Substitutions.{Substitution}
use Rattle.z_lang.specs.State.{Program}
use Rattle.z_lang.specs.Runs.{ActsRun as Runs, Returns, Stops}
use Rattle.dg_rt.specs.declared.unify.TheConstants.{BIND_ACTS}
use Rattle.dg_rt.specs.Areas.{last_reg, state}
use Rattle.dg_rt.specs.Shapes.{Shape}
use Rattle.dg_rt.specs.Back.{Begun}
use Rattle.dg_rt.specs.Closings.{closing, closing_most}
use Rattle.dg_rt.specs.Moments.{IsAt}

-- A variable is bound, in 6 instructions at most.
pub record Binds (p : Program) (sh : Shape) (since hb : ℕ) (S0 : Substitution) (left : ℕ) (begun : Begun) (f w : ℕ) (memory typed output : List ℕ)
    (drawn a b : ℕ) (S : Substitution) : Type 0 where
  pub memory' : List ℕ
  pub cells' : ℕ → ℕ
  pub count : ℕ
  pub runs : Runs p f w BIND_ACTS BIND_ACTS (state memory (a ∷ b ∷ 0 ∷ 0 ∷ []) typed drawn output) (Returns 1)
      (state memory' (a ∷ b ∷ 0 ∷ 0 ∷ []) typed drawn output) count
  pub at : IsAt p.world.layout sh since hb S0 left begun memory' cells' S
  pub few : count ≤ 6

-- The trail is full, and the limit's closing ends the run, in 3 instructions and those of the closing.
pub record IsFull (p : Program) (begun : Begun) (memory typed output : List ℕ) (drawn a b : ℕ) : Type 0 where
  pub count : ℕ
  pub runs : Runs p 2 0 BIND_ACTS BIND_ACTS (state memory (a ∷ b ∷ 0 ∷ 0 ∷ []) typed drawn output) (Stops AtQuit)
      (state memory [] typed drawn (output ++ closing (begun.cells last_reg) TrailLimit)) count
  pub few : count ≤ 3 + closing_most
