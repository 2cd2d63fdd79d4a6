-- Stretches of a run.
use Rattle.std.specs.Prelude.{◌≡◌, ℕ, ◌+◌}
use Rattle.z_model.specs.Run.{ZGiven, ZState, ZRun, zrun}

-- So many instructions lead from a state to another.
pub record Leads (w : ZGiven) (n : ℕ) (z z' : ZState) : Type 0 where
  pub by : (k : ℕ) → zrun w (n + k) z ≡ zrun w k z'

-- A run ends with so many instructions.
pub record Ends (w : ZGiven) (n : ℕ) (z : ZState) (r : ZRun) : Type 0 where
  pub by : (k : ℕ) → zrun w (n + k) z ≡ r
