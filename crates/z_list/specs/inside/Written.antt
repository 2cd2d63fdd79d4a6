-- What the parts of the writer hand on.
use Rattle.std.specs.Prelude.{◌≡◌, ◌<◌, ◌≤◌, ℕ, ◌+◌}

-- A row ends behind sixteen bytes, or with fewer behind the last of all.
pub record IsRowEnd (from count end : ℕ) : Type 0 where
  pub some : from < end
  pub few : end ≤ from + 16
  pub within : end ≤ count
  pub last : end < from + 16 → end ≡ count
