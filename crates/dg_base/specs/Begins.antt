-- What a list begins with, and what it ends with.
use Rattle.std.specs.Prelude.{◌≡◌, List, ◌++◌}

-- A list begins with another.
pub record Begins {A : Type 0} (before after : List A) : Type 0 where
  pub behind : List A
  pub is : after ≡ before ++ behind

-- A list ends with another.
pub record EndsWith {A : Type 0} (before after : List A) : Type 0 where
  pub taken : List A
  pub is : before ≡ taken ++ after
