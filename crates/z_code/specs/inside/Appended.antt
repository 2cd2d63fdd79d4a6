-- What is written at the end of bytes that have room for it.
use Rattle.std.specs.Prelude.{◌≡◌, ◌+◌, ◌≤◌, ◌++◌, ℕ, List, Vec, vec_len, vec_capacity}
use Rattle.std.specs.declared.alloc.Global.{Global}

-- There is room for so many more.
abbrev pub HasRoom : Vec ℕ Global → ℕ → Type 0
HasRoom out most = vec_len out + most ≤ vec_capacity out

-- These bytes, at most so many, were written, and the room behind them stays.
pub record Appended (old new : Vec ℕ Global) (bytes : List ℕ) (most : ℕ) : Type 0 where
  pub items : new.items ≡ old.items ++ bytes
  pub few : vec_len new ≤ vec_len old + most
  pub room : vec_capacity old ≤ vec_capacity new
