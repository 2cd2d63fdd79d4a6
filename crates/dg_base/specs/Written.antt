-- What a sink took of a text, whole or up to a failure.
use Rattle.std.specs.Prelude.{ℕ, ◌+◌, ◌<◌, ◌≤◌, ◌≡◌, List, [], ◌∷◌, ◌++◌, length, map, Option, Some, None}
use Rattle.std.specs.Borrow.{Bor}
use Rattle.std.specs.Io.KnownBytes.{Appends}
use Rattle.dg_base.specs.Causes.{Rose}

-- What a sink tells: the bytes that it has taken and its room, where it tells them, and how often it has failed.
pub record SinkView : Type 0 where
  pub taken : Option (List ℕ)
  pub room : Option ℕ
  pub faults : ℕ

-- A room that is told falls by so much.
abbrev pub FallsBy : Option ℕ → Option ℕ → ℕ → Type 0
FallsBy None new n = Unit {0}
FallsBy (Some old) None n = ⊥
FallsBy (Some old) (Some new) n = new + n ≡ old

-- So many bytes are more than a room that is told.
abbrev pub IsOver : Option ℕ → ℕ → Type 0
IsOver None n = Unit {0}
IsOver (Some room) n = room < n

-- The sink took all of these bytes, and didn't fail.
pub record Wrote (old new : SinkView) (bytes : List ℕ) : Type 0 where
  pub taken : Appends old.taken new.taken bytes
  pub room : FallsBy old.room new.room (length bytes)
  pub steady : new.faults ≡ old.faults

-- The sink failed once while it was given these bytes: its count rose, it took a front of them, and they are more than a room that it told.
pub record BrokeOff (old new : SinkView) (bytes : List ℕ) : Type 0 where
  pub later : old.faults ≤ new.faults
  pub rose : Rose old.faults new.faults
  pub once : new.faults ≤ old.faults + 1
  pub part : List ℕ
  pub rest : List ℕ
  pub is : bytes ≡ part ++ rest
  pub taken : Appends old.taken new.taken part
  pub over : IsOver old.room (length bytes)

-- texts one behind the other
abbrev pub joined : List (List ℕ) → List ℕ
joined [] = []
joined (text ∷ others) = text ++ joined others

-- what these slices hold
abbrev pub texts : List (Bor (List ℕ)) → List (List ℕ)
texts pieces = map (λ (p : Bor (List ℕ)). p.now) pieces
