-- What lies in memory beside frames, the store and choices: what is gathered, and what turns of this crate leave as it is. Hold it against
-- dg_meaning/specs/World.antt, and docs/LANGUAGE.md, where it says what a limit counts.
use Rattle.std.specs.Prelude.{◌≡◌, ◌≢◌, ℕ, ◌+◌, ◌-◌, ◌<◌, ◌≤◌, List, [], ◌∷◌, length, drop}
use Rattle.dg_meaning.specs.World.{Gathering, gathered_size}
use Rattle.dg_rt.specs.Cells.{at_cell}
use Rattle.dg_rt.specs.Areas.{areas_end, gather_reg}
use Rattle.dg_rt.specs.Copies.{Row}
use Rattle.dg_rt.specs.Gatherings.{rows_of, AreFormed}
use Rattle.dg_turn.specs.Told.{Telling, told_count}

-- ## Gatherings

-- The first word of what is gathered, behind the trail, and the first behind its 2,000.
abbrev pub aux_at : ℕ
aux_at = areas_end

abbrev pub aux_end : ℕ
aux_end = 14315

-- A gathering is named by the address of its header, which lies behind all that the others hold.
abbrev pub gather_words : List Gathering → List ℕ
gather_words [] = []
gather_words (x ∷ xs) = at_cell (aux_at + gathered_size xs) ∷ gather_words xs

-- The newest of some names; 0 is none.
abbrev pub newest : List ℕ → ℕ
newest [] = 0
newest (x ∷ xs) = x

-- The oldest of them, so many.
abbrev pub open_to : ℕ → List ℕ → List ℕ
open_to n xs = drop (length xs - n) xs

-- A gathering lies behind the others: a header of two words, the name of the one before it and the address behind its values, and the values.
pub record GatheringIn (t : Telling) (cells : ℕ → ℕ) (x : Gathering) (others : List Gathering) : Type 0 where
  pub before : cells (aux_at + gathered_size others) ≡ newest (gather_words others)
  pub end : cells (aux_at + gathered_size others + 1) ≡ at_cell (aux_at + gathered_size (x ∷ others))
  pub values : Row cells (aux_at + gathered_size others + 2) (rows_of x.values)
  pub formed : AreFormed (told_count t.program) x.values
  pub room : gathered_size (x ∷ others) ≤ 2000

-- So do all of them.
abbrev pub GatheringsIn : Telling → (ℕ → ℕ) → List Gathering → Type 0
GatheringsIn t cells [] = Unit {0}
GatheringsIn t cells (x ∷ xs) = GatheringIn t cells x xs × GatheringsIn t cells xs

-- ## What stays

-- The registers from the one on that says how the text ends, but for the one that names a gathering, and all that lies behind what is gathered are
-- these words.
pub record OuterAre (outer cells : ℕ → ℕ) : Type 0 where
  pub registers : (k : ℕ) → 27 < k → k < 36 → k ≢ gather_reg → cells k ≡ outer k
  pub areas : (k : ℕ) → aux_end ≤ k → cells k ≡ outer k

-- The newest of some gatherings is named by its register, they lie in memory, and the words outside are these.
pub record RestIn (t : Telling) (outer cells : ℕ → ℕ) (gs : List Gathering) : Type 0 where
  pub gather : cells gather_reg ≡ newest (gather_words gs)
  pub gatherings : GatheringsIn t cells gs
  pub outside : OuterAre outer cells
