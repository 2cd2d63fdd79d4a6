-- Frames and inner constructs by their names, and the choices that a cut leaves.
use Rattle.std.specs.Prelude.{ℕ, zero, suc, nat_lt, List, [], ◌∷◌, Option, None, if◌then◌else◌}
use Rattle.std.specs.List.{slice_get}
use Rattle.dg_machine.specs.declared.now.Choice.{Choice}

-- What is named so: it stands at a place, which is counted from 1; 0 names nothing.
abbrev pub named : {A : Type 0} → List A → ℕ → Option A
named xs zero = None
named xs (suc n) = slice_get xs n

-- The choices, the newest first, that are older than a height of the heap.
abbrev pub below : ℕ → List Choice → List Choice
below to [] = []
below to (k ∷ ks) = if nat_lt k.mark.heap to then k ∷ ks else below to ks
