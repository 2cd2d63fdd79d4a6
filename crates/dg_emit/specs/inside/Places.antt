-- What places take, one behind the other. The proofs alone rest on it.
use Rattle.std.specs.Prelude.{ℕ, ◌+◌, List, [], ◌∷◌}
use Rattle.dg_base.specs.declared.program.Place.{Place}
use Rattle.dg_turn.specs.World.{place_words, place_bytes}

-- The words of places among so many objects.
abbrev pub words_in : ℕ → List Place → ℕ
words_in objects [] = 0
words_in objects (place ∷ places) = place_words objects place.kind + words_in objects places

-- Their bytes.
abbrev pub bytes_in : ℕ → List Place → ℕ
bytes_in objects [] = 0
bytes_in objects (place ∷ places) = place_bytes objects place.kind + bytes_in objects places
