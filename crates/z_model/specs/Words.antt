-- A word as two bytes (Z-Machine Standard 1.1, section 2.1).
use Rattle.std.specs.Prelude.{ℕ, ◌/◌, ◌%◌, List, [], ◌∷◌}

-- the two bytes of a word, the higher first
abbrev pub bytes_of : ℕ → List ℕ
bytes_of word = (word / 256) ∷ (word % 256) ∷ []
