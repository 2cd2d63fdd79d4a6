-- The header of a story (Z-Machine Standard 1.1, section 11.1).
use Rattle.std.specs.Prelude.{ℕ, ◌/◌, ◌%◌, List, [], ◌∷◌, ◌++◌, replicate}

-- where the globals and the object table stand
abbrev pub globals : ℕ
globals = 64

abbrev pub objects : ℕ
objects = 544

abbrev pub two_bytes : ℕ → List ℕ
two_bytes n = (n / 256) ∷ (n % 256) ∷ []

-- The version; the high memory mark, which is the first instruction's address; that address; the dictionary, the object table, the globals
-- and the static base; the length divided by 8, and the checksum.
abbrev pub header_bytes : (first dictionary base length checksum : ℕ) → List ℕ
header_bytes first dictionary base length checksum =
    8 ∷ 0 ∷ 0 ∷ 0 ∷ (two_bytes first ++ (two_bytes first ++ (two_bytes dictionary ++ (two_bytes objects ++ (two_bytes globals ++ (two_bytes base
    ++ (replicate 10 0 ++ (two_bytes (length / 8) ++ (two_bytes checksum ++ replicate 34 0)))))))))
