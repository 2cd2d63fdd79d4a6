-- The dice that are made of a seed: hold them against docs/STORIES.md, "Dice". The generator is the kit's PCG (XSH RR 64/32).
use Rattle.std.specs.Prelude.{ℕ, ◌%◌, zero, suc, List, [], ◌∷◌, map}
use Rattle.rand_pcg.specs.Lcg.{Lcg, started, increment_of}
use Rattle.rand_pcg.specs.Pcg.{multiplier_64, pcg32}

-- So many words of a generator, one after the other.
unfoldable pub generated : ℕ → Lcg → List ℕ
generated zero generator = []
generated (suc n) generator = (pcg32 generator).0 ∷ generated n (pcg32 generator).1

-- The generator of a seed, on its stream 54.
abbrev pub seeded : ℕ → Lcg
seeded seed = started 64 multiplier_64 seed (increment_of 64 54)

-- The low half of each of these words.
abbrev pub halves : List ℕ → List ℕ
halves words = map (λ w. w % 65536) words

-- The dice of a seed: the low halves of the first 1,024 words.
abbrev pub dice_of : ℕ → List ℕ
dice_of seed = halves (generated 1024 (seeded seed))
