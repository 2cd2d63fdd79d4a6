use Rattle.std.proofs.Common.{◌≡◌, ℕ, ◌-◌, ◌+◌, ◌<◌, ◌≤◌, List, length}
use Rattle.std.specs.Prelude.{encode_utf8_all}
use Rattle.std.specs.List.{All}
use Rattle.dg_words.proofs.Decoded.{Decodes}
use Rattle.dg_words.proofs.decoding.read_letters.Given as goal

abbrev pub invariant-letters : goal.invariant-letters
invariant-letters l = record {
  kept : l.kept ≤ length l.letters;
  at : l.at ≤ length l.spelling + 2;
  decodes : (cs : List ℕ) → l.spelling ≡ encode_utf8_all cs → All (λ c. c < 65536) cs → Decodes cs l.spelling l.letters l.kept l.at;
}

abbrev pub decreases-letters : goal.decreases-letters
decreases-letters l = length l.letters - l.kept
