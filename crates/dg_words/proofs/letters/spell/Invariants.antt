use Rattle.std.proofs.Common.{◌≡◌, ◌≤◌, ◌*◌, take}
use Rattle.std.specs.Prelude.{encode_utf8_all}
use Rattle.dg_words.proofs.letters.spell.Given as goal

abbrev pub invariant-letters : goal.invariant-letters
invariant-letters l = record {
  within : l.len ≤ 3 * l.letter-index;
  bytes : take l.len l.row ≡ encode_utf8_all (take l.letter-index l.letters);
}
