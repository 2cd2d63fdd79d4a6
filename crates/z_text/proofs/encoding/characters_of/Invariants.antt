use Rattle.std.proofs.Common.{◌≡◌, ◌++◌, drop, flat_map, None}
use Rattle.z_text.specs.Encode.{code_characters, AreSmall}
use Rattle.z_text.specs.Codes.{codes_from}
use Rattle.z_text.proofs.encoding.characters_of.Given as goal

abbrev pub invariant-loop-byte : goal.invariant-loop-byte
invariant-loop-byte l = record {
  same : flat_map code_characters (codes_from None l.text) ≡ l.out.items ++ flat_map code_characters (codes_from l.lead (drop l.byte-index l.text));
  small : AreSmall l.out.items;
}
