use Rattle.std.proofs.Common.{◌≡◌, ◌≤◌, ◌++◌, length, map, drop}
use Rattle.z_asm.specs.Layout.{stand_from, end_from, packed_address}
use Rattle.z_asm.proofs.layout.place_texts.Given as goal

abbrev pub invariant-loop-string : goal.invariant-loop-string
invariant-loop-string l = record {
  rest : map packed_address (stand_from l.from (map length l.strings)) ≡ l.places ++ map packed_address (stand_from l.end (map length (drop l.string-index l.strings)));
  last : end_from l.from (map length l.strings) ≡ end_from l.end (map length (drop l.string-index l.strings));
  near : l.end ≤ 524280;
}
