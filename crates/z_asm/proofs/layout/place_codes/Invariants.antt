use Rattle.std.proofs.Common.{◌≡◌, ◌≤◌, ◌++◌, map, drop}
use Rattle.z_asm.specs.Layout.{code_size, stand_from, end_from, packed_address}
use Rattle.z_asm.proofs.layout.place_codes.Given as goal

abbrev pub invariant-loop-code : goal.invariant-loop-code
invariant-loop-code l = record {
  rest : map packed_address (stand_from l.from (map code_size l.image.routines)) ≡ l.places ++ map packed_address (stand_from l.end (map code_size (drop l.code-index l.image.routines)));
  last : end_from l.from (map code_size l.image.routines) ≡ end_from l.end (map code_size (drop l.code-index l.image.routines));
  near : l.end ≤ 524280;
}
