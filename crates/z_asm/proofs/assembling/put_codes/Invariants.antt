use Rattle.std.proofs.Common.{◌≡◌, ◌<◌, ◌^◌, ◌++◌, length, map, drop}
use Rattle.z_asm.specs.Layout.{code_size, end_from, laid, names_at}
use Rattle.z_asm.specs.inside.Filled.{AreWritable}
use Rattle.z_asm.specs.Story.{code_part}
use Rattle.z_asm.proofs.assembling.put_codes.Given as goal

abbrev pub invariant-loop-code : goal.invariant-loop-code
invariant-loop-code l = record {
  rest : l.initial.out.items ++ laid (length l.initial.out.items) (map (code_part (names_at l.names)) l.codes) (map code_size l.codes) ≡ l.out.items ++ laid (length l.out.items) (map (code_part (names_at l.names)) (drop l.code-index l.codes)) (map code_size (drop l.code-index l.codes));
  within : end_from (length l.out.items) (map code_size (drop l.code-index l.codes)) < 2 ^ 31;
  writable : AreWritable (names_at l.names) (drop l.code-index l.codes);
}
