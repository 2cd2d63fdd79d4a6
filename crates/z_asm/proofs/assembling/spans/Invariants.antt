use Rattle.std.proofs.Common.{◌≡◌, ◌≤◌, ◌++◌, map, drop}
use Rattle.z_asm.specs.Layout.{code_size, spans_from, end_from}
use Rattle.z_asm.proofs.assembling.spans.Given as goal

abbrev pub invariant-loop-code : goal.invariant-loop-code
invariant-loop-code l = record {
  rest : spans_from l.from (map code_size l.image.routines) ≡ l.places.items ++ spans_from l.end (map code_size (drop l.code-index l.image.routines));
  near : end_from l.end (map code_size (drop l.code-index l.image.routines)) ≤ 524280;
}
