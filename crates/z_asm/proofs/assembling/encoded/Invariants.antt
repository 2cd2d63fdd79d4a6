use Rattle.std.proofs.Common.{◌≡◌, ◌++◌, map, drop}
use Rattle.z_asm.specs.Conditions.{ArePrintable}
use Rattle.z_asm.specs.Story.{string_bytes}
use Rattle.z_asm.proofs.assembling.encoded.Given as goal

abbrev pub invariant-loop-text : goal.invariant-loop-text
invariant-loop-text l = record {
  rest : map string_bytes l.texts ≡ l.strings ++ map string_bytes (drop l.text-index l.texts);
  printable : ArePrintable (drop l.text-index l.texts);
}
