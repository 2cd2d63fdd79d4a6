use Rattle.std.proofs.Common.{◌≡◌, ◌<◌, ◌^◌, ◌++◌, length, map, drop}
use Rattle.z_asm.specs.Layout.{end_from, laid}
use Rattle.z_asm.specs.Story.{string_part}
use Rattle.z_asm.proofs.assembling.put_strings.Given as goal

abbrev pub invariant-loop-string : goal.invariant-loop-string
invariant-loop-string l = record {
  rest : l.initial.out.items ++ laid (length l.initial.out.items) (map string_part l.strings) (map length l.strings) ≡ l.out.items ++ laid (length l.out.items) (map string_part (drop l.string-index l.strings)) (map length (drop l.string-index l.strings));
  within : end_from (length l.out.items) (map length (drop l.string-index l.strings)) < 2 ^ 31;
}
