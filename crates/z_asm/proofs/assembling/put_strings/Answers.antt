use Rattle.std.proofs.Common.{length, map, drop, arith}
use Rattle.z_asm.proofs.Layouts.{end_most}
use Rattle.z_asm.proofs.assembling.put_strings.Goals as goal

pub pad-requires : goal.pad-requires
pad-requires c = omega (arith, end_most (length c.loop-string.out.items) (map length (drop c.loop-string.string-index c.args.strings.now)), c.loop-string.invariant.within)
