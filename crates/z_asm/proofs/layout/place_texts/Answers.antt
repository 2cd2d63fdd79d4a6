use Rattle.std.proofs.Common.{length, arith}
use Rattle.z_asm.proofs.Layouts.{too_far}
use Rattle.z_asm.proofs.layout.place_texts.Goals as goal

pub returns-in_default-clause-large : goal.returns-in_default-clause-large
returns-in_default-clause-large c = λ e.
    too_far length c.args.strings.now c.loop-string.string-index c.string-item.result c.args.from c.loop-string.end 524280 c.loop-string-test.true
    c.string-item.is c.loop-string.invariant.last (omega (arith, c.len.ensures, c.in_default.ensures))
