use Rattle.std.proofs.Common.{arith}
use Rattle.z_asm.specs.Layout.{code_size}
use Rattle.z_asm.proofs.Layouts.{too_far}
use Rattle.z_asm.proofs.layout.place_codes.Goals as goal

pub returns-in_default-clause-large : goal.returns-in_default-clause-large
returns-in_default-clause-large c = λ e.
    too_far code_size c.args.image.now.routines c.loop-code.code-index c.code-item.result c.args.from c.loop-code.end 524280
    (rw c.as_slice-code-items.ensures at c.loop-code-test.true) (rw c.as_slice-code-items.ensures at c.code-item.is) c.loop-code.invariant.last (omega (arith, c.size_of_code.ensures, c.in_default.ensures))
