use Rattle.std.proofs.Common.{refl, sym}
use Rattle.dg_plain.proofs.StepLemmas.{nested_off, twice_off}
use Rattle.dg_plain.proofs.steps.look_nested.Goals as goal

pub returns-in_ok-put_off-2 : goal.returns-in_ok-put_off-2
returns-in_ok-put_off-2 c = λ d s at. rw c.if-puts.true (twice_off d s c.args.parts _ _ _ c.args.left.now.items _ _ refl refl (sym at) c.in_ok-put_off.ensures c.in_ok-put_off-2.ensures)

pub returns-else-puts : goal.returns-else-puts
returns-else-puts c = λ d s at. rw c.if-puts.false (nested_off c.args.parts _ c.args.left.now.items _ refl c.in_ok-put_off.ensures d s)
