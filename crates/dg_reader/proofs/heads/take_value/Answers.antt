use Rattle.std.proofs.Common.{◌&&◌, Bool, sym, ◌∙◌, ap, arith}
use Rattle.dg_base.specs.TreeView.{value_view}
use Rattle.dg_reader.specs.inside.Sizes.{all_constant, work}
use Rattle.dg_reader.proofs.HeadLemmas.{all_constant_push, work_push, list_constant, list_size}
use Rattle.dg_reader.proofs.heads.take_value.Goals as goal

pub returns-in_ok-push-in-Some-clause-fits : goal.returns-in_ok-push-in-Some-clause-fits
returns-in_ok-push-in-Some-clause-fits c =
    ap all_constant c.in_ok-push-in-Some.ensures.items
    ∙ all_constant_push c.args.left.now.items c.in-Some.elements
    ∙ ap (λ (b : Bool). b && all_constant c.args.left.now.items) (sym (list_constant (value_view c.args.value.now) _ c.in-Some.ensures))

pub returns-in_ok-push-in-Some-clause-less : goal.returns-in_ok-push-in-Some-clause-less
returns-in_ok-push-in-Some-clause-less c =
    let size = list_size (value_view c.args.value.now) _ c.in-Some.ensures in
    let pushed = ap work c.in_ok-push-in-Some.ensures.items ∙ work_push c.args.left.now.items c.in-Some.elements in
    λ yes. omega (arith, size, pushed)
