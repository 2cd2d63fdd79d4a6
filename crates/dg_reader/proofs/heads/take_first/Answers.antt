use Rattle.std.proofs.Common.{◌≡◌, ◌&&◌, ◌+◌, ◌<◌, Bool, length, refl, ◌∙◌, ap, subst}
use Rattle.std.specs.Prelude.{IfOk}
use Rattle.dg_base.specs.TreeView.{value_view}
use Rattle.dg_reader.specs.Heads.{is_constant}
use Rattle.dg_reader.specs.inside.Sizes.{all_constant, work, value_size}
use Rattle.dg_reader.proofs.HeadLemmas.{first_put, first_less, some_left, less_on}
use Rattle.dg_reader.proofs.heads.take_first.Goals as goal

pub returns-clause-fits : goal.returns-clause-fits
returns-clause-fits c =
    let some : 0 < length c.args.values.now = some_left c.args.values.now c.is_empty.result c.is_empty.ensures c.if-is_empty.false in
    subst (λ (b : Bool). IfOk c.take_value.result (λ fits. (fits && all_constant c.take_value.new.left.items) ≡ b))
    (ap (λ ls. is_constant (value_view c.index-values-0.result) && all_constant ls) c.in_ok-push.ensures.items ∙ first_put c.args.values.now c.index-values-0.result c.args.left.now.items _ some c.index-values-0.is refl)
    c.take_value.ensures.fits

pub returns-clause-less : goal.returns-clause-less
returns-clause-less c =
    let some : 0 < length c.args.values.now = some_left c.args.values.now c.is_empty.result c.is_empty.ensures c.if-is_empty.false in
    less_on c.take_value.result (work c.take_value.new.left.items) _ _ (ap (λ ls. value_size (value_view c.index-values-0.result) + work ls) c.in_ok-push.ensures.items ∙ first_less c.args.values.now c.index-values-0.result c.args.left.now.items _ some c.index-values-0.is refl)
    c.take_value.ensures.less
