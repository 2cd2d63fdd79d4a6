use Rattle.std.proofs.Common.{◌∙◌, ap}
use Rattle.dg_core.proofs.BuiltInLemmas.{same_built_in}
use Rattle.dg_core.proofs.queries.built_in_with.Goals as goal

pub returns : goal.returns
returns c =
    c.in_ok-goal.ensures
    ∙ same_built_in _ _ _ _ _ _ c.args.many c.args.builtin c.take_first-a.ensures.first (c.take_first-b.ensures.first ∙ c.take_first-a.ensures.others 0)
    (c.take_first-c.ensures.first ∙ c.take_first-b.ensures.others 0 ∙ c.take_first-a.ensures.others 1)
