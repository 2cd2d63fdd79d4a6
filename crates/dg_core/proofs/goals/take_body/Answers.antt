use Rattle.std.proofs.Common.{[], sym, ◌∙◌}
use Rattle.dg_core.proofs.MakingLemmas.{comes}
use Rattle.dg_core.proofs.MakeLemmas.{on_ok, none_of, one_of, nothing_put, body_none, body_weighs_none, body_comes_one, body_comes_many}
use Rattle.dg_core.proofs.goals.take_body.Goals as goal

pub returns-in-empty : goal.returns-in-empty
returns-in-empty c =
    let none = sym c.as_slice.ensures ∙ none_of c.as_slice.result.now c.in-empty.len_below in
    comes _ _ [] _ (nothing_put _) (λ s m. body_none s m c.args.body none) (body_weighs_none c.args.body)

pub returns-in-len1 : goal.returns-in-len1
returns-in-len1 c =
    let is = sym c.as_slice.ensures ∙ one_of c.as_slice.result.now c.only-item.result _ c.in-len1.len_at_least c.in-len1.len_below c.only-item.is c.as_slice-in-len1.ensures in
    on_ok _ (λ put. body_comes_one _ _ c.args.body _ put is) c.push.ensures.ok

pub returns-in_default : goal.returns-in_default
returns-in_default c = on_ok _ (λ put. body_comes_many _ _ c.args.body _ put (sym c.as_slice.ensures) c.in_default.len_at_least) c.put_branches.ensures
