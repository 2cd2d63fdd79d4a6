use Rattle.std.proofs.Common.{ℕ, [], ◌∷◌, ◌++◌, map, sym, ◌∙◌, ap}
use Rattle.dg_base.specs.Tree as tree
use Rattle.dg_base.proofs.Views.{var_seen}
use Rattle.dg_plain.specs.Building.{built_view}
use Rattle.dg_plain.proofs.StepLemmas.{on_ok}
use Rattle.dg_put.specs.Put.{own_name}
use Rattle.dg_put.specs.inside.Putting.{access_view, around, argument_given, run}
use Rattle.dg_put.proofs.BuiltLemmas.{off}
use Rattle.dg_put.proofs.StepLemmas.{own_put, named_put, given_put, mark_is}
use Rattle.dg_put.proofs.steps.look_variable.Goals as goal

pub returns-then-is_own_parameter : goal.returns-then-is_own_parameter
returns-then-is_own_parameter c =
    let u = c.args.uses in
    let s = built_view c.args.weighed.now.built in
    let own = sym (c.is_own_parameter.ensures (map access_view u.rules.all.now) u.mark) ∙ c.if-is_own_parameter.true in
    on_ok c.put_value.result _ _ c.put_value.ensures
    (λ put. ap (run (around u) c.args.left.now.items) (put ∙ ap (λ (v : tree.Value). record s { values = s.values ++ v ∷ [] }) (var_seen _ ∙ ap tree.variable c.in_ok-copied.ensures) ∙ sym (own_put (around u c.args.at.now) c.args.name.now s own)))

pub returns-in-Some : goal.returns-in-Some
returns-in-Some c =
    let u = c.args.uses in
    let rules = map access_view u.rules.all.now in
    let s = built_view c.args.weighed.now.built in
    let other = sym (c.is_own_parameter.ensures rules u.mark) ∙ c.if-is_own_parameter.false in
    on_ok c.put_off_one.result _ _ c.put_off_one.ensures
    (λ put. off (around u) c.args.left.now.items _ _ s _ put (given_put (around u c.args.at.now) c.args.name.now s (argument_given rules u.mark (c.in-Some.outer, c.in-Some.value)) other (c.in-Some.ensures rules u.mark)))

pub returns-in_ok-own_name-in-None : goal.returns-in_ok-own_name-in-None
returns-in_ok-own_name-in-None c =
    let u = c.args.uses in
    let rules = map access_view u.rules.all.now in
    let s = built_view c.args.weighed.now.built in
    let a = around u c.args.at.now in
    let other = sym (c.is_own_parameter.ensures rules u.mark) ∙ c.if-is_own_parameter.false in
    on_ok c.put_value-in-None.result _ _ c.put_value-in-None.ensures
    (λ put. ap (run (around u) c.args.left.now.items) (put
    ∙ ap (λ (v : tree.Value). record s { values = s.values ++ v ∷ [] }) (var_seen _ ∙ ap tree.variable (c.in_ok-own_name-in-None.ensures ∙ ap (λ (m : ℕ). own_name m a.place c.args.name.now) (sym (mark_is rules u.mark c.args.at.now.depth))))
    ∙ sym (named_put a c.args.name.now s other (c.in-None.ensures rules u.mark))))
