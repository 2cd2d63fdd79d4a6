use Rattle.std.proofs.Common.{rules, ◌≡◌, [], sym, ◌∙◌}
use Rattle.dg_core.specs.inside.View.{scope_view}
use Rattle.dg_core.proofs.MakingLemmas.{terms_next, terms_smaller, one_term, one_found}
use Rattle.dg_core.proofs.terms.term_of.Goals as goal

pub loop-work-preserved : goal.loop-work-preserved
loop-work-preserved c = c.in_ok-take.ensures.behind ∙ sym (terms_next (scope_view c.args.scope.now) _ _ _ _ c.in-Some.ensures) ∙ c.loop-work.invariant

pub loop-work-smaller : goal.loop-work-smaller
loop-work-smaller c = terms_smaller _ _ _ _ c.in-Some.ensures c.in_ok-take.ensures.weight

pub returns-clause-term : goal.returns-clause-term
returns-clause-term c = let none : c.loop-work.left ≡ [] = search rules in one_term (scope_view c.args.scope.now) _ c.loop-work.terms c.loop-work.found _ _ _ none c.loop-work.invariant c.last_of.ensures

pub returns-clause-found : goal.returns-clause-found
returns-clause-found c = let none : c.loop-work.left ≡ [] = search rules in one_found (scope_view c.args.scope.now) _ c.loop-work.terms c.loop-work.found _ _ none c.loop-work.invariant
