use Rattle.std.proofs.Common.{arith, refl}
use Rattle.std.proofs.lemmas.List.{append-nil, map-append}
use Rattle.dg_base.proofs.Views.{value_seen, values_seen}
use Rattle.dg_core.specs.inside.View.{scope_view}
use Rattle.dg_core.proofs.MakingLemmas.{list_makes, list_weighs, closure_makes, closure_weighs, reverse_push}
use Rattle.dg_core.proofs.terms.take_value.Goals as goal

ruleset forms = (value_seen, values_seen, reverse_push, append-nil)

pub returns-in_ok-put_list-in-List-clause-behind : goal.returns-in_ok-put_list-in-List-clause-behind
returns-in_ok-put_list-in-List-clause-behind c = list_makes (scope_view c.args.scope.now) _ _ _ c.args.value c.in-List.values c.in-List.tail _ _ c.in_ok-put_list-in-List.ensures c.in-List.is c.as_slice.ensures refl

pub returns-in_ok-put_list-in-List-clause-weight : goal.returns-in_ok-put_list-in-List-clause-weight
returns-in_ok-put_list-in-List-clause-weight c = list_weighs _ _ c.args.value c.in-List.values c.in-List.tail _ _ c.in_ok-put_list-in-List.ensures c.in-List.is c.as_slice.ensures refl

pub returns-in_ok-add_closure-in-Closure-clause-behind : goal.returns-in_ok-add_closure-in-Closure-clause-behind
returns-in_ok-add_closure-in-Closure-clause-behind c = closure_makes (scope_view c.args.scope.now) c.args.left.now _ _ _ _ c.args.value _ c.in-Closure.is c.in_ok-add_closure-in-Closure.ensures.terms c.in_ok-add_closure-in-Closure.ensures.found

pub returns-in_ok-add_closure-in-Closure-clause-weight : goal.returns-in_ok-add_closure-in-Closure-clause-weight
returns-in_ok-add_closure-in-Closure-clause-weight c = closure_weighs _ c.args.value _ c.in-Closure.is

pub returns-in-Topic-clause-behind : goal.returns-in-Topic-clause-behind
returns-in-Topic-clause-behind c = grind (arith, forms)
