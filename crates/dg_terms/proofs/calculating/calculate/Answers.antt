use Rattle.std.proofs.Common.{◌∙◌, sym, ap, Some}
use Rattle.dg_meaning.specs.Numbers.{calculated}
use Rattle.dg_unify.proofs.StoreLemmas.{walked_to}
use Rattle.dg_terms.proofs.NumberLemmas.{both, of_both}
use Rattle.dg_terms.specs.Throwing.{number_in}
use Rattle.dg_terms.proofs.calculating.calculate.Goals as goal

pub returns-in-None : goal.returns-in-None
returns-in-None g c =
    let s = g.B.Bindings.meaning c.args.store.now in
    let v = walked_to s c.args.a in
    let u = walked_to s c.args.b in
    ap (λ o. both (calculated c.args.op) o (number_in u)) (c.in-None.ensures s v c.walk.ensures) ∙ sym (of_both (calculated c.args.op) v u)

pub returns-in-None-number_of : goal.returns-in-None-number_of
returns-in-None-number_of g c =
    let s = g.B.Bindings.meaning c.args.store.now in
    let v = walked_to s c.args.a in
    let u = walked_to s c.args.b in
    ap (λ o. both (calculated c.args.op) (Some c.in-Some.m) o) (c.in-None-number_of.ensures s u c.walk-in-Some.ensures)
    ∙ ap (λ o. both (calculated c.args.op) o (number_in u)) (c.in-Some.ensures s v c.walk.ensures) ∙ sym (of_both (calculated c.args.op) v u)

pub returns-in-Some-number_of : goal.returns-in-Some-number_of
returns-in-Some-number_of g c =
    let s = g.B.Bindings.meaning c.args.store.now in
    let v = walked_to s c.args.a in
    let u = walked_to s c.args.b in
    c.arith.ensures ∙ ap (λ o. both (calculated c.args.op) (Some c.in-Some.m) o) (c.in-Some-number_of.ensures s u c.walk-in-Some.ensures)
    ∙ ap (λ o. both (calculated c.args.op) o (number_in u)) (c.in-Some.ensures s v c.walk.ensures) ∙ sym (of_both (calculated c.args.op) v u)
