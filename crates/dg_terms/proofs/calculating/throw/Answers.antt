use Rattle.std.proofs.Common.{◌∙◌, sym, ap, subst, None, Some, refl}
use Rattle.dg_meaning.specs.Numbers.{thrown}
use Rattle.dg_meaning.specs.Choosing.{die}
use Rattle.dg_unify.proofs.StoreLemmas.{walked_to}
use Rattle.dg_terms.specs.Throwing.{number_in}
use Rattle.dg_terms.specs.Throwing.{Throws}
use Rattle.dg_terms.proofs.NumberLemmas.{both, of_both}
use Rattle.dg_terms.proofs.calculating.throw.Goals as goal

pub returns-in-None : goal.returns-in-None
returns-in-None g c = λ words drawn h.
    let s = g.B.Bindings.meaning c.args.store.now in
    let v = walked_to s c.args.a in
    let u = walked_to s c.args.b in
    let f = thrown (die words drawn) in
    subst (λ o. Throws o words drawn None c.args.dice.now) (ap (λ o. both f o (number_in u)) (c.in-None.ensures s v c.walk.ensures) ∙ sym (of_both f v u)) (h, refl)

pub returns-in-None-number_of : goal.returns-in-None-number_of
returns-in-None-number_of g c = λ words drawn h.
    let s = g.B.Bindings.meaning c.args.store.now in
    let v = walked_to s c.args.a in
    let u = walked_to s c.args.b in
    let f = thrown (die words drawn) in
    subst (λ o. Throws o words drawn None c.args.dice.now) (ap (λ o. both f (Some c.in-Some.from) o) (c.in-None-number_of.ensures s u c.walk-in-Some.ensures)
    ∙ ap (λ o. both f o (number_in u)) (c.in-Some.ensures s v c.walk.ensures) ∙ sym (of_both f v u)) (h, refl)

pub returns-in-Some-number_of : goal.returns-in-Some-number_of
returns-in-Some-number_of g c = λ words drawn h.
    let s = g.B.Bindings.meaning c.args.store.now in
    let v = walked_to s c.args.a in
    let u = walked_to s c.args.b in
    let f = thrown (die words drawn) in
    subst (λ o. Throws o words drawn c.between.result c.between.new.dice) (ap (λ o. both f (Some c.in-Some.from) o) (c.in-Some-number_of.ensures s u c.walk-in-Some.ensures)
    ∙ ap (λ o. both f o (number_in u)) (c.in-Some.ensures s v c.walk.ensures) ∙ sym (of_both f v u)) (c.between.ensures words drawn h)
