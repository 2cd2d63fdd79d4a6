use Rattle.std.proofs.Common.{map, subst, [], ◌∷◌}
use Rattle.dg_meaning.specs.Values.{value_of}
use Rattle.dg_meaning.specs.Cells.{cells}
use Rattle.dg_unify.specs.Store.{Made, told}
use Rattle.dg_terms.proofs.ThreeLemmas.{three_made, both_full, third_full}
use Rattle.dg_unify.proofs.StoreLemmas.{all_told}
use Rattle.dg_terms.proofs.terms.write_three.Goals as goal

pub returns-in-Err-clause-written : goal.returns-in-Err-clause-written
returns-in-Err-clause-written g c = λ program e. both_full program c.args.a.now c.args.b.now c.args.c.now (g.B.Bindings.meaning c.args.store.now) c.in-Err.e (c.in-Err.ensures.written program e)

pub returns-in-Err-write_term-clause-written : goal.returns-in-Err-write_term-clause-written
returns-in-Err-write_term-clause-written g c = λ program e.
    let s = g.B.Bindings.meaning c.args.store.now in
    third_full program c.args.a.now c.args.b.now c.args.c.now (map (told s) c.args.env.now) s (g.B.Bindings.meaning c.write_both.new.store) c.in-Ok.first c.in-Ok.second c.in-Err-write_term.e (c.in-Ok.ensures.written program e) (c.in-Err-write_term.ensures.written program e)

pub returns-in-Ok-write_term-clause-written : goal.returns-in-Ok-write_term-clause-written
returns-in-Ok-write_term-clause-written g c = λ program e.
    let s = g.B.Bindings.meaning c.args.store.now in
    let mid = g.B.Bindings.meaning c.write_both.new.store in
    let t = g.B.Bindings.meaning c.write_term.new.store in
    three_made program c.args.a.now c.args.b.now c.args.c.now (map (told s) c.args.env.now) s mid t c.in-Ok.first c.in-Ok.second c.in-Ok-write_term.third c.write_term.ensures.kept (c.in-Ok.ensures.written program e)
    (subst (λ vs. Made (cells program (c.args.c.now ∷ [])) mid t c.in-Ok-write_term.third (value_of program vs c.args.c.now)) (all_told s mid c.args.env.now c.write_both.ensures.kept c.requires.env) (c.in-Ok-write_term.ensures.written program e))
