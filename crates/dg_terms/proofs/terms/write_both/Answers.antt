use Rattle.std.proofs.Common.{map, subst, [], ◌∷◌}
use Rattle.dg_meaning.specs.Values.{value_of}
use Rattle.dg_meaning.specs.Cells.{cells}
use Rattle.dg_unify.specs.Store.{Made, told}
use Rattle.dg_unify.proofs.StoreLemmas.{kept_on, all_told, all_hold}
use Rattle.dg_terms.proofs.BothLemmas.{both_made, first_full, second_full}
use Rattle.dg_terms.proofs.terms.write_both.Goals as goal

pub returns-in-Err-clause-written : goal.returns-in-Err-clause-written
returns-in-Err-clause-written g c = λ program e. first_full program c.args.a.now c.args.b.now (g.B.Bindings.meaning c.args.store.now) c.in-Err.e (c.in-Err.ensures.written program e)

pub returns-in-Err-write_term-clause-written : goal.returns-in-Err-write_term-clause-written
returns-in-Err-write_term-clause-written g c = λ program e.
    second_full program c.args.a.now c.args.b.now (g.B.Bindings.meaning c.args.store.now) (g.B.Bindings.meaning c.write_term.new.store) c.in-Ok.left _ c.in-Err-write_term.e c.write_term.ensures.kept (c.in-Ok.ensures.written program e) (c.in-Err-write_term.ensures.written program e)

pub returns-in-Ok-write_term-clause-written : goal.returns-in-Ok-write_term-clause-written
returns-in-Ok-write_term-clause-written g c = λ program e.
    let s = g.B.Bindings.meaning c.args.store.now in
    let mid = g.B.Bindings.meaning c.write_term.new.store in
    let t = g.B.Bindings.meaning c.write_term-in-Ok.new.store in
    both_made program c.args.a.now c.args.b.now (map (told s) c.args.env.now) s mid t c.in-Ok.left c.in-Ok-write_term.right c.write_term.ensures.kept c.write_term-in-Ok.ensures.kept (c.in-Ok.ensures.written program e)
    (subst (λ vs. Made (cells program (c.args.b.now ∷ [])) mid t c.in-Ok-write_term.right (value_of program vs c.args.b.now)) (all_told s mid c.args.env.now c.write_term.ensures.kept c.requires.env) (c.in-Ok-write_term.ensures.written program e))

pub write_term-requires-in-Ok : goal.write_term-requires-in-Ok
write_term-requires-in-Ok g c = record { env = all_hold (g.B.Bindings.meaning c.args.store.now) (g.B.Bindings.meaning c.write_term.new.store) c.args.env.now c.write_term.ensures.kept c.requires.env }

pub returns-in-Err-write_term-clause-kept : goal.returns-in-Err-write_term-clause-kept
returns-in-Err-write_term-clause-kept g c = kept_on (g.B.Bindings.meaning c.args.store.now) (g.B.Bindings.meaning c.write_term.new.store) (g.B.Bindings.meaning c.write_term-in-Ok.new.store) c.write_term.ensures.kept c.write_term-in-Ok.ensures.kept

pub returns-in-Err-write_term-clause-saved : goal.returns-in-Err-write_term-clause-saved
returns-in-Err-write_term-clause-saved g c = λ ms h. c.write_term-in-Ok.ensures.saved ms (c.write_term.ensures.saved ms h)

pub returns-in-Ok-write_term-clause-kept : goal.returns-in-Ok-write_term-clause-kept
returns-in-Ok-write_term-clause-kept g c = kept_on (g.B.Bindings.meaning c.args.store.now) (g.B.Bindings.meaning c.write_term.new.store) (g.B.Bindings.meaning c.write_term-in-Ok.new.store) c.write_term.ensures.kept c.write_term-in-Ok.ensures.kept

pub returns-in-Ok-write_term-clause-saved : goal.returns-in-Ok-write_term-clause-saved
returns-in-Ok-write_term-clause-saved g c = λ ms h. c.write_term-in-Ok.ensures.saved ms (c.write_term.ensures.saved ms h)
