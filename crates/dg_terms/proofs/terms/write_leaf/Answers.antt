use Rattle.std.proofs.Common.{map}
use Rattle.dg_unify.specs.Store.{told}
use Rattle.dg_terms.proofs.TermLemmas.{closure_is}
use Rattle.dg_terms.proofs.terms.write_leaf.Goals as goal

pub returns-in-Closure-clause-written : goal.returns-in-Closure-clause-written
returns-in-Closure-clause-written g c = λ program e.
    let old = g.B.Bindings.meaning c.args.store.now in
    closure_is program (map (told old) c.args.env.now) c.args.term.now c.in-Closure.place old (g.B.Bindings.meaning c.write_closure.new.store) c.write_closure.result c.in-Closure.is (c.write_closure.ensures.written program e)
