use Rattle.std.proofs.Common.{map}
use Rattle.dg_unify.specs.Store.{told}
use Rattle.dg_terms.proofs.NestLemmas.{list_ended}
use Rattle.dg_terms.proofs.terms.end_list.Goals as goal

pub returns-in-Ok-clause-written : goal.returns-in-Ok-clause-written
returns-in-Ok-clause-written g c = λ program e.
    let old = g.B.Bindings.meaning c.args.store.now in
    let now = g.B.Bindings.meaning c.write_leaf.new.store in
    list_ended program (map (told old) c.args.env.now) c.args.last.now old now (g.B.Bindings.meaning c.write_pairs.new.store) c.args.stack.now.items c.write_leaf.new.stack.items c.args.height c.in-Ok.tail c.write_pairs.result
    c.in-Ok.ensures.kept c.in-Ok.ensures.stack c.requires.heads (c.in-Ok.ensures.written program e) c.write_pairs.ensures.written
