use Rattle.dg_unify.specs.Store.{told}
use Rattle.dg_unify.proofs.Meets.{link_fits, follows_bound, follows_full}
use Rattle.dg_unify.proofs.unifying.link.Goals as goal

pub returns-in-Ok-clause-follows : goal.returns-in-Ok-clause-follows
returns-in-Ok-clause-follows g c = λ n hn.
    let old = g.B.Bindings.meaning c.args.store.now in
    let new = g.B.Bindings.meaning c.bind.new.self in
    follows_bound old new n (told old c.args.to) (g.met.B.Bindings.sound c.args.store.now) (link_fits old c.args.var c.args.to c.requires n hn) (c.in-Ok.ensures.made n hn)

pub returns-in-Err-clause-follows : goal.returns-in-Err-clause-follows
returns-in-Err-clause-follows g c = λ n hn.
    let old = g.B.Bindings.meaning c.args.store.now in
    let new = g.B.Bindings.meaning c.bind.new.self in
    follows_full old new n (told old c.args.to) c.in-Err.e (g.met.B.Bindings.sound c.args.store.now) (link_fits old c.args.var c.args.to c.requires n hn) (c.in-Err.ensures.made n hn)
