use Rattle.std.proofs.Common.{◌+◌, arith}
use Rattle.dg_unify.proofs.LinksLemmas.{linked_more}
use Rattle.dg_unify.proofs.links.Links.add_vars_reserved.Goals as goal

pub invariant_of-self : goal.invariant_of-self
invariant_of-self c =
    let here = c.see_places.new.self in
    record { linked = linked_more here.vars (c.args.self.now.vars + c.args.count) here.to.items here.log.items (omega (arith, c.see_places.ensures.vars)) (omega (arith, c.see_places.ensures.places)) here.linked }
