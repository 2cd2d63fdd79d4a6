use Rattle.dg_unify.proofs.links.Links.make_places.Goals as goal

pub invariant_of-self : goal.invariant_of-self
invariant_of-self c = record { linked = c.push_places.ensures.linked c.args.self.now.vars c.args.self.now.log.items c.args.self.now.linked }
