use Rattle.std.proofs.Common.{arith, sym, subst, reverse}
use Rattle.dg_unify.specs.Links.{Once}
use Rattle.dg_unify.proofs.LinksLemmas.{linked_fewer}
use Rattle.dg_unify.proofs.links.Links.undo.Goals as goal

pub invariant_of-self : goal.invariant_of-self
invariant_of-self c =
    let here = c.unlink.new.self in
    record {
      linked = linked_fewer here.vars c.args.vars here.to.items here.log.items (omega (arith, c.unlink.ensures.vars, c.requires.vars_in)) here.linked
          (subst (λ ls. Once c.args.vars (reverse ls)) (sym c.unlink.ensures.log) c.requires.once);
    }
