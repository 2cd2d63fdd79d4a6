use Rattle.std.proofs.Common.{◌∙◌}
use Rattle.dg_unify.proofs.LinksLemmas.{linked_push}
use Rattle.dg_unify.proofs.links.push_places.Goals as goal

pub places-preserved : goal.places-preserved
places-preserved c = record {
  linked = λ vars log h. linked_push vars c.places.to.items c.push_reserved.new.self.items log c.push_reserved.ensures.items (c.places.invariant.linked vars log h);
  capacity = c.push_reserved.ensures.capacity ∙ c.places.invariant.capacity;
}
