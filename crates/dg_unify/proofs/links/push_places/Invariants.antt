use Rattle.std.proofs.Common.{◌≡◌, ℕ, ◌-◌, List, vec_len, vec_capacity}
use Rattle.dg_unify.specs.Links.{AreLinked}
use Rattle.dg_unify.specs.declared.slots.Link.{Link}
use Rattle.dg_unify.proofs.links.push_places.Given as goal

abbrev pub invariant-places : goal.invariant-places
invariant-places l = record {
  linked : (vars : ℕ) (log : List Link) → AreLinked vars l.fn.to.items log → AreLinked vars l.to.items log;
  capacity : vec_capacity l.to ≡ vec_capacity l.fn.to;
}

abbrev pub decreases-places : goal.decreases-places
decreases-places l = l.most - vec_len l.to
