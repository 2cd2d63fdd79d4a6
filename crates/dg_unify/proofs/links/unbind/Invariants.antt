use Rattle.std.proofs.Common.{◌≡◌, ℕ, ◌≤◌, List, ◌++◌, take, length}
use Rattle.dg_unify.specs.Links.{AreLinked}
use Rattle.dg_unify.specs.declared.slots.Link.{Link}
use Rattle.dg_unify.proofs.links.unbind.Given as goal

abbrev pub invariant-links : goal.invariant-links
invariant-links l = record {
  within : l.left ≤ length l.newest;
  vars : length l.to ≡ length l.fn.to;
  linked : (vars : ℕ) (log : List Link) → AreLinked vars l.fn.to (log ++ l.newest) → AreLinked vars l.to (log ++ take l.left l.newest);
}

abbrev pub decreases-links : goal.decreases-links
decreases-links l = l.left
