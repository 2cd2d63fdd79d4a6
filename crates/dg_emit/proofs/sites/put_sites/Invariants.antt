use Rattle.std.proofs.Common.{◌≡◌, ◌++◌, drop}
use Rattle.dg_turn.specs.Sites.{numbers_of, sites_of_ops}
use Rattle.dg_emit.proofs.sites.put_sites.Given as goal

abbrev pub invariant-loop-op : goal.invariant-loop-op
invariant-loop-op l = l.sites ++ numbers_of (sites_of_ops (drop l.op-index l.ops)) ≡ l.initial.sites ++ numbers_of (sites_of_ops l.ops)
