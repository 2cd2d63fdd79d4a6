use Rattle.std.proofs.Common.{◌≡◌, ◌++◌, drop}
use Rattle.dg_turn.specs.Sites.{numbers_of, sites_of}
use Rattle.dg_emit.proofs.sites.sites_of.Given as goal

abbrev pub invariant-loop-block : goal.invariant-loop-block
invariant-loop-block l = l.sites ++ numbers_of (sites_of (drop l.block-index l.blocks)) ≡ numbers_of (sites_of l.blocks)
