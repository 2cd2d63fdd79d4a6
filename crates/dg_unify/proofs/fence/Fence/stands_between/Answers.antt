use Rattle.std.proofs.Common.{rules}
use Rattle.dg_unify.proofs.fence.Fence.stands_between.Goals as goal

pub returns-then-at-self : goal.returns-then-at-self
returns-then-at-self c = search rules

pub returns-else-at-self : goal.returns-else-at-self
returns-else-at-self c = search rules
