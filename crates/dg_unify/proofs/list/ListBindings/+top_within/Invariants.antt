use Rattle.dg_unify.proofs.list.ListBindings.+top_within.Given as goal

abbrev pub decreases-top_within : goal.decreases-top_within
decreases-top_within l = l.depth
