use Rattle.dg_interp.proofs.Controls.{either_runnable, once_runnable, not_runnable, exhaust_runnable, stoppable_runnable, if_runnable}
use Rattle.dg_interp.proofs.Selects.{select_runnable}
use Rattle.dg_interp.proofs.engine.Engine.act_on_store.Goals as goal

pub either-requires-clause-runnable : goal.either-requires-clause-runnable
either-requires-clause-runnable c = rw c.as_slice-in-Either.ensures (either_runnable c.in-Either.lists (rw c.in-Either.is at c.requires.runnable))

pub once-requires-clause-runnable : goal.once-requires-clause-runnable
once-requires-clause-runnable c = rw c.as_slice-in-Once.ensures (once_runnable c.in-Once.goals (rw c.in-Once.is at c.requires.runnable))

pub not-requires-clause-runnable : goal.not-requires-clause-runnable
not-requires-clause-runnable c = rw c.as_slice-in-Not.ensures (not_runnable c.in-Not.goals (rw c.in-Not.is at c.requires.runnable))

pub branch-self-requires-clause-runnable : goal.branch-self-requires-clause-runnable
branch-self-requires-clause-runnable c = rw c.as_slice-in-If.ensures (rw c.as_slice-in-If-2.ensures (rw c.as_slice-in-If-3.ensures (if_runnable c.in-If.test c.in-If.first c.in-If.other (rw c.in-If.is at c.requires.runnable))))

pub exhaust-requires-clause-runnable : goal.exhaust-requires-clause-runnable
exhaust-requires-clause-runnable c = rw c.as_slice-in-Exhaust.ensures (exhaust_runnable c.in-Exhaust.goals (rw c.in-Exhaust.is at c.requires.runnable))

pub stoppable-requires-clause-runnable : goal.stoppable-requires-clause-runnable
stoppable-requires-clause-runnable c = rw c.as_slice-in-Stoppable.ensures (stoppable_runnable c.in-Stoppable.goals (rw c.in-Stoppable.is at c.requires.runnable))

pub select-requires-clause-runnable : goal.select-requires-clause-runnable
select-requires-clause-runnable c = rw c.as_slice-in-Select.ensures (select_runnable c.in-Select.site c.in-Select.mode c.in-Select.lists (rw c.in-Select.is at c.requires.runnable))
