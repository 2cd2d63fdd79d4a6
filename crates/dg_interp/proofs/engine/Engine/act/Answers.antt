use Rattle.dg_choices.specs.declared.frames.Whole.TheVariants.{List as InList, Sum as InSum}
use Rattle.dg_interp.proofs.Controls.{gathering_runnable}
use Rattle.dg_interp.proofs.engine.Engine.act.Goals as goal

pub gather-requires-clause-runnable : goal.gather-requires-clause-runnable
gather-requires-clause-runnable c = rw c.as_slice-in-Collect.ensures (gathering_runnable InList c.in-Collect.term c.in-Collect.goals c.in-Collect.into (rw c.in-Collect.is at c.requires.runnable))

pub gather-requires-in-Accumulate-clause-runnable : goal.gather-requires-in-Accumulate-clause-runnable
gather-requires-in-Accumulate-clause-runnable c = rw c.as_slice-in-Accumulate.ensures (gathering_runnable InSum c.in-Accumulate.term c.in-Accumulate.goals c.in-Accumulate.into (rw c.in-Accumulate.is at c.requires.runnable))
