use Rattle.dg_arena.proofs.arena.Arena.list_clear.Goals as goal

pub steps-preserved : goal.steps-preserved
steps-preserved c = record {
  told = c.in-Some.ensures.told;
  absent = λ h. c.steps.invariant.absent (c.in-Some.ensures.absent h);
}
