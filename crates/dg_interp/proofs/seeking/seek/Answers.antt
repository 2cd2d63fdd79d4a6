use Rattle.std.proofs.Common.{sym, subst, arith}
use Rattle.dg_interp.specs.inside.Seeking.{Each, IsSought, heap_limit_in}
use Rattle.dg_interp.proofs.Searches.{Sofar, hushed_on, turned, found_so, found_limit, found_end}
use Rattle.dg_interp.proofs.seeking.seek.Goals as goal

pub goals-preserved : goal.goals-preserved
goals-preserved c = turned c.args.engine.now c.hush.new.self (hushed_on c.args.engine.now c.goals.engine c.hush.new.self c.hush.ensures c.goals.invariant) c.seek_next.new.engine (rw c.in-Ok-None.field-0-is at c.in-Ok-None.ensures.turns)

pub returns-in-Ok-Some : goal.returns-in-Ok-Some
returns-in-Ok-Some c = record {
  sought = subst (λ s. Each c.args.engine.now (λ g run. IsSought s (heap_limit_in c.args.engine.now) c.seek_next.new.engine.lasting.world g.program run)) (sym c.sought_at.ensures)
      (found_so c.args.engine.now c.hush.new.self (hushed_on c.args.engine.now c.goals.engine c.hush.new.self c.hush.ensures c.goals.invariant) c.seek_next.new.engine c.in-Ok-Some.ending (rw c.in-Ok-Some.field-0-is at c.in-Ok-Some.ensures.turns));
}

pub returns-in-Err-Heap : goal.returns-in-Err-Heap
returns-in-Err-Heap c = record {
  sought = found_limit c.args.engine.now c.hush.new.self (hushed_on c.args.engine.now c.goals.engine c.hush.new.self c.hush.ensures c.goals.invariant) c.seek_next.new.engine (rw c.in-Err-Heap.field-0-is at c.in-Err-Heap.ensures.lacks);
}

pub returns : goal.returns
returns c = record { sought = found_end c.args.engine.now c.goals.engine c.goals.invariant (omega (arith, c.goals-test.false)) }
