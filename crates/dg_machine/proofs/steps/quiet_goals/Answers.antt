use Rattle.std.proofs.Common.{◌-◌, refl, subst, arith, ◌∙◌}
use Rattle.dg_machine.specs.declared.now.Now.TheVariants.{Runs}
use Rattle.dg_machine.specs.inside.Reading.{IsEnd}
use Rattle.dg_machine.specs.inside.Running.{IsSomewhereAt}
use Rattle.dg_machine.proofs.Runs.{settled_nowhere}
use Rattle.dg_machine.proofs.Turns.{somewhere_first, takes_none, takes_on}
use Rattle.dg_machine.proofs.steps.quiet_goals.Goals as goal

pub goals-init : goal.goals-init
goals-init c =
    let tb = c.args.tables.now in
    let code = c.args.code.now in
    record {
      takes = λ s k i. (
        takes_none tb code c.args.memory.now c.args.lasting.now c.args.start s k i (c.args.steps - c.args.steps) c.args.memory.now c.args.lasting.now c.args.start (λ n. omega arith)
            (λ g is_of l typed steps h w. settled_nowhere code g l typed c.args.memory.now c.args.lasting.now c.args.start steps h w),
        λ at. at,
      );
      some = c.requires.some;
      sites = refl;
      extent = refl;
      rests = c.requires.rests;
      quick = c.requires.quick;
      more = c.requires.more;
      within = omega arith;
    }

pub quiet_turn-now-requires-clause-some : goal.quiet_turn-now-requires-clause-some
quiet_turn-now-requires-clause-some c =
    let found = c.goals.invariant.some in
    let before = subst (λ x. IsSomewhereAt c.args.tables.now c.args.code.now c.goals.memory c.goals.lasting x found.2) c.in-Runs.is (found.3 (λ end. subst IsEnd c.in-Runs.is end)) in
    somewhere_first c.args.tables.now c.args.code.now c.goals.memory c.goals.lasting (Runs c.in-Runs.ops) found.2 before

pub returns-then-left-eq0-clause-takes : goal.returns-then-left-eq0-clause-takes
returns-then-left-eq0-clause-takes c s k i =
    let tb = c.args.tables.now in
    let code = c.args.code.now in
    let more = c.goals.invariant.more in
    let within = c.goals.invariant.within in
    let done = c.quiet_turn-now.ensures.takes s k i in (
      takes_on tb code c.args.memory.now c.args.lasting.now c.args.start s k i (c.args.steps - c.goals.left) 1 (c.args.steps - (c.goals.left - 1)) c.goals.memory c.quiet_turn-now.new.memory c.goals.lasting c.quiet_turn-now.new.lasting c.goals.now c.quiet_turn-now.result c.in-Runs.ops s s k k i i c.in-Runs.is (λ x. omega (arith, more, within)) (c.goals.invariant.takes s k i).0 done.0,
      λ at. done.1 (subst (λ x. IsSomewhereAt tb code c.goals.memory c.goals.lasting x i) c.in-Runs.is ((c.goals.invariant.takes s k i).1 at (λ end. subst IsEnd c.in-Runs.is end))),
    )

pub goals-preserved : goal.goals-preserved
goals-preserved c =
    let tb = c.args.tables.now in
    let code = c.args.code.now in
    let more = c.goals.invariant.more in
    let within = c.goals.invariant.within in
    let some = c.if-left-eq0.false in
    let found = c.goals.invariant.some in
    record {
      takes = λ s k i. (
        takes_on tb code c.args.memory.now c.args.lasting.now c.args.start s k i (c.args.steps - c.goals.left) 1 (c.args.steps - (c.goals.left - 1)) c.goals.memory c.quiet_turn-now.new.memory c.goals.lasting c.quiet_turn-now.new.lasting c.goals.now c.quiet_turn-now.result c.in-Runs.ops s s k k i i c.in-Runs.is (λ x. omega (arith, more, within)) (c.goals.invariant.takes s k i).0 (c.quiet_turn-now.ensures.takes s k i).0,
        λ at. (c.quiet_turn-now.ensures.takes s k i).1 (subst (λ x. IsSomewhereAt tb code c.goals.memory c.goals.lasting x i) c.in-Runs.is ((c.goals.invariant.takes s k i).1 at (λ end. subst IsEnd c.in-Runs.is end))),
      );
      some = (found.0, found.1, found.2, (c.quiet_turn-now.ensures.takes found.0 found.1 found.2).1 (subst (λ x. IsSomewhereAt tb code c.goals.memory c.goals.lasting x found.2) c.in-Runs.is (found.3 (λ end. subst IsEnd c.in-Runs.is end))));
      sites = c.quiet_turn-now.ensures.sites ∙ c.goals.invariant.sites;
      extent = c.quiet_turn-now.ensures.extent ∙ c.goals.invariant.extent;
      rests = c.quiet_turn-now.ensures.rests;
      quick = c.if-not-goes_quietly.ensures refl;
      more = omega (arith, some);
      within = omega (arith, within);
    }
