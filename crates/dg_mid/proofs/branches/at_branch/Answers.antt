use Rattle.std.proofs.Common.{refl}
use Rattle.dg_mid.specs.declared.branches.Branching.{Branching}
use Rattle.dg_mid.specs.declared.writing.Work.{Work}
use Rattle.dg_mid.proofs.Selecting.{at_next, at_end, neat_next, neat_end, light_next, light_end}
use Rattle.dg_mid.proofs.branches.at_branch.Goals as goal

pub returns-in_default-clause-comes : goal.returns-in_default-clause-comes
returns-in_default-clause-comes c blocks wanted last h =
    at_end blocks c.args.select c.args.others c.args.levels c.in_ok-behind_branches.field-0 c.in_default.ensures.0 c.in_ok-behind_branches.ensures.ops c.in_ok-behind_branches.ensures.goals c.in_ok-behind_branches.ensures.levels wanted last h

pub returns-in_default-clause-neat : goal.returns-in_default-clause-neat
returns-in_default-clause-neat c blocks h tail l = neat_end blocks c.args.select c.args.levels c.in_ok-behind_branches.field-0 c.in_ok-behind_branches.ensures.ops c.in_ok-behind_branches.ensures.levels h l

pub returns-clause-comes : goal.returns-clause-comes
returns-clause-comes c blocks wanted last h =
    at_next blocks c.args.select c.pop.new.self c.in-Some.list c.args.others c.args.levels (record { ops = c.in_ok-ops.ops; goals = c.in-Some.list; levels = c.push.new.self }) c.in-Some.ensures c.in_ok-ops.ensures refl c.in_ok-push.ensures.ok wanted last h

pub returns-clause-neat : goal.returns-clause-neat
returns-clause-neat c blocks h tail l =
    let t : Branching = record c.args.select { left = c.pop.new.self } in
    let after : Work = record { ops = c.in_ok-ops.ops; goals = c.in-Some.list; levels = c.push.new.self } in
    neat_next blocks c.args.select t c.args.others c.args.levels after refl c.in_ok-ops.ensures c.in_ok-push.ensures.ok h tail l

pub returns-in_default-clause-light : goal.returns-in_default-clause-light
returns-in_default-clause-light c w =
    light_end w c.args.select c.args.others c.args.levels c.in_ok-behind_branches.field-0 c.in_default.ensures.0 c.in_ok-behind_branches.ensures.ops c.in_ok-behind_branches.ensures.goals c.in_ok-behind_branches.ensures.levels

pub returns-clause-light : goal.returns-clause-light
returns-clause-light c w =
    let t : Branching = record c.args.select { left = c.pop.new.self } in
    let after : Work = record { ops = c.in_ok-ops.ops; goals = c.in-Some.list; levels = c.push.new.self } in
    light_next w c.args.select t c.pop.new.self c.in-Some.list c.args.others c.args.levels after c.in-Some.ensures refl refl refl refl c.in_ok-ops.ensures refl c.in_ok-push.ensures.ok
