use Rattle.dg_machine.specs.declared.now.Now.TheVariants.{Ended}
use Rattle.dg_base.specs.declared.run.Ending.TheVariants.{Failed}
use Rattle.dg_machine.proofs.Failing.{held_failing, failed_once, falls_once, room_behind, there_behind, failed_on, falls_on}
use Rattle.dg_machine.proofs.steps.fail_on.Goals as goal

pub fail-requires : goal.fail-requires
fail-requires c =
    let some = c.requires.some in
    let x = held_failing some.0 c.args.code.now c.args.memory.now c.args.lasting.now some.1 some.2 some.3 in
    record { some = (c.args.code.now, x.limits, x.mid, x.held) }

pub go_on-requires-clause-room : goal.go_on-requires-clause-room
go_on-requires-clause-room c =
    let some = c.requires.some in
    room_behind c.args.code.now c.requires.built c.args.memory.now c.args.lasting.now c.fail.new.self c.fail.new.lasting c.in-Some.way (c.in-Some.ensures.fails c.args.code.now) some.0 some.1 some.2 some.3

pub go_on-requires-clause-there : goal.go_on-requires-clause-there
go_on-requires-clause-there c =
    let some = c.requires.some in
    there_behind c.args.code.now c.requires.built c.args.memory.now c.args.lasting.now c.fail.new.self c.fail.new.lasting c.in-Some.way (c.in-Some.ensures.fails c.args.code.now) some.0 some.1 some.2 some.3

pub returns-in-None-clause-comes : goal.returns-in-None-clause-comes
returns-in-None-clause-comes c tb now f =
    failed_once c.args.code.now c.requires.built c.args.memory.now c.args.lasting.now c.fail.new.self c.fail.new.lasting (Ended Failed) (c.in-None.ensures.fails c.args.code.now) tb now f

pub returns-in-None-clause-falls : goal.returns-in-None-clause-falls
returns-in-None-clause-falls c =
    let some = c.requires.some in
    falls_once c.args.code.now c.requires.built c.args.memory.now c.args.lasting.now c.fail.new.self c.fail.new.lasting (Ended Failed) (c.in-None.ensures.fails c.args.code.now) some.0 some.1 some.2 some.3

pub returns-in-Some-clause-comes : goal.returns-in-Some-clause-comes
returns-in-Some-clause-comes c tb now f =
    failed_on c.args.code.now c.requires.built c.args.memory.now c.args.lasting.now c.fail.new.self c.fail.new.lasting c.in-Some.way (c.in-Some.ensures.fails c.args.code.now) c.go_on.new.self c.go_on.new.lasting c.go_on.result c.go_on.ensures.goes_on tb now f

pub returns-in-Some-clause-falls : goal.returns-in-Some-clause-falls
returns-in-Some-clause-falls c =
    let some = c.requires.some in
    falls_on c.args.code.now c.requires.built c.args.memory.now c.args.lasting.now c.fail.new.self c.fail.new.lasting c.in-Some.way (c.in-Some.ensures.fails c.args.code.now) c.go_on.new.self c.go_on.new.lasting c.go_on.result c.go_on.ensures.goes_on some.0 some.1 some.2 some.3
