use Rattle.dg_machine.proofs.Readings.{some_behind}
use Rattle.dg_machine.proofs.Turns.{room_at, built_at, held_at, somewhere_first, somewhere_behind, turn_takes, turn_breaks, turn_still}
use Rattle.dg_machine.proofs.Selects.{may_on}
use Rattle.dg_machine.proofs.steps.turn.Goals as goal

pub next_goal-requires-clause-room : goal.next_goal-requires-clause-room
next_goal-requires-clause-room g c = room_at c.args.tables.now c.args.code.now c.args.memory.now c.args.ops (somewhere_first c.args.tables.now c.args.code.now c.args.memory.now c.args.lasting.now _ (g.S.Source.view c.args.source.now) c.requires.some).somewhere

pub next_goal-requires-clause-some : goal.next_goal-requires-clause-some
next_goal-requires-clause-some g c = held_at c.args.tables.now c.args.code.now c.args.memory.now c.args.ops (somewhere_first c.args.tables.now c.args.code.now c.args.memory.now c.args.lasting.now _ (g.S.Source.view c.args.source.now) c.requires.some).somewhere

pub next_goal-requires-clause-ops_built : goal.next_goal-requires-clause-ops_built
next_goal-requires-clause-ops_built g c = built_at c.args.tables.now c.args.code.now c.args.memory.now c.args.ops (somewhere_first c.args.tables.now c.args.code.now c.args.memory.now c.args.lasting.now _ (g.S.Source.view c.args.source.now) c.requires.some).somewhere

pub settle_apart-requires-clause-some : goal.settle_apart-requires-clause-some
settle_apart-requires-clause-some g c =
    let does = c.in-Ok.ensures.ok in
    let rest = some_behind does.gave.ended (g.S.Source.view c.next_goal.new.source) in
    (somewhere_behind c.args.tables.now c.args.code.now c.args.memory.now c.next_goal.new.memory c.args.lasting.now c.next_goal.new.lasting c.args.ops c.in-Ok.now c.args.spacer.now c.next_goal.new.spacer (g.K.Sink.view c.args.sink.now) (g.K.Sink.view c.next_goal.new.sink) (g.S.Source.view c.args.source.now) (g.S.Source.view c.next_goal.new.source) rest.0 c.requires.goal does rest.1 c.requires.some).found

pub returns-in-Err-clause-err : goal.returns-in-Err-clause-err
returns-in-Err-clause-err g c =
    turn_breaks c.in-Err.fault c.args.tables.now c.args.code.now c.args.memory.now c.args.lasting.now c.args.ops c.args.spacer.now c.next_goal.new.spacer (g.K.Sink.view c.args.sink.now) (g.K.Sink.view c.next_goal.new.sink) (g.S.Source.view c.args.source.now) (g.S.Source.view c.next_goal.new.source) c.requires.goal c.in-Err.ensures.err

pub returns-in-Ok-clause-ok : goal.returns-in-Ok-clause-ok
returns-in-Ok-clause-ok g c =
    turn_takes c.args.tables.now c.args.code.now c.args.memory.now c.next_goal.new.memory c.settle_apart.new.memory c.args.lasting.now c.next_goal.new.lasting c.settle_apart.new.lasting c.args.ops c.in-Ok.now c.settle_apart.result c.args.spacer.now c.next_goal.new.spacer (g.K.Sink.view c.args.sink.now) (g.K.Sink.view c.next_goal.new.sink) (g.S.Source.view c.args.source.now) (g.S.Source.view c.next_goal.new.source) c.requires.goal c.in-Ok.ensures.ok c.settle_apart.ensures.comes c.settle_apart.ensures.stays

pub returns-in-Ok-clause-some : goal.returns-in-Ok-clause-some
returns-in-Ok-clause-some g c =
    turn_still c.args.tables.now c.args.code.now c.args.memory.now c.next_goal.new.memory c.settle_apart.new.memory c.args.lasting.now c.next_goal.new.lasting c.settle_apart.new.lasting c.args.ops c.in-Ok.now c.settle_apart.result c.args.spacer.now c.next_goal.new.spacer (g.K.Sink.view c.args.sink.now) (g.K.Sink.view c.next_goal.new.sink) (g.S.Source.view c.args.source.now) (g.S.Source.view c.next_goal.new.source) c.requires.goal c.in-Ok.ensures.ok c.settle_apart.ensures.comes c.settle_apart.ensures.stays c.requires.some

pub returns-in-Ok-clause-once : goal.returns-in-Ok-clause-once
returns-in-Ok-clause-once g c times may = may_on times c.next_goal.new.lasting c.settle_apart.new.lasting c.settle_apart.ensures.sites (c.next_goal.ensures.once times may)
