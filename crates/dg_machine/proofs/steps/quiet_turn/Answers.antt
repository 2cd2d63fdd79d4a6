use Rattle.std.proofs.Common.{subst, take, drop, length, ◌-◌}
use Rattle.dg_machine.specs.Built.{BeginsQuietly}
use Rattle.dg_machine.proofs.Goals.{built_first, first_goal}
use Rattle.dg_machine.proofs.Leaving.{split_list}
use Rattle.dg_machine.proofs.Turns.{room_at, built_at, held_at, quiet_reads, quiet_somewhere, turn_takes, turn_still}
use Rattle.dg_machine.proofs.steps.quiet_turn.Goals as goal

pub do_quiet-now-requires-clause-room : goal.do_quiet-now-requires-clause-room
do_quiet-now-requires-clause-room c = room_at c.args.tables.now c.args.code.now c.args.memory.now c.args.ops c.requires.some.somewhere

pub do_quiet-now-requires-clause-some : goal.do_quiet-now-requires-clause-some
do_quiet-now-requires-clause-some c = held_at c.args.tables.now c.args.code.now c.args.memory.now c.args.ops c.requires.some.somewhere

pub do_quiet-now-requires-clause-op_built : goal.do_quiet-now-requires-clause-op_built
do_quiet-now-requires-clause-op_built c =
    let all = c.args.ops.now in
    built_first all c.op-item.result (take (length all - 1) (drop 1 all)) (split_list all c.op-item.result c.in-len1-up.len_at_least c.op-item.is)
    (built_at c.args.tables.now c.args.code.now c.args.memory.now c.args.ops c.requires.some.somewhere)

pub do_quiet-now-requires-clause-goal : goal.do_quiet-now-requires-clause-goal
do_quiet-now-requires-clause-goal c =
    let all = c.args.ops.now in
    first_goal all c.op-item.result (take (length all - 1) (drop 1 all)) (split_list all c.op-item.result c.in-len1-up.len_at_least c.op-item.is) c.requires.goal

pub do_quiet-now-requires-clause-quiet : goal.do_quiet-now-requires-clause-quiet
do_quiet-now-requires-clause-quiet c =
    let all = c.args.ops.now in
    subst BeginsQuietly (split_list all c.op-item.result c.in-len1-up.len_at_least c.op-item.is) c.requires.quiet

pub settle-requires-clause-some : goal.settle-requires-clause-some
settle-requires-clause-some c =
    let all = c.args.ops.now in
    let split = split_list all c.op-item.result c.in-len1-up.len_at_least c.op-item.is in
    quiet_somewhere c.args.tables.now c.args.code.now c.args.memory.now c.do_quiet-now.new.memory c.args.lasting.now c.args.ops c.op-item.result (take (length all - 1) (drop 1 all)) c.do_quiet-now.result split (subst BeginsQuietly split c.requires.quiet) c.do_quiet-now.ensures c.requires.some

pub returns-in-len1-up-clause-takes : goal.returns-in-len1-up-clause-takes
returns-in-len1-up-clause-takes c s k i =
    let all = c.args.ops.now in
    let split = split_list all c.op-item.result c.in-len1-up.len_at_least c.op-item.is in
    let does = quiet_reads c.args.tables.now c.args.code.now c.args.memory.now c.do_quiet-now.new.memory c.args.lasting.now all c.op-item.result (take (length all - 1) (drop 1 all)) c.do_quiet-now.result s k i split (subst BeginsQuietly split c.requires.quiet) c.do_quiet-now.ensures in (
      turn_takes c.args.tables.now c.args.code.now c.args.memory.now c.do_quiet-now.new.memory c.settle.new.memory c.args.lasting.now c.args.lasting.now c.settle.new.lasting c.args.ops c.do_quiet-now.result c.settle.result s s k k i i c.requires.goal does c.settle.ensures.comes c.settle.ensures.stays,
      turn_still c.args.tables.now c.args.code.now c.args.memory.now c.do_quiet-now.new.memory c.settle.new.memory c.args.lasting.now c.args.lasting.now c.settle.new.lasting c.args.ops c.do_quiet-now.result c.settle.result s s k k i i c.requires.goal does c.settle.ensures.comes c.settle.ensures.stays,
    )
