use Rattle.std.proofs.Common.{map}
use Rattle.dg_meaning.specs.Values.{value_of}
use Rattle.dg_meaning.specs.Cells.{cells}
use Rattle.dg_mid.specs.State.{vars_of, ToPred}
use Rattle.dg_mid.specs.Step.{setting, more, last}
use Rattle.dg_machine.proofs.Leads.{full_stands}
use Rattle.dg_machine.proofs.Goals.{asks_last_op}
use Rattle.dg_machine.proofs.TableLemmas.{a_program, a_program_is}
use Rattle.dg_machine.proofs.memory.Memory.ask_last.Goals as goal

pub ask_last_rules-requires-clause-args : goal.ask_last_rules-requires-clause-args
ask_last_rules-requires-clause-args c =
    let some = c.requires.some in
    let x = c.in-Ok.ensures c.args.code.now some.0 some.1 (a_program c.args.tables.now) (a_program_is c.args.tables.now) some.2 in
    (map (value_of (a_program c.args.tables.now) (vars_of some.1.frames)) c.args.terms.now, x.args)

pub ask_last_rules-requires-clause-room : goal.ask_last_rules-requires-clause-room
ask_last_rules-requires-clause-room c =
    let some = c.requires.some in
    let x = c.in-Ok.ensures c.args.code.now some.0 some.1 (a_program c.args.tables.now) (a_program_is c.args.tables.now) some.2 in
    x.held.0.room

pub returns-in-Err : goal.returns-in-Err
returns-in-Err c rest g is_of l m o b at h =
    let n = cells g.program c.args.terms.now in
    let vs = map (value_of g.program (vars_of m.frames)) c.args.terms.now in
    full_stands c.args.code.now g l n m (last (setting g c.args.code.now l) (ToPred c.args.pred) vs c.args.many m.frames (more n m)) c.args.self.now c.put_args.new.self h (c.in-Err.ensures c.args.code.now l m g.program is_of h)

pub returns-in-Ok : goal.returns-in-Ok
returns-in-Ok c rest =
    asks_last_op c.args.tables.now c.args.code.now c.args.self.now c.put_args.new.self c.ask_last_rules.new.self c.ask_last_rules.result c.args.pred c.args.terms.now c.args.many rest
    (λ l m p is h. c.in-Ok.ensures c.args.code.now l m p is h) c.ask_last_rules.ensures
