use Rattle.std.proofs.Common.{◌+◌, map, arith}
use Rattle.dg_meaning.specs.Values.{value_of}
use Rattle.dg_meaning.specs.Cells.{cells}
use Rattle.dg_meaning.specs.Moves.{new_vars}
use Rattle.dg_arena.specs.Held.{meaning_of}
use Rattle.dg_machine.specs.Layout.{made_state}
use Rattle.dg_machine.proofs.RowLemmas.{lacks_more}
use Rattle.dg_machine.proofs.Putting.{made_head, no_head}
use Rattle.dg_machine.proofs.memory.Memory.make_head.Goals as goal

pub returns-in-Err-clause-made : goal.returns-in-Err-clause-made
returns-in-Err-clause-made c code l m p is h =
    lacks_more l (6 + c.args.vars) (6 + c.args.vars + cells p c.args.head.now) m.state.heap c.make_rule.new.self (omega arith) (c.in-Err.ensures.held code l m h)

pub write_head-requires-clause-row : goal.write_head-requires-clause-row
write_head-requires-clause-row c = (new_vars c.args.vars (meaning_of c.args.self.now.arena).state.vars, c.in-Ok.ensures.row)

pub returns-in-Err-write_head-clause-made : goal.returns-in-Err-write_head-clause-made
returns-in-Err-write_head-clause-made c code l m p is h =
    let made = c.in-Ok.ensures.held code l m h in
    no_head code l c.args.vars (cells p c.args.head.now) m c.make_rule.new.self c.write_head.new.self c.in-Ok.row made
    (c.in-Err-write_head.ensures.put code l (record m { state = made_state c.args.vars m.state }) p (new_vars c.args.vars m.state.vars) is made.held made.row_is)

pub returns-in-Ok-write_head-clause-made : goal.returns-in-Ok-write_head-clause-made
returns-in-Ok-write_head-clause-made c code l m p is h =
    let made = c.in-Ok.ensures.held code l m h in
    let vs = new_vars c.args.vars m.state.vars in
    made_head code l c.args.vars (cells p c.args.head.now) m c.make_rule.new.self c.write_head.new.self c.in-Ok.row made (map (value_of p vs) c.args.head.now) c.in-Ok-write_head.ensures.values
    (c.in-Ok-write_head.ensures.put code l (record m { state = made_state c.args.vars m.state }) p vs is made.held made.row_is)
