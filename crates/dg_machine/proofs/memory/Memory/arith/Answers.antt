use Rattle.std.specs.Prelude.{◌∷◌, []}
use Rattle.dg_meaning.specs.Values.{value_of}
use Rattle.dg_meaning.specs.Cells.{cells}
use Rattle.dg_mid.specs.declared.code.Action.TheVariants as action
use Rattle.dg_mid.specs.State.{vars_of}
use Rattle.dg_mid.specs.Step.{more}
use Rattle.dg_machine.proofs.Compares.{act_full, act_led}
use Rattle.dg_machine.proofs.TableLemmas.{a_program, a_program_is}
use Rattle.dg_machine.proofs.memory.Memory.arith.Goals as goal

pub calculate-requires : goal.calculate-requires
calculate-requires c =
    let some = c.requires in
    let x = c.in-Ok.ensures some.0 some.1 some.2 (a_program c.args.tables.now) (a_program_is c.args.tables.now) some.3 in
    (value_of (a_program c.args.tables.now) (vars_of some.2.frames) c.args.a.now, value_of (a_program c.args.tables.now) (vars_of some.2.frames) c.args.b.now, value_of (a_program c.args.tables.now) (vars_of some.2.frames) c.args.into.now, x.args)

pub returns-in-Err : goal.returns-in-Err
returns-in-Err c code g is_of l m o b at h = act_full code g l (action.Arith c.args.by c.args.a.now c.args.b.now c.args.into.now) m c.args.self.now c.put_three.new.self h (c.in-Err.ensures code l m g.program is_of h)

pub returns-in-Ok : goal.returns-in-Ok
returns-in-Ok c code g is_of l m o b at h =
    let n = cells g.program (c.args.a.now ∷ c.args.b.now ∷ c.args.into.now ∷ []) in
    let f = value_of g.program (vars_of m.frames) in
    let x = c.in-Ok.ensures code l m g.program is_of h in
    act_led code g l (action.Arith c.args.by c.args.a.now c.args.b.now c.args.into.now) m c.put_three.new.self c.calculate.new.self c.calculate.result x.held
    (c.calculate.ensures code g l (more n m) (f c.args.a.now) (f c.args.b.now) (f c.args.into.now) at x.held x.args)
