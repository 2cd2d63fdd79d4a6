use Rattle.std.proofs.Common.{sym, ◌∙◌}
use Rattle.dg_meaning.specs.Values.{value_of}
use Rattle.dg_meaning.specs.Cells.{cells}
use Rattle.std.specs.Prelude.{◌∷◌, []}
use Rattle.dg_meaning.specs.TypeTests.{passes}
use Rattle.dg_mid.specs.declared.code.Action.TheVariants as action
use Rattle.dg_mid.specs.State.{vars_of}
use Rattle.dg_mid.specs.Step.{more}
use Rattle.dg_machine.specs.declared.now.Now.TheVariants.{Runs, Fails}
use Rattle.dg_machine.proofs.Compares.{act_full, act_led, passed_on, passed_not}
use Rattle.dg_machine.proofs.TableLemmas.{a_program, a_program_is}
use Rattle.dg_machine.proofs.memory.Memory.test.Goals as goal

pub test_arg-requires : goal.test_arg-requires
test_arg-requires c =
    let some = c.requires in
    let x = c.in-Ok.ensures some.0 some.1 some.2 (a_program c.args.tables.now) (a_program_is c.args.tables.now) some.3 in
    (value_of (a_program c.args.tables.now) (vars_of some.2.frames) c.args.a.now, x.args)

pub returns-in-Err : goal.returns-in-Err
returns-in-Err c code g is_of l m o b at h = act_full code g l (action.Test c.args.kind c.args.a.now) m c.args.self.now c.put_one.new.self h (c.in-Err.ensures code l m g.program is_of h)

pub returns-then-test_arg : goal.returns-then-test_arg
returns-then-test_arg c code g is_of l m o b at h =
    let n = cells g.program (c.args.a.now ∷ []) in
    let x = c.in-Ok.ensures code l m g.program is_of h in
    let is = c.test_arg.ensures.passed code l (more n m) (value_of g.program (vars_of m.frames) c.args.a.now) x.held x.args in
    act_led code g l (action.Test c.args.kind c.args.a.now) m c.put_one.new.self c.test_arg.new.self (Runs c.args.rest) x.held (passed_on code l (more n m) c.test_arg.new.self c.args.rest (passes m.state.subst c.args.kind (value_of g.program (vars_of m.frames) c.args.a.now)) (sym c.if-test_arg.true ∙ is) at (c.test_arg.ensures.held code l (more n m) x.held))

pub returns-else-test_arg : goal.returns-else-test_arg
returns-else-test_arg c code g is_of l m o b at h =
    let n = cells g.program (c.args.a.now ∷ []) in
    let x = c.in-Ok.ensures code l m g.program is_of h in
    let is = c.test_arg.ensures.passed code l (more n m) (value_of g.program (vars_of m.frames) c.args.a.now) x.held x.args in
    act_led code g l (action.Test c.args.kind c.args.a.now) m c.put_one.new.self c.test_arg.new.self Fails x.held (passed_not code l (more n m) c.test_arg.new.self (passes m.state.subst c.args.kind (value_of g.program (vars_of m.frames) c.args.a.now)) (sym c.if-test_arg.false ∙ is) (c.test_arg.ensures.held code l (more n m) x.held))
