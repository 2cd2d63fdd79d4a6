use Rattle.std.proofs.Common.{sym, ◌∙◌}
use Rattle.dg_meaning.specs.Values.{value_of}
use Rattle.dg_meaning.specs.Cells.{cells}
use Rattle.std.specs.Prelude.{◌∷◌, []}
use Rattle.dg_meaning.specs.Numbers.{are_in_order}
use Rattle.dg_meaning.specs.Substitutions.{walk}
use Rattle.dg_mid.specs.declared.code.Action.TheVariants as action
use Rattle.dg_mid.specs.State.{vars_of}
use Rattle.dg_mid.specs.Step.{more}
use Rattle.dg_machine.specs.declared.now.Now.TheVariants.{Runs, Fails}
use Rattle.dg_machine.proofs.Compares.{act_full, act_led, passed_on, passed_not}
use Rattle.dg_machine.proofs.TableLemmas.{a_program, a_program_is}
use Rattle.dg_machine.proofs.memory.Memory.compare.Goals as goal

pub compare_args-requires : goal.compare_args-requires
compare_args-requires c =
    let some = c.requires in
    let x = c.in-Ok.ensures some.0 some.1 some.2 (a_program c.args.tables.now) (a_program_is c.args.tables.now) some.3 in
    (value_of (a_program c.args.tables.now) (vars_of some.2.frames) c.args.a.now, value_of (a_program c.args.tables.now) (vars_of some.2.frames) c.args.b.now, x.args)

pub returns-in-Err : goal.returns-in-Err
returns-in-Err c code g is_of l m o b at h = act_full code g l (action.Compare c.args.by c.args.a.now c.args.b.now) m c.args.self.now c.put_both.new.self h (c.in-Err.ensures code l m g.program is_of h)

pub returns-then-compare_args : goal.returns-then-compare_args
returns-then-compare_args c code g is_of l m o b at h =
    let n = cells g.program (c.args.a.now ∷ c.args.b.now ∷ []) in
    let x = c.in-Ok.ensures code l m g.program is_of h in
    let is = c.compare_args.ensures code l (more n m) (value_of g.program (vars_of m.frames) c.args.a.now) (value_of g.program (vars_of m.frames) c.args.b.now) x.held x.args in
    act_led code g l (action.Compare c.args.by c.args.a.now c.args.b.now) m c.put_both.new.self c.put_both.new.self (Runs c.args.rest) x.held (passed_on code l (more n m) c.put_both.new.self c.args.rest (are_in_order c.args.by (walk m.state.subst (value_of g.program (vars_of m.frames) c.args.a.now)) (walk m.state.subst (value_of g.program (vars_of m.frames) c.args.b.now))) (sym c.if-compare_args.true ∙ is) at x.held)

pub returns-else-compare_args : goal.returns-else-compare_args
returns-else-compare_args c code g is_of l m o b at h =
    let n = cells g.program (c.args.a.now ∷ c.args.b.now ∷ []) in
    let x = c.in-Ok.ensures code l m g.program is_of h in
    let is = c.compare_args.ensures code l (more n m) (value_of g.program (vars_of m.frames) c.args.a.now) (value_of g.program (vars_of m.frames) c.args.b.now) x.held x.args in
    act_led code g l (action.Compare c.args.by c.args.a.now c.args.b.now) m c.put_both.new.self c.put_both.new.self Fails x.held (passed_not code l (more n m) c.put_both.new.self (are_in_order c.args.by (walk m.state.subst (value_of g.program (vars_of m.frames) c.args.a.now)) (walk m.state.subst (value_of g.program (vars_of m.frames) c.args.b.now))) (sym c.if-compare_args.false ∙ is) x.held)
