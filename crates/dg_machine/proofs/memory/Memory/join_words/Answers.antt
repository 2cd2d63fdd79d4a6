use Rattle.std.specs.Prelude.{◌∷◌, []}
use Rattle.dg_meaning.specs.Values.{value_of}
use Rattle.dg_meaning.specs.Cells.{cells}
use Rattle.dg_mid.specs.declared.code.Action.TheVariants as action
use Rattle.dg_mid.specs.State.{vars_of}
use Rattle.dg_mid.specs.Step.{more}
use Rattle.dg_machine.proofs.Compares.{act_full, act_led}
use Rattle.dg_machine.proofs.TableLemmas.{a_program, a_program_is}
use Rattle.dg_machine.proofs.memory.Memory.join_words.Goals as goal

pub join_args-requires-clause-some : goal.join_args-requires-clause-some
join_args-requires-clause-some c =
    let some = c.requires in
    let p = a_program c.args.tables.now in
    let x = c.in-Ok.ensures some.0 some.1 some.2 p (a_program_is c.args.tables.now) some.3 in
    (some.0, some.1, more (cells p (c.args.list.now ∷ c.args.into.now ∷ [])) some.2, x.held)

pub join_args-requires-clause-args : goal.join_args-requires-clause-args
join_args-requires-clause-args c =
    let some = c.requires in
    let p = a_program c.args.tables.now in
    let x = c.in-Ok.ensures some.0 some.1 some.2 p (a_program_is c.args.tables.now) some.3 in
    (value_of p (vars_of some.2.frames) c.args.list.now, value_of p (vars_of some.2.frames) c.args.into.now, x.args)

pub returns-in-Err : goal.returns-in-Err
returns-in-Err c code g is_of l m o b at h = act_full code g l (action.JoinWords c.args.list.now c.args.into.now) m c.args.self.now c.put_both.new.self h (c.in-Err.ensures code l m g.program is_of h)

pub returns-in-Ok : goal.returns-in-Ok
returns-in-Ok c code g is_of l m o b at h =
    let n = cells g.program (c.args.list.now ∷ c.args.into.now ∷ []) in
    let f = value_of g.program (vars_of m.frames) in
    let x = c.in-Ok.ensures code l m g.program is_of h in
    act_led code g l (action.JoinWords c.args.list.now c.args.into.now) m c.put_both.new.self c.join_args.new.self c.join_args.result x.held
    (c.join_args.ensures code g is_of l (more n m) (f c.args.list.now) (f c.args.into.now) at x.held x.args)
