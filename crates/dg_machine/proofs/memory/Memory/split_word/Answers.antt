use Rattle.std.specs.Prelude.{◌∷◌, []}
use Rattle.dg_meaning.specs.Values.{value_of}
use Rattle.dg_meaning.specs.Cells.{cells}
use Rattle.dg_mid.specs.declared.code.Action.TheVariants as action
use Rattle.dg_mid.specs.State.{vars_of}
use Rattle.dg_mid.specs.Step.{more}
use Rattle.dg_machine.proofs.Compares.{act_full, act_led}
use Rattle.dg_machine.proofs.TableLemmas.{a_program, a_program_is}
use Rattle.dg_machine.proofs.memory.Memory.split_word.Goals as goal

pub split_args-requires-clause-some : goal.split_args-requires-clause-some
split_args-requires-clause-some c =
    let some = c.requires in
    let p = a_program c.args.tables.now in
    let x = c.in-Ok.ensures some.0 some.1 some.2 p (a_program_is c.args.tables.now) some.3 in
    (some.0, some.1, more (cells p (c.args.word.now ∷ c.args.into.now ∷ [])) some.2, x.held)

pub split_args-requires-clause-args : goal.split_args-requires-clause-args
split_args-requires-clause-args c =
    let some = c.requires in
    let p = a_program c.args.tables.now in
    let x = c.in-Ok.ensures some.0 some.1 some.2 p (a_program_is c.args.tables.now) some.3 in
    (value_of p (vars_of some.2.frames) c.args.word.now, value_of p (vars_of some.2.frames) c.args.into.now, x.args)

pub returns-in-Err : goal.returns-in-Err
returns-in-Err c code g is_of l m o b at h = act_full code g l (action.SplitWord c.args.word.now c.args.into.now) m c.args.self.now c.put_both.new.self h (c.in-Err.ensures code l m g.program is_of h)

pub returns-in-Ok : goal.returns-in-Ok
returns-in-Ok c code g is_of l m o b at h =
    let n = cells g.program (c.args.word.now ∷ c.args.into.now ∷ []) in
    let f = value_of g.program (vars_of m.frames) in
    let x = c.in-Ok.ensures code l m g.program is_of h in
    act_led code g l (action.SplitWord c.args.word.now c.args.into.now) m c.put_both.new.self c.split_args.new.self c.split_args.result x.held
    (c.split_args.ensures code g is_of l (more n m) (f c.args.word.now) (f c.args.into.now) at x.held x.args)
