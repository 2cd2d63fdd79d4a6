use Rattle.std.specs.Prelude.{◌∷◌, []}
use Rattle.dg_meaning.specs.Values.{value_of}
use Rattle.dg_meaning.specs.Cells.{cells}
use Rattle.dg_mid.specs.declared.code.Action.TheVariants as action
use Rattle.dg_mid.specs.State.{vars_of}
use Rattle.dg_mid.specs.declared.code.Op.TheVariants as op
use Rattle.dg_mid.specs.Step.{setting, more, does}
use Rattle.dg_base.specs.declared.run.Ending.TheVariants.{HeapLimit}
use Rattle.dg_machine.proofs.Throws.{act_led_with, ended_lasting}
use Rattle.dg_machine.proofs.Compares.{act_full}
use Rattle.dg_machine.proofs.TableLemmas.{a_program, a_program_is}
use Rattle.dg_machine.proofs.memory.Memory.random.Goals as goal

pub throw-requires : goal.throw-requires
throw-requires c =
    let some = c.requires in
    let x = c.in-Ok.ensures some.0 some.1 some.2 (a_program c.args.tables.now) (a_program_is c.args.tables.now) some.3 in
    (value_of (a_program c.args.tables.now) (vars_of some.2.frames) c.args.a.now, value_of (a_program c.args.tables.now) (vars_of some.2.frames) c.args.b.now, value_of (a_program c.args.tables.now) (vars_of some.2.frames) c.args.into.now, x.args)

pub returns-in-Err-clause-does : goal.returns-in-Err-clause-does
returns-in-Err-clause-does c code g is_of l m b at h w =
    let a = action.Random c.args.a.now c.args.b.now c.args.into.now in
    let new = c.put_three.new.self in
    let over = c.in-Err.ensures code l m g.program is_of h in
    let stands = act_full code g l a m c.args.self.now new h over in
    record { stands = stands; lasting = ended_lasting code g l new HeapLimit (does (setting g code l) (op.Do a) m) c.args.lasting.now stands }

pub returns-in-Ok-clause-does : goal.returns-in-Ok-clause-does
returns-in-Ok-clause-does c code g is_of l m b at h w =
    let n = cells g.program (c.args.a.now ∷ c.args.b.now ∷ c.args.into.now ∷ []) in
    let f = value_of g.program (vars_of m.frames) in
    let x = c.in-Ok.ensures code l m g.program is_of h in
    let y = c.throw.ensures.thrown code g l (more n m) (f c.args.a.now) (f c.args.b.now) (f c.args.into.now) at x.held x.args w in
    act_led_with code g l (action.Random c.args.a.now c.args.b.now c.args.into.now) m c.put_three.new.self c.throw.new.self c.throw.result c.throw.new.lasting x.held y
