use Rattle.std.specs.Prelude.{map}
use Rattle.dg_base.specs.declared.run.Ending.TheVariants.{HeapLimit}
use Rattle.dg_meaning.specs.Values.{value_of}
use Rattle.dg_meaning.specs.Cells.{cells}
use Rattle.dg_mid.specs.declared.code.Op.TheVariants as op
use Rattle.dg_mid.specs.declared.code.Action.TheVariants as action
use Rattle.dg_mid.specs.State.{vars_of}
use Rattle.dg_mid.specs.Step.{setting, more, does}
use Rattle.dg_machine.proofs.Compares.{act_full}
use Rattle.dg_machine.proofs.Throws.{act_led_with, ended_lasting}
use Rattle.dg_machine.proofs.TableLemmas.{a_program, a_program_is}
use Rattle.dg_machine.proofs.memory.Memory.change.Goals as goal

pub change_place-requires : goal.change_place-requires
change_place-requires c =
    let some = c.requires.some in
    let x = c.in-Ok.ensures some.0 some.1 some.2 (a_program c.args.tables.now) (a_program_is c.args.tables.now) some.3 in
    (map (value_of (a_program c.args.tables.now) (vars_of some.2.frames)) c.args.terms.now, x.args)

pub returns-in-Err-clause-does : goal.returns-in-Err-clause-does
returns-in-Err-clause-does c code g is_of l m b at h w =
    let a = action.Now c.args.place c.args.terms.now c.args.sets in
    let new = c.put_args.new.self in
    let stands = act_full code g l a m c.args.self.now new h (c.in-Err.ensures code l m g.program is_of h) in
    record { stands = stands; lasting = ended_lasting code g l new HeapLimit (does (setting g code l) (op.Do a) m) c.args.lasting.now stands }

pub returns-in-Ok-clause-does : goal.returns-in-Ok-clause-does
returns-in-Ok-clause-does c code g is_of l m b at h w =
    let n = cells g.program c.args.terms.now in
    let x = c.in-Ok.ensures code l m g.program is_of h in
    let y = c.change_place.ensures.changes code g is_of l (more n m) (map (value_of g.program (vars_of m.frames)) c.args.terms.now) at x.held x.args w in
    act_led_with code g l (action.Now c.args.place c.args.terms.now c.args.sets) m c.put_args.new.self c.change_place.new.self c.change_place.result c.change_place.new.lasting x.held y
