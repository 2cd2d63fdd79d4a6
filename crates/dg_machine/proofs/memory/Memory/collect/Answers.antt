use Rattle.std.specs.Prelude.{◌∷◌, []}
use Rattle.dg_base.specs.declared.run.Ending.TheVariants.{HeapLimit}
use Rattle.dg_meaning.specs.Values.{value_of}
use Rattle.dg_meaning.specs.Cells.{cells}
use Rattle.dg_mid.specs.declared.code.Op.TheVariants as op
use Rattle.dg_mid.specs.State.{Runs as RunsOf, vars_of}
use Rattle.dg_mid.specs.Step.{setting, more, does, charged, gathering, gathers}
use Rattle.dg_machine.proofs.Leads.{full_stands}
use Rattle.dg_machine.proofs.Throws.{led_with, ended_lasting}
use Rattle.dg_machine.proofs.TableLemmas.{a_program, a_program_is}
use Rattle.dg_machine.proofs.memory.Memory.collect.Goals as goal

pub gather_args-requires-clause-args : goal.gather_args-requires-clause-args
gather_args-requires-clause-args c =
    let some = c.requires in
    let p = a_program c.args.tables.now in
    let x = c.in-Ok.ensures some.0 some.1 some.2 p (a_program_is c.args.tables.now) some.3 in
    (value_of p (vars_of some.2.frames) c.args.term.now, value_of p (vars_of some.2.frames) c.args.into.now, x.args)

pub gather_args-requires-clause-room : goal.gather_args-requires-clause-room
gather_args-requires-clause-room c =
    let some = c.requires in
    (c.in-Ok.ensures some.0 some.1 some.2 (a_program c.args.tables.now) (a_program_is c.args.tables.now) some.3).held.0.room

pub returns-in-Err-clause-does : goal.returns-in-Err-clause-does
returns-in-Err-clause-does c code g is_of l m b at h w =
    let n = cells g.program (c.args.term.now ∷ c.args.into.now ∷ []) in
    let v = value_of g.program (vars_of m.frames) in
    let m1 = gathering (v c.args.term.now) (v c.args.into.now) c.args.alt (more n m) in
    let set = setting g code l in
    let new = c.put_both.new.self in
    let stands = full_stands code g l n m (charged set 10 (more n m) (gathers set m1.gathered (RunsOf m1))) c.args.self.now new h (c.in-Err.ensures code l m g.program is_of h) in
    record { stands = stands; lasting = ended_lasting code g l new HeapLimit (does set (op.Collect c.args.term.now c.args.into.now c.args.alt) m) c.args.lasting.now stands }

pub returns-in-Ok-clause-does : goal.returns-in-Ok-clause-does
returns-in-Ok-clause-does c code g is_of l m b at h w =
    let n = cells g.program (c.args.term.now ∷ c.args.into.now ∷ []) in
    let v = value_of g.program (vars_of m.frames) in
    let m1 = gathering (v c.args.term.now) (v c.args.into.now) c.args.alt (more n m) in
    let set = setting g code l in
    let x = c.in-Ok.ensures code l m g.program is_of h in
    led_with code g l n m (charged set 10 (more n m) (gathers set m1.gathered (RunsOf m1))) c.put_both.new.self c.gather_args.new.self c.gather_args.result c.gather_args.new.lasting x.held
    (c.gather_args.ensures.gathers code g l (more n m) (v c.args.term.now) (v c.args.into.now) at x.held x.args w)
