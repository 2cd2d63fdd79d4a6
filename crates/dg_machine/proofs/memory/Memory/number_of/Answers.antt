use Rattle.dg_meaning.specs.Values.{value_of}
use Rattle.dg_meaning.specs.Cells.{cells}
use Rattle.std.specs.Prelude.{◌∷◌, []}
use Rattle.dg_mid.specs.State.{vars_of}
use Rattle.dg_mid.specs.Step.{more}
use Rattle.dg_machine.proofs.TableLemmas.{a_program, a_program_is}
use Rattle.dg_machine.proofs.memory.Memory.number_of.Goals as goal

pub number_arg-requires : goal.number_arg-requires
number_arg-requires c =
    let some = c.requires in
    let x = c.in-Ok.ensures some.0 some.1 some.2 (a_program c.args.tables.now) (a_program_is c.args.tables.now) some.3 in
    (value_of (a_program c.args.tables.now) (vars_of some.2.frames) c.args.a.now, x.args)

pub returns-in-Ok : goal.returns-in-Ok
returns-in-Ok c code l m p is h =
    let x = c.in-Ok.ensures code l m p is h in
    record { held = x.held; number_is = c.number_arg.ensures code l (more (cells p (c.args.a.now ∷ [])) m) (value_of p (vars_of m.frames) c.args.a.now) x.held x.args }

pub returns-in-Err : goal.returns-in-Err
returns-in-Err c code l m p is h = c.in-Err.ensures code l m p is h
