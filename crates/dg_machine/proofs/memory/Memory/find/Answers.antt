use Rattle.std.proofs.Common.{[], refl}
use Rattle.std.specs.Prelude.{map}
use Rattle.dg_meaning.specs.Cells.{cells}
use Rattle.dg_meaning.specs.Values.{value_of}
use Rattle.dg_mid.specs.Actions.{asked_at}
use Rattle.dg_mid.specs.State.{vars_of}
use Rattle.dg_mid.specs.Step.{setting, more, seeks}
use Rattle.dg_machine.specs.Finding.{find_of}
use Rattle.dg_machine.proofs.Leads.{charged_led, full_stands}
use Rattle.dg_machine.proofs.TableLemmas.{a_program, a_program_is}
use Rattle.dg_machine.proofs.memory.Memory.find.Goals as goal

pub seek-requires-clause-some : goal.seek-requires-clause-some
seek-requires-clause-some c =
    let some = c.requires.some in
    let x = c.in-Ok.ensures some.0 some.1 some.2 (a_program c.args.tables.now) (a_program_is c.args.tables.now) some.3 in
    (some.0, some.1, more (cells (a_program c.args.tables.now) c.args.terms.now) some.2, x.held)

pub seek-requires-clause-args : goal.seek-requires-clause-args
seek-requires-clause-args c =
    let some = c.requires.some in
    let x = c.in-Ok.ensures some.0 some.1 some.2 (a_program c.args.tables.now) (a_program_is c.args.tables.now) some.3 in
    (map (value_of (a_program c.args.tables.now) (vars_of some.2.frames)) c.args.terms.now, x.args)

pub returns-in-Err : goal.returns-in-Err
returns-in-Err c code g is_of l m b at h w =
    let k = c.args.search in
    let n = cells g.program c.args.terms.now in
    let vs = map (value_of g.program (vars_of m.frames)) c.args.terms.now in
    full_stands code g l n m (seeks (setting g code l) (find_of k.place vs k.many k.next) (asked_at g [] k.place vs (more n m)) (more n m)) c.args.self.now c.put_args.new.self h (c.in-Err.ensures code l m g.program is_of h)

pub returns-in-Ok : goal.returns-in-Ok
returns-in-Ok c code g is_of l m b at h w =
    let k = c.args.search in
    let n = cells g.program c.args.terms.now in
    let vs = map (value_of g.program (vars_of m.frames)) c.args.terms.now in
    let x = c.in-Ok.ensures code l m g.program is_of h in
    charged_led code g l n m (more n m) (seeks (setting g code l) (find_of k.place vs k.many k.next) (asked_at g [] k.place vs (more n m)) (more n m)) c.put_args.new.self c.seek.new.self c.seek.result x.held refl
    (c.seek.ensures code g is_of l (more n m) vs at x.held x.args w)
