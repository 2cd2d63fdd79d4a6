use Rattle.std.proofs.Common.{◌∷◌, []}
use Rattle.dg_base.specs.declared.run.Ending.TheVariants.{HeapLimit}
use Rattle.dg_meaning.specs.Values.{value_of}
use Rattle.dg_meaning.specs.Cells.{cells}
use Rattle.dg_mid.specs.declared.code.Op.TheVariants as op
use Rattle.dg_mid.specs.declared.code.Action.TheVariants as action
use Rattle.dg_mid.specs.State.{vars_of}
use Rattle.dg_mid.specs.Step.{more}
use Rattle.dg_texts.specs.Printing.{as_prints}
use Rattle.dg_machine.proofs.Opens.{roomy}
use Rattle.dg_machine.proofs.Goals.{ended_done}
use Rattle.dg_machine.proofs.Prints.{said_done, said_lost}
use Rattle.dg_machine.proofs.Pieces.{pieces_v, value_done, value_said, value_over, text_behind, text_within}
use Rattle.dg_machine.proofs.TableLemmas.{a_program, a_program_is}
use Rattle.dg_machine.proofs.steps.print_term.Goals as goal

pub print_arg-requires : goal.print_arg-requires
print_arg-requires g c =
    let some = c.requires.some in
    let p = a_program c.args.tables.now in
    let x = c.in-Ok.ensures some.0 some.1 some.2 p (a_program_is c.args.tables.now) some.3 in
    (value_of p (vars_of some.2.frames) c.args.term.now, x.args)

pub returns-in-Err-clause-ok : goal.returns-in-Err-clause-ok
returns-in-Err-clause-ok g c out code game is_of l m o e at h w =
    let new = c.put_one.new.self in
    let t = c.args.term.now in
    let lacks = c.in-Err.ensures code l m game.program is_of h in
    ended_done code game l m new out HeapLimit c.args.ops.now (op.Do (action.Print t)) c.args.rest.now c.args.spacer.now (g.K.Sink.view c.args.sink.now) c.requires.whole at (value_over code game l t (record m { ops = c.args.rest.now }) new c.args.memory.now h lacks) lacks.roomy

pub returns-in-Ok-print_arg-clause-ok : goal.returns-in-Ok-print_arg-clause-ok
returns-in-Ok-print_arg-clause-ok g c out code game is_of l m o e at h w =
    let t = c.args.term.now in
    let rest = c.args.rest in
    let n = cells game.program (t ∷ []) in
    let new = c.print_arg.new.self in
    let x = c.in-Ok.ensures code l m game.program is_of h in
    let held = c.print_arg.ensures.held code l (more n m) x.held in
    let ps = pieces_v code game l t m new in
    said_done code game l m new n c.args.ops.now (action.Print t) (as_prints ps) rest c.requires.whole at held (value_done code game l t (record m { ops = rest.now }) new held) (value_said code game l t m new rest.now)
    c.args.spacer.now c.print_arg.new.spacer (g.K.Sink.view c.args.sink.now) (g.K.Sink.view c.print_arg.new.sink) out w
    (text_behind ps c.args.spacer.now c.print_arg.new.spacer (g.K.Sink.view c.args.sink.now) (g.K.Sink.view c.print_arg.new.sink) (c.in-Ok-print_arg.ensures.printed code l (more n m) game.program (value_of game.program (vars_of m.frames) t) is_of x.held x.args))

pub returns-in-Err-print_arg-clause-err : goal.returns-in-Err-print_arg-clause-err
returns-in-Err-print_arg-clause-err g c code game is_of l m at h start qs text =
    let t = c.args.term.now in
    let rest = c.args.rest in
    let n = cells game.program (t ∷ []) in
    let new = c.print_arg.new.self in
    let x = c.in-Ok.ensures code l m game.program is_of h in
    let held = c.print_arg.ensures.held code l (more n m) x.held in
    let ps = pieces_v code game l t m new in
    said_lost code game l m new n c.args.ops.now (action.Print t) (as_prints ps) rest c.requires.whole at held (value_done code game l t (record m { ops = rest.now }) new held) (value_said code game l t m new rest.now)
    (g.K.Sink.view c.args.sink.now) (g.K.Sink.view c.print_arg.new.sink) start qs
    (text_within ps c.args.spacer.now (g.K.Sink.view c.args.sink.now) (g.K.Sink.view c.print_arg.new.sink) (c.in-Err-print_arg.ensures.printed code l (more n m) game.program (value_of game.program (vars_of m.frames) t) is_of x.held x.args) start qs text)

pub returns-in-Err-print_arg-clause-roomy : goal.returns-in-Err-print_arg-clause-roomy
returns-in-Err-print_arg-clause-roomy g c code l m h =
    let p = a_program c.args.tables.now in
    let n = cells p (c.args.term.now ∷ []) in
    let x = c.in-Ok.ensures code l m p (a_program_is c.args.tables.now) h in
    roomy code l (more n m) c.print_arg.new.self (c.print_arg.ensures.held code l (more n m) x.held)
