use Rattle.std.proofs.Common.{sym, ◌∙◌, ◌∷◌, []}
use Rattle.dg_base.specs.declared.run.Ending.TheVariants.{HeapLimit}
use Rattle.dg_meaning.specs.World.{SpacesOf}
use Rattle.dg_meaning.specs.Cells.{cells}
use Rattle.dg_mid.specs.declared.code.Op.TheVariants as op
use Rattle.dg_mid.specs.declared.code.Action.TheVariants as action
use Rattle.dg_mid.specs.Step.{more}
use Rattle.dg_machine.specs.declared.now.Now.TheVariants.{Fails}
use Rattle.dg_machine.proofs.Opens.{roomy}
use Rattle.dg_machine.proofs.Goals.{printed_done, printed_lost, silent_done, ended_done}
use Rattle.dg_machine.proofs.Spaces.{spaces_done, spaces_said, spaces_fail, silent_spaces, spaces_over}
use Rattle.dg_machine.proofs.TableLemmas.{a_program, a_program_is}
use Rattle.dg_machine.proofs.steps.print_spaces.Goals as goal

pub returns-in-Err-clause-ok : goal.returns-in-Err-clause-ok
returns-in-Err-clause-ok g c out code game is_of l m o e at h w =
    let new = c.number_of.new.self in
    let x = op.Do (action.GapN c.args.term.now) in
    let lacks = c.in-Err.ensures code l m game.program is_of h in
    ended_done code game l m new out HeapLimit c.args.ops.now x c.args.rest.now c.args.spacer.now (g.K.Sink.view c.args.sink.now) c.requires.whole at (spaces_over code game l c.args.term.now (record m { ops = c.args.rest.now }) new c.args.memory.now h lacks) lacks.roomy

pub returns-in-Ok-None-clause-ok : goal.returns-in-Ok-None-clause-ok
returns-in-Ok-None-clause-ok g c out code game is_of l m o e at h w =
    let new = c.number_of.new.self in
    let t = c.args.term.now in
    let rest = c.args.rest.now in
    let here = c.in-Ok-None.ensures code l m game.program is_of h in
    silent_done c.args.tables.now code game is_of l m c.args.memory.now new Fails c.args.ops.now (op.Do (action.GapN t)) rest c.requires.whole at h c.args.spacer.now (g.K.Sink.view c.args.sink.now) out o w (silent_spaces code game l t m new rest (sym c.in-Ok-None.field-0-is ∙ here.number_is)) tt
    (λ g' is' l' m' o' b at' h'. let x = c.in-Ok-None.ensures code l' m' g'.program is' h' in spaces_fail code g' l' t m' new new rest x.held (sym c.in-Ok-None.field-0-is ∙ x.number_is))

pub returns-in-Ok-clause-ok : goal.returns-in-Ok-clause-ok
returns-in-Ok-clause-ok g c out code game is_of l m o e at h w =
    let new = c.number_of.new.self in
    let t = c.args.term.now in
    let rest = c.args.rest in
    let n = cells game.program (t ∷ []) in
    let x = c.in-Ok-Some.ensures code l m game.program is_of h in
    let is = sym c.in-Ok-Some.field-0-is ∙ x.number_is in
    let count = c.in-Ok-Some.count in
    printed_done code game l m new n c.args.ops.now (action.GapN t) (SpacesOf count) rest c.requires.whole at x.held (spaces_done code game l t (record m { ops = rest.now }) new x.held count is) (spaces_said code game l t m new x.held count is rest.now)
    c.args.spacer.now c.event.new.self (g.K.Sink.view c.args.sink.now) (g.K.Sink.view c.event.new.sink) out w c.in-Ok.ensures.stands c.in-Ok.ensures.ok

pub returns-in-Err-event-clause-err : goal.returns-in-Err-event-clause-err
returns-in-Err-event-clause-err g c code game is_of l m at h start ps text =
    let new = c.number_of.new.self in
    let t = c.args.term.now in
    let rest = c.args.rest in
    let n = cells game.program (t ∷ []) in
    let x = c.in-Ok-Some.ensures code l m game.program is_of h in
    let is = sym c.in-Ok-Some.field-0-is ∙ x.number_is in
    let count = c.in-Ok-Some.count in
    printed_lost code game l m new n c.args.ops.now (action.GapN t) (SpacesOf count) rest c.requires.whole at x.held (spaces_done code game l t (record m { ops = rest.now }) new x.held count is) (spaces_said code game l t m new x.held count is rest.now)
    c.args.spacer.now (g.K.Sink.view c.args.sink.now) (g.K.Sink.view c.event.new.sink) start ps c.in-Err-event.ensures.err text

pub returns-in-Err-event-clause-roomy : goal.returns-in-Err-event-clause-roomy
returns-in-Err-event-clause-roomy g c code l m h =
    let x = c.in-Ok-Some.ensures code l m (a_program c.args.tables.now) (a_program_is c.args.tables.now) h in
    roomy code l (more (cells (a_program c.args.tables.now) (c.args.term.now ∷ [])) m) c.number_of.new.self x.held
