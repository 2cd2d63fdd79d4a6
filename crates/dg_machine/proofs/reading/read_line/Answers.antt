use Rattle.std.proofs.Common.{arith, ◌∷◌, [], List, Ok, refl, sym, subst, ◌∙◌}
use Rattle.dg_base.specs.Written.{SinkView}
use Rattle.dg_meaning.specs.Cells.{cells}
use Rattle.dg_meaning.specs.Values.{value_of}
use Rattle.dg_meaning.specs.World.{Print, Game}
use Rattle.dg_mid.specs.Actions.{world_of}
use Rattle.dg_mid.specs.State.{vars_of}
use Rattle.dg_mid.specs.Step.{more, followed}
use Rattle.dg_texts.specs.Spelling.{IsShort, SpellsSome}
use Rattle.dg_words.specs.Letters.{IsLine, ReadsLine}
use Rattle.dg_words.specs.Lines.{Took, IsOver}
use Rattle.dg_machine.specs.inside.Reading.{line_behind}
use Rattle.dg_machine.specs.inside.Running.{HasText, ReadsGoal}
use Rattle.dg_unify.proofs.StoreLemmas.{holds_some}
use Rattle.dg_arena.specs.Held.{meaning_of}
use Rattle.dg_machine.proofs.Opens.{roomy}
use Rattle.dg_machine.proofs.Lines.{over_goal, end_goal, line_lost, line_goal, line_breaks, line_same, short_line, stands_roomy, on_err}
use Rattle.dg_machine.proofs.TableLemmas.{a_program, a_program_is}
use Rattle.dg_machine.proofs.reading.read_line.Goals as goal

pub arg-into-requires : goal.arg-into-requires
arg-into-requires g c =
    let some = c.requires.some in
    let p = a_program c.args.tables.now in
    let x = c.in-Ok.ensures some.0 some.1 some.2 p (a_program_is c.args.tables.now) some.3 in
    (value_of p (vars_of some.2.frames) c.args.term.now ∷ [], x.args, omega arith)

pub give_line-now-requires-clause-into : goal.give_line-now-requires-clause-into
give_line-now-requires-clause-into g c =
    let some = c.requires.some in
    let p = a_program c.args.tables.now in
    let x = c.in-Ok.ensures some.0 some.1 some.2 p (a_program_is c.args.tables.now) some.3 in
    let u = value_of p (vars_of some.2.frames) c.args.term.now in
    holds_some (meaning_of c.put_one.new.self.arena) c.arg-into.result u (c.arg-into.ensures (u ∷ []) x.args)

pub give_line-now-requires-clause-line : goal.give_line-now-requires-clause-line
give_line-now-requires-clause-line g c =
    let took : Took (g.S.Source.view c.args.source.now).left (g.S.Source.view c.read.new.source).left (IsLine c.read.new.self) = subst (λ b. ReadsLine (Ok b) c.read.new.self (g.S.Source.view c.args.source.now).left (g.S.Source.view c.read.new.source).left) c.in-Ok-true.field-0-test c.in-Ok-true.ensures.read in
    subst (SpellsSome IsShort) (sym c.spelling.ensures) (short_line c.read.new.self (g.S.Source.view c.args.source.now).left (g.S.Source.view c.read.new.source).left took)

pub returns-in-Err-clause-ok : goal.returns-in-Err-clause-ok
returns-in-Err-clause-ok g c code out = over_goal c.args.tables.now code c.args.memory.now c.args.ops.now c.args.term.now c.args.rest.now c.requires.whole out c.put_one.new.self c.args.spacer.now (g.K.Sink.view c.args.sink.now) (g.S.Source.view c.args.source.now) (λ l m p is_of h. c.in-Err.ensures code l m p is_of h)

pub returns-in-Err-read-clause-err : goal.returns-in-Err-read-clause-err
returns-in-Err-read-clause-err g c code =
    let tb = c.args.tables.now in
    let i = g.S.Source.view c.args.source.now in
    let i' = g.S.Source.view c.read.new.source in
    let k = g.K.Sink.view c.args.sink.now in
    line_lost tb code c.args.memory.now c.args.ops.now c.args.term.now c.args.rest.now c.requires.whole c.put_one.new.self (λ l m p is_of h. c.in-Ok.ensures code l m p is_of h) c.args.spacer.now k i i' c.in-Err-read.ensures.read c.in-Err-read.ensures.cause.later c.in-Err-read.ensures.cause.failed

pub returns-in-Err-read-clause-roomy : goal.returns-in-Err-read-clause-roomy
returns-in-Err-read-clause-roomy g c code l m h =
    let p = a_program c.args.tables.now in
    roomy code l (more (cells p (c.args.term.now ∷ [])) m) c.put_one.new.self (c.in-Ok.ensures code l m p (a_program_is c.args.tables.now) h).held

pub returns-in-Ok-false-clause-ok : goal.returns-in-Ok-false-clause-ok
returns-in-Ok-false-clause-ok g c code out =
    let tb = c.args.tables.now in
    let i = g.S.Source.view c.args.source.now in
    let i' = g.S.Source.view c.read.new.source in
    let k = g.K.Sink.view c.args.sink.now in
    let over : IsOver i.left i'.left = subst (λ b. ReadsLine (Ok b) c.read.new.self i.left i'.left) c.in-Ok-false.field-0-test c.in-Ok-false.ensures.read in
    end_goal tb code c.args.memory.now c.args.ops.now c.args.term.now c.args.rest.now c.requires.whole c.put_one.new.self (λ l m p is_of h. c.in-Ok.ensures code l m p is_of h) out c.args.spacer.now k i i' over c.in-Ok-false.ensures.cause.later

pub returns-in-Ok-true-clause-ok : goal.returns-in-Ok-true-clause-ok
returns-in-Ok-true-clause-ok g c code out =
    let tb = c.args.tables.now in
    let i = g.S.Source.view c.args.source.now in
    let i' = g.S.Source.view c.read.new.source in
    let k = g.K.Sink.view c.args.sink.now in
    let took : Took (g.S.Source.view c.args.source.now).left (g.S.Source.view c.read.new.source).left (IsLine c.read.new.self) = subst (λ b. ReadsLine (Ok b) c.read.new.self (g.S.Source.view c.args.source.now).left (g.S.Source.view c.read.new.source).left) c.in-Ok-true.field-0-test c.in-Ok-true.ensures.read in
    let k' = g.K.Sink.view c.print_line.new.sink in
    let now = c.give_line-now.result in
    let new = c.give_line-now.new.self in
    line_same (λ after. ReadsGoal tb code c.args.memory.now out c.args.ops.now new out after c.args.spacer.now c.print_line.new.spacer k k' i i') ((start : SinkView) (ps : List Print) → HasText c.args.spacer.now start k ps → HasText c.print_line.new.spacer start k' (followed ps (line_behind now))) now c.print_line.result c.print_line.ensures.same c.print_line.ensures.text
    (λ text. line_goal tb code c.args.memory.now c.args.ops.now c.args.term.now c.args.rest.now c.requires.whole c.put_one.new.self (λ l m p is_of h. c.in-Ok.ensures code l m p is_of h) new now c.arg-into.result c.read.new.self c.arg-into.ensures (λ letters short is. c.give_line-now.ensures code letters short (c.spelling.ensures ∙ is)) out c.args.spacer.now c.print_line.new.spacer k k' i i' took c.in-Ok-true.ensures.cause.later text)

pub returns-in-Ok-true-clause-err : goal.returns-in-Ok-true-clause-err
returns-in-Ok-true-clause-err g c code =
    let tb = c.args.tables.now in
    let i = g.S.Source.view c.args.source.now in
    let i' = g.S.Source.view c.read.new.source in
    let k = g.K.Sink.view c.args.sink.now in
    let took : Took i.left i'.left (IsLine c.read.new.self) = subst (λ b. ReadsLine (Ok b) c.read.new.self i.left i'.left) c.in-Ok-true.field-0-test c.in-Ok-true.ensures.read in
    line_breaks tb code c.args.memory.now c.args.ops.now c.args.term.now c.args.rest.now c.requires.whole c.put_one.new.self (λ l m p is_of h. c.in-Ok.ensures code l m p is_of h) c.args.spacer.now c.print_line.new.spacer k (g.K.Sink.view c.print_line.new.sink) i i' c.read.new.self c.print_line.result took c.in-Ok-true.ensures.cause.later c.print_line.ensures.err

pub returns-in-Ok-true-clause-roomy : goal.returns-in-Ok-true-clause-roomy
returns-in-Ok-true-clause-roomy g c =
    let took : Took (g.S.Source.view c.args.source.now).left (g.S.Source.view c.read.new.source).left (IsLine c.read.new.self) = subst (λ b. ReadsLine (Ok b) c.read.new.self (g.S.Source.view c.args.source.now).left (g.S.Source.view c.read.new.source).left) c.in-Ok-true.field-0-test c.in-Ok-true.ensures.read in
    let short = short_line c.read.new.self (g.S.Source.view c.args.source.now).left (g.S.Source.view c.read.new.source).left took in
    let p = a_program c.args.tables.now in
    let x : Game = record { program = p; dice = [] } in
    on_err _ c.print_line.result (λ code l m h.
    let here = c.in-Ok.ensures code l m p (a_program_is c.args.tables.now) h in
    let u = value_of p (vars_of m.frames) c.args.term.now in
    let m' = record (more (cells p (c.args.term.now ∷ [])) m) { ops = c.args.rest.now } in
    stands_roomy code l c.give_line-now.new.self c.give_line-now.result _
    (c.give_line-now.ensures code short.letters short.hold (c.spelling.ensures ∙ short.is) x l m' u (world_of [] m') (refl, c.requires.built) here.held (c.arg-into.ensures (u ∷ []) here.args)))
