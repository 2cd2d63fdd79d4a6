use Rattle.std.proofs.Common.{Ok, sym, subst, ◌∙◌}
use Rattle.dg_words.specs.Lines.{Took, IsOver}
use Rattle.dg_words.specs.Letters.{IsLine, ReadsLine}
use Rattle.dg_meaning.specs.Words.{letters_of, first_line}
use Rattle.dg_interp.specs.inside.Running.{ComesTo}
use Rattle.dg_texts.specs.Spelling.{IsShort, SpellsSome}
use Rattle.dg_texts.proofs.TypedLetters.{line_short}
use Rattle.dg_interp.proofs.Inputs.{input_ends, input_fails, short_line, line_spelled, gap_breaks, line_does, line_breaks}
use Rattle.dg_interp.proofs.run.read_line.Goals as goal

pub returns-in-Err-clause-err : goal.returns-in-Err-clause-err
returns-in-Err-clause-err g c = λ term old between some taken waits.
    input_fails g.A.Showing.watching term c.args.into old between c.args.engine.now some taken waits c.args.output.now.printer.spacer (c.args.output.now.printer.showing, c.args.sink.now) (g.S.Source.view c.args.source.now) (g.S.Source.view c.read.new.source) c.in-Err.ensures.read c.in-Err.ensures.cause.later c.in-Err.ensures.cause.failed

pub returns-in-Ok-false-clause-ok : goal.returns-in-Ok-false-clause-ok
returns-in-Ok-false-clause-ok g c = λ term old between some taken waits.
    let over : IsOver (g.S.Source.view c.args.source.now).left (g.S.Source.view c.read.new.source).left = subst (λ b. ReadsLine (Ok b) c.read.new.self (g.S.Source.view c.args.source.now).left (g.S.Source.view c.read.new.source).left) c.in-Ok-false.field-0-test c.in-Ok-false.ensures.read in
    input_ends g.A.Showing.watching term c.args.into old between c.args.engine.now some taken waits c.args.output.now.printer.spacer (c.args.output.now.printer.showing, c.args.sink.now) (g.S.Source.view c.args.source.now) (g.S.Source.view c.read.new.source) over c.in-Ok-false.ensures.cause.later

pub returns-in-Err-print_one-clause-err : goal.returns-in-Err-print_one-clause-err
returns-in-Err-print_one-clause-err g c = λ term old between some taken waits.
    let took : Took (g.S.Source.view c.args.source.now).left (g.S.Source.view c.read.new.source).left (IsLine c.read.new.self) = subst (λ b. ReadsLine (Ok b) c.read.new.self (g.S.Source.view c.args.source.now).left (g.S.Source.view c.read.new.source).left) c.in-Ok-true.field-0-test c.in-Ok-true.ensures.read in
    gap_breaks g.A.Showing.watching term c.args.into old between c.args.engine.now some taken waits c.args.output.now.printer.spacer c.print_one.new.printer.spacer (c.args.output.now.printer.showing, c.args.sink.now) (c.print_one.new.printer.showing, c.print_one.new.sink) (g.S.Source.view c.args.source.now) (g.S.Source.view c.read.new.source) c.read.new.self took c.in-Ok-true.ensures.cause.later c.in-Err-print_one.fault c.in-Err-print_one.ensures

pub give_line-requires-clause-line : goal.give_line-requires-clause-line
give_line-requires-clause-line g c =
    let took : Took (g.S.Source.view c.args.source.now).left (g.S.Source.view c.read.new.source).left (IsLine c.read.new.self) = subst (λ b. ReadsLine (Ok b) c.read.new.self (g.S.Source.view c.args.source.now).left (g.S.Source.view c.read.new.source).left) c.in-Ok-true.field-0-test c.in-Ok-true.ensures.read in
    subst (SpellsSome IsShort) (sym c.spelling.ensures) (short_line c.read.new.self (g.S.Source.view c.args.source.now).left (g.S.Source.view c.read.new.source).left took)

pub returns-in-Ok-clause-ok : goal.returns-in-Ok-clause-ok
returns-in-Ok-clause-ok g c = λ term old between some taken waits.
    let took : Took (g.S.Source.view c.args.source.now).left (g.S.Source.view c.read.new.source).left (IsLine c.read.new.self) = subst (λ b. ReadsLine (Ok b) c.read.new.self (g.S.Source.view c.args.source.now).left (g.S.Source.view c.read.new.source).left) c.in-Ok-true.field-0-test c.in-Ok-true.ensures.read in
    let spelled = line_spelled g.A.Showing.watching term c.args.into old between c.args.engine.now some taken waits c.args.output.now.printer.spacer c.print_one.new.printer.spacer (c.args.output.now.printer.showing, c.args.sink.now) (c.print_one.new.printer.showing, c.print_one.new.sink) (g.S.Source.view c.args.source.now) (g.S.Source.view c.read.new.source) c.read.new.self took c.in-Ok-true.ensures.cause.later in
    line_does g.A.Showing.watching term c.args.into old between c.args.engine.now some taken waits c.args.output.now.printer.spacer c.print_one.new.printer.spacer (c.args.output.now.printer.showing, c.args.sink.now) (c.print_one.new.printer.showing, c.print_one.new.sink) (g.S.Source.view c.args.source.now) (g.S.Source.view c.read.new.source) c.read.new.self took c.in-Ok-true.ensures.cause.later c.requires.quiet c.in-Ok.ensures
    c.give_line.new.self c.outcome.new.engine (c.outcome.new.output.printer.showing, c.outcome.new.sink) c.give_line.ensures.left c.outcome.result c.outcome.new.output.printer.spacer c.outcome.ensures.spacer c.give_line.result
    (subst (λ r. ComesTo g.A.Showing.watching r c.give_line.new.self c.outcome.new.engine (c.print_one.new.printer.showing, c.print_one.new.sink) (c.outcome.new.output.printer.showing, c.outcome.new.sink) c.outcome.result) c.stored-done.ensures c.outcome.ensures.comes)
    (λ w a. c.give_line.ensures.given (letters_of (first_line w.typed)) (line_short (first_line w.typed)) (c.spelling.ensures ∙ spelled w a))
    (λ w a. c.give_line.ensures.full (letters_of (first_line w.typed)) (line_short (first_line w.typed)) (c.spelling.ensures ∙ spelled w a))

pub returns-in-Ok-clause-err : goal.returns-in-Ok-clause-err
returns-in-Ok-clause-err g c = λ term old between some taken waits.
    let took : Took (g.S.Source.view c.args.source.now).left (g.S.Source.view c.read.new.source).left (IsLine c.read.new.self) = subst (λ b. ReadsLine (Ok b) c.read.new.self (g.S.Source.view c.args.source.now).left (g.S.Source.view c.read.new.source).left) c.in-Ok-true.field-0-test c.in-Ok-true.ensures.read in
    let spelled = line_spelled g.A.Showing.watching term c.args.into old between c.args.engine.now some taken waits c.args.output.now.printer.spacer c.print_one.new.printer.spacer (c.args.output.now.printer.showing, c.args.sink.now) (c.print_one.new.printer.showing, c.print_one.new.sink) (g.S.Source.view c.args.source.now) (g.S.Source.view c.read.new.source) c.read.new.self took c.in-Ok-true.ensures.cause.later in
    line_breaks g.A.Showing.watching term c.args.into old between c.args.engine.now some taken waits c.args.output.now.printer.spacer c.print_one.new.printer.spacer (c.args.output.now.printer.showing, c.args.sink.now) (c.print_one.new.printer.showing, c.print_one.new.sink) (g.S.Source.view c.args.source.now) (g.S.Source.view c.read.new.source) c.read.new.self took c.in-Ok-true.ensures.cause.later c.requires.quiet c.in-Ok.ensures
    c.give_line.new.self c.outcome.new.engine (c.outcome.new.output.printer.showing, c.outcome.new.sink) c.give_line.ensures.left c.outcome.result c.outcome.new.output.printer.spacer c.outcome.ensures.spacer c.give_line.result
    (subst (λ r. ComesTo g.A.Showing.watching r c.give_line.new.self c.outcome.new.engine (c.print_one.new.printer.showing, c.print_one.new.sink) (c.outcome.new.output.printer.showing, c.outcome.new.sink) c.outcome.result) c.stored-done.ensures c.outcome.ensures.comes)
    (λ w a. c.give_line.ensures.given (letters_of (first_line w.typed)) (line_short (first_line w.typed)) (c.spelling.ensures ∙ spelled w a))
