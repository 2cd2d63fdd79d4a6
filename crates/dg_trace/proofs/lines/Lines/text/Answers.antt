use Rattle.std.proofs.Common.{◌++◌, refl, sym, ap, ◌∙◌}
use Rattle.std.proofs.lemmas.List.{append-nil}
use Rattle.dg_meaning.specs.Trace.{names_of}
use Rattle.dg_watch.specs.Told.{took}
use Rattle.dg_trace.proofs.Writing.{text_spelled, text_begins}
use Rattle.dg_trace.proofs.lines.Lines.text.Goals as goal

pub returns-clause-told : goal.returns-clause-told
returns-clause-told g c =
    let bytes = c.args.bytes.now in
    c.write.ensures.told (took bytes)
    (text_spelled (names_of c.args.self.now.program.now) c.args.self.now.begun bytes c.requires.some c.requires.line
    ∙ ap (λ l. l ++ bytes) (sym c.requires.mark) ∙ ap (λ l. c.args.mark.now ++ l) (sym (append-nil bytes)))
    (text_begins c.args.self.now.begun bytes c.requires.some c.requires.line)
