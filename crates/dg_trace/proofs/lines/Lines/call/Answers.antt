use Rattle.std.proofs.Common.{[], ◌∷◌, ◌++◌, refl, sym, ap, ◌∙◌}
use Rattle.std.specs.Prelude.{codes}
use Rattle.std.proofs.lemmas.List.{append-nil}
use Rattle.dg_meaning.specs.Trace.{names_of}
use Rattle.dg_watch.specs.Told.{Saw}
use Rattle.dg_trace.specs.inside.Spelled.{ended, event_line}
use Rattle.dg_trace.proofs.lines.Lines.call.Goals as goal

pub returns-clause-told : goal.returns-clause-told
returns-clause-told g c = λ event is.
    let mark = c.args.mark.now in
    c.write.ensures.told (Saw event ∷ [])
    (ap (λ l. ended c.args.self.now.begun ++ l) (append-nil (event_line (names_of c.args.self.now.program.now) event) ∙ is)
    ∙ ap (λ l. ended c.args.self.now.begun ++ (mark ++ (l ++ codes "\n"))) (sym c.name-name.ensures)
    ∙ ap (λ l. l ++ (mark ++ (c.name-name.result.now ++ codes "\n"))) (sym c.end-end.ensures)) refl
