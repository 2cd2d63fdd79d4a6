use Rattle.std.proofs.Common.{[], ◌∷◌, ◌++◌, refl, sym, ap, ◌∙◌}
use Rattle.std.specs.Prelude.{codes}
use Rattle.std.proofs.lemmas.List.{append-nil}
use Rattle.dg_watch.specs.Told.{took}
use Rattle.dg_trace.specs.inside.Spelled.{ended}
use Rattle.dg_trace.proofs.lines.Lines.newline.Goals as goal

pub returns-clause-told : goal.returns-clause-told
returns-clause-told g c =
    c.write.ensures.told (took (10 ∷ []))
    (append-nil (ended c.args.self.now.begun ++ codes ".\n") ∙ ap (λ l. l ++ codes ".\n") (sym c.end-end.ensures)) refl
