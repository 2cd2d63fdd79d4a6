use Rattle.std.proofs.Common.{[], ◌∷◌, ◌++◌, refl, sym, ap, ◌∙◌, subst}
use Rattle.std.proofs.lemmas.List.{append-nil}
use Rattle.dg_watch.specs.Told.{Saw}
use Rattle.dg_watch.specs.declared.watch.CallEvent.TheVariants as call
use Rattle.dg_trace.specs.inside.Spelled.{ended}
use Rattle.dg_trace.specs.inside.Telling.{place, ToldLines}
use Rattle.dg_trace.proofs.lines.Lines.event.Goals as goal

pub returns-in-Asked-clause-told : goal.returns-in-Asked-clause-told
returns-in-Asked-clause-told g c =
    subst (λ e. ToldLines (place c.args.self.now (g.K.Sink.view c.args.sink.now)) (place c.call.new.self (g.K.Sink.view c.call.new.sink)) (Saw e ∷ []))
    (sym c.in-Asked.is) (c.call.ensures.told (call.Asked c.in-Asked.pred) refl)

pub returns-in-Answered-clause-told : goal.returns-in-Answered-clause-told
returns-in-Answered-clause-told g c =
    subst (λ e. ToldLines (place c.args.self.now (g.K.Sink.view c.args.sink.now)) (place c.call-in-Answered.new.self (g.K.Sink.view c.call-in-Answered.new.sink)) (Saw e ∷ []))
    (sym c.in-Answered.is) (c.call-in-Answered.ensures.told (call.Answered c.in-Answered.pred) refl)

pub returns-in-Retried-clause-told : goal.returns-in-Retried-clause-told
returns-in-Retried-clause-told g c =
    subst (λ e. ToldLines (place c.args.self.now (g.K.Sink.view c.args.sink.now)) (place c.call-in-Retried.new.self (g.K.Sink.view c.call-in-Retried.new.sink)) (Saw e ∷ []))
    (sym c.in-Retried.is) (c.call-in-Retried.ensures.told (call.Retried c.in-Retried.pred) refl)

pub returns-in-Failed-clause-told : goal.returns-in-Failed-clause-told
returns-in-Failed-clause-told g c =
    subst (λ e. ToldLines (place c.args.self.now (g.K.Sink.view c.args.sink.now)) (place c.call-in-Failed.new.self (g.K.Sink.view c.call-in-Failed.new.sink)) (Saw e ∷ []))
    (sym c.in-Failed.is) (c.call-in-Failed.ensures.told (call.Failed c.in-Failed.pred) refl)

pub returns-in-Printed-clause-told : goal.returns-in-Printed-clause-told
returns-in-Printed-clause-told g c =
    subst (λ e. ToldLines (place c.args.self.now (g.K.Sink.view c.args.sink.now)) (place c.write.new.self (g.K.Sink.view c.write.new.sink)) (Saw e ∷ []))
    (sym c.in-Printed.is) (c.write.ensures.told (Saw call.Printed ∷ []) (ap (λ l. l ++ []) (sym c.end-end.ensures)) refl)
