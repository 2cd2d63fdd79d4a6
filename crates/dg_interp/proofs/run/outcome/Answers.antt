use Rattle.std.proofs.Common.{Err, refl, ap, sym, subst, ◌∙◌}
use Rattle.dg_interp.specs.inside.Running.{ComesTo, over}
use Rattle.dg_interp.proofs.run.outcome.Goals as goal

pub returns-in-Err-limit-clause-comes : goal.returns-in-Err-limit-clause-comes
returns-in-Err-limit-clause-comes g c =
    subst (λ d. ComesTo g.A.Showing.watching d c.args.engine.now c.args.engine.now (c.args.output.now.printer.showing, c.args.sink.now) (c.args.output.now.printer.showing, c.args.sink.now) (Err c.in-Err-limit.fault)) (sym c.in-Err.is)
    (record { is = ap over (sym c.in-Err-limit.is ∙ c.limit.ensures); engine = refl; shown = refl })
