use Rattle.std.proofs.Common.{◌∙◌}
use Rattle.dg_unify.proofs.TakingUp.{takes_above}
use Rattle.dg_unify.proofs.finding.newest_above.Goals as goal

pub returns-clause-taken : goal.returns-clause-taken
returns-clause-taken g c = λ above below is size.
    takes_above (g.B.Bindings.waits c.args.store.now) (g.B.Bindings.waits c.take_up.new.self) above below c.take_up.result is (λ e. c.if-waiting-base.false (c.waiting.ensures ∙ e ∙ size)) c.take_up.ensures.taken
