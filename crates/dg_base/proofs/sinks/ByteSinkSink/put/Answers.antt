use Rattle.std.proofs.Common.{rules, ◌<◌, length, refl, inl, inr, arith}
use Rattle.std.proofs.lemmas.Grind.{common_steps}
use Rattle.dg_base.proofs.sinks.ByteSinkSink.put.Goals as goal
use Rattle.dg_base.proofs.sinks.ByteSinkSink.put.Goals.{then-count-self-via-then-count-self, then-count-self-via-else-count-self+then-contains}

pub returns-then-count-self-clause-failed : goal.returns-then-count-self-clause-failed
returns-then-count-self-clause-failed c =
    let some : 0 < length c.args.piece.now = grind (arith, common_steps) in
    elim c.then-count-self.branch [
      | then-count-self-via-then-count-self w ↦ (λ e. (some, inr (grind (arith, common_steps))), λ r. refl)
      | then-count-self-via-else-count-self+then-contains w ↦ (λ e. (some, inl (search rules)), λ r. refl)
    ]
