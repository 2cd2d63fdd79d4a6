use Rattle.std.proofs.Common.{◌∷◌, [], List, sym, ◌∙◌, ap, subst}
use Rattle.dg_plain.specs.Building.{built_view}
use Rattle.dg_put.specs.inside.Putting.{around, run}
use Rattle.dg_put.specs.inside.Weights.{IsPast}
use Rattle.dg_put.specs.declared.work.Work.{Work}
use Rattle.dg_put.proofs.BuiltLemmas.{run_append}
use Rattle.dg_put.proofs.expanding.run_all.Goals as goal

pub loop-turn-preserved : goal.loop-turn-preserved
loop-turn-preserved c =
    let d = around c.args.uses in
    let s = built_view c.loop-turn.weighed.built in
    c.in_ok-step-in-Some.ensures
    ∙ sym (ap (λ (ws : List Work). run d ws s) c.in-Some.ensures.items ∙ run_append d c.pop.new.self.items (c.in-Some.work ∷ []) s)
    ∙ c.loop-turn.invariant

pub returns-then-is_past-clause-large : goal.returns-then-is_past-clause-large
returns-then-is_past-clause-large c =
    let d = around c.args.uses in
    let s = built_view c.loop-turn.weighed.built in
    λ stopped. subst IsPast (ap (λ (ws : List Work). run d ws s) c.as_slice.ensures.value ∙ c.loop-turn.invariant) (c.is_past.ensures d c.if-is_past.true)
