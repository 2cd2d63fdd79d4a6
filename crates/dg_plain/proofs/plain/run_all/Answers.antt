use Rattle.std.proofs.Common.{rules, ◌≡◌, ◌∷◌, [], List, sym, ◌∙◌, ap}
use Rattle.dg_plain.specs.Building.{built_view, run}
use Rattle.dg_plain.specs.State.{setting_view}
use Rattle.dg_plain.specs.declared.work.Work.{Work}
use Rattle.dg_plain.proofs.BuildLemmas.{run_append}
use Rattle.dg_plain.proofs.plain.run_all.Goals as goal

pub loop-turn-preserved : goal.loop-turn-preserved
loop-turn-preserved c =
    let d = setting_view c.args.setting in
    let s = built_view c.loop-turn.built in
    c.in_ok-step-in-Some.ensures
    ∙ sym (ap (λ (ws : List Work). run d ws s) c.in-Some.ensures.items ∙ run_append d c.pop.new.self.items (c.in-Some.work ∷ []) s)
    ∙ c.loop-turn.invariant

pub returns-in-None : goal.returns-in-None
returns-in-None c =
    let d = setting_view c.args.setting in
    let none : c.loop-turn.left.items ≡ [] = search rules in
    sym (ap (λ (ws : List Work). run d ws (built_view c.loop-turn.built)) none) ∙ c.loop-turn.invariant
