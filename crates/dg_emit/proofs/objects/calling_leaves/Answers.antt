use Rattle.std.proofs.Common.{List, [], ◌∷◌, ◌++◌, ◌∙◌, ap}
use Rattle.z_lang.specs.declared.act.Act.{Act}
use Rattle.dg_emit.proofs.Chains.{calls_next}
use Rattle.dg_emit.proofs.objects.calling_leaves.Goals as goal

pub loop-index-preserved : goal.loop-index-preserved
loop-index-preserved c =
    calls_next c.loop-index.leaves c.push.new.self c.args.number c.args.count c.loop-index.index c.loop-index-test.true
    (c.in_ok-push.ensures.ok ∙ ap (λ (acts : List Act). c.loop-index.leaves ++ acts ∷ []) c.in_ok-calling_acts.ensures)
    ∙ c.loop-index.invariant
