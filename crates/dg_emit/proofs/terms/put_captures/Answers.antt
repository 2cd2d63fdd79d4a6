use Rattle.std.proofs.Common.{rules, ◌<◌, ◌∙◌, ◌++◌, ◌∷◌, [], ap, subst, sym, length}
use Rattle.z_lang.specs.declared.act.Act.{Act}
use Rattle.dg_turn.specs.Terms.{AreCaptured}
use Rattle.dg_emit.proofs.Nodes.{captured_next, captured_behind}
use Rattle.dg_emit.proofs.terms.put_captures.Goals as goal

pub loop-left-preserved : goal.loop-left-preserved
loop-left-preserved c =
    let vs = c.loop-left.left.now in
    let some : 0 < length vs = search rules in
    let behind = c.behind_six-left.ensures in
    let wrote = c.in_ok-push.ensures.ok ∙ ap (λ (a : Act). c.loop-left.acts ++ a ∷ []) c.capture.ensures in (
      captured_next c.loop-left.acts c.push.new.self vs c.behind_six-left.result.now behind some wrote ∙ c.loop-left.invariant.0,
      subst AreCaptured (sym behind) (captured_behind 6 vs c.loop-left.invariant.1),
    )
