use Rattle.std.proofs.Common.{◌≡◌, ◌+◌, ℕ, suc, map, drop, sym, ◌∙◌, ap, arith}
use Rattle.dg_base.specs.TreeView.{part_view}
use Rattle.dg_put.specs.inside.Putting.{argument_in}
use Rattle.dg_put.proofs.PlaceLemmas.{stepped_over, ended}
use Rattle.dg_put.proofs.place.argument_among.Goals as goal
use Rattle.dg_put.proofs.place.argument_among.Goals.{then-index-args+in-None, else-index-args}

next : (i : ℕ) → i + 1 ≡ suc i
next i = omega arith

pub loop-index-preserved : goal.loop-index-preserved
loop-index-preserved c =
    let hs = c.args.params.now in
    let qs = c.args.args.now in
    let name = c.args.name.now in
    let i = c.loop-index.index in
    ap (λ (j : ℕ). argument_in (map part_view (drop j hs)) (map part_view (drop j qs)) name) (next i)
    ∙ (elim c.if-index-args.branch [ then-index-args+in-None w ↦ stepped_over hs qs i w.index-params-index.result w.index-args-index.result name c.loop-index-test.true w.if-index-args.true w.index-params-index.is w.index-args-index.is (sym w.in-None.ensures) | else-index-args w ↦ ended hs qs i name w.if-index-args.false ])
    ∙ c.loop-index.invariant
