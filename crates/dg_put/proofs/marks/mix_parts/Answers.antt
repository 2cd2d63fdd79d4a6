use Rattle.std.proofs.Common.{◌+◌, List, ℕ, drop, map, refl, sym, ◌∙◌, ap}
use Rattle.std.proofs.Math.ListN.{drop_of_length-le}
use Rattle.dg_base.specs.Heads.{parts_behind}
use Rattle.dg_base.specs.Tree.{parts_of}
use Rattle.dg_base.specs.TreeView.{part_view}
use Rattle.dg_base.specs.declared.tree.Part.{Part}
use Rattle.dg_put.specs.inside.Marks.{mix_all}
use Rattle.dg_put.proofs.MarkLemmas.{mixed_name, mixed_part}
use Rattle.dg_put.proofs.Dropped.{dropped_item}
use Rattle.dg_put.proofs.marks.mix_parts.Goals as goal

pub loop-part-preserved : goal.loop-part-preserved
loop-part-preserved c =
    let parts = c.args.parts.now in
    let i = c.loop-part.part-index in
    let x = c.part-item.result in
    let sum = c.loop-part.sum in
    let others = parts_of (map part_view (drop (i + 1) parts)) in
    ap (λ (n : ℕ). mix_all n (parts_behind others)) c.mix_part-sum.ensures
    ∙ sym (mixed_part sum (part_view x) others)
    ∙ sym (ap (λ (l : List Part). mix_all sum (parts_behind (parts_of (map part_view l))))
    (dropped_item parts i (i + 1) x refl c.part-item.is c.loop-part-test.true))
    ∙ c.loop-part.invariant

pub returns : goal.returns
returns c =
    let parts = c.args.parts.now in
    ap (λ (l : List Part). mix_all c.loop-part.sum (parts_behind (parts_of (map part_view l)))) (sym (drop_of_length-le parts c.loop-part-test.false))
    ∙ c.loop-part.invariant ∙ sym (mixed_name 0 (parts_of (map part_view parts)))
