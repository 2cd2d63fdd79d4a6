use Rattle.std.proofs.Common.{◌≡◌, ◌+◌, ◌<◌, ◌++◌, suc, length, take, drop, get_or, ap, ◌∙◌, arith}
use Rattle.std.proofs.Math.ListN.{set}
use Rattle.dg_world.specs.Tables.{shape}
use Rattle.dg_world.proofs.Shapes.{one_more, behind_front, same_shape, as_many}
use Rattle.dg_world.proofs.world.set_tables.Goals as goal

pub set_to-requires : goal.set_to-requires
set_to-requires c =
    let xs = c.args.others.now in
    let ys = c.args.tables.now in
    let i = c.tables.at in
    let lt : i < length xs = omega (arith, c.tables-test.true) in
    let long : i < length ys = omega (arith, lt, as_many xs ys c.requires) in
    let mine = c.index-tables-at.result in
    let at : mine ≡ get_or ys i mine = c.index-tables-at.is ∙ ap (λ l. get_or l i mine) c.tables.invariant.is ∙ behind_front xs ys i mine lt long in
    same_shape xs ys i c.index-others-at.result mine c.requires lt long c.index-others-at.is at ∙ ap shape c.index-tables-at.is

pub tables-preserved : goal.tables-preserved
tables-preserved c =
    let xs = c.args.others.now in
    let ys = c.args.tables.now in
    let i = c.tables.at in
    let x = c.index-others-at.result in
    let lt : i < length xs = omega (arith, c.tables-test.true) in
    let long : i < length ys = omega (arith, lt, as_many xs ys c.requires) in
    let next : suc i ≡ i + 1 = omega arith in
    record {
      within = omega (arith, lt);
      is =
          ap (set c.tables.tables i) c.set_to.ensures ∙ ap (λ l. set l i x) c.tables.invariant.is ∙ one_more xs ys i x lt long c.index-others-at.is
          ∙ ap (λ k. take k xs ++ drop k ys) next;
    }
