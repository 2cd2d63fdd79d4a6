use Rattle.std.proofs.Common.{List, Vec, ℕ, ◌+◌, ◌++◌, drop, ◌∙◌, ap}
use Rattle.std.specs.Global.{Global}
use Rattle.dg_access.specs.inside.Reached.{rows_of}
use Rattle.dg_access.specs.inside.Rows.{pooled}
use Rattle.dg_access.proofs.RowLemmas.{pooled_with, pooled_without}
use Rattle.dg_access.proofs.loops.pooled_at.Goals.{then-firsts-number+in_ok-extend_from_slice, else-firsts-number}
use Rattle.dg_access.proofs.loops.pooled_at.Goals as goal

pub loop-number-preserved : goal.loop-number-preserved
loop-number-preserved c =
    let ns = c.args.firsts.now in
    let rows = rows_of c.args.rows.now in
    let k = c.args.first in
    let i = c.loop-number.number in
    let made = c.loop-number.row.items in
    let all = pooled k ns rows in
    let others = pooled k (drop (i + 1) ns) (drop (i + 1) rows) in
    elim c.if-firsts-number.branch [
      | then-firsts-number+in_ok-extend_from_slice w ↦
          ap (λ (v : Vec ℕ Global). v.items ++ others) w.row-is ∙ ap (λ (l : List ℕ). l ++ others) w.in_ok-extend_from_slice.ensures.items
          ∙ ap (λ (l : List ℕ). (made ++ l) ++ others) w.row_at.ensures
          ∙ pooled_with k ns rows i made all c.loop-number-test.true w.if-firsts-number.true c.loop-number.invariant
      | else-firsts-number w ↦
          ap (λ (v : Vec ℕ Global). v.items ++ others) w.row-is ∙ pooled_without k ns rows i made all c.loop-number-test.true w.if-firsts-number.false c.loop-number.invariant
    ]
