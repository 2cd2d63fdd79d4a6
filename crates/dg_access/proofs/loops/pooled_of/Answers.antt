use Rattle.std.proofs.Common.{◌+◌, List, Vec, ℕ, ◌∷◌, ◌++◌, drop, sym, ◌∙◌, ap}
use Rattle.std.specs.Global.{Global}
use Rattle.dg_access.specs.inside.Reached.{rows_of}
use Rattle.dg_access.specs.inside.Rows.{pooled_from}
use Rattle.dg_access.proofs.RowLemmas.{from_on, rows_pushed}
use Rattle.dg_access.proofs.loops.pooled_of.Goals as goal

pub loop-first-preserved : goal.loop-first-preserved
loop-first-preserved c =
    let ns = c.args.firsts.now in
    let rows = rows_of c.args.rows.now in
    let i = c.loop-first.first in
    let made = c.loop-first.pooled.items in
    let others = pooled_from (i + 1) (drop (i + 1) ns) ns rows in
    ap (λ (l : List (Vec ℕ Global)). rows_of l ++ others) c.in_ok-push.ensures.items
    ∙ rows_pushed made c.in_ok-pooled_at.field-0 others
    ∙ ap (λ (row : List ℕ). rows_of made ++ row ∷ others) c.in_ok-pooled_at.ensures
    ∙ sym (ap (λ (l : List (List ℕ)). rows_of made ++ l) (from_on i i ns ns rows c.loop-first-test.true))
    ∙ c.loop-first.invariant
