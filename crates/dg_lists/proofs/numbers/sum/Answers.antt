use Rattle.std.proofs.Common.{sym, ◌∙◌}
use Rattle.dg_lists.proofs.SumLemmas.{none_at, over_at, ended_at, sum_says}
use Rattle.dg_lists.proofs.numbers.sum.Goals as goal

pub returns-in_default-cell : goal.returns-in_default-cell
returns-in_default-cell c = λ vs is f.
    sym (none_at c.cells.sum c.cells.rest.now c.in-len1-up.len_at_least c.in_default-cell.not-Num) ∙ c.cells.invariant.same ∙ sum_says c.args.cells.now vs is f

pub returns-in_default-number : goal.returns-in_default-number
returns-in_default-number c = λ vs is f.
    sym (over_at c.cells.sum c.in-Num.n c.cells.rest.now c.in-len1-up.len_at_least c.in-Num.is (sym c.number.ensures ∙ c.in_default-number.is)) ∙ c.cells.invariant.same ∙ sum_says c.args.cells.now vs is f

pub returns : goal.returns
returns c = λ vs is f.
    sym (ended_at c.cells.sum c.cells.rest.now c.in_default.len_below c.cells.invariant.within) ∙ c.cells.invariant.same ∙ sum_says c.args.cells.now vs is f
