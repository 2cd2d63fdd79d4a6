use Rattle.std.proofs.Common.{arith, ◌+◌, ◌≤◌}
use Rattle.dg_unify.specs.Store.{count_of}
use Rattle.dg_lists.proofs.WriteLemmas.{count_at, count_more}
use Rattle.dg_lists.proofs.writing.captured_by.Goals as goal

pub overflow_add-count : goal.overflow_add-count
overflow_add-count g c =
    let at = c.requires.2 in
    let more : c.values.count + 1 ≤ count_of c.requires.1 = omega (arith, count_more c.values.count c.requires.1 (c.in-Some.ensures c.requires.0 c.requires.1 at).0) in
    omega (arith, more, at.few)

pub values-preserved : goal.values-preserved
values-preserved g c = λ place parts at. omega (arith, count_more c.values.count parts (c.in-Some.ensures place parts at).0)

pub returns : goal.returns
returns g c = λ place parts at. count_at c.values.count parts (c.values.invariant place parts at) (c.in_default.ensures place parts at)
