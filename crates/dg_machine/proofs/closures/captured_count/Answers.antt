use Rattle.std.proofs.Common.{arith}
use Rattle.dg_machine.proofs.TermLemmas.{part_past, part_more, few_parts}
use Rattle.dg_machine.proofs.closures.captured_count.Goals as goal

pub overflow_add-count : goal.overflow_add-count
overflow_add-count c =
    let at = c.requires.2 in
    omega (arith, part_more c.values.count c.requires.1 (c.in-Some.ensures c.requires.0 c.requires.1 at).0, few_parts c.requires.1, at.few)

pub values-preserved : goal.values-preserved
values-preserved c = λ place parts at. omega (arith, part_more c.values.count parts (c.in-Some.ensures place parts at).0)

pub returns : goal.returns
returns c = λ place parts at. omega (arith, c.values.invariant place parts at, part_past c.values.count parts (c.in_default.ensures place parts at))
