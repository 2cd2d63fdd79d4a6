use Rattle.std.proofs.Common.{ap, ◌∙◌, arith}
use Rattle.dg_base.specs.declared.program.Term.{Term}
use Rattle.dg_fits.specs.Sizes.{term_size}
use Rattle.dg_story.proofs.CountLemmas.{size_pair}
use Rattle.dg_story.proofs.counting.Count.term.Goals as goal

pub returns-in-Pair-clause-counted : goal.returns-in-Pair-clause-counted
returns-in-Pair-clause-counted c =
    let e = ap (λ (t : Term). term_size t) c.in-Pair.is ∙ size_pair c.in-Pair.head c.in-Pair.tail in
    let a = ap (λ (t : Term). term_size t) c.get.ensures in
    let b = ap (λ (t : Term). term_size t) c.get-in-Pair.ensures in
    grind (arith, e, a, b)

pub returns-in-Pair-clause-lacks : goal.returns-in-Pair-clause-lacks
returns-in-Pair-clause-lacks c =
    let e = ap (λ (t : Term). term_size t) c.in-Pair.is ∙ size_pair c.in-Pair.head c.in-Pair.tail in
    let a = ap (λ (t : Term). term_size t) c.get.ensures in
    let b = ap (λ (t : Term). term_size t) c.get-in-Pair.ensures in
    grind (arith, e, a, b)
