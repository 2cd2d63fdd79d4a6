use Rattle.std.proofs.Common.{◌+◌, ◌≤◌, sym, ◌∙◌, ap, subst, arith}
use Rattle.dg_base.specs.declared.program.Term.{out-Term}
use Rattle.dg_meaning.specs.Cells as spec
use Rattle.dg_turn.specs.Terms.{capped}
use Rattle.dg_emit.specs.inside.Left.{left}
use Rattle.dg_emit.proofs.Left.{fewer_left, cells_left, capped_both, capped_few}
use Rattle.dg_emit.proofs.counting.cells.Goals as goal

pub loop-term-smaller : goal.loop-term-smaller
loop-term-smaller c =
    let one = fewer_left c.loop-term.left c.pop.new.self c.add_parts.new.made c.in-Some.term c.in-Some.ensures c.in_ok-add_parts.ensures in
    omega (arith, one)

pub loop-term-preserved : goal.loop-term-preserved
loop-term-preserved c =
    let p = c.args.program.now in
    let own = spec.node_cells p (out-Term c.in-Some.term.now) in
    let behind = spec.cells p (left c.add_parts.new.made) in
    let all = cells_left p c.loop-term.left c.pop.new.self c.add_parts.new.made c.in-Some.term c.in-Some.ensures c.in_ok-add_parts.ensures in
    let count = c.loop-term.count in
    let same = capped_both count own behind _ all in
    let is = c.both-count.ensures ∙ ap (λ n. capped (count + n)) c.node_cells.ensures in (
      ap (λ n. capped (n + behind)) is ∙ same ∙ c.loop-term.invariant.0,
      subst (λ n. n ≤ 10001) (sym c.both-count.ensures) (capped_few (count + c.node_cells.result)),
    )
