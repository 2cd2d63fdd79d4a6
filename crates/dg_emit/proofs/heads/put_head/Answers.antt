use Rattle.std.proofs.Common.{ℕ, ◌+◌, ◌∙◌, ◌∷◌, ◌++◌, List, drop, ap, sym, arith}
use Rattle.std.specs.Borrow.{Bor}
use Rattle.std.proofs.lemmas.List.{drop_more}
use Rattle.dg_base.specs.declared.program.Term.{Term}
use Rattle.dg_turn.specs.Turns.{matchers, unifying_acts}
use Rattle.dg_emit.specs.inside.Left.{those}
use Rattle.dg_emit.proofs.NewNodes.{unified_next}
use Rattle.dg_emit.proofs.heads.put_head.Goals as goal

pub loop-term-preserved : goal.loop-term-preserved
loop-term-preserved c =
    let l = c.loop-term in
    let ts = c.args.head.now in
    let x = c.term-item.result in
    let others = drop (l.term-index + 1) ts in
    let first = drop_more ts l.term-index x c.loop-term-test.true ∙ ap (λ (y : Bor Term). y ∷ others) (sym c.term-item.is) in
    let one = unified_next c.push.new.self l.acts l.argument l.word l.number c.in_ok-routine.routine c.in_ok-number.number (those others) x.now c.in_ok-routine.ensures c.in_ok-number.ensures c.in_ok-push.ensures.ok in (
      one ∙ ap (λ (rest : List Term). l.acts ++ unifying_acts l.argument l.word (matchers l.number rest)) (sym (ap those first)) ∙ l.invariant.0,
      omega arith,
      omega arith,
      l.invariant.3,
    )
