use Rattle.std.proofs.Common.{◌+◌, ◌∙◌, ◌∷◌, ◌++◌, [], drop, ap, sym}
use Rattle.std.specs.Borrow.{Bor}
use Rattle.std.proofs.lemmas.List.{drop_more}
use Rattle.z_lang.specs.declared.act.Act.{Act}
use Rattle.dg_base.specs.declared.program.Term.{Term}
use Rattle.dg_emit.specs.inside.Left.{those}
use Rattle.dg_emit.proofs.Nodes.{worded}
use Rattle.dg_emit.proofs.terms.Writer.put_words.Goals as goal

pub loop-term-preserved : goal.loop-term-preserved
loop-term-preserved c =
    let l = c.loop-term in
    let ts = c.args.terms.now in
    let x = c.term-item.result in
    let others = drop (l.term-index + 1) ts in
    let first = drop_more ts l.term-index x c.loop-term-test.true ∙ ap (λ (y : Bor Term). y ∷ others) (sym c.term-item.is) in
    let wrote = c.in_ok-push.ensures.ok ∙ ap (λ (a : Act). l.acts ++ a ∷ []) c.word.ensures in
    let w = worded c.args.self.now.program.now l.variable l.offset c.in_ok-offset.field-0 l.acts c.push.new.self (those (drop l.term-index ts)) (those others) x.now
    (ap those first) c.in_ok-offset.ensures wrote l.invariant.1 l.invariant.2 l.invariant.3 in
    (w.acts_are ∙ l.invariant.0, w.room, w.few, w.nodes)
