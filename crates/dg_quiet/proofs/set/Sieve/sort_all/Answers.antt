use Rattle.std.proofs.Common.{◌≡◌, Some, refl, sym, ap, ◌∙◌, subst, arith, slice_get, length}
use Rattle.std.proofs.lemmas.Option.{slice_get_read}
use Rattle.dg_base.specs.declared.program.Pred.{Pred}
use Rattle.dg_meaning.specs.Sets.{is_in_set}
use Rattle.dg_quiet.specs.inside.Spread.{rows_of, IsSorted}
use Rattle.dg_quiet.proofs.set.Sieve.sort_all.Goals as goal

pub loop-number-preserved : goal.loop-number-preserved
loop-number-preserved c = λ s.
    let preds = c.args.preds.now in
    let pred = c.index-preds-number.result in
    let at : slice_get preds c.loop-number.number ≡ Some pred = slice_get_read preds (length preds) c.loop-number.number pred refl c.loop-number-test.true c.index-preds-number.is in
    let ruled = sym (c.as_slice-rules.ensures ∙ ap (λ (p : Pred). p.rules) (sym c.index-preds-number.is)) in
    c.in_ok-sort.ensures preds (is_in_set c.args.changing.now) pred at ruled (sym c.is_in.ensures) (c.loop-number.invariant s)

pub returns : goal.returns
returns c = λ s.
    let end : c.loop-number.number ≡ length c.args.preds.now = omega (arith, c.loop-number-test.false, c.loop-number.auto.number-end) in
    let rows = rows_of c.loop-number.askers.items in
    subst (IsSorted c.args.preds.now (is_in_set c.args.changing.now) rows c.loop-number.self.set.items c.loop-number.self.left.items) end (c.loop-number.invariant s)
