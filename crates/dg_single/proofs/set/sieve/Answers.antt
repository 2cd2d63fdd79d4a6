use Rattle.std.proofs.Common.{◌≡◌, ◌+◌, ap, sym, ◌∙◌, subst, arith, Bool, true, false, ◌||◌}
use Rattle.dg_base.specs.declared.program.Pred.{Pred}
use Rattle.dg_single.proofs.SetLemmas.{Sieving, sieving_step}
use Rattle.dg_single.proofs.set.sieve.Goals as goal
use Rattle.dg_single.proofs.set.sieve.Goals.{then-out, else-out}

taken : (a b : Bool) → a ≡ true → (a || b) ≡ true
taken a b h = ap (λ x. x || b) h

left : (a b : Bool) → a ≡ false → (a || b) ≡ b
left a b h = ap (λ x. x || b) h

pub loop-at-preserved : goal.loop-at-preserved
loop-at-preserved c =
    let pred = c.index-preds-at.result in
    let rules = c.as_slice.ensures ∙ ap (λ (p : Pred). p.rules) (sym c.index-preds-at.is) in
    let out = c.in_ok-out.out in
    let step = sieving_step c.args.preds.now c.args.set.now.items c.loop-at.set.items c.sift.new.set.items c.loop-at.at c.loop-at.changed out pred c.as_slice.result.now (omega arith) c.index-preds-at.is rules c.loop-at.invariant c.in_ok-out.ensures in
    let is : (out || c.loop-at.changed) ≡ c.if-out.changed = elim c.if-out.branch [ then-out w ↦ taken out c.loop-at.changed w.if-out.true ∙ sym w.if-out.true ∙ sym w.changed-is | else-out w ↦ left out c.loop-at.changed w.if-out.false ∙ sym w.changed-is ] in
    subst (λ b. Sieving c.args.preds.now c.args.set.now.items c.sift.new.set.items (c.loop-at.at + 1) b) is step
