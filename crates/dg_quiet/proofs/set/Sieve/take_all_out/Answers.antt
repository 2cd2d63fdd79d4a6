use Rattle.std.proofs.Common.{sym, subst}
use Rattle.std.proofs.lemmas.List.{take_more, take_all}
use Rattle.dg_quiet.specs.inside.Spread.{TookAllOut}
use Rattle.dg_quiet.proofs.SpreadLemmas.{one_more}
use Rattle.dg_quiet.proofs.set.Sieve.take_all_out.Goals as goal

pub loop-pred-preserved : goal.loop-pred-preserved
loop-pred-preserved c =
    subst (λ ps. TookAllOut c.args.self.now.set.items c.args.self.now.left.items ps c.take_out.new.self.set.items c.take_out.new.self.left.items)
    (sym (take_more c.args.preds.now c.loop-pred.pred-index 0 c.loop-pred-test.true))
    (one_more _ _ _ _ _ _ _ _ c.loop-pred.invariant c.in_ok-take_out.ensures)

pub returns : goal.returns
returns c =
    subst (λ ps. TookAllOut c.args.self.now.set.items c.args.self.now.left.items ps c.loop-pred.self.set.items c.loop-pred.self.left.items)
    (take_all c.loop-pred.pred-index c.args.preds.now c.loop-pred-test.false) c.loop-pred.invariant
