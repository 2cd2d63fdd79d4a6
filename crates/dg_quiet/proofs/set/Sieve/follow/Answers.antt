use Rattle.std.proofs.Common.{◌≡◌, [], rules, subst}
use Rattle.dg_quiet.specs.inside.Spread.{rows_of, TookAllOut, IsSpread}
use Rattle.dg_quiet.proofs.SpreadLemmas.{spread_step}
use Rattle.dg_quiet.proofs.set.Sieve.follow.Goals as goal

pub loop-pred-preserved : goal.loop-pred-preserved
loop-pred-preserved c = λ preds changing s.
    let rows = rows_of c.args.askers.now in
    let old = c.loop-pred.self.set.items in
    let left = c.pop.new.self.items in
    let set = c.take_all_out.new.self.set.items in
    let more = c.take_all_out.new.self.left.items in
    let whole = subst (IsSpread preds changing rows old) c.in-Some.ensures.items (c.loop-pred.invariant preds changing s) in
    spread_step preds changing rows old left c.in-Some.pred set more whole (subst (λ ps. TookAllOut old left ps set more) c.row_at.ensures c.in_ok-take_all_out.ensures)

pub returns : goal.returns
returns c = λ preds changing s.
    let none : c.loop-pred.self.left.items ≡ [] = search rules in
    subst (IsSpread preds changing (rows_of c.args.askers.now) c.loop-pred.self.set.items) none (c.loop-pred.invariant preds changing s)
