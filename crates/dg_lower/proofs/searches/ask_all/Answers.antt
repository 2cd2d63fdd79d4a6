use Rattle.std.proofs.Common.{Some, None, ◌∙◌, subst}
use Rattle.dg_lower.specs.inside.Adding.{Adds}
use Rattle.dg_lower.proofs.AddLemmas.{one, next_added, next_stops}
use Rattle.dg_lower.proofs.searches.ask_all.Goals as goal

pub returns-in-Some-clause-starts : goal.returns-in-Some-clause-starts
returns-in-Some-clause-starts c =
    let p = c.args.program.now in
    let o = c.loop-object.object in
    let stopped = subst (λ f. Adds (one p c.args.kind c.args.pred o) c.loop-object.starts f c.ask.new.starts) c.in-Some.is c.in_ok-fault.ensures.starts in
    c.loop-object.invariant.starts (Some c.in-Some.fault) c.ask.new.starts
    (next_stops p c.args.kind c.args.pred o c.args.count c.loop-object.starts c.ask.new.starts c.in-Some.fault c.loop-object-test.true stopped)

pub loop-object-preserved : goal.loop-object-preserved
loop-object-preserved c =
    let p = c.args.program.now in
    let o = c.loop-object.object in
    let one_more = subst (λ f. Adds (one p c.args.kind c.args.pred o) c.loop-object.starts f c.ask.new.starts) c.in_default.is c.in_ok-fault.ensures.starts in
    record {
      asker = c.ask.ensures.same ∙ c.loop-object.invariant.asker;
      starts = λ fault new h. c.loop-object.invariant.starts fault new
          (next_added p c.args.kind c.args.pred o c.args.count c.loop-object.starts c.ask.new.starts new fault c.loop-object-test.true one_more h);
    }
