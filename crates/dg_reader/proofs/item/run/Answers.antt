use Rattle.std.proofs.Common.{Result, Vec, Global, subst, sym, ◌∙◌}
use Rattle.dg_open.specs.declared.frames.Frame.{Frame}
use Rattle.dg_reader.specs.declared.item.ShapeFault.{ShapeFault}
use Rattle.dg_open.specs.inside.Views.{stack_view}
use Rattle.dg_reader.specs.inside.Items.{OnUnexpected, StopsAt}
use Rattle.dg_reader.proofs.Laws.{run_more}
use Rattle.dg_reader.proofs.item.run.Goals as goal

pub loop-index-preserved : goal.loop-index-preserved
loop-index-preserved c = run_more c.args.tokens.now c.loop-index.index _ (stack_view c.loop-index.stack.items) c.loop-index-test.true c.loop-index.invariant ∙ c.in-Ok.ensures

pub returns-in-Err-Unexpected-clause-unexpected : goal.returns-in-Err-Unexpected-clause-unexpected
returns-in-Err-Unexpected-clause-unexpected c =
    let stops = rw c.in-Err-Unexpected.field-0-is at c.in-Err-Unexpected.ensures in
    subst (λ (r : Result (Vec Frame Global) ShapeFault). OnUnexpected r (λ index. StopsAt c.args.tokens.now index)) (sym c.stopped.ensures)
    (record {
      within = c.loop-index-test.true;
      before = stack_view c.loop-index.stack.items;
      taken = c.loop-index.invariant;
      stops = run_more c.args.tokens.now c.loop-index.index _ (stack_view c.loop-index.stack.items) c.loop-index-test.true c.loop-index.invariant ∙ stops;
    })
