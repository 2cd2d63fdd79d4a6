use Rattle.std.proofs.Common.{◌≡◌, suc, ◌+◌, [], ◌∷◌, ◌++◌, sym, ap, ◌∙◌, arith}
use Rattle.std.specs.Prelude.{replicate}
use Rattle.dg_interp.specs.inside.Engine.{with_all}
use Rattle.dg_watch.specs.declared.watch.CallEvent.TheVariants.{Retried}
use Rattle.dg_interp.proofs.Telling.{all_more}
use Rattle.dg_interp.proofs.engine.telling.tell_retries.Goals as goal

pub rules-preserved : goal.rules-preserved
rules-preserved c =
    let one : c.rules.done + 1 ≡ suc c.rules.done = omega arith in
    record {
      within = omega (arith, c.rules-test.true);
      told = c.in_default.ensures.items ∙ ap (λ l. l ++ Retried c.args.pred ∷ []) c.rules.invariant.told
          ∙ sym (ap (λ i. with_all c.args.told.now.items (replicate i (Retried c.args.pred))) one ∙ all_more c.args.told.now.items (Retried c.args.pred) c.rules.done);
    }

pub returns : goal.returns
returns c =
    let all : c.rules.done ≡ c.args.count = omega (arith, c.rules.invariant.within, c.rules-test.false) in
    c.rules.invariant.told ∙ ap (λ i. with_all c.args.told.now.items (replicate i (Retried c.args.pred))) all
