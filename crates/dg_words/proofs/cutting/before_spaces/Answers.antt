use Rattle.std.proofs.Common.{ap, arith}
use Rattle.std.specs.Prelude.{eqb}
use Rattle.dg_words.proofs.CutLemmas.{skips_one}
use Rattle.dg_words.proofs.cutting.before_spaces.Goals as goal

pub spaces-preserved : goal.spaces-preserved
spaces-preserved c =
    let order = c.spaces.invariant.order in
    let some = c.spaces-test.true in
    record {
      order = omega (arith, order);
      same = skips_one c.args.line.now c.args.end c.spaces.to (omega (arith, some)) (omega (arith, order, c.requires)) c.spaces.invariant.same (ap (λ x. eqb x 32) c.if-line-to-eq32.true);
    }
