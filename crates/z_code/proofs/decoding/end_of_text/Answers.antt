use Rattle.std.proofs.Common.{◌∙◌, sym, arith}
use Rattle.z_code.proofs.Texts.{last_word, more_words}
use Rattle.z_code.proofs.decoding.end_of_text.Goals as goal

pub returns-then-high-ge128-clause-end : goal.returns-then-high-ge128-clause-end
returns-then-high-ge128-clause-end c = sym (last_word c.args.bytes.now c.loop-at.at (omega arith) (omega arith)) ∙ c.loop-at.invariant.same

pub loop-at-preserved : goal.loop-at-preserved
loop-at-preserved c = record {
  from_start = omega arith;
  within = omega arith;
  same = more_words c.args.bytes.now c.loop-at.at (omega arith) (omega arith) ∙ c.loop-at.invariant.same;
}
