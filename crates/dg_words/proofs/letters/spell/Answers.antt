use Rattle.std.proofs.Common.{◌∙◌, ◌++◌, ap, arith, get_or}
use Rattle.std.proofs.Math.Utf8.{encode}
use Rattle.dg_words.proofs.LetterLemmas.{spelled_more}
use Rattle.dg_words.proofs.letters.spell.Goals as goal

pub letters-preserved : goal.letters-preserved
letters-preserved c = record {
  within = omega (arith, c.put_letter-len.ensures.within, c.letters.invariant.within);
  bytes =
      c.put_letter-len.ensures.bytes ∙ ap (λ l. l ++ encode (get_or c.args.letters.now c.letters.letter-index 0)) c.letters.invariant.bytes
      ∙ spelled_more c.args.letters.now c.letters.letter-index c.letters-test.true;
}
