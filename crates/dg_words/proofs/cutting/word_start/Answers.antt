use Rattle.std.proofs.Common.{◌-◌, ◌∷◌, ◌∙◌, sym, subst, arith}
use Rattle.std.specs.Prelude.{slice_index}
use Rattle.dg_words.specs.Cutting.{between}
use Rattle.dg_words.proofs.CutLemmas.{ArePlain, between_more, alone_words, word_behind, word_first}
use Rattle.dg_words.proofs.cutting.word_start.Goals as goal

pub returns-then-is_alone : goal.returns-then-is_alone
returns-then-is_alone c =
    let some = c.requires.some in
    record {
      order = omega (arith, some);
      words = alone_words c.args.line.now c.args.to some c.requires.within c.requires.no_space (sym c.is_alone.ensures ∙ c.if-is_alone.true);
    }

pub letters-preserved : goal.letters-preserved
letters-preserved c =
    let order = c.letters.invariant.order in
    let line = c.args.line.now in
    let plain : ArePlain (slice_index line (c.letters.from - 1) ∷ between line c.letters.from c.args.to) = (sym c.separates.ensures ∙ c.if-not-separates.true, c.letters.invariant.plain) in
    record {
      order = omega (arith, order);
      plain = subst ArePlain (sym (between_more line c.letters.from c.args.to c.letters-test.true (omega (arith, order)) c.requires.within)) plain;
    }

pub returns-else-not-separates : goal.returns-else-not-separates
returns-else-not-separates c =
    let order = c.letters.invariant.order in
    record {
      order = order;
      words = word_behind c.args.line.now c.letters.from c.args.to order c.requires.within c.letters-test.true (sym c.separates.ensures ∙ c.if-not-separates.false) c.letters.invariant.plain;
    }

pub returns-after-letters : goal.returns-after-letters
returns-after-letters c =
    let order = c.letters.invariant.order in
    let none = c.letters-test.false in
    record {
      order = order;
      words = word_first c.args.line.now c.letters.from c.args.to order c.requires.within (omega (arith, none)) c.letters.invariant.plain;
    }
