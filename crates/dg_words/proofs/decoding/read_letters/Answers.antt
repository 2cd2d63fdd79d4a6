use Rattle.std.proofs.Common.{◌≡◌, ◌∙◌, ℕ, List, ◌-◌, ◌<◌, arith, refl, drop, take, length, length-drop}
use Rattle.std.proofs.lemmas.List.{take_all}
use Rattle.std.proofs.Math.ListN.{length-set}
use Rattle.dg_words.proofs.Decoded.{decodes_more, decodes_end, decodes_full}
use Rattle.dg_words.proofs.decoding.read_letters.Goals as goal

whole : (at : ℕ) (xs : List ℕ) → take (length xs - at) (drop at xs) ≡ drop at xs
whole at xs = take_all (length xs - at) (drop at xs) (omega (arith, length-drop at xs))

pub letters-preserved : goal.letters-preserved
letters-preserved c =
    let some : 0 < length (drop c.letters.at c.args.spelling.now) = omega (arith, length-drop c.letters.at c.args.spelling.now, c.letters-test.true) in
    let room : c.letters.kept < length c.letters.letters = omega (arith, c.letters.invariant.kept, c.if-kept-letters.false) in
    record {
      kept = omega (arith, length-set c.letters.letters c.letters.kept c.first_letter-letter.result.0, room);
      at = omega (arith, c.first_letter-letter.ensures.short, c.letters-test.true);
      decodes = λ cs is small. decodes_more cs c.args.spelling.now c.letters.letters c.letters.kept c.letters.at c.first_letter-letter.result.0 c.first_letter-letter.result.1 (c.letters.invariant.decodes cs is small) some room
          (λ x behind is' le. c.first_letter-letter.ensures.letter x behind (whole c.letters.at c.args.spelling.now ∙ is') le) (λ x behind is' le. c.first_letter-letter.ensures.size x behind (whole c.letters.at c.args.spelling.now ∙ is') le) _ refl (length-set c.letters.letters c.letters.kept c.first_letter-letter.result.0);
    }

pub returns-then-kept-letters-clause-letters : goal.returns-then-kept-letters-clause-letters
returns-then-kept-letters-clause-letters c = λ cs is small. decodes_full cs c.args.spelling.now c.letters.letters c.letters.kept c.letters.at (c.letters.invariant.decodes cs is small) c.if-kept-letters.true

pub returns-clause-letters : goal.returns-clause-letters
returns-clause-letters c = λ cs is small. decodes_end cs c.args.spelling.now c.letters.letters c.letters.kept c.letters.at (c.letters.invariant.decodes cs is small) c.letters-test.false
