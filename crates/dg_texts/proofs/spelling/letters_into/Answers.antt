use Rattle.std.proofs.Common.{rules}
use Rattle.dg_texts.proofs.SpellLemmas.{letters_begin, letters_more, letters_end, letter_inside}
use Rattle.dg_texts.proofs.spelling.letters_into.Goals as goal

pub letters-init : goal.letters-init
letters-init g c = record { text = λ spelling at. letters_begin spelling c.args.letters.now }

pub letters-preserved : goal.letters-preserved
letters-preserved g c = record {
  text = λ spelling at. letters_more spelling c.letters.letters c.keep.new.letters c.letters.at c.in-Some.letter (c.letters.invariant.text spelling at) (search rules) c.keep.ensures.kept c.keep.ensures.small;
}

pub keep-requires : goal.keep-requires
keep-requires g c = letter_inside c.requires.0 c.letters.letters c.letters.at c.in-Some.letter (c.letters.invariant.text c.requires.0 c.requires.1) (search rules) c.requires.1.short

pub returns-clause-letters : goal.returns-clause-letters
returns-clause-letters g c = λ spelling at. (letters_end spelling c.letters.letters c.letters.at (c.letters.invariant.text spelling at) (search rules)).0

pub returns-clause-small : goal.returns-clause-small
returns-clause-small g c = λ spelling at. (letters_end spelling c.letters.letters c.letters.at (c.letters.invariant.text spelling at) (search rules)).1
