use Rattle.dg_meaning.specs.Words.{letters_in_word}
use Rattle.dg_texts.proofs.SpellLemmas.{some_seen}
use Rattle.dg_texts.proofs.spelling.join_word.Goals as goal

pub add-requires : goal.add-requires
add-requires g c =
    let seen = some_seen (letters_in_word c.args.words.now c.requires.shown.0) c.in-Some.spelling.now (c.in-Some.ensures.spelled c.requires.shown.0 c.requires.shown.1) in
    record { letters = seen.letters; is = seen.spelled }
