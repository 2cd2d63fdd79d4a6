use Rattle.std.proofs.Common.{Some, sym, ap, ◌∙◌, subst}
use Rattle.std.specs.Prelude.{encode_utf8_all, option_map, IfSome}
use Rattle.dg_meaning.specs.Values.{leaf}
use Rattle.dg_meaning.specs.Words.{letters_in_word}
use Rattle.dg_unify.specs.Store.{label_of}
use Rattle.dg_words.specs.Letters.{AreSmall}
use Rattle.dg_texts.proofs.SpellLemmas.{number_letters, word_letters}
use Rattle.dg_texts.proofs.spelling.simple_spelling.Goals as goal

pub returns-in-Num-clause-spelled : goal.returns-in-Num-clause-spelled
returns-in-Num-clause-spelled c =
    ap Some (c.spell_number-len.ensures.digits ∙ sym (number_letters c.in-Num.n c.spell_number-len.ensures.small).is) ∙ ap (λ x. option_map encode_utf8_all (letters_in_word c.args.words.now (leaf (label_of x)))) (sym c.in-Num.is)

pub returns-in-Num-clause-small : goal.returns-in-Num-clause-small
returns-in-Num-clause-small c = subst (λ x. IfSome (letters_in_word c.args.words.now (leaf (label_of x))) AreSmall) (sym c.in-Num.is) (number_letters c.in-Num.n c.spell_number-len.ensures.small).small

pub returns-in-Word-clause-spelled : goal.returns-in-Word-clause-spelled
returns-in-Word-clause-spelled c =
    ap Some (c.name_at.ensures ∙ sym (word_letters c.args.words.now c.requires.words c.in-Word.n).is) ∙ ap (λ x. option_map encode_utf8_all (letters_in_word c.args.words.now (leaf (label_of x)))) (sym c.in-Word.is)

pub returns-in-Word-clause-small : goal.returns-in-Word-clause-small
returns-in-Word-clause-small c = subst (λ x. IfSome (letters_in_word c.args.words.now (leaf (label_of x))) AreSmall) (sym c.in-Word.is) (word_letters c.args.words.now c.requires.words c.in-Word.n).small
