use Rattle.std.proofs.Common.{◌≡◌, sym, ap, ◌∙◌, subst}
use Rattle.std.specs.Prelude.{encode_utf8_all, option_map, IfSome}
use Rattle.dg_meaning.specs.Values.{leaf}
use Rattle.dg_meaning.specs.Words.{letters_in_word}
use Rattle.dg_unify.specs.Store.{Shows, label_of}
use Rattle.dg_words.specs.Letters.{AreSmall}
use Rattle.dg_texts.proofs.spelling.spelling_of.Goals as goal

pub returns-in-Simple-clause-spelled : goal.returns-in-Simple-clause-spelled
returns-in-Simple-clause-spelled g c = λ w shows.
    let is : w ≡ leaf (label_of c.in-Simple.simple) = subst (λ v. Shows (g.B.Bindings.meaning c.args.store.now) w v) c.in-Simple.is shows in
    c.simple_spelling.ensures.spelled ∙ ap (λ x. option_map encode_utf8_all (letters_in_word c.args.words.now x)) (sym is)

pub returns-in-Simple-clause-small : goal.returns-in-Simple-clause-small
returns-in-Simple-clause-small g c = λ w shows.
    let is : w ≡ leaf (label_of c.in-Simple.simple) = subst (λ v. Shows (g.B.Bindings.meaning c.args.store.now) w v) c.in-Simple.is shows in
    subst (λ x. IfSome (letters_in_word c.args.words.now x) AreSmall) (sym is) c.simple_spelling.ensures.small
