use Rattle.std.proofs.Common.{◌∙◌, sym, arith, Some, None}
use Rattle.dg_words.proofs.ClassLemmas.{place_below, is_a_number, is_a_word}
use Rattle.dg_words.proofs.classes.classify.Goals as goal

pub returns-in-Some : goal.returns-in-Some
returns-in-Some c = λ letters is. is_a_number c.args.words.now c.args.spelling.now letters c.in-Some.number is (sym c.in-Some.is ∙ c.number_of.ensures)

pub overflow_cast-result : goal.overflow_cast-result
overflow_cast-result c =
    let below = place_below 0 c.args.words.now c.args.spelling.now c.in-Some-place_of.place (sym c.place_of.ensures ∙ c.in-Some-place_of.is) in
    omega (arith, below, c.requires)

pub returns-in-Some-place_of : goal.returns-in-Some-place_of
returns-in-Some-place_of c = λ letters is. is_a_word c.args.words.now c.args.spelling.now letters (Some c.in-Some-place_of.place) is (sym c.in_default.is ∙ c.number_of.ensures) (sym c.in-Some-place_of.is ∙ c.place_of.ensures)

pub returns-in-None : goal.returns-in-None
returns-in-None c = λ letters is. is_a_word c.args.words.now c.args.spelling.now letters None is (sym c.in_default.is ∙ c.number_of.ensures) (sym c.in-None.is ∙ c.place_of.ensures)
