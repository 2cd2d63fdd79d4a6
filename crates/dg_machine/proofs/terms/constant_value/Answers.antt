use Rattle.std.proofs.Common.{Some, sym, ap, ◌∙◌}
use Rattle.dg_machine.proofs.TermLemmas.{nil_left, num_value, word_value, object_value, nil_value}
use Rattle.dg_machine.proofs.terms.constant_value.Goals as goal

pub returns-in-Num-clause-value : goal.returns-in-Num-clause-value
returns-in-Num-clause-value c p vs = c.simple_value.ensures.value ∙ ap Some (sym (num_value p vs c.args.term.now c.in-Num.n c.in-Num.is))

pub returns-in-Word-clause-value : goal.returns-in-Word-clause-value
returns-in-Word-clause-value c p vs = c.simple_value-in-Word.ensures.value ∙ ap Some (sym (word_value p vs c.args.term.now c.in-Word.n c.in-Word.is))

pub returns-in-Object-clause-value : goal.returns-in-Object-clause-value
returns-in-Object-clause-value c p vs = c.simple_value-in-Object.ensures.value ∙ ap Some (sym (object_value p vs c.args.term.now c.in-Object.n c.in-Object.is))

pub returns-in_default-clause-value : goal.returns-in_default-clause-value
returns-in_default-clause-value c p vs =
    let is = nil_left c.args.term.now c.requires.plain c.in_default.not-Num c.in_default.not-Word c.in_default.not-Object c.requires.other in
    c.simple_value-in_default.ensures.value ∙ ap Some (sym (nil_value p vs c.args.term.now is))
