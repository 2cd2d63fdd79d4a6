use Rattle.std.proofs.Common.{Some, sym, ap, ◌∙◌}
use Rattle.dg_machine.proofs.TermLemmas.{var_value}
use Rattle.dg_machine.proofs.terms.plain_value.Goals as goal

pub returns-in-Var-clause-value : goal.returns-in-Var-clause-value
returns-in-Var-clause-value c p vs at = c.var_value.ensures.value vs at ∙ ap Some (sym (var_value p vs c.args.term.now c.in-Var.var c.in-Var.is))

pub constant_value-requires : goal.constant_value-requires
constant_value-requires c = record { plain = c.requires.plain; other = c.in_default.not-Var }

pub returns-in_default-clause-value : goal.returns-in_default-clause-value
returns-in_default-clause-value c p vs at = c.constant_value.ensures.value p vs
