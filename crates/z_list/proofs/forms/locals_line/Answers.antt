use Rattle.z_list.proofs.FormLemmas.{none_is, locals_no_byte, locals_no_end}
use Rattle.z_list.proofs.forms.locals_line.Goals as goal

pub returns-in_err-byte : goal.returns-in_err-byte
returns-in_err-byte c = none_is c.from_residual-in_err-byte.result _ _ c.from_residual-in_err-byte.ensures
    (locals_no_byte c.args.at c.args.text.now c.in_ok-behind_numbered.field-0.now c.in_ok-behind_numbered.ensures c.in_err-byte.ensures)

pub returns-in_err-behind : goal.returns-in_err-behind
returns-in_err-behind c = none_is c.from_residual-in_err-behind.result _ _ c.from_residual-in_err-behind.ensures
    (locals_no_end c.args.at c.args.text.now c.in_ok-behind_numbered.field-0.now c.in_ok-byte.byte c.in_ok-byte.rest.now c.in_ok-behind_numbered.ensures c.in_ok-byte.ensures c.in_err-behind.ensures)
