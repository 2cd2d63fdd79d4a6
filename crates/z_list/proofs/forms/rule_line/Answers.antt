use Rattle.z_list.proofs.FormLemmas.{match_map, none_is, rule_no_space, rule_no_tail, rule_read}
use Rattle.z_list.proofs.forms.rule_line.Goals as goal

pub returns-in_err-behind : goal.returns-in_err-behind
returns-in_err-behind c = none_is c.from_residual-in_err-behind.result _ _ c.from_residual-in_err-behind.ensures
    (rule_no_space c.args.at c.args.text.now c.in_ok-behind_numbered.field-0.now c.in_ok-behind_numbered.ensures c.in_err-behind.ensures)

pub returns : goal.returns
returns c =
    let mid = c.in_ok-behind_numbered.field-0.now in
    let names = c.in_ok-behind.field-0.now in
    match_map c.behind_rule.result _ _ _ _
    (λ none. rule_no_tail c.args.at c.args.text.now mid names c.in_ok-behind_numbered.ensures c.in_ok-behind.ensures none)
    (λ x e. rule_read c.args.at c.args.text.now mid names x.now c.in_ok-behind_numbered.ensures c.in_ok-behind.ensures e)
    c.behind_rule.ensures
