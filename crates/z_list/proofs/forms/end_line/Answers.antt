use Rattle.z_list.proofs.FormLemmas.{match_map, end_no_tail, end_read}
use Rattle.z_list.proofs.forms.end_line.Goals as goal

pub returns : goal.returns
returns c =
    let mid = c.in_ok-behind_numbered.field-0.now in
    match_map c.behind.result _ _ _ _
    (λ none. end_no_tail c.args.at c.args.text.now mid c.in_ok-behind_numbered.ensures none)
    (λ x e. end_read c.args.at c.args.text.now mid x.now c.in_ok-behind_numbered.ensures e)
    c.behind.ensures
