use Rattle.std.proofs.Common.{◌∙◌, decimal}
use Rattle.z_list.proofs.FormLemmas.{match_map, behind_none, behind_some}
use Rattle.z_list.proofs.fronts.behind_numbered.Goals as goal

pub returns : goal.returns
returns c =
    let same = c.as_bytes.ensures.value ∙ c.format.ensures.text in
    match_map c.behind-2.result _ _ _ _
    (λ none. behind_none c.args.text.now c.args.word.now (decimal c.args.number) c.as_bytes.result.now c.in_ok-behind.field-0.now c.in_ok-behind.ensures same none)
    (λ x e. behind_some c.args.text.now c.args.word.now (decimal c.args.number) c.as_bytes.result.now c.in_ok-behind.field-0.now x.now c.in_ok-behind.ensures same e)
    c.behind-2.ensures
