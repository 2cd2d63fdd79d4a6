use Rattle.std.proofs.Common.{ℕ, List, ◌∷◌, ◌++◌, ◌∙◌, sym, ap, decimal}
use Rattle.std.proofs.lemmas.List.{append_cancel_left}
use Rattle.z_list.proofs.fronts.number.Goals as goal

pub returns-clause-complete : goal.returns-clause-complete
returns-clause-complete c = λ n d more le no_digit e.
    let value = c.value_of-value.ensures n d more le no_digit e in
    let same = c.as_bytes.ensures.value ∙ (c.format.ensures.text ∙ ap decimal value) in
    (value, append_cancel_left (decimal n) c.in_ok-behind.field-0.now (d ∷ more) (sym (c.in_ok-behind.ensures ∙ ap (λ (t : List ℕ). t ++ c.in_ok-behind.field-0.now) same) ∙ e))
