use Rattle.std.proofs.Common.{ℕ, List, ◌++◌, ◌∙◌, Some, sym, ap}
use Rattle.z_list.specs.Texts.{end_of}
use Rattle.z_list.proofs.FormLemmas.{match_map, op_tail_is}
use Rattle.z_list.proofs.forms.behind_op.Goals as goal

pub returns-in_ok-extend_from_slice-in-Ok : goal.returns-in_ok-extend_from_slice-in-Ok
returns-in_ok-extend_from_slice-in-Ok c =
    let one = ap end_of (sym c.decode.ensures.op ∙ c.in-Ok.is) ∙ ap (λ (n : ℕ). Some n) c.if-found-bytes.true in
    let tail = op_tail_is c.args.bytes.now c.in-Ok.found (sym c.decode.ensures.op ∙ c.in-Ok.is) c.in_ok-tail-in-Ok.tail.items c.push_found.new.text.items c.extend_from_slice.new.self.items
    c.in_ok-tail-in-Ok.ensures.items c.in_ok-push_found-in-Ok.ensures c.in_ok-extend_from_slice-in-Ok.ensures.items in
    let is = c.as_slice.ensures.value ∙ tail in
    match_map c.behind.result _ _ _ _
    (λ none first there rest e. none rest (e ∙ ap (λ (t : List ℕ). t ++ rest) (sym is)))
    (λ x e. record { one = one; there = c.if-bytes-left.true; is = e ∙ ap (λ (t : List ℕ). t ++ x.now) is })
    c.behind.ensures
