use Rattle.std.proofs.Common.{ℕ, ◌∙◌, List, map, sym, ap, subst}
use Rattle.z_asm.specs.Layout.{code_size, spans_from}
use Rattle.z_asm.specs.Assembled.{ArePlaces}
use Rattle.z_asm.proofs.Spans.{are_places}
use Rattle.z_asm.proofs.assembling.places.Goals as goal

pub returns-clause-places : goal.returns-clause-places
returns-clause-places c =
    let image = c.args.image.now in
    let plan = c.in_ok-plan.ensures.ok in
    let same = c.in_ok-places.ensures ∙ ap (λ (n : ℕ). spans_from n (map code_size image.routines)) plan.routines_are in
    subst (λ (l : List (ℕ × ℕ)). ArePlaces image l) (sym same) (are_places image c.requires plan.readable plan.near)
