use Rattle.std.proofs.Common.{◌≡◌, ◌∷◌, ◌++◌, [], ℕ, List, length, map, ◌∙◌, ap, arith}
use Rattle.std.proofs.lemmas.List.{map-append, length-map}
use Rattle.dg_scopes.specs.Closures.{Layout}
use Rattle.dg_scopes.specs.inside.Scanning as spec
use Rattle.dg_scopes.specs.inside.View.{layout_view, open_view, stack_of}
use Rattle.dg_scopes.specs.declared.layouts.Open.{Open}
use Rattle.dg_scopes.proofs.StackLemmas.{stack_push, scan_same}
use Rattle.dg_scopes.proofs.scanning.note_opened.Goals as goal

pub returns : goal.returns
returns c =
    let old = c.args.scan.now in
    let rows = old.layouts.items in
    let at : c.len-at.result ≡ length (map layout_view rows) = omega (arith, c.len-at.ensures, length-map rows layout_view) in
    let around : ℕ → List ℕ → spec.Open = λ k ps. record { entries = (open_view old.inner).entries; places = ps; at = k } in
    scan_same _ _ _ _ _ _
    (ap open_view c.replace-outer.ensures.after ∙ c.opened.ensures ∙ ap spec.opened at)
    (ap stack_of c.in_ok-push-3.ensures.items
    ∙ stack_push old.outer.items c.replace-outer.result
    ∙ ap (λ (o : Open). open_view o ∷ stack_of old.outer.items) c.replace-outer.ensures.value
    ∙ ap (λ (ps : List ℕ). around old.inner.at ps ∷ stack_of old.outer.items) (c.in_ok-push-2.ensures.items ∙ ap (λ (k : ℕ). old.inner.places.items ++ k ∷ []) at))
    (ap (map layout_view) c.in_ok-push.ensures.items
    ∙ map-append layout_view rows (c.blank.result ∷ [])
    ∙ ap (λ (l : Layout). map layout_view rows ++ l ∷ []) c.blank.ensures)
