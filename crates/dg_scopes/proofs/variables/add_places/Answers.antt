use Rattle.std.proofs.Common.{◌<◌, ◌≤◌, ◌∙◌, List, length, sym, ap, arith}
use Rattle.dg_scopes.specs.Scopes.{place_of}
use Rattle.dg_scopes.specs.State.{scope_view}
use Rattle.dg_scopes.specs.declared.variables.Entry.{Entry}
use Rattle.dg_scopes.proofs.NoteLemmas.{put_at, put_behind}
use Rattle.dg_scopes.proofs.variables.add_places.Goals as goal

pub returns-in_ok-scope : goal.returns-in_ok-scope
returns-in_ok-scope c =
    let items = c.args.scope.now.items in
    let at = c.place_of-at.result in
    let len = c.len.ensures in
    let inside = c.if-at-len.true in
    let lt : at < length items = omega arith in
    put_at items c.index_mut.result.now c.index.result.now c.args.name.now c.args.places c.in_ok-scope.field-0 at
    c.in_ok-scope.ensures
    (sym (c.place_of-at.ensures ∙ ap (λ (es : List Entry). place_of (scope_view es) c.args.name.now) c.as_slice.ensures.value))
    lt c.index_mut.ensures.value c.index.ensures

pub returns-in_ok-put : goal.returns-in_ok-put
returns-in_ok-put c =
    let items = c.args.scope.now.items in
    let le : length items ≤ c.place_of-at.result = omega (arith, c.len.ensures) in
    ap scope_view c.in_ok-put.ensures
    ∙ put_behind items (record { name = c.args.name; places = c.args.places }) c.place_of-at.result
    (c.place_of-at.ensures ∙ ap (λ (es : List Entry). place_of (scope_view es) c.args.name.now) c.as_slice.ensures.value) le
