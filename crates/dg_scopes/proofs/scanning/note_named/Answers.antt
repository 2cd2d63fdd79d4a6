use Rattle.std.proofs.Common.{◌<◌, List, length, map, ap, arith}
use Rattle.std.proofs.lemmas.Grind.{common_steps}
use Rattle.dg_scopes.specs.Scopes.{Entry}
use Rattle.dg_scopes.specs.inside.View.{layout_view, open_view, stack_of}
use Rattle.dg_scopes.proofs.StackLemmas.{parameter_noted, same_if}
use Rattle.dg_scopes.proofs.scanning.note_named.Goals as goal

pub returns-else-ne : goal.returns-else-ne
returns-else-ne c =
    let old = c.args.scan.now in
    let apart = c.if-is_empty.false in
    let counted = c.is_empty.ensures in
    let some : 0 < length old.outer.items = grind (arith, common_steps, apart, counted) in
    let e = open_view old.inner in
    ap (λ (es : List Entry). record { inner = record e { entries = es }; outer = stack_of old.outer.items; layouts = map layout_view old.layouts.items })
    (parameter_noted old.outer.items c.args.name.now e.entries some (same_if _ _ c.if-ne.false c.ne.ensures))
