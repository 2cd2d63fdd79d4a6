use Rattle.std.proofs.Common.{◌≡◌, [], ◌∷◌, sym, ap, subst, ◌∙◌}
use Rattle.dg_base.specs.declared.cells.Cell.TheVariants as cell
use Rattle.dg_unify.specs.Store.{Shows}
use Rattle.dg_lists.specs.Writing.{top_cells, Puts}
use Rattle.dg_lists.proofs.WriteLemmas.{counts_same}
use Rattle.dg_lists.proofs.writing.put_label.Goals as goal

pub returns-in-Closure : goal.returns-in-Closure
returns-in-Closure g c = λ w shows.
    let s = g.B.Bindings.meaning c.args.store.now in
    let here = subst (Shows s w) c.in-Closure.is shows in
    let count = c.captured_by.ensures c.in-Closure.place here.parts here.at ∙ sym (counts_same here.parts) in
    let cells : top_cells w ≡ cell.Closure c.in-Closure.place c.captured_by.result ∷ [] = ap top_cells here.is ∙ ap (λ n. cell.Closure c.in-Closure.place n ∷ []) (sym count) in
    subst (λ l. Puts l c.args.row.now c.args.filled c.put-in-Closure.new.row c.put-in-Closure.result) (sym cells) c.put-in-Closure.ensures
