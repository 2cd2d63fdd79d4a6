use Rattle.std.proofs.Common.{◌∙◌, sym, ap, arith, length, drop, Some, slice_get, slice_index}
use Rattle.dg_lists.specs.Gathered.{Gathered}
use Rattle.dg_lists.proofs.Stacks.{length-rows, newest}
use Rattle.dg_lists.proofs.gather.Gather.cells.Goals as goal

pub place_at-requires : goal.place_at-requires
place_at-requires c =
    let count = sym (length-rows c.self.inside.starts.items c.self.inside.cells.items) ∙ ap (λ (g : Gathered). length g.rows) c.self.view_is ∙ c.requires in
    omega (arith, count, ap length c.deref-2.ensures.value)

pub cells_from-requires : goal.cells_from-requires
cells_from-requires c =
    let count = sym (length-rows c.self.inside.starts.items c.self.inside.cells.items) ∙ ap (λ (g : Gathered). length g.rows) c.self.view_is ∙ c.requires in
    let first = newest c.self.inside.starts.items c.self.inside.cells.items c.args.mark.0 c.self.invariant.0 count in
    omega (arith, first.within, c.place_at.ensures, ap (λ l. slice_index l c.args.mark.0) c.deref-2.ensures.value, ap length c.deref.ensures.value)

pub returns : goal.returns
returns c =
    let count = sym (length-rows c.self.inside.starts.items c.self.inside.cells.items) ∙ ap (λ (g : Gathered). length g.rows) c.self.view_is ∙ c.requires in
    let first = newest c.self.inside.starts.items c.self.inside.cells.items c.args.mark.0 c.self.invariant.0 count in
    let place = c.place_at.ensures ∙ ap (λ l. slice_index l c.args.mark.0) c.deref-2.ensures.value in
    ap (λ (g : Gathered). slice_get g.rows 0) (sym c.self.view_is) ∙ first.row ∙ ap (λ n. Some (drop n c.self.inside.cells.items)) (sym place) ∙ ap Some (ap (drop c.place_at.result) (sym c.deref.ensures.value) ∙ sym c.cells_from.ensures)
