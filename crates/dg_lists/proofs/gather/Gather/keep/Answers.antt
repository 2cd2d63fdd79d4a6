use Rattle.std.proofs.Common.{◌≡◌, ◌<◌, ◌++◌, ◌∙◌, ap, arith, rules, length, length-append, take}
use Rattle.std.specs.Prelude.{reverse}
use Rattle.std.proofs.lemmas.List.{length-take-le}
use Rattle.dg_meaning.specs.ValueCells.{cells_of}
use Rattle.dg_lists.specs.Gathered.{Gathered, gathered_size, added, cut, is_stacked}
use Rattle.dg_lists.specs.Writing.{value_at}
use Rattle.dg_lists.proofs.Stacks.{length-rows, size_of_rows, size_added, adds}
use Rattle.dg_lists.proofs.gather.Gather.keep.Goals as goal

pub returns-in_default-clause-full : goal.returns-in_default-clause-full
returns-in_default-clause-full g c =
    let some : 0 < length c.self.inside.starts.items = search rules in
    let rows = ap (λ (x : Gathered). length x.rows) c.self.view_is in
    let aux = ap (λ (x : Gathered). x.aux) c.self.view_is in
    omega (
      arith,
      some,
      rows,
      aux,
      length-rows c.self.inside.starts.items c.self.inside.cells.items,
      c.in_default.ensures.written,
      c.in_default.ensures.length,
      c.self.invariant.4,
      size_added (cells_of (value_at (g.B.Bindings.meaning c.args.store.now) c.args.value)) c.args.self.now.rows (omega (arith, some, rows, length-rows c.self.inside.starts.items c.self.inside.cells.items)),
    )

pub unwrap-requires : goal.unwrap-requires
unwrap-requires g c =
    let size = ap (λ (x : Gathered). gathered_size x.rows) c.self.view_is in
    let aux = ap (λ (x : Gathered). x.aux) c.self.view_is in
    let count = length-take-le c.in-Some.count c.write_into.new.row.items c.in-Some.ensures.written.0 in
    let more : length (take c.in-Some.count c.deref.result.now) ≡ c.in-Some.count = ap (λ l. length (take c.in-Some.count l)) c.deref.ensures.value ∙ count in
    c.extend_from_slice.ensures.succeeds (omega (arith, size, aux, more, c.self.inside.cells.ok.0, c.room.ensures, c.if-count-room.false, c.self.invariant.2, size_of_rows c.self.inside.starts.items c.self.inside.cells.items c.self.invariant.0))

pub invariant_of-self-3 : goal.invariant_of-self-3
invariant_of-self-3 g c =
    let starts = c.self.inside.starts.items in
    let cells = c.self.inside.cells.items in
    let v = cells_of (value_at (g.B.Bindings.meaning c.args.store.now) c.args.value) in
    let wrote = ap (take c.in-Some.count) c.deref.ensures.value ∙ c.in-Some.ensures.written.1 in
    let more : c.extend_from_slice.new.self.items ≡ cells ++ take c.in-Some.count c.deref.result.now = search rules in
    let whole = more ∙ ap (λ l. cells ++ l) wrote in
    let nonempty : 0 < length starts = search rules in
    let some : 0 < length (cut (reverse starts) cells) = omega (arith, nonempty, length-rows starts cells) in
    let grown = adds (reverse starts) cells v c.self.invariant.0 some in
    let stacked = ap (λ l. is_stacked (reverse starts) l) whole ∙ grown.stacked in
    let size = ap (λ (x : Gathered). gathered_size x.rows) c.self.view_is in
    let aux = ap (λ (x : Gathered). x.aux) c.self.view_is in
    let count = length-take-le c.in-Some.count c.write_into.new.row.items c.in-Some.ensures.written.0 in (
      stacked,
      omega (arith, size, aux, count, ap length c.in-Some.ensures.written.1, c.room.ensures, c.if-count-room.false, ap length whole, length-append cells v, size_of_rows starts cells c.self.invariant.0, size_of_rows starts c.extend_from_slice.new.self.items stacked),
      omega (arith, c.extend_from_slice.ensures.capacity, c.self.invariant.2),
      c.self.invariant.3,
      c.in-Some.ensures.length ∙ c.self.invariant.4,
    )

pub returns-clause-ok : goal.returns-clause-ok
returns-clause-ok g c =
    let starts = c.self.inside.starts.items in
    let cells = c.self.inside.cells.items in
    let v = cells_of (value_at (g.B.Bindings.meaning c.args.store.now) c.args.value) in
    let wrote = ap (take c.in-Some.count) c.deref.ensures.value ∙ c.in-Some.ensures.written.1 in
    let more : c.extend_from_slice.new.self.items ≡ cells ++ take c.in-Some.count c.deref.result.now = search rules in
    let whole = more ∙ ap (λ l. cells ++ l) wrote in
    let nonempty : 0 < length starts = search rules in
    let some : 0 < length (cut (reverse starts) cells) = omega (arith, nonempty, length-rows starts cells) in
    let grown = adds (reverse starts) cells v c.self.invariant.0 some in
    ap (λ l. record { rows = l; aux = c.self.inside.aux }) (ap (λ l. cut (reverse starts) l) whole ∙ grown.rows) ∙ ap (λ (x : Gathered). record x { rows = added v x.rows }) c.self.view_is

pub returns-clause-fits : goal.returns-clause-fits
returns-clause-fits g c =
    let starts = c.self.inside.starts.items in
    let cells = c.self.inside.cells.items in
    let v = cells_of (value_at (g.B.Bindings.meaning c.args.store.now) c.args.value) in
    let nonempty : 0 < length starts = search rules in
    let rows = ap (λ (x : Gathered). length x.rows) c.self.view_is in
    let some : 0 < length c.args.self.now.rows = omega (arith, nonempty, rows, length-rows starts cells) in
    let size = ap (λ (x : Gathered). gathered_size x.rows) c.self.view_is in
    let aux = ap (λ (x : Gathered). x.aux) c.self.view_is in
    let count = length-take-le c.in-Some.count c.write_into.new.row.items c.in-Some.ensures.written.0 in
    omega (arith, size, aux, count, ap length c.in-Some.ensures.written.1, c.room.ensures, c.if-count-room.false, size_added v c.args.self.now.rows some)
