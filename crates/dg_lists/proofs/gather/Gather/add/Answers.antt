use Rattle.std.proofs.Common.{◌≡◌, ◌<◌, ◌++◌, ◌∙◌, sym, ap, subst, arith, rules, length, length-append}
use Rattle.std.specs.Prelude.{reverse}
use Rattle.dg_lists.specs.Gathered.{Gathered, gathered_size, added}
use Rattle.dg_lists.proofs.Stacks.{size_of_rows, adds}
use Rattle.dg_lists.proofs.gather.Gather.add.Goals as goal

pub unwrap-requires : goal.unwrap-requires
unwrap-requires c =
    let size = ap (λ (g : Gathered). gathered_size g.rows) c.self.view_is in
    let aux = ap (λ (g : Gathered). g.aux) c.self.view_is in
    c.extend_from_slice.ensures.succeeds (omega (arith, size, aux, c.self.inside.cells.ok.0, c.room.ensures, c.if-cells-room.false, c.self.invariant.2, size_of_rows c.self.inside.starts.items c.self.inside.cells.items c.self.invariant.0))

pub invariant_of-self : goal.invariant_of-self
invariant_of-self c =
    let starts = c.self.inside.starts.items in
    let cells = c.self.inside.cells.items in
    let more : c.extend_from_slice.new.self.items ≡ cells ++ c.args.cells.now = search rules in
    let some = subst (λ (g : Gathered). 0 < length g.rows) (sym c.self.view_is) c.requires in
    let grown = adds (reverse starts) cells c.args.cells.now c.self.invariant.0 some in
    let stacked = ap (λ l. Rattle.dg_lists.specs.Gathered.is_stacked (reverse starts) l) more ∙ grown.stacked in
    let size = ap (λ (g : Gathered). gathered_size g.rows) c.self.view_is in
    let aux = ap (λ (g : Gathered). g.aux) c.self.view_is in (
      stacked,
      omega (arith, size, aux, c.room.ensures, c.if-cells-room.false, ap length more, length-append cells c.args.cells.now, size_of_rows starts cells c.self.invariant.0, size_of_rows starts c.extend_from_slice.new.self.items stacked),
      omega (arith, c.extend_from_slice.ensures.capacity, c.self.invariant.2),
      c.self.invariant.3,
      c.self.invariant.4,
    )

pub returns-clause-ok : goal.returns-clause-ok
returns-clause-ok c =
    let starts = c.self.inside.starts.items in
    let cells = c.self.inside.cells.items in
    let more : c.extend_from_slice.new.self.items ≡ cells ++ c.args.cells.now = search rules in
    let some = subst (λ (g : Gathered). 0 < length g.rows) (sym c.self.view_is) c.requires in
    let grown = adds (reverse starts) cells c.args.cells.now c.self.invariant.0 some in
    ap (λ l. record { rows = l; aux = c.self.inside.aux }) (ap (λ l. Rattle.dg_lists.specs.Gathered.cut (reverse starts) l) more ∙ grown.rows) ∙ ap (λ (g : Gathered). record g { rows = added c.args.cells.now g.rows }) c.self.view_is
