use Rattle.std.proofs.Common.{ap, ◌∙◌, ◌++◌, ◌∷◌, []}
use Rattle.dg_base.specs.declared.program.Term.{out-Term}
use Rattle.dg_meaning.specs.ValueCells.{cells_of}
use Rattle.dg_meaning.specs.Facts.{start_value}
use Rattle.dg_world.specs.Starts.{top_cell}
use Rattle.dg_world.proofs.StartLemmas.{written_on, fewer_left}
use Rattle.dg_world.proofs.start.write_term.Goals as goal

pub left-preserved : goal.left-preserved
left-preserved c =
    written_on c.left.cells.items c.push-in-Some.new.self.items (cells_of (start_value c.args.term.now)) (top_cell (out-Term c.in-Some.next.now)) c.left.left.items c.pop.new.self.items c.put_parts.new.left.items c.in-Some.next
    c.in-Some.ensures.items (c.in_ok-push-2.ensures.items ∙ ap (λ y. c.left.cells.items ++ y ∷ []) c.cell_of.ensures) c.in_ok-put_parts.ensures c.left.invariant

pub left-smaller : goal.left-smaller
left-smaller c = fewer_left (top_cell (out-Term c.in-Some.next.now)) c.left.left.items c.pop.new.self.items c.put_parts.new.left.items c.in-Some.next c.in-Some.ensures.items c.in_ok-put_parts.ensures
