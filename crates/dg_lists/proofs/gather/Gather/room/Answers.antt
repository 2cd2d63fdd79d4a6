use Rattle.std.proofs.Common.{ap, arith}
use Rattle.dg_lists.specs.Gathered.{Gathered, gathered_size}
use Rattle.dg_lists.proofs.Stacks.{size_of_rows}
use Rattle.dg_lists.proofs.gather.Gather.room.Goals as goal

pub overflow_sub-result : goal.overflow_sub-result
overflow_sub-result c =
    omega (arith, c.len.ensures, c.self.inside.starts.ok.0, c.self.invariant.1, size_of_rows c.self.inside.starts.items c.self.inside.cells.items c.self.invariant.0)

pub overflow_sub-result-2 : goal.overflow_sub-result-2
overflow_sub-result-2 c =
    omega (arith, c.len.ensures, c.len-2.ensures, c.self.inside.starts.ok.0, c.self.inside.cells.ok.0, c.self.invariant.1, size_of_rows c.self.inside.starts.items c.self.inside.cells.items c.self.invariant.0)

pub returns : goal.returns
returns c =
    let size = ap (λ (g : Gathered). gathered_size g.rows) c.self.view_is in
    let aux = ap (λ (g : Gathered). g.aux) c.self.view_is in
    omega (arith, size, aux, c.len.ensures, c.len-2.ensures, c.self.inside.starts.ok.0, c.self.inside.cells.ok.0, c.self.invariant.1, size_of_rows c.self.inside.starts.items c.self.inside.cells.items c.self.invariant.0)
