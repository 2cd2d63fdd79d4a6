use Rattle.std.proofs.Common.{ap, arith}
use Rattle.dg_lists.specs.Gathered.{Gathered, gathered_size}
use Rattle.dg_lists.proofs.Stacks.{size_of_rows}
use Rattle.dg_lists.proofs.gather.Gather.open.Goals as goal

pub push_reserved-requires : goal.push_reserved-requires
push_reserved-requires c =
    let size = ap (λ (g : Gathered). gathered_size g.rows) c.self.view_is in
    let aux = ap (λ (g : Gathered). g.aux) c.self.view_is in
    omega (arith, size, aux, c.self.inside.starts.ok.0, c.room.ensures, c.if-room-lt2.false, c.self.invariant.3, size_of_rows c.self.inside.starts.items c.self.inside.cells.items c.self.invariant.0)
