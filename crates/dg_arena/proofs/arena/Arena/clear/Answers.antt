use Rattle.std.proofs.Common.{[]}
use Rattle.dg_arena.specs.Held.{fields_of}
use Rattle.dg_arena.proofs.Clearing.{emptied, stands_empty}
use Rattle.dg_arena.proofs.arena.Arena.clear.Goals as goal

pub undo-requires : goal.undo-requires
undo-requires c = (emptied (fields_of c.args.self.now), [], stands_empty c.args.self.now)

pub returns : goal.returns
returns c =
    let back = c.undo.ensures.back (emptied (fields_of c.args.self.now)) [] (stands_empty c.args.self.now) in
    record { state = back.state; heap_limit = back.kept.heap_limit; trail_limit = back.kept.trail_limit }
