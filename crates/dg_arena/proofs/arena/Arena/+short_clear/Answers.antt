use Rattle.std.proofs.Common.{refl}
use Rattle.dg_arena.specs.Held.{fields_of}
use Rattle.dg_arena.proofs.Joining.{end_absent, pair_absent}
use Rattle.dg_arena.proofs.arena.Arena.+short_clear.Goals as goal

pub pairs-init : goal.pairs-init
pairs-init t c =
    let ends = c.end_of-end.ensures in
    record { told = ends.told; end = ends.end_is; absent = end_absent (fields_of c.args.self.now) c.args.self.now.sound c.args.at c.end_of-end.result ends c.args.number }

pub pairs-preserved : goal.pairs-preserved
pairs-preserved t c =
    let s = c.args.self.now in
    let f = fields_of s in
    let ends = c.end_of-end-in-pairs.ensures in
    let shows = c.in-Some.ensures in
    record {
      told = ends.told;
      end = ends.end_is;
      absent = λ h.
          c.pairs.invariant.absent (pair_absent f c.pairs.end c.in-Some.parts.0 c.in-Some.parts.1 c.args.number shows (c.if-not-short_clear.ensures refl)
          (end_absent f s.sound c.in-Some.parts.1 c.end_of-end-in-pairs.result ends c.args.number h));
    }
