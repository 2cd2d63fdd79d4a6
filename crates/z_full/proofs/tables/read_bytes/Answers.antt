use Rattle.std.proofs.Common.{◌+◌, ◌-◌, ◌%◌, length, take, sym, ◌∙◌, arith}
use Rattle.z_full.proofs.Steps.{bytes_failed, bytes_later, front_more, whole_front}
use Rattle.z_full.proofs.tables.read_bytes.Goals as goal

pub returns-in-Err : goal.returns-in-Err
returns-in-Err g c = c.loop-place.invariant ∙ bytes_failed (g.B.Bytes.memory c.args.mem.now) (take c.loop-place.place-index c.loop-place.into) c.loop-place.at (length c.loop-place.into - c.loop-place.place-index) c.in-Err.fault (omega (arith, c.loop-place-test.true)) (sym c.in-Err.ensures)

pub loop-place-preserved : goal.loop-place-preserved
loop-place-preserved g c =
    c.loop-place.invariant
    ∙ bytes_later (g.B.Bytes.memory c.args.mem.now) (take c.loop-place.place-index c.loop-place.into) c.loop-place.at (length c.loop-place.into - c.loop-place.place-index) c.in-Ok.byte (omega (arith, c.loop-place-test.true)) (sym c.in-Ok.ensures)
    ∙ front_more (g.B.Bytes.memory c.args.mem.now) c.loop-place.into c.loop-place.place-index c.in-Ok.byte ((c.loop-place.at + 1) % 65536) (omega (arith, c.loop-place-test.true))

pub returns : goal.returns
returns g c = c.loop-place.invariant ∙ whole_front (g.B.Bytes.memory c.args.mem.now) c.loop-place.into c.loop-place.place-index c.loop-place.at (omega (arith, c.loop-place-test.false))
