use Rattle.std.proofs.Common.{◌+◌, ◌≤◌, map, refl, sym, ap, arith, length}
use Rattle.std.proofs.lemmas.Bool.{le-leb}
use Rattle.std.proofs.lemmas.List.{take_all}
use Rattle.std.proofs.lemmas.Option.{slice_get_read}
use Rattle.dg_world.specs.Lists.{joined}
use Rattle.dg_world.specs.Starts.{starting_cells}
use Rattle.dg_world.proofs.StartedLemmas.{next_joined, kept_at_start, front_kept, over_size}
use Rattle.dg_world.proofs.world.World.starts_within.Goals as goal

pub returns-then-len-room : goal.returns-then-len-room
returns-then-len-room c =
    let i = c.loop-place.place-index in
    let here = slice_get_read c.args.places.now _ i c.place-item.result refl c.loop-place-test.true c.place-item.is in
    let front = front_kept c.args.places.now c.args.objects (i + 1) c.requires.starts in
    over_size _ c.args.keep (omega (arith, front, next_joined c.args.places.now i c.place-item.result here, c.loop-place.invariant, c.if-len-room.true, ap length c.in_ok-cells.ensures))

pub loop-place-preserved : goal.loop-place-preserved
loop-place-preserved c =
    let i = c.loop-place.place-index in
    let here = slice_get_read c.args.places.now _ i c.place-item.result refl c.loop-place-test.true c.place-item.is in
    omega (arith, next_joined c.args.places.now i c.place-item.result here, c.loop-place.invariant, c.if-len-room.false, ap length c.in_ok-cells.ensures)

pub returns : goal.returns
returns c =
    let places = c.args.places.now in
    let done : length places ≤ c.loop-place.place-index = omega arith in
    let all = ap (λ l. length (joined (map starting_cells l))) (take_all c.loop-place.place-index places done) in
    sym (le-leb _ c.args.keep (omega (arith, all, kept_at_start places c.args.objects c.requires.starts, c.loop-place.invariant)))
