use Rattle.std.proofs.Common.{refl, ◌∷◌, []}
use Rattle.dg_mid.specs.State.{Runs, place_of}
use Rattle.dg_mid.specs.Step.{within}
use Rattle.dg_machine.specs.declared.now.Way.TheVariants.{Goes as GoesTo}
use Rattle.dg_machine.specs.declared.now.Now.TheVariants.{Runs as RunsNow}
use Rattle.dg_machine.specs.Stops.{tags_of}
use Rattle.dg_machine.specs.Layout.{parted}
use Rattle.dg_machine.proofs.StopLemmas.{stop_kept}
use Rattle.dg_machine.proofs.Leads.{charged_stands, full_stands, height_now, few_more}
use Rattle.dg_machine.proofs.memory.Memory.shield.Goals as goal

pub begin_in-requires-clause-few : goal.begin_in-requires-clause-few
begin_in-requires-clause-few c = few_more (GoesTo c.args.alt) 0 c.args.self.now c.open_part.new.self c.requires.room c.in-Ok.ensures.opened

pub begin_in-requires-clause-room : goal.begin_in-requires-clause-room
begin_in-requires-clause-room c = c.in-Ok.ensures.opened.room

pub returns-in-Ok : goal.returns-in-Ok
returns-in-Ok c t code g is_of l m o b at h =
    let m' = parted c.args.alt m in
    let outer = stop_kept (tags_of m.stops) (tags_of m'.stops) c.args.self.now.stop m.stop (record { behind = m.next_tag ∷ []; is = refl }) h.0.stop_is in
    let held = c.begin_in.ensures.held code l m' (place_of m) (c.in-Ok.ensures.held code l m h) (height_now code l m c.args.self.now c.heap-height.result h c.heap-height.ensures) outer tt in
    charged_stands code g l 10 m (within (place_of m) m') (Runs (within (place_of m) m')) c.begin_in.new.self (RunsNow c.args.rest) held refl (at, held)

pub returns-in-Err : goal.returns-in-Err
returns-in-Err c t code g is_of l m o b at h =
    full_stands code g l 10 m (Runs (within (place_of m) (parted c.args.alt m))) c.args.self.now c.open_part.new.self h (c.in-Err.ensures.held code l m h)
