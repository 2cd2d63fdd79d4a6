use Rattle.std.proofs.Common.{refl}
use Rattle.dg_mid.specs.State.{Goes, Runs, place_of}
use Rattle.dg_mid.specs.Step.{inside, within}
use Rattle.dg_machine.specs.declared.now.Way.TheVariants.{Goes as GoesTo}
use Rattle.dg_machine.specs.declared.now.Now.TheVariants.{Runs as RunsNow}
use Rattle.dg_machine.proofs.Leads.{charged_stands, full_stands, height_now, few_more}
use Rattle.dg_machine.proofs.memory.Memory.attempt.Goals as goal

pub begin-requires-clause-few : goal.begin-requires-clause-few
begin-requires-clause-few c = few_more (GoesTo c.args.alt) 0 c.args.self.now c.open.new.self c.requires.room c.in-Ok.ensures.opened

pub begin-requires-clause-room : goal.begin-requires-clause-room
begin-requires-clause-room c = c.in-Ok.ensures.opened.room

pub returns-in-Ok : goal.returns-in-Ok
returns-in-Ok c t code g is_of l m o b at h =
    let on = Goes c.args.alt in
    let opened = c.in-Ok.ensures.held code l m on h refl in
    let held = c.begin.ensures.held code l (inside on 0 m) (place_of m) opened (height_now code l m c.args.self.now c.heap-height.result h c.heap-height.ensures) refl tt in
    charged_stands code g l 10 m (within (place_of m) (inside on 0 m)) (Runs (within (place_of m) (inside on 0 m))) c.begin.new.self (RunsNow c.args.rest) held refl (at, held)

pub returns-in-Err : goal.returns-in-Err
returns-in-Err c t code g is_of l m o b at h =
    let on = Goes c.args.alt in
    full_stands code g l 10 m (Runs (within (place_of m) (inside on 0 m))) c.args.self.now c.open.new.self h (c.in-Err.ensures.held code l m on h refl)
