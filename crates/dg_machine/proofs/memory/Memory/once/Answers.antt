use Rattle.std.proofs.Common.{refl}
use Rattle.dg_mid.specs.State.{Runs, place_of}
use Rattle.dg_mid.specs.Step.{more, passed, within}
use Rattle.dg_machine.specs.declared.now.Now.TheVariants.{Runs as RunsNow}
use Rattle.dg_machine.proofs.Leads.{charged_stands, full_stands, height_now, few_took}
use Rattle.dg_machine.proofs.memory.Memory.once.Goals as goal

pub begin-requires-clause-few : goal.begin-requires-clause-few
begin-requires-clause-few c = few_took c.args.self.now c.charge.new.self c.requires.room c.in-Ok.ensures.took

pub begin-requires-clause-room : goal.begin-requires-clause-room
begin-requires-clause-room c = c.in-Ok.ensures.took.room

pub returns-in-Ok : goal.returns-in-Ok
returns-in-Ok c t code g is_of l m o b at h =
    let taken = c.in-Ok.ensures.held code l m h in
    let held = c.begin.ensures.held code l (more 10 (passed m)) (place_of m) taken (height_now code l m c.args.self.now c.heap-height.result h c.heap-height.ensures) refl tt in
    charged_stands code g l 10 m (within (place_of m) (more 10 (passed m))) (Runs (within (place_of m) (more 10 (passed m)))) c.begin.new.self (RunsNow c.args.rest) held refl (at, held)

pub returns-in-Err : goal.returns-in-Err
returns-in-Err c t code g is_of l m o b at h =
    full_stands code g l 10 m (Runs (within (place_of m) (more 10 (passed m)))) c.args.self.now c.charge.new.self h (c.in-Err.ensures.held code l m h)
