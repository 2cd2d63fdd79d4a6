use Rattle.std.proofs.Common.{refl}
use Rattle.dg_mid.specs.State.{Goes, Runs}
use Rattle.dg_mid.specs.Step.{inside}
use Rattle.dg_machine.specs.declared.now.Now.TheVariants.{Runs as RunsNow}
use Rattle.dg_machine.proofs.Leads.{charged_stands, full_stands}
use Rattle.dg_machine.proofs.memory.Memory.branch.Goals as goal

pub returns-in-Ok : goal.returns-in-Ok
returns-in-Ok c t code g is_of l m o b at h =
    let on = Goes c.args.alt in
    let held = c.in-Ok.ensures.held code l m on h refl in
    charged_stands code g l 10 m (inside on 0 m) (Runs (inside on 0 m)) c.open.new.self (RunsNow c.args.rest) held refl (at, held)

pub returns-in-Err : goal.returns-in-Err
returns-in-Err c t code g is_of l m o b at h =
    let on = Goes c.args.alt in
    full_stands code g l 10 m (Runs (inside on 0 m)) c.args.self.now c.open.new.self h (c.in-Err.ensures.held code l m on h refl)
