use Rattle.std.proofs.Common.{List, [], ◌∷◌, refl, sym, subst}
use Rattle.std.specs.Prelude.{if◌then◌else◌}
use Rattle.dg_base.specs.declared.run.Limits.{Limits}
use Rattle.dg_interp.specs.inside.Engine.{StartsOn}
use Rattle.dg_interp.specs.inside.Seeking.{Each, IsSought, heap_limit_in}
use Rattle.dg_interp.proofs.Asked.{search_came}
use Rattle.dg_interp.proofs.asking.search.Goals as goal

pub seek-requires-clause-ready : goal.seek-requires-clause-ready
seek-requires-clause-ready c = (c.new-engine.ensures.starts (if c.args.value then 1 else 0) (record { steps = c.args.steps; heap = c.args.heap; trail = 4294967295; aux = 0; keep = 0 }) (0 ∷ []) refl c.in-Ok-store_for.ensures c.in-Ok.ensures.starts).ready

pub seek-requires-clause-goal : goal.seek-requires-clause-goal
seek-requires-clause-goal c = (c.new-engine.ensures.starts (if c.args.value then 1 else 0) (record { steps = c.args.steps; heap = c.args.heap; trail = 4294967295; aux = 0; keep = 0 }) (0 ∷ []) refl c.in-Ok-store_for.ensures c.in-Ok.ensures.starts).goal

pub returns-in-Ok-seek : goal.returns-in-Ok-seek
returns-in-Ok-seek c =
    let limits : Limits = record { steps = c.args.steps; heap = c.args.heap; trail = 4294967295; aux = 0; keep = 0 } in
    let starts = c.new-engine.ensures.starts (if c.args.value then 1 else 0) limits (0 ∷ []) refl c.in-Ok-store_for.ensures c.in-Ok.ensures.starts in
    search_came c.args.program.now c.args.goals.now c.args.value limits c.new-engine.result starts c.in-Ok-seek.found c.into_world.result
    (subst (λ w. Each c.new-engine.result (λ g run. IsSought c.in-Ok-seek.found (heap_limit_in c.new-engine.result) w g.program run)) (sym c.into_world.ensures) c.in-Ok-seek.ensures.sought)
