use Rattle.std.proofs.Common.{ap, ◌∙◌, reverse}
use Rattle.dg_unify.proofs.TakingUp.{forgotten}
use Rattle.dg_arena.proofs.arena.ArenaBindings.forget.Goals as goal

pub returns-clause-waits : goal.returns-clause-waits
returns-clause-waits c = λ above base is size. ap reverse c.truncate.ensures.items ∙ forgotten c.args.self.now.waits.items above base c.args.to is size
