use Rattle.std.proofs.Common.{rules, arith, false}
use Rattle.dg_arena.specs.Held.{fields_of}
use Rattle.dg_unify.proofs.Reading.{captured_none, captured_place, captured_some, not_closure}
use Rattle.dg_arena.proofs.arena.ArenaBindings.captured.Goals as goal

pub returns-then-at-count : goal.returns-then-at-count
returns-then-at-count c = λ place parts h. captured_none (fields_of c.args.self.now) c.args.self.now.sound false c.args.closure place parts h c.index.result.now c.index.ensures c.in-Closure.field-0 c.in-Closure.count c.in-Closure.is c.args.at (omega arith)

pub captured_at-requires : goal.captured_at-requires
captured_at-requires c = omega (arith, captured_place (fields_of c.args.self.now) c.args.self.now.sound false c.args.closure c.requires.0 c.requires.1 c.requires.2 c.index.result.now c.index.ensures c.in-Closure.field-0 c.in-Closure.count c.in-Closure.is c.args.at (omega arith), c.deref.ensures.len)

pub returns-else-at-count : goal.returns-else-at-count
returns-else-at-count c = λ place parts h. captured_some (fields_of c.args.self.now) c.args.self.now.sound false c.args.closure place parts h c.index.result.now c.index.ensures c.in-Closure.field-0 c.in-Closure.count c.in-Closure.is c.args.at (omega arith) c.captured_at.result (search rules)

pub returns-in_default : goal.returns-in_default
returns-in_default c = λ place parts h. absurd (not_closure (fields_of c.args.self.now) c.args.self.now.sound false c.args.closure place parts h c.index.result.now c.index.ensures c.in_default.not-Closure)
