use Rattle.std.proofs.Common.{sym}
use Rattle.dg_unify.specs.Listed.{fields_of}
use Rattle.dg_unify.proofs.FenceLemmas.{top_constant}
use Rattle.dg_unify.proofs.list.ListBindings.top_of.Goals as goal

pub returns-then-is_constant : goal.returns-then-is_constant
returns-then-is_constant c = top_constant (fields_of c.args.self.now) c.args.self.now.sound c.args.at c.requires (sym c.if-is_constant.ensures)
