use Rattle.dg_emit.proofs.Halving.{shrinks_one, single}
use Rattle.dg_emit.proofs.code.CodeWriter.put_part.Goals as goal

pub returns-in_ok-push-in-len1 : goal.returns-in_ok-push-in-len1
returns-in_ok-push-in-len1 c =
    shrinks_one c.args.self.now.numbers.now c.args.part _ c.in_ok-entering-in-len1.field-0 c.args.all.now c.push.new.self c.args.left.now (single c.args.part.bodies.now _ c.in-len1.len_at_least c.in-len1.len_below) c.in_ok-entering-in-len1.ensures c.in_ok-push-in-len1.ensures.ok
