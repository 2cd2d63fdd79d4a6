use Rattle.std.proofs.Common.{refl}
use Rattle.dg_emit.proofs.Halving.{shrinks_more}
use Rattle.dg_emit.proofs.code.CodeWriter.put_fork.Goals as goal

pub returns : goal.returns
returns c =
    let ns = c.args.self.now.numbers.now in
    shrinks_more ns c.args.part _ c.split_at.result.0 c.split_at.result.1 c.in_ok-fork.field-0 c.args.all.now c.push.new.self c.args.left.now c.push-2.new.self c.push-3.new.self c.requires.some refl c.split_at.ensures.front c.split_at.ensures.back c.requires.fits
    c.in_ok-fork.ensures c.in_ok-push.ensures.ok c.in_ok-push-2.ensures.ok c.in_ok-push-3.ensures.ok
