use Rattle.std.proofs.Common.{ap, ◌∙◌}
use Rattle.dg_unify.proofs.StoreLemmas.{holds_some}
use Rattle.dg_interp.specs.inside.Frames.{stretch}
use Rattle.dg_interp.specs.inside.Gathering.{KeepsAt}
use Rattle.dg_interp.specs.inside.Engine.{store_in}
use Rattle.dg_interp.proofs.Runs.{lack_from}
use Rattle.dg_interp.proofs.Gathered.{nothing_full, var_among, keep_full, value_kept}
use Rattle.dg_interp.proofs.engine.Engine.keep_value.Goals as goal

pub returns-in-Err-clause-lacks : goal.returns-in-Err-clause-lacks
returns-in-Err-clause-lacks c =
    let old = c.args.self.now in
    rw c.lacking.ensures (lack_from (KeepsAt old) old c.in-Err.full (nothing_full (KeepsAt old) (store_in old.store) c.in-Err.full old.store.sound.heap_fits c.in-Err.ensures.written))

pub gather-requires : goal.gather-requires
gather-requires c = holds_some (store_in c.write_var.new.store) c.in-Ok.value _ c.in-Ok.ensures.written.value

pub returns-in-Ok-gather-clause-kept : goal.returns-in-Ok-gather-clause-kept
returns-in-Ok-gather-clause-kept c =
    let old = c.args.self.now in
    let made = var_among (store_in old.store) (store_in c.write_var.new.store) c.in-Ok.value old.refs.items c.stretch-env.result.now old.here.env (c.stretch-env.ensures ∙ ap (λ l. stretch l old.here.env) c.deref.ensures.value) c.in-Ok.ensures.written in
    value_kept old c.requires.ready c.write_var.new.store c.in-Ok.value c.in-Ok.ensures.kept c.in-Ok.ensures.saved made c.gather.new.store c.gather.new.self c.gather.ensures.same c.gather.ensures.saved c.in-Ok-gather.ensures.gathered

pub returns-in-Err-gather-clause-lacks : goal.returns-in-Err-gather-clause-lacks
returns-in-Err-gather-clause-lacks c =
    let old = c.args.self.now in
    let made = var_among (store_in old.store) (store_in c.write_var.new.store) c.in-Ok.value old.refs.items c.stretch-env.result.now old.here.env (c.stretch-env.ensures ∙ ap (λ l. stretch l old.here.env) c.deref.ensures.value) c.in-Ok.ensures.written in
    keep_full old c.requires.ready c.write_var.new.store c.in-Ok.value c.in-Ok.ensures.kept c.in-Ok.ensures.saved made c.in-Err-gather.ensures.full
