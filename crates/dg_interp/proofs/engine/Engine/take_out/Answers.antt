use Rattle.std.proofs.Common.{ap, ◌∙◌, refl}
use Rattle.dg_unify.proofs.StoreLemmas.{holds_some}
use Rattle.dg_choices.specs.declared.frames.Left.TheVariants.{TakeOut}
use Rattle.dg_choices.specs.declared.frames.Whole.TheVariants.{List as InList, Sum as InSum}
use Rattle.dg_interp.specs.inside.Frames.{stretch}
use Rattle.dg_interp.specs.inside.Gathering.{TakesOutAt}
use Rattle.dg_interp.specs.inside.Engine.{store_in, BeginsAt}
use Rattle.dg_interp.proofs.Branches.{tries_made, full_made}
use Rattle.dg_interp.proofs.Gathered.{nothing_full, var_among}
use Rattle.dg_interp.proofs.TakingOut.{out_ready, out_limits, out_begins}
use Rattle.dg_interp.proofs.engine.Engine.take_out.Goals as goal

pub returns-in-Err-clause-full : goal.returns-in-Err-clause-full
returns-in-Err-clause-full c = λ place.
    let old = c.args.self.now in
    nothing_full (BeginsAt (TakeOut c.args.whole c.args.into c.args.frame) place old) (store_in old.store) c.in-Err.e old.store.sound.heap_fits c.in-Err.ensures.written

pub take_list-requires-clause-ready : goal.take_list-requires-clause-ready
take_list-requires-clause-ready c =
    let old = c.args.self.now in
    out_ready old InList c.args.into c.args.frame c.requires.sound c.requires.left c.write_var.new.store c.in-Ok.into c.in-Ok.ensures.kept c.in-Ok.ensures.saved (var_among (store_in old.store) (store_in c.write_var.new.store) c.in-Ok.into old.refs.items c.stretch-env.result.now c.args.into (c.stretch-env.ensures ∙ ap (λ l. stretch l c.args.into) c.deref.ensures.value) c.in-Ok.ensures.written)

pub take_list-requires-clause-value : goal.take_list-requires-clause-value
take_list-requires-clause-value c = holds_some (store_in c.write_var.new.store) c.in-Ok.into _ c.in-Ok.ensures.written.value

pub returns-in-List-clause-tried : goal.returns-in-List-clause-tried
returns-in-List-clause-tried c = rw c.in-List.is (λ place.
    let old = c.args.self.now in
    let e = record old { store = c.write_var.new.store; here = c.args.frame } in
    let made = (var_among (store_in old.store) (store_in c.write_var.new.store) c.in-Ok.into old.refs.items c.stretch-env.result.now c.args.into (c.stretch-env.ensures ∙ ap (λ l. stretch l c.args.into) c.deref.ensures.value) c.in-Ok.ensures.written) in
    tries_made (BeginsAt (TakeOut InList c.args.into c.args.frame) place old) (TakesOutAt InList c.in-Ok.into e) old e c.take_list.new.self refl
    (out_limits old InList c.args.into c.args.frame c.requires.sound c.requires.left c.write_var.new.store c.in-Ok.into c.in-Ok.ensures.kept c.in-Ok.ensures.saved made)
    (out_begins old InList c.args.into c.args.frame c.requires.sound c.requires.left c.write_var.new.store c.in-Ok.into c.in-Ok.ensures.kept c.in-Ok.ensures.saved made place) c.take_list.result c.take_list.ensures.tried)

pub returns-in-List-clause-full : goal.returns-in-List-clause-full
returns-in-List-clause-full c = rw c.in-List.is (λ place.
    let old = c.args.self.now in
    let e = record old { store = c.write_var.new.store; here = c.args.frame } in
    let made = (var_among (store_in old.store) (store_in c.write_var.new.store) c.in-Ok.into old.refs.items c.stretch-env.result.now c.args.into (c.stretch-env.ensures ∙ ap (λ l. stretch l c.args.into) c.deref.ensures.value) c.in-Ok.ensures.written) in
    full_made (BeginsAt (TakeOut InList c.args.into c.args.frame) place old) (TakesOutAt InList c.in-Ok.into e) (store_in old.store) (store_in c.write_var.new.store) c.take_list.result c.in-Ok.ensures.kept.heap_limit c.in-Ok.ensures.kept.trail_limit
    (out_begins old InList c.args.into c.args.frame c.requires.sound c.requires.left c.write_var.new.store c.in-Ok.into c.in-Ok.ensures.kept c.in-Ok.ensures.saved made place) c.take_list.ensures.full)

pub returns-in-List-clause-fewer : goal.returns-in-List-clause-fewer
returns-in-List-clause-fewer c = c.take_list.ensures.fewer

pub take_sum-requires-clause-ready : goal.take_sum-requires-clause-ready
take_sum-requires-clause-ready c =
    let old = c.args.self.now in
    out_ready old InSum c.args.into c.args.frame c.requires.sound c.requires.left c.write_var.new.store c.in-Ok.into c.in-Ok.ensures.kept c.in-Ok.ensures.saved (var_among (store_in old.store) (store_in c.write_var.new.store) c.in-Ok.into old.refs.items c.stretch-env.result.now c.args.into (c.stretch-env.ensures ∙ ap (λ l. stretch l c.args.into) c.deref.ensures.value) c.in-Ok.ensures.written)

pub take_sum-requires-clause-value : goal.take_sum-requires-clause-value
take_sum-requires-clause-value c = holds_some (store_in c.write_var.new.store) c.in-Ok.into _ c.in-Ok.ensures.written.value

pub returns-in-Sum-clause-tried : goal.returns-in-Sum-clause-tried
returns-in-Sum-clause-tried c = rw c.in-Sum.is (λ place.
    let old = c.args.self.now in
    let e = record old { store = c.write_var.new.store; here = c.args.frame } in
    let made = (var_among (store_in old.store) (store_in c.write_var.new.store) c.in-Ok.into old.refs.items c.stretch-env.result.now c.args.into (c.stretch-env.ensures ∙ ap (λ l. stretch l c.args.into) c.deref.ensures.value) c.in-Ok.ensures.written) in
    tries_made (BeginsAt (TakeOut InSum c.args.into c.args.frame) place old) (TakesOutAt InSum c.in-Ok.into e) old e c.take_sum.new.self refl
    (out_limits old InSum c.args.into c.args.frame c.requires.sound c.requires.left c.write_var.new.store c.in-Ok.into c.in-Ok.ensures.kept c.in-Ok.ensures.saved made)
    (out_begins old InSum c.args.into c.args.frame c.requires.sound c.requires.left c.write_var.new.store c.in-Ok.into c.in-Ok.ensures.kept c.in-Ok.ensures.saved made place) c.take_sum.result c.take_sum.ensures.tried)

pub returns-in-Sum-clause-full : goal.returns-in-Sum-clause-full
returns-in-Sum-clause-full c = rw c.in-Sum.is (λ place.
    let old = c.args.self.now in
    let e = record old { store = c.write_var.new.store; here = c.args.frame } in
    let made = (var_among (store_in old.store) (store_in c.write_var.new.store) c.in-Ok.into old.refs.items c.stretch-env.result.now c.args.into (c.stretch-env.ensures ∙ ap (λ l. stretch l c.args.into) c.deref.ensures.value) c.in-Ok.ensures.written) in
    full_made (BeginsAt (TakeOut InSum c.args.into c.args.frame) place old) (TakesOutAt InSum c.in-Ok.into e) (store_in old.store) (store_in c.write_var.new.store) c.take_sum.result c.in-Ok.ensures.kept.heap_limit c.in-Ok.ensures.kept.trail_limit
    (out_begins old InSum c.args.into c.args.frame c.requires.sound c.requires.left c.write_var.new.store c.in-Ok.into c.in-Ok.ensures.kept c.in-Ok.ensures.saved made place) c.take_sum.ensures.full)

pub returns-in-Sum-clause-fewer : goal.returns-in-Sum-clause-fewer
returns-in-Sum-clause-fewer c = c.take_sum.ensures.fewer
