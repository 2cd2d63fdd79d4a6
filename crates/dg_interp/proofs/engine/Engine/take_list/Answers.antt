use Rattle.std.proofs.Common.{◌-◌, subst, arith, refl}
use Rattle.dg_choices.specs.declared.frames.Whole.TheVariants.{List as InList}
use Rattle.dg_lasting.specs.Lasting.{Closes}
use Rattle.dg_interp.specs.inside.Giving.{UnifiesAt}
use Rattle.dg_interp.specs.inside.Gathering.{TakesOutAt}
use Rattle.dg_interp.specs.inside.Engine.{store_in}
use Rattle.dg_unify.proofs.StoreLemmas.{kept_holds}
use Rattle.dg_interp.proofs.Branches.{tries_made, full_made}
use Rattle.dg_interp.proofs.TakingOut.{none_wrong, some_first, list_full, list_ready, list_limits, list_taken}
use Rattle.dg_interp.proofs.engine.Engine.take_list.Goals as goal

pub returns-in_default-clause-tried : goal.returns-in_default-clause-tried
returns-in_default-clause-tried c = none_wrong InList c.args.into c.args.self.now c.requires.ready c.in_default.ensures

pub returns-in-Err-clause-full : goal.returns-in-Err-clause-full
returns-in-Err-clause-full c =
    list_full c.args.into c.args.self.now c.requires.ready c.requires.value c.in-Some.cells.now c.in-Some.ensures c.list_of.new.store c.list_of.ensures.kept c.list_of.ensures.saved c.in-Err.e c.in-Err.ensures.copied

pub overflow_sub-lasting : goal.overflow_sub-lasting
overflow_sub-lasting c = let some = some_first c.args.self.now.lasting.gathered.rows c.in-Some.cells.now c.in-Some.ensures in omega (arith, some, c.gatherings-lasting.ensures)

pub meet-requires-clause-ready : goal.meet-requires-clause-ready
meet-requires-clause-ready c =
    let old = c.args.self.now in
    list_ready c.args.into old c.requires.ready c.requires.value c.in-Some.cells.now c.in-Some.ensures c.list_of.new.store c.list_of.ensures.kept c.list_of.ensures.saved c.list_of.new.row c.close_to.new.self c.in-Ok.list
    (subst (λ n. Closes (n - 1) old.lasting c.close_to.new.self) c.gatherings-lasting.ensures c.close_to.ensures) c.in-Ok.ensures.copied

pub meet-requires-clause-hold : goal.meet-requires-clause-hold
meet-requires-clause-hold c = (kept_holds (store_in c.args.self.now.store) (store_in c.list_of.new.store) c.args.into c.list_of.ensures.kept c.requires.value, c.in-Ok.ensures.holds)

pub returns-in-Ok-clause-tried : goal.returns-in-Ok-clause-tried
returns-in-Ok-clause-tried c =
    let old = c.args.self.now in
    let e = record old { store = c.list_of.new.store; made = c.list_of.new.row; lasting = c.close_to.new.self } in
    let closed = subst (λ n. Closes (n - 1) old.lasting c.close_to.new.self) c.gatherings-lasting.ensures c.close_to.ensures in
    tries_made (TakesOutAt InList c.args.into old) (UnifiesAt c.args.into c.in-Ok.list e) old e c.meet.new.self refl
    (list_limits c.args.into old c.requires.ready c.requires.value c.in-Some.cells.now c.in-Some.ensures c.list_of.new.store c.list_of.ensures.kept c.list_of.ensures.saved c.list_of.new.row c.close_to.new.self c.in-Ok.list closed c.in-Ok.ensures.copied)
    (list_taken c.args.into old c.requires.ready c.requires.value c.in-Some.cells.now c.in-Some.ensures c.list_of.new.store c.list_of.ensures.kept c.list_of.ensures.saved c.list_of.new.row c.close_to.new.self c.in-Ok.list closed c.in-Ok.ensures.copied)
    c.meet.result c.meet.ensures.met

pub returns-in-Ok-clause-full : goal.returns-in-Ok-clause-full
returns-in-Ok-clause-full c =
    let old = c.args.self.now in
    let e = record old { store = c.list_of.new.store; made = c.list_of.new.row; lasting = c.close_to.new.self } in
    let closed = subst (λ n. Closes (n - 1) old.lasting c.close_to.new.self) c.gatherings-lasting.ensures c.close_to.ensures in
    full_made (TakesOutAt InList c.args.into old) (UnifiesAt c.args.into c.in-Ok.list e) (store_in old.store) (store_in c.list_of.new.store) c.meet.result c.list_of.ensures.kept.heap_limit c.list_of.ensures.kept.trail_limit
    (list_taken c.args.into old c.requires.ready c.requires.value c.in-Some.cells.now c.in-Some.ensures c.list_of.new.store c.list_of.ensures.kept c.list_of.ensures.saved c.list_of.new.row c.close_to.new.self c.in-Ok.list closed c.in-Ok.ensures.copied)
    c.meet.ensures.full

pub returns-in-Ok-clause-fewer : goal.returns-in-Ok-clause-fewer
returns-in-Ok-clause-fewer c = c.meet.ensures.fewer
