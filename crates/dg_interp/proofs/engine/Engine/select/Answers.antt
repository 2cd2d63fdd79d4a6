use Rattle.std.proofs.Common.{rules, ◌≡◌, ◌+◌, sym, subst, length}
use Rattle.dg_base.specs.declared.program.Goal.TheVariants.{Select}
use Rattle.dg_interp.specs.Runnable.{AreRunnable}
use Rattle.dg_interp.specs.declared.engine.Engine.{Engine}
use Rattle.dg_lasting.specs.Lasting.{picks_in, MayPick, PicksOne}
use Rattle.dg_interp.specs.inside.Engine.{TakesAt}
use Rattle.dg_interp.proofs.Branches.{went_on_from}
use Rattle.dg_interp.proofs.Selects.{one_runnable, picked_on, select_goes}
use Rattle.dg_interp.proofs.Controls.{pushed_means, pushed_here, pushed_leads, stays}
use Rattle.dg_interp.proofs.engine.Engine.select.Goals as goal

pub returns-clause-done : goal.returns-clause-done
returns-clause-done c =
    let old = c.args.self.now in
    let e = c.push.new.self in
    let site = c.args.site in
    let mode = c.args.mode in
    let lists = c.args.lists.now in
    let out = c.pick-branch.new.self in
    let branch = c.pick-branch.result in
    let x = Select site mode lists in
    let p = c.in_ok-push.ensures.pushed in
    let b = pushed_means old.here old e c.requires.ready c.requires.ready.here p in
    let count : c.in-Ok.branches ≡ length lists = search rules in
    let one : PicksOne site mode (length lists) branch e.lasting out = subst (λ k. PicksOne site mode k branch e.lasting out) count c.pick-branch.ensures in
    let may : MayPick (e.left + 1) (picks_in e.lasting) = subst (λ (i : Engine). MayPick (i.left + 1) (picks_in i.lasting)) (sym p.same) c.requires.may in
    let runnable : AreRunnable c.list_at.result.now = subst AreRunnable (sym c.list_at.ensures) (one_runnable lists branch c.requires.runnable) in
    let at : c.len.result ≡ length e.frames.items = search rules in
    rw at
    (went_on_from (TakesAt x old) (TakesAt x e) old e (picked_on site mode lists e out branch c.list_at.result p.ready (pushed_here old e c.requires.ready p) may one c.list_at.ensures runnable) c.push.ensures.left b.limits
    (pushed_leads x old.here old e b (TakesAt x e) (stays (TakesAt x e)))
    (select_goes site mode lists e out branch c.list_at.result p.ready (pushed_here old e c.requires.ready p) may one c.list_at.ensures runnable))
