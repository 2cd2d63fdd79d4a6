use Rattle.std.proofs.Common.{rules, ◌≡◌, refl, length}
use Rattle.dg_interp.specs.inside.Engine.{store_in}
use Rattle.dg_interp.specs.inside.Gathering.{GathersAt}
use Rattle.dg_interp.proofs.Runs.{lack_from}
use Rattle.dg_interp.proofs.Turns.{reverse_pop}
use Rattle.dg_interp.proofs.GatherOpens.{open_full, cells_full, gathering_opened}
use Rattle.dg_interp.proofs.engine.Engine.open_gathering.Goals as goal

pub returns-in-Err-open-clause-lacks : goal.returns-in-Err-open-clause-lacks
returns-in-Err-open-clause-lacks c = open_full c.args.whole c.args.value c.args.into c.args.goals c.args.self.now c.requires.ready c.requires.runnable c.requires.values c.in-Err-open.ensures.full

pub returns-in-Err-charge-clause-lacks : goal.returns-in-Err-charge-clause-lacks
returns-in-Err-charge-clause-lacks c =
    let old = c.args.self.now in
    let from = GathersAt c.args.whole c.args.value c.args.into c.args.goals.now old in
    rw c.lacking.ensures (lack_from from old c.in-Err-charge.full
    (cells_full c.args.whole c.args.value c.args.into c.args.goals old c.requires.ready c.requires.runnable c.requires.values c.mark-place.result c.mark-place.new.self c.mark-place.ensures.kept c.mark-place.ensures.same c.mark-place.ensures.saved c.in-Err-charge.full (store_in c.charge.new.self) c.in-Err-charge.ensures.made))

pub returns-clause-opened : goal.returns-clause-opened
returns-clause-opened c =
    let old = c.args.self.now in
    let k = c.in_default-charge.ensures in
    let behind : c.len.result ≡ length c.push.new.self.items = search rules in
    rw behind
    (gathering_opened c.args.whole c.args.value c.args.into c.args.goals old c.requires.ready c.requires.runnable c.requires.values c.mark-place.result c.mark-place.new.self c.mark-place.ensures.kept c.mark-place.ensures.same c.mark-place.ensures.saved
    _ refl c.charge.new.self c.put_both.new.refs c.push.new.self c.push-2.new.self c.open.new.self k.kept k.saved k.made c.requires.room c.in_ok-kept.ensures.put (rw c.in_ok-kept.ensures.first at c.in_default.ensures.items) c.in_default-open.ensures.opened
    (reverse_pop c.push-2.new.self.items old.choices.items _ (rw c.in_ok-kept.ensures.second at (rw c.choice_here-choice.ensures at c.in_default-push.ensures.items))))
