use Rattle.std.proofs.Common.{subst, sym}
use Rattle.dg_world.specs.Tables.{IsKind}
use Rattle.dg_lasting.specs.Changing.{all_in_store, Became}
use Rattle.dg_lasting.proofs.ChangeLemmas.{became_flag, flag_changes}
use Rattle.dg_lasting.proofs.changing.change_place.Goals as goal

pub returns-in-Flag-clause-became : goal.returns-in-Flag-clause-became
returns-in-Flag-clause-became g c o facts st is few long =
    let vs = all_in_store (g.B.Bindings.meaning c.args.store.now) c.args.args.now in
    subst (λ a. Became o facts a c.args.world.now c.change.new.self c.change.result) (sym (flag_changes c.args.objects c.args.kind c.args.place c.args.sets vs c.in-Flag.is))
    (became_flag o facts c.args.place c.args.sets c.args.world.now c.change.new.self c.change.result (subst (IsKind o c.args.place) c.in-Flag.is is) (λ b m. c.change.ensures.changed o facts b st m))
