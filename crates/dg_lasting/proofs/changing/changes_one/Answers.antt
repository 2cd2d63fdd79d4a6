use Rattle.std.proofs.Common.{subst, sym}
use Rattle.dg_lasting.specs.Changing.{all_in_store, one_change, Asks}
use Rattle.dg_lasting.proofs.ChangeLemmas.{asks_flag, asks_clear, of_values}
use Rattle.dg_lasting.proofs.changing.changes_one.Goals as goal

pub returns-in-ObjectFlag : goal.returns-in-ObjectFlag
returns-in-ObjectFlag g c o is of lt = asks_flag o c.args.kind c.args.place c.args.object c.args.sets _ c.in-ObjectFlag.is is lt

pub returns-then-sets : goal.returns-then-sets
returns-then-sets g c o is of lt =
    let vs = all_in_store (g.B.Bindings.meaning c.args.store.now) c.args.values.now in
    subst (λ b. Asks o (one_change c.args.kind c.args.place c.args.object b vs) c.sets_value.result) (sym c.if-sets.true) (c.sets_value.ensures o c.args.kind is (of_values c.args.kind of c.in_default.not-ObjectFlag) lt)

pub returns-else-sets : goal.returns-else-sets
returns-else-sets g c o is of lt =
    asks_clear o c.args.kind c.args.place c.args.object c.args.sets (all_in_store (g.B.Bindings.meaning c.args.store.now) c.args.values.now) c.if-sets.false is (of_values c.args.kind of c.in_default.not-ObjectFlag) lt
