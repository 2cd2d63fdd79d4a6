use Rattle.std.proofs.Common.{ap}
use Rattle.dg_lasting.specs.Changing.{in_store, all_in_store}
use Rattle.dg_lasting.proofs.ChangeLemmas.{asks_no_value, asks_other_value, asks_value}
use Rattle.dg_lasting.proofs.changing.sets_value.Goals as goal

pub returns-in-None : goal.returns-in-None
returns-in-None g c o kind is of lt =
    let s = g.B.Bindings.meaning c.args.store.now in
    asks_no_value o kind c.args.place c.args.object (all_in_store s c.args.values.now) (ap (all_in_store s) c.in-None.ensures) of

pub returns-in-None-simple_of : goal.returns-in-None-simple_of
returns-in-None-simple_of g c o kind is of lt =
    let s = g.B.Bindings.meaning c.args.store.now in
    asks_other_value o kind c.args.place c.args.object (in_store s c.in-Some.value) (all_in_store s c.in-Some.field-0-1.now) (all_in_store s c.args.values.now) (ap (all_in_store s) c.in-Some.ensures) of c.in-None-simple_of.ensures

pub returns-in-Some-simple_of : goal.returns-in-Some-simple_of
returns-in-Some-simple_of g c o kind is of lt =
    let s = g.B.Bindings.meaning c.args.store.now in
    asks_value o kind c.args.place c.args.object (in_store s c.in-Some.value) (all_in_store s c.in-Some.field-0-1.now) (all_in_store s c.args.values.now) c.in-Some-simple_of.simple (ap (all_in_store s) c.in-Some.ensures) is of lt c.in-Some-simple_of.ensures
