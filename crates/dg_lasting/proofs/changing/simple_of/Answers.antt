use Rattle.dg_lasting.proofs.ChangeLemmas.{slot_shown, slot_hidden}
use Rattle.dg_lasting.proofs.changing.simple_of.Goals as goal

pub returns-in-Simple : goal.returns-in-Simple
returns-in-Simple g c = slot_shown (g.B.Bindings.meaning c.args.store.now) (g.met.B.Bindings.sound c.args.store.now) c.args.value c.walk.result c.in-Simple.simple c.in-Simple.is c.walk.ensures

pub returns-in_default : goal.returns-in_default
returns-in_default g c = slot_hidden (g.B.Bindings.meaning c.args.store.now) (g.met.B.Bindings.sound c.args.store.now) c.args.value c.walk.result c.in_default.not-Simple c.walk.ensures
