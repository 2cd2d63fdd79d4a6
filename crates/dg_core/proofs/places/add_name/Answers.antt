use Rattle.dg_names.proofs.SetLemmas.{known_listed, new_listed}
use Rattle.dg_core.proofs.places.add_name.Goals as goal

pub returns-then-contains : goal.returns-then-contains
returns-then-contains c = known_listed c.args.name.now c.args.names.now.keys c.contains.result c.contains.ensures c.if-contains.true

pub returns : goal.returns
returns c = new_listed c.args.name.now c.args.names.now.keys c.insert.new.self.keys c.in_ok-from_slice.field-0 c.contains.result c.in_ok-insert.ensures.keys c.in_ok-from_slice.ensures.items c.contains.ensures c.if-contains.false
