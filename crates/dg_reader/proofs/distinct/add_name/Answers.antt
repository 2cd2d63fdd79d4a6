use Rattle.std.proofs.Common.{not, sym, ◌∙◌, ap}
use Rattle.dg_reader.proofs.DistinctLemmas.{any_listed, one_listed}
use Rattle.dg_reader.proofs.distinct.add_name.Goals as goal

pub returns-then-contains-clause-new : goal.returns-then-contains-clause-new
returns-then-contains-clause-new c = ap not (sym c.if-contains.true ∙ c.contains.ensures ∙ any_listed c.args.name.now c.args.names.now.keys)

pub returns-clause-new : goal.returns-clause-new
returns-clause-new c = ap not (sym c.if-contains.false ∙ c.contains.ensures ∙ any_listed c.args.name.now c.args.names.now.keys)

pub returns-clause-behind : goal.returns-clause-behind
returns-clause-behind c = λ _. one_listed c.args.name.now c.args.names.now.keys c.insert.new.self.keys c.in_ok-from_slice.field-0 c.contains.result c.in_ok-insert.ensures.keys c.in_ok-from_slice.ensures.items c.contains.ensures c.if-contains.false
