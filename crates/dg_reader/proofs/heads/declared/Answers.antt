use Rattle.std.proofs.Common.{Option, unwrap_or, map, sym, ◌∙◌, ap}
use Rattle.dg_base.specs.Tree.{Parts, global_variable, parts_of}
use Rattle.dg_base.specs.TreeView.{part_view}
use Rattle.dg_reader.proofs.HeadLemmas.{some_declared, declared_some, none_declared}
use Rattle.dg_reader.proofs.heads.declared.Goals as goal

pub returns-in-Some-into_query : goal.returns-in-Some-into_query
returns-in-Some-into_query c =
    let some = some_declared c.args.parts c.as_slice.result.now c.declared_query.result c.is_none.result c.as_slice.ensures c.declared_query.ensures c.is_none.ensures c.if-is_none.false in
    ap (λ (o : Option Parts). global_variable (unwrap_or o (parts_of (map part_view c.args.parts))))
    (c.in-Some-into_query.ensures ∙ sym (declared_some c.args.parts c.pop.new.self c.in-Some.last c.in-Some.ensures some))

pub returns-in-None-into_query : goal.returns-in-None-into_query
returns-in-None-into_query c =
    let some = some_declared c.args.parts c.as_slice.result.now c.declared_query.result c.is_none.result c.as_slice.ensures c.declared_query.ensures c.is_none.ensures c.if-is_none.false in
    absurd (none_declared _ _ (declared_some c.args.parts c.pop.new.self c.in-Some.last c.in-Some.ensures some) c.in-None-into_query.ensures some)
