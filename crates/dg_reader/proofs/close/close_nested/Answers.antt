use Rattle.std.proofs.Common.{Option, subst}
use Rattle.dg_open.specs.inside.Standing.{Stack}
use Rattle.dg_open.specs.inside.Views.{stack_view}
use Rattle.dg_reader.specs.inside.Frames.{Moves}
use Rattle.dg_reader.proofs.Closed.{nests}
use Rattle.dg_reader.proofs.close.close_nested.Goals as goal

pub returns-else-is_empty : goal.returns-else-is_empty
returns-else-is_empty c =
    let closed = c.in-Query.ensures in
    let empty = c.if-is_empty.ensures in
    subst (λ (o : Option Stack). Moves o c.put_value.result (stack_view c.put_value.new.stack.items))
    (nests c.args.parts c.in-Query.parts _ (stack_view c.args.stack.now.items) closed.0 closed.1 empty.1 c.nested.ensures)
    c.put_value.ensures
