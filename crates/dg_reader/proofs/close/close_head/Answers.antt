use Rattle.std.proofs.Common.{Option, subst}
use Rattle.dg_open.specs.inside.Standing.{Stack}
use Rattle.dg_open.specs.inside.Views.{stack_view, sign_view}
use Rattle.dg_reader.specs.inside.Frames.{Moves}
use Rattle.dg_reader.proofs.Closed.{heads}
use Rattle.dg_reader.proofs.close.close_head.Goals as goal

pub returns-else-is_empty : goal.returns-else-is_empty
returns-else-is_empty c =
    let closed = c.in-Query.ensures in
    let empty = c.if-is_empty.ensures in
    subst (λ (o : Option Stack). Moves o c.put_frame.result (stack_view c.put_frame.new.stack.items))
    (heads (sign_view c.args.sign) c.args.parts c.in-Query.parts _ _ (stack_view c.args.stack.now.items) closed.0 closed.1 empty.1 c.head.ensures c.new_body.ensures)
    c.put_frame.ensures
