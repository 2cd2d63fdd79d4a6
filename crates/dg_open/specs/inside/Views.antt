-- What the code's constructs and items are in the definitions. The proofs alone rest on it.
use Rattle.std.specs.Prelude.{List, map, reverse}
use Rattle.dg_base.specs.TreeView.{part_view, value_view, stmt_view, arm_view, body_view, head_view, change_view, branch_view}
use Rattle.dg_open.specs.Shapes as shapes
use Rattle.dg_open.specs.inside.Standing as standing
use Rattle.dg_open.specs.declared.frames.Sign.{Sign}
use Rattle.dg_open.specs.declared.frames.Sign.TheVariants as sign
use Rattle.dg_open.specs.declared.frames.Asking.{Asking}
use Rattle.dg_open.specs.declared.frames.Asking.TheVariants as asking
use Rattle.dg_open.specs.declared.frames.Wrapper.{Wrapper}
use Rattle.dg_open.specs.declared.frames.Wrapper.TheVariants as wrapper
use Rattle.dg_open.specs.declared.frames.Frame.{Frame}
use Rattle.dg_open.specs.declared.frames.Frame.TheVariants as frame
use Rattle.dg_open.specs.declared.frames.Owner.{Owner}
use Rattle.dg_open.specs.declared.frames.Owner.TheVariants as owner
use Rattle.dg_open.specs.declared.shapes.Shape.{Shape}
use Rattle.dg_open.specs.declared.shapes.Shape.TheVariants as shape

abbrev pub sign_view : Sign → shapes.Sign
sign_view sign.Plain = shapes.plain_rule
sign_view sign.Negated = shapes.negated
sign_view sign.Access = shapes.access_rule

abbrev pub asking_view : Asking → standing.Asking
asking_view asking.ForOne = standing.for_one
asking_view asking.ForAll = standing.for_all
asking_view asking.ForNone = standing.for_none

abbrev pub wrapper_view : Wrapper → standing.Wrapper
wrapper_view wrapper.Exhausting = standing.exhausting
wrapper_view wrapper.Stopping = standing.stopping

abbrev pub owner_view : Owner → standing.Owner
owner_view (owner.Item s h) = standing.of_item (sign_view s) (head_view h)
owner_view owner.Group = standing.of_group
owner_view owner.NotGroup = standing.of_not_group
owner_view owner.Closure = standing.of_closure
owner_view (owner.Condition arms) = standing.of_condition (map arm_view arms)
owner_view (owner.Then arms c) = standing.of_then (map arm_view arms) (body_view c)
owner_view (owner.Else arms) = standing.of_else (map arm_view arms)
owner_view owner.Select = standing.of_select
owner_view (owner.Collect v) = standing.of_collect (value_view v)
owner_view (owner.Accumulate v) = standing.of_accumulate (value_view v)

abbrev pub frame_view : Frame → standing.Frame
frame_view frame.Start = standing.start
frame_view (frame.StartOf s) = standing.start_of (sign_view s)
frame_view (frame.WholeTopic n) = standing.whole_topic n
frame_view (frame.InHead s ps) = standing.in_head (sign_view s) (map part_view ps)
frame_view (frame.InNested c ps) = standing.in_nested c (map part_view ps)
frame_view (frame.InQuery a ps) = standing.in_query (asking_view a) (map part_view ps)
frame_view (frame.InChange set ps) = standing.in_change set (map part_view ps)
frame_view (frame.InList c vs) = standing.in_list c (map value_view vs)
frame_view (frame.InTail c vs) = standing.in_tail c (map value_view vs)
frame_view (frame.InListEnd c vs v) = standing.in_list_end c (map value_view vs) (value_view v)
frame_view frame.BehindStar = standing.behind_star
frame_view frame.BehindTilde = standing.behind_tilde
frame_view frame.BehindNow = standing.behind_now
frame_view (frame.InChanges cs) = standing.in_changes (map change_view cs)
frame_view frame.BehindClear = standing.behind_clear
frame_view (frame.InBody o bs ss ws) = standing.in_body (owner_view o) (map branch_view bs) (map stmt_view ss) (map wrapper_view ws)

-- the innermost first
abbrev pub stack_view : List Frame → standing.Stack
stack_view fs = map frame_view (reverse fs)

abbrev pub shape_view : Shape → shapes.Shape
shape_view (shape.Topic n) = shapes.topic_line n
shape_view (shape.Clause s h b) = shapes.clause (sign_view s) (head_view h) (body_view b)
