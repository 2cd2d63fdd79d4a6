-- What stands open while an item is read, the innermost first, and which item it is where the tokens end: the proofs of the reader rest on it, and on
-- the grammar of dg_reader.
use Rattle.std.specs.Prelude.{ℕ, List, [], ◌∷◌, ◌++◌, Bool, Option, Some, None}
use Rattle.dg_base.specs.Tree.{Part, Parts, Value, Stmt, Stmts, Body, stmts_of, branches_of}
use Rattle.dg_open.specs.Shapes.{Sign, Shape, topic_line, clause}

-- What asks: a query for one answer, for all answers, or for none.
pub data Asking : Type 0 where
  for_one : Asking
  for_all : Asking
  for_none : Asking

-- What a body is the body of.
pub data Owner : Type 0 where
  of_item : Sign → Parts → Owner
  of_group : Owner
  of_not_group : Owner
  of_closure : Owner
  of_condition : List (Body × Body) → Owner
  of_then : List (Body × Body) → Body → Owner
  of_else : List (Body × Body) → Owner
  of_select : Owner
  of_collect : Value → Owner
  of_accumulate : Value → Owner

-- A keyword that waits for its statement.
pub data Wrapper : Type 0 where
  exhausting : Wrapper
  stopping : Wrapper

-- One construct that stands open, with what was read of it.
pub data Frame : Type 0 where
  -- before an item's first token, and behind its sign
  start : Frame
  start_of : Sign → Frame
  whole_topic : List ℕ → Frame
  -- inside a parenthesis, behind these parts: of an item, of a query in a head, of a query in a body, of a change
  in_head : Sign → List Part → Frame
  in_nested : Bool → List Part → Frame
  in_query : Asking → List Part → Frame
  in_change : Bool → List Part → Frame
  -- inside a list, behind these elements; behind its bar; behind its tail
  in_list : Bool → List Value → Frame
  in_tail : Bool → List Value → Frame
  in_list_end : Bool → List Value → Value → Frame
  -- behind a `*` or `~` of a body
  behind_star : Frame
  behind_tilde : Frame
  -- behind a (now), inside its braces, and behind a `~` there
  behind_now : Frame
  in_changes : List (Parts × Bool) → Frame
  behind_clear : Frame
  -- inside a body: the earlier branches, the statements of this one, and the keywords that wait for a statement
  in_body : Owner → List Stmts → List Stmt → List Wrapper → Frame

abbrev pub Stack : Type 0
Stack = List Frame

-- The body of these branches and a last one.
abbrev pub body_of : List Stmts → List Stmt → Body
body_of bs ss = branches_of (bs ++ stmts_of ss ∷ [])

-- The item that this construct is, where it is one.
abbrev pub finished_frame : Frame → Option Shape
finished_frame (whole_topic n) = Some (topic_line n)
finished_frame (in_body (of_item sign ps) bs ss []) = Some (clause sign ps (body_of bs ss))
finished_frame f = None

-- The item that ends here, where one does.
abbrev pub finished : Stack → Option Shape
finished [] = None
finished (f ∷ []) = finished_frame f
finished (f ∷ g ∷ below) = None
