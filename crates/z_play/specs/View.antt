-- The arrays of an engine as the machine of the instruction table.
use Rattle.std.specs.Prelude.{◌≡◌, ℕ, ◌+◌, ◌≤◌, List, [], ◌∷◌, length, take, drop, reverse, Result, Ok, Err}
use Rattle.z_model.specs.declared.fault.ZFault.{ZFault}
use Rattle.z_model.specs.declared.end.OpenTable.{OpenTable}
use Rattle.z_model.specs.declared.story.Layout.{Layout}
use Rattle.z_model.specs.Machine.{Frame, Machine}
use Rattle.z_play.specs.declared.engine.Called.{Called}
use Rattle.z_play.specs.declared.engine.Engine.{Engine}

-- a frame, from its part of the stack
abbrev pub frame_view : Called → List ℕ → Frame
frame_view f part = record { back = f.back; store = f.store; args = f.args; locals = take f.locals part; stack = drop f.locals part }

-- the callers, the newest first, from the stack below the present frame
abbrev pub callers_view : List Called → List ℕ → List Frame
callers_view [] stack = []
callers_view (f ∷ fs) stack = frame_view f (drop f.base stack) ∷ callers_view fs (take f.base stack)

abbrev pub view_of : List ℕ → ℕ → Called → List Called → List ℕ → List OpenTable → Machine
view_of memory pc here fs stack tables = record {
  memory = memory;
  pc = pc;
  here = frame_view here (drop here.base stack);
  callers = callers_view fs (take here.base stack);
  tables = tables;
}

-- the callers, the newest first
abbrev pub callers_of : Engine → List Called
callers_of e = reverse (take e.depth e.frames.items)

abbrev pub stack_of : Engine → List ℕ
stack_of e = take e.top e.stack.items

-- the open tables, the newest first
abbrev pub tables_of : Engine → List OpenTable
tables_of e = reverse (take e.opened e.tables)

-- what an engine keeps of the story's header
abbrev pub layout_in : Engine → Layout
layout_in e = record { globals = e.globals; base = e.memory.base; checksum_right = e.checksum_right }

-- what an engine is
abbrev pub machine : Engine → Machine
machine e = view_of e.memory.bytes.items e.pc e.here (callers_of e) (stack_of e) (tables_of e)

-- each frame lies below the one that it called
abbrev pub Nested : List Called → ℕ → Type 0
Nested [] top = top ≡ 0
Nested (f ∷ fs) top = (f.base + f.locals ≤ top) × Nested fs f.base

-- The arrays have their sizes, and the frames lie in the stack one above the other.
pub record Sound (e : Engine) : Type 0 where
  pub size : length e.memory.bytes.items ≤ 524288
  pub base : e.memory.base ≤ length e.memory.bytes.items
  pub from : 64 ≤ e.globals
  pub globals : e.globals + 480 ≤ e.memory.base
  pub nested : Nested (callers_of e) e.here.base
  pub here : e.here.base + e.here.locals ≤ e.top
  pub words : length e.stack.items ≡ 65536
  pub top : e.top ≤ 65536
  pub room : length e.frames.items ≡ 8191
  pub depth : e.depth ≤ 8191
  pub sixteen : length e.tables ≡ 16
  pub opened : e.opened ≤ 16

-- what the table gives, where a function of the engine answers with the machine left
abbrev pub Gives : {X : Type 0} → Result X ZFault → Machine → Result (X × Machine) ZFault → Type 0
Gives (Ok x) m given = given ≡ Ok (x, m)
Gives (Err fault) m given = given ≡ Err fault

-- the same where there is no answer
abbrev pub Sets : {X Y : Type 0} → Result X ZFault → Y → Result Y ZFault → Type 0
Sets (Ok x) m given = given ≡ Ok m
Sets (Err fault) m given = given ≡ Err fault

-- What no instruction changes: the arrays' sizes and the layout.
pub record Kept (old new : Engine) : Type 0 where
  pub sound : Sound new
  pub layout : layout_in new ≡ layout_in old
  pub memory : length new.memory.bytes.items ≡ length old.memory.bytes.items

-- the present frame is dropped, and its caller goes on
abbrev pub left_to : Machine → List Frame → Machine → Type 0
left_to old [] new = ⊥
left_to old (f ∷ fs) new = new ≡ record old { pc = old.here.back; here = f; callers = fs }

abbrev pub Left : Machine → Machine → Type 0
Left old new = left_to old old.callers new

-- The arrays hold what they held.
pub record SameArrays (old new : Engine) : Type 0 where
  pub memory : new.memory.bytes.items ≡ old.memory.bytes.items
  pub frames : new.frames.items ≡ old.frames.items
  pub stack : new.stack.items ≡ old.stack.items
