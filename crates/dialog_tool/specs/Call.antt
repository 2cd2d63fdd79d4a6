-- A call of the program, and what it may find outside.
use Rattle.std.specs.Prelude.{◌≡◌, ℕ, List, Option, Some, None}
use Rattle.dg_base.specs.Shelves.{ShelfView, held}
use Rattle.dg_base.specs.Streams.{SourceView}
use Rattle.dg_base.specs.Written.{SinkView}
use Rattle.dialog_tool.specs.Command.{Command, Task, task_dice}

-- What the words ask for, the dice that are handed in, and what the shelf, the input and the output tell before the call and behind it.
pub record Call : Type 0 where
  pub command : Option Command
  pub dice : List ℕ
  pub shelf : ShelfView
  pub shelf_after : ShelfView
  pub input : SourceView
  pub input_after : SourceView
  pub out : SinkView
  pub out_after : SinkView

-- What a call may find: the contents of each name, and the bytes to be typed.
pub record Outside : Type 0 where
  pub contents : List ℕ → Option (List ℕ)
  pub typed : List ℕ

-- this is what is told, or anything where nothing is told
abbrev pub IsAsTold : {A : Type 0} → Option A → A → Type 0
IsAsTold None value = Unit {0}
IsAsTold (Some told) value = told ≡ value

-- The shelf holds these contents and the input these bytes, as far as they tell.
pub record Finds (c : Call) (o : Outside) : Type 0 where
  pub contents : IsAsTold c.shelf.contents o.contents
  pub typed : IsAsTold c.input.left o.typed

-- the bytes of a file
abbrev pub file_at : Outside → List ℕ → List ℕ
file_at o name = held (o.contents name)

-- the dice that are thrown for a task
abbrev pub dice_for : Call → Task → List ℕ
dice_for c t = task_dice t.dice c.dice
