-- What parts of a call come to, for its functions.
use Rattle.std.specs.Prelude.{◌≡◌, ◌≤◌, ℕ, List, Option, IsTrue}
use Rattle.dg_base.specs.Shelves.{ShelfView, held, WhereTold, KeepsAll}
use Rattle.dg_base.specs.Streams.{SourceView}
use Rattle.dg_base.specs.Written.{SinkView}
use Rattle.dialog_tool.specs.Command.{Command, Task}
use Rattle.dialog_tool.specs.Call.{Call, IsAsTold}
use Rattle.dialog_tool.specs.Promise.{PlaysStory}

-- the call of a command with these dice, and what the shelf, the input and the output tell before it and behind it
abbrev pub call : Option Command → List ℕ → ShelfView → ShelfView → SourceView → SourceView → SinkView → SinkView → Call
call command dice shelf shelf_after input input_after out out_after =
    record {
      command = command;
      dice = dice;
      shelf = shelf;
      shelf_after = shelf_after;
      input = input;
      input_after = input_after;
      out = out;
      out_after = out_after;
    }

-- A shelf's file is this, as far as the shelf tells; it keeps what it holds, has failed no less often, and stays sure.
pub record IsFetched (before after : ShelfView) (name file : List ℕ) : Type 0 where
  pub told : WhereTold before.contents (λ contents. file ≡ held (contents name))
  pub kept : KeepsAll before.contents after.contents
  pub later : before.faults ≤ after.faults
  pub sure : IsTrue before.sure → IsTrue after.sure

-- A story was played on typed bytes, as far as these are told.
pub record HasPlayed (c : Call) (t : Task) (bytes : List ℕ) (result : ℕ) : Type 0 where
  pub typed : List ℕ
  pub told : IsAsTold c.input.left typed
  pub plays : (contents : List ℕ → Option (List ℕ)) → PlaysStory c (record { contents = contents; typed = typed }) t bytes result
