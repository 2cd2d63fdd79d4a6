-- Which statuses come where: hold it against the table of statuses in man/dialog.1. It follows from what the program promises of a call.
use Rattle.std.specs.Prelude.{◌≡◌, ◌<◌, ◌≤◌, ◌⊎◌, ℕ, List, length, Option, Some, None, Ok, Err}
use Rattle.dg_base.specs.declared.program.CoreProgram.{CoreProgram as Core}
use Rattle.dg_base.specs.declared.refusal.Refusal.{Refusal}
use Rattle.dg_story.specs.Refusals as build
use Rattle.dg_story.specs.declared.refusal.BuildRefusal.{BuildRefusal}
use Rattle.z_list.specs.Reads.{IsListing, IsBadAt}
use Rattle.z_model.specs.Story.{story_refusal, story_run}
use Rattle.z_model.specs.declared.story.StoryRefusal.{StoryRefusal}
use Rattle.dialog_tool.specs.Command.{Command, Task, debug, play, run, build, singles, make, list, join, trace}
use Rattle.dialog_tool.specs.Call.{Call, Outside, file_at, dice_for}
use Rattle.dialog_tool.specs.Promise.{status_of_end}
use Rattle.dg_compile.specs.Source.{Compiles}

-- the source that a command names
abbrev pub source_named : Option Command → Option (List ℕ)
source_named None = None
source_named (Some (debug t)) = Some t.name
source_named (Some (play t)) = None
source_named (Some (run t)) = Some t.name
source_named (Some (build name to)) = Some name
source_named (Some (singles name)) = Some name
source_named (Some (make n)) = None
source_named (Some (list name)) = Some name
source_named (Some (join name to)) = None
source_named (Some (trace t)) = Some t.name

-- this status, or one of the two that may come before it
abbrev pub Comes : ℕ → ℕ → Type 0
Comes status result = (result ≡ status) ⊎ ((result ≡ 5) ⊎ (result ≡ 6))

-- 2 exactly where the words are no command; 1 exactly where a source is refused, 0 and 3 where it is a program that is run or is made, 0 where its
-- predicates are listed; 7 where it has no story, 0 where its story is stored or listed, or that of a listing is stored; 4 exactly where a file is no story or no
-- listing, and of a story the status of its run's end.
pub record Decides (c : Call) (result : ℕ) : Type 0 where
  pub no_command : c.command ≡ None → Comes 2 result
  pub refuses : (o : Outside) → c.shelf.contents ≡ Some o.contents → (name : List ℕ) → source_named c.command ≡ Some name
      → (r : Refusal) → Compiles (file_at o name) (Err r) → Comes 1 result
  pub runs : (o : Outside) → c.shelf.contents ≡ Some o.contents → (t : Task) → c.command ≡ Some (debug t)
      → (p : Core) → Compiles (file_at o t.name) (Ok p) → (result ≡ 0) ⊎ Comes 3 result
  pub traces : (o : Outside) → c.shelf.contents ≡ Some o.contents → (t : Task) → c.command ≡ Some (trace t)
      → (p : Core) → Compiles (file_at o t.name) (Ok p) → (result ≡ 0) ⊎ Comes 3 result
  pub lists : (o : Outside) → c.shelf.contents ≡ Some o.contents → (name : List ℕ) → c.command ≡ Some (singles name)
      → (p : Core) → Compiles (file_at o name) (Ok p) → Comes 0 result
  pub makes : (n : ℕ) → c.command ≡ Some (make n) → (result ≡ 0) ⊎ Comes 3 result
  pub builds : (o : Outside) → c.shelf.contents ≡ Some o.contents → (name to : List ℕ) → c.command ≡ Some (build name to)
      → (p : Core) → Compiles (file_at o name) (Ok p) → build.build_refusal p ≡ None → Comes 0 result
  pub builds_none : (o : Outside) → c.shelf.contents ≡ Some o.contents → (name to : List ℕ) → c.command ≡ Some (build name to)
      → (p : Core) → Compiles (file_at o name) (Ok p) → (r : BuildRefusal) → build.build_refusal p ≡ Some r → Comes 7 result
  pub runs_none : (o : Outside) → c.shelf.contents ≡ Some o.contents → (t : Task) → c.command ≡ Some (run t)
      → (p : Core) → Compiles (file_at o t.name) (Ok p) → (r : BuildRefusal) → build.build_refusal p ≡ Some r → Comes 7 result
  pub lists_story : (o : Outside) → c.shelf.contents ≡ Some o.contents → (name : List ℕ) → c.command ≡ Some (list name)
      → (p : Core) → Compiles (file_at o name) (Ok p) → build.build_refusal p ≡ None → Comes 0 result
  pub lists_none : (o : Outside) → c.shelf.contents ≡ Some o.contents → (name : List ℕ) → c.command ≡ Some (list name)
      → (p : Core) → Compiles (file_at o name) (Ok p) → (r : BuildRefusal) → build.build_refusal p ≡ Some r → Comes 7 result
  pub joins : (o : Outside) → c.shelf.contents ≡ Some o.contents → (name to : List ℕ) → c.command ≡ Some (join name to)
      → (bytes : List ℕ) → IsListing (file_at o name) bytes → length (file_at o name) ≤ 33554432 → Comes 0 result
  pub joins_badly : (o : Outside) → c.shelf.contents ≡ Some o.contents → (name to : List ℕ) → c.command ≡ Some (join name to)
      → (line : ℕ) → IsBadAt (file_at o name) line → Comes 4 result
  pub joins_too_long : (o : Outside) → c.shelf.contents ≡ Some o.contents → (name to : List ℕ) → c.command ≡ Some (join name to)
      → 33554432 < length (file_at o name) → Comes 4 result
  pub no_story : (o : Outside) → c.shelf.contents ≡ Some o.contents → (t : Task) → c.command ≡ Some (play t)
      → (r : StoryRefusal) → story_refusal (file_at o t.name) ≡ Some r → Comes 4 result
  pub plays : (o : Outside) → c.shelf.contents ≡ Some o.contents → c.input.left ≡ Some o.typed → (t : Task) → c.command ≡ Some (play t)
      → story_refusal (file_at o t.name) ≡ None → Comes (status_of_end (story_run (file_at o t.name) o.typed (dice_for c t) t.steps).end) result
