-- What a player holds: a story, cut to its length, and an engine for it.
use Rattle.std.specs.Prelude.{◌≡◌, ◌+◌, ◌≤◌, ℕ, List, length, codes, None}
use Rattle.z_model.specs.declared.story.Layout.{Layout}
use Rattle.z_model.specs.Story.{layout_of, first_address, memory_of, story_refusal, text_of_story, given_of, start_state}
use Rattle.z_play.specs.declared.engine.Engine.{Engine}
use Rattle.z_play.specs.declared.recent.Recent.{Recent}
use Rattle.z_play.specs.declared.player.LoadFault.{LoadFault}
use Rattle.z_play.specs.declared.player.LoadFault.TheVariants.{Refused, OutOfMemory}
use Rattle.z_play.specs.View.{Sound, layout_in}

-- These bytes are the memory of the story that they are, and the parts of the layout lie in it.
pub record IsStory (story : List ℕ) (start : ℕ) (layout : Layout) : Type 0 where
  pub whole : memory_of story ≡ story
  pub layout_is : layout ≡ layout_of story
  pub start_is : start ≡ first_address story
  pub size : length story ≤ 524288
  pub base : layout.base ≤ length story
  pub from : 64 ≤ layout.globals
  pub globals : layout.globals + 480 ≤ layout.base

-- what is printed of a fault: hold it against the table of docs/REFUSALS.md
abbrev pub text_of_load : LoadFault → List ℕ
text_of_load (Refused refusal) = text_of_story refusal
text_of_load OutOfMemory = codes "out of memory"

-- The story is whole, its engine is sound and as long, and there are places for what is decoded.
pub record IsReady (story : List ℕ) (start : ℕ) (e : Engine) (recent : Recent) : Type 0 where
  pub whole : memory_of story ≡ story
  pub layout_is : layout_in e ≡ layout_of story
  pub start_is : start ≡ first_address story
  pub sound : Sound e
  pub same_size : length e.memory.bytes.items ≡ length story
  pub places : length recent.slots.items ≡ 4097

-- The file isn't refused, the story is its bytes up to its length, and its runs are the file's.
pub record IsLoaded (file story : List ℕ) : Type 0 where
  pub accepted : story_refusal file ≡ None
  pub is : story ≡ memory_of file
  pub given : (dice : List ℕ) → given_of story dice ≡ given_of file dice
  pub start : (typed : List ℕ) → start_state story typed ≡ start_state file typed
