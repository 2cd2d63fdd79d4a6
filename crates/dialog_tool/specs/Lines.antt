-- The lines of the tool itself: hold the texts against docs/REFUSALS.md.
use Rattle.std.specs.Prelude.{◌≡◌, ℕ, List, ◌++◌, codes, decimal}
use Rattle.dg_base.specs.Refusals.{text_of_kind}
use Rattle.dg_base.specs.Written.{SinkView, Wrote, BrokeOff}
use Rattle.dg_base.specs.declared.refusal.Refusal.{Refusal}
use Rattle.dg_story.specs.declared.refusal.BuildRefusal.{BuildRefusal}
use Rattle.dg_story.specs.declared.refusal.BuildRefusal.TheVariants.{WorldTooLarge, WordsTooLarge, StoryTooLarge}
use Rattle.z_model.specs.Story.{text_of_story}
use Rattle.z_model.specs.declared.story.StoryRefusal.{StoryRefusal}

-- FILE:LINE: TEXT
abbrev pub refusal_line : List ℕ → Refusal → List ℕ
refusal_line name r = name ++ (codes ":" ++ (decimal r.line ++ (codes ": " ++ (text_of_kind r.kind ++ codes "\n"))))

-- FILE: TEXT
abbrev pub story_line : List ℕ → StoryRefusal → List ℕ
story_line name r = name ++ (codes ": " ++ (text_of_story r ++ codes "\n"))

-- why a program has no story
abbrev pub text_of_build : BuildRefusal → List ℕ
text_of_build WorldTooLarge = codes "world too large"
text_of_build WordsTooLarge = codes "words too large"
text_of_build StoryTooLarge = codes "story too large"

-- FILE: TEXT
abbrev pub build_line : List ℕ → BuildRefusal → List ℕ
build_line name r = name ++ (codes ": " ++ (text_of_build r ++ codes "\n"))

-- FILE:LINE: TEXT
abbrev pub listing_line : List ℕ → ℕ → List ℕ
listing_line name line = name ++ (codes ":" ++ (decimal line ++ (codes ": " ++ (codes "not a listing" ++ codes "\n"))))

-- FILE: file fault
abbrev pub file_fault_line : List ℕ → List ℕ
file_fault_line name = name ++ codes ": file fault\n"

-- what is printed for words that are no command
abbrev pub usage_line : List ℕ
usage_line = codes "usage: dialog debug FILE, build FILE OUT, play STORY, run FILE, singles FILE, make N, list FILE, join LISTING OUT, trace FILE\n"

-- A line was written and this status answered, or out failed within the line.
pub data Says (status : ℕ) (line : List ℕ) (old new : SinkView) (result : ℕ) : Type 0 where
  said : result ≡ status → Wrote old new line → Says status line old new result
  unsaid : result ≡ 5 → BrokeOff old new line → Says status line old new result
