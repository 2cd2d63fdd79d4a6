-- What is built of a program: the story of its code. Hold it against dg_rt/specs/Areas.antt, which says where what lies in memory.
use Rattle.std.specs.Prelude.{◌≡◌, ℕ, zero, suc, ◌<◌, ◌+◌, ◌-◌, ◌/◌, ◌%◌, ◌⊎◌, List, [], ◌∷◌, ◌++◌, length, map, replicate, Bool, true, false}
use Rattle.dg_base.specs.declared.program.ClosureBody.{ClosureBody}
use Rattle.dg_base.specs.declared.program.CoreProgram.{CoreProgram}
use Rattle.dg_base.specs.declared.program.Pred.{Pred}
use Rattle.dg_meaning.specs.Facts.{kinds_of, start_facts}
use Rattle.dg_mid.specs.declared.code.Code.{Code}
use Rattle.dg_mid.specs.Codes.{Codes}
use Rattle.dg_mid.specs.Potential.{Tidy}
use Rattle.z_asm.specs.declared.image.Table.{Table}
use Rattle.z_asm.specs.Assembled.{IsAssembled}
use Rattle.z_asm.specs.Story as image
use Rattle.z_story.specs.declared.building.Parts.{Parts}
use Rattle.z_story.specs.Parts.{image_of}
use Rattle.z_story.specs.Does.{StoryDoes}
use Rattle.dg_rt.specs.Areas.{kept_at, line_at, fixed_end}
use Rattle.dg_rt.specs.Cells.{at_cell}
use Rattle.dg_rt.specs.Kept.{Block}
use Rattle.dg_rt.specs.Words.{words_table}
use Rattle.dg_turn.specs.Sites.{sites_of}
use Rattle.dg_turn.specs.Starts.{bytes_from}
use Rattle.dg_emit.specs.Numbers.{numbers_end}
use Rattle.dg_emit.specs.Story.{first_number}
use Rattle.dg_fits.specs.Laws.{parts_with}
use Rattle.dg_story.specs.Kept.{kept_areas, start_words_from, kept_facts, kept_blocks}
pub use Rattle.dg_story.specs.Kept.{keeps_within}
use Rattle.dg_story.specs.declared.building.Built.{Built}
use Rattle.dg_story.specs.Marks.{HasMarks}
use Rattle.dg_story.specs.declared.refusal.BuildFault.{BuildFault}
use Rattle.dg_story.specs.declared.refusal.BuildFault.TheVariants.{Refused}
use Rattle.dg_story.specs.declared.refusal.BuildRefusal.TheVariants.{StoryTooLarge}

-- ## The parts

-- A byte for each closure tells how many values it captures.
abbrev pub captures_table : List ClosureBody → Table
captures_table closures = record { bytes = map (λ (c : ClosureBody). length c.captured) closures; writable = false }

-- The words of a program.
abbrev pub words_part : List (List ℕ) → Table
words_part words = record { bytes = words_table words; writable = false }

-- Words, in two bytes each.
abbrev pub word_bytes : List ℕ → List ℕ
word_bytes [] = []
word_bytes (w ∷ ws) = w / 256 ∷ w % 256 ∷ word_bytes ws

-- The areas that every story has stand first behind the registers and the object table: zeros, and between them what global variables start with.
abbrev pub kept_table : List Block → Table
kept_table bs =
    let before : List ℕ = replicate (at_cell kept_at - image.tables_from) 0 in
    let behind : List ℕ = replicate (at_cell fixed_end - at_cell line_at) 0 in
    record { bytes = before ++ (word_bytes (kept_areas bs) ++ behind); writable = true }

-- What starts set in the world: words, which tell where values are kept, and then a byte for each flag of an object, filled up to a whole word.
abbrev pub world_table : CoreProgram → Table
world_table program =
    let objects = length program.objects in
    let facts = start_facts program.places in
    let words = start_words_from objects facts (kept_facts program) kept_at 0 (kinds_of program) in
    let flags = bytes_from objects facts 0 (kinds_of program) in
    record { bytes = word_bytes words ++ (flags ++ replicate (length flags % 2) 0); writable = true }

-- So many words of zero.
abbrev pub zero_words : ℕ → List ℕ
zero_words zero = []
zero_words (suc n) = 0 ∷ 0 ∷ zero_words n

-- There is a word for each select, and one more.
abbrev pub site_words : Code → ℕ
site_words code = 1 + length (sites_of code.blocks)

-- Nothing is kept of selects where a story starts.
abbrev pub sites_table : Code → Table
sites_table code = record { bytes = zero_words (site_words code); writable = true }

-- The tables of a program: the world lies behind the areas.
abbrev pub program_tables : CoreProgram → List Table
program_tables program =
    captures_table program.closures ∷ words_part program.words ∷ kept_table (kept_blocks program) ∷ world_table program ∷ []

-- What is kept of selects lies behind the world.
abbrev pub story_tables : CoreProgram → Code → List Table
story_tables program code = program_tables program ++ sites_table code ∷ []

-- The parts of the story of a program's code. What starts keep is within its limit, or the run ends at once.
abbrev pub story_parts : CoreProgram → Code → Bool → Parts
story_parts program code keeps = parts_with (story_tables program code) program code keeps

-- ## The story

-- The story of parts, which aren't too large: its bytes are theirs, each routine stands in it and does what its acts mean, and the player takes it.
pub record IsStoryOf (parts : Parts) (story : List ℕ) : Type 0 where
  pub bytes : story ≡ image.story_of (image_of parts)
  pub assembled : IsAssembled (image_of parts) story
  pub small : image.IsTooLarge (image_of parts) → ⊥
  pub does : StoryDoes parts story

-- The story is too large.
abbrev pub too_large : BuildFault
too_large = Refused StoryTooLarge

-- Code has no story of these parts: it has more routines than there are numbers, or they take more bytes than a story may have.
abbrev pub HasNoStory : Code → Parts → Type 0
HasNoStory code parts = (65535 < numbers_end first_number code) ⊎ image.IsTooLarge (image_of parts)

-- How many rules predicates have.
abbrev pub rule_count : List Pred → ℕ
rule_count [] = 0
rule_count (pred ∷ preds) = length pred.rules + rule_count preds

-- What is built of a program: a story of tidy code that stands for it, the number of its rules, and a mark for each.
pub record IsBuilt (program : CoreProgram) (built : Built) : Type 0 where
  pub code : Code
  pub codes : Codes program code
  pub tidy : Tidy code
  pub story : IsStoryOf (story_parts program code (keeps_within program)) built.story.items
  pub rules : built.rule_routines ≡ rule_count program.preds
  pub marks : HasMarks program code (story_parts program code (keeps_within program)) built.story.items built.marks.items
