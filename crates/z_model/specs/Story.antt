-- Which files are stories, and where their runs begin (Z-Machine Standard 1.1, sections 1.1, 5.5, 6.2 and 11.1).
use Rattle.std.specs.Prelude.{◌≡◌, ℕ, ◌+◌, ◌*◌, ◌%◌, List, [], length, take, drop, sum, codes, Option, Some, None, Bool, nat_lt, ◌==◌, ◌||◌, not, if◌then◌else◌, slice_index}
use Rattle.z_model.specs.declared.story.StoryRefusal.{StoryRefusal}
use Rattle.z_model.specs.declared.story.StoryRefusal.TheVariants.{TooShort, BadVersion, BadLength, BadMap}
use Rattle.z_model.specs.declared.story.Layout.{Layout}
use Rattle.z_model.specs.declared.story.Header.{Header}
use Rattle.z_model.specs.Table.{player_rows}
use Rattle.z_model.specs.Memory.{word_of}
use Rattle.z_model.specs.Machine.{Machine}
use Rattle.z_model.specs.Run.{ZGiven, ZState, ZRun, zrun}

-- a word of the header
abbrev pub header_word : List ℕ → ℕ → ℕ
header_word file at = word_of (slice_index file at) (slice_index file (at + 1))

-- The first instruction's address, the globals, the static base, and the length divided by 8 stand in words of the header.
abbrev pub first_address : List ℕ → ℕ
first_address file = header_word file 0x06

abbrev pub globals_of : List ℕ → ℕ
globals_of file = header_word file 0x0C

abbrev pub static_base : List ℕ → ℕ
static_base file = header_word file 0x0E

-- the story's length; a length word of 0 means the file's own
abbrev pub length_of : List ℕ → ℕ
length_of file = if header_word file 0x1A == 0 then length file else 8 * header_word file 0x1A

-- ---- the tests, in order

abbrev pub is_too_long : List ℕ → Bool
is_too_long file = nat_lt 524288 (length file)

-- The length word is 0, or the length is at least a header and at most the file.
abbrev pub has_bad_length : List ℕ → Bool
has_bad_length file = nat_lt (length_of file) 64 || nat_lt (length file) (length_of file)

-- The globals lie, 480 bytes long, between 64 and the static base; the base is within the length and at most 65,534;
-- the first instruction is behind the header and within the length.
abbrev pub has_bad_map : List ℕ → Bool
has_bad_map file =
    nat_lt (globals_of file) 64 || (nat_lt (static_base file) (globals_of file + 480)
    || (nat_lt (length_of file) (static_base file) || (nat_lt 65534 (static_base file)
    || (nat_lt (first_address file) 64 || not (nat_lt (first_address file) (length_of file))))))

-- why a file is refused, if it is
unfoldable pub story_refusal : List ℕ → Option StoryRefusal
story_refusal file =
    if is_too_long file then Some BadLength
    else if nat_lt (length file) 64 then Some TooShort
    else if not (slice_index file 0 == 8) then Some BadVersion
    else if has_bad_length file then Some BadLength
    else if has_bad_map file then Some BadMap else None

-- what is printed of a refusal: hold it against the table of docs/REFUSALS.md
abbrev pub text_of_story : StoryRefusal → List ℕ
text_of_story TooShort = codes "story too short"
text_of_story BadVersion = codes "story version is not 8"
text_of_story BadLength = codes "story length is wrong"
text_of_story BadMap = codes "story map is wrong"

-- ---- the start of a run

-- The bytes behind the length aren't used.
abbrev pub memory_of : List ℕ → List ℕ
memory_of file = take (length_of file) file

-- The checksum is the sum of the bytes behind the header.
abbrev pub checksum_of : List ℕ → ℕ
checksum_of file = sum (drop 64 (memory_of file)) % 65536

abbrev pub layout_of : List ℕ → Layout
layout_of file = record { globals = globals_of file; base = static_base file; checksum_right = checksum_of file == header_word file 0x1C }

-- The header of a story that isn't refused.
pub record IsHeader (file : List ℕ) (h : Header) : Type 0 where
  pub accepted : story_refusal file ≡ None
  pub layout : h.layout ≡ layout_of file
  pub start : h.start ≡ first_address file
  pub length : h.length ≡ length_of file

-- at the first instruction, in the opening frame
abbrev pub first_machine : List ℕ → ℕ → Machine
first_machine memory start = record {
  memory = memory;
  pc = start;
  here = record { back = 0; store = None; args = 0; locals = []; stack = [] };
  callers = [];
  tables = [];
}

abbrev pub given_of : List ℕ → List ℕ → ZGiven
given_of file dice = record { rows = player_rows; layout = layout_of file; dice = dice }

abbrev pub start_state : List ℕ → List ℕ → ZState
start_state file typed = record { machine = first_machine (memory_of file) (first_address file); typed = typed; drawn = 0; output = [] }

-- The run of a story on typed bytes and dice words, of at most so many instructions.
unfoldable pub story_run : List ℕ → List ℕ → List ℕ → ℕ → ZRun
story_run file typed dice n = zrun (given_of file dice) n (start_state file typed)
