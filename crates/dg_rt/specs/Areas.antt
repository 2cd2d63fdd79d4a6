-- Where the areas of a story's memory lie. Hold it against the Z-machine standard, section 1 (the memory map), and section 6.2 (global variables).
use Rattle.std.specs.Prelude.{ℕ, ◌≤◌, List}
use Rattle.z_lang.specs.State.{State, Program}
use Rattle.dg_rt.specs.Cells.{at_cell}

-- The heap's first cell, as a word from 64 on: behind the registers and the object table.
abbrev pub heap_at : ℕ
heap_at = 303

-- The trail's first place: behind the 10,000 cells of the heap, and twelve words that may be read and written with the last block of it.
abbrev pub trail_at : ℕ
trail_at = 10315

-- The first word behind the 2,000 places of the trail.
abbrev pub areas_end : ℕ
areas_end = 12315

-- Behind the 2,000 words that may be gathered: the first of the 500 words of kept values.
abbrev pub kept_at : ℕ
kept_at = 14315

-- A word for each of them: which place it belongs to.
abbrev pub owners_at : ℕ
owners_at = 14815

-- The first word of a line that is typed: two bytes, and 256 more.
abbrev pub line_at : ℕ
line_at = 15315

-- The letters of a word that is looked for, 200 words.
abbrev pub letters_at : ℕ
letters_at = 15444

-- The letters of the word of a program that it is compared with, 301 words.
abbrev pub spelled_at : ℕ
spelled_at = 15644

-- The first word behind all that every story has.
abbrev pub fixed_end : ℕ
fixed_end = 15945

-- ## Registers, as words

-- How many bindings are on the trail, a reference to the first cell behind the newest mark, and how many cells are taken.
abbrev pub trail_reg : ℕ
trail_reg = 1

abbrev pub mark_reg : ℕ
mark_reg = 2

abbrev pub heap_reg : ℕ
heap_reg = 3

-- The newest frame, choice and inner construct, each by its place, or 0.
abbrev pub frame_reg : ℕ
frame_reg = 4

abbrev pub choice_reg : ℕ
choice_reg = 5

abbrev pub inner_reg : ℕ
inner_reg = 6

-- The stoppable part around.
abbrev pub stop_reg : ℕ
stop_reg = 7

-- Of the query at hand: the routine behind it, the place to which its rule cuts, and whether all its answers are wanted.
abbrev pub back_reg : ℕ
back_reg = 8

abbrev pub cut_reg : ℕ
cut_reg = 9

abbrev pub many_reg : ℕ
many_reg = 10

-- What its first argument is at its top, and the rule that was found first while others are looked for.
abbrev pub key_reg : ℕ
key_reg = 11

abbrev pub begin_reg : ℕ
begin_reg = 12

-- Whether an argument has clashed, and the word of a box that begins with the cells that were taken last.
abbrev pub clash_reg : ℕ
clash_reg = 13

abbrev pub term_reg : ℕ
term_reg = 14

-- The first argument; eleven more follow.
abbrev pub args_reg : ℕ
args_reg = 16

-- How the text ends: 0 where nothing was printed.
abbrev pub last_reg : ℕ
last_reg = 28

-- The newest gathering that is open, or 0.
abbrev pub gather_reg : ℕ
gather_reg = 29

-- Of the gap before the next piece: what breaks the text, how many spaces there are, whether a space is asked for, and whether a capital is.
abbrev pub lines_reg : ℕ
lines_reg = 30

abbrev pub spaces_reg : ℕ
spaces_reg = 31

abbrev pub asked_reg : ℕ
asked_reg = 32

abbrev pub upper_reg : ℕ
upper_reg = 33

-- The word of the box that is being filled.
abbrev pub word_reg : ℕ
word_reg = 36

-- How many parameters the rules of the query at hand have.
abbrev pub parameters_reg : ℕ
parameters_reg = 37

-- The address of the next cell of a value that is copied in, and the place in front of which the copy is laid.
abbrev pub from_reg : ℕ
from_reg = 38

abbrev pub fill_reg : ℕ
fill_reg = 39

-- ## What may be written

-- All that every story has may be written.
pub record IsMapped (p : Program) : Type 0 where
  pub room : at_cell fixed_end ≤ p.world.layout.base

-- The state of a routine: memory, its locals, and the outside.
abbrev pub state : List ℕ → List ℕ → List ℕ → ℕ → List ℕ → State
state memory locals typed drawn output = record { memory = memory; locals = locals; typed = typed; drawn = drawn; output = output }
