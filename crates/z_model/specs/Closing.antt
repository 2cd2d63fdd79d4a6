-- What the player writes behind a story's output; the standard leaves this to the interpreter.
use Rattle.std.specs.Prelude.{ℕ, List, [], ◌∷◌, ◌++◌, Bool, true, false, not, codes, decimal, ◌==◌}
use Rattle.z_model.specs.declared.end.ZEnd.{ZEnd}
use Rattle.z_model.specs.declared.end.ZEnd.TheVariants as ends
use Rattle.z_model.specs.Fault.{printed_number}
use Rattle.z_model.specs.Run.{ZRun}

-- the line of an end, with its newline; a story that quits has none
abbrev pub end_line : ZEnd → List ℕ
end_line ends.Quit = []
end_line ends.InputEnded = codes "[End of input]\n"
end_line ends.StepLimit = codes "[Step limit]\n"
end_line (ends.Broken fault at) = codes "[Broken: " ++ decimal (printed_number fault) ++ codes " at " ++ decimal at ++ codes "]\n"

-- the line where a byte can't be read from the input
abbrev pub unread_line : List ℕ
unread_line = codes "[Input fault]\n"

-- Whether a line is open behind a text, where it was before it: the last byte isn't a newline.
abbrev pub is_open : Bool → List ℕ → Bool
is_open before [] = before
is_open before (byte ∷ text) = is_open (not (byte == 10)) text

-- A line begins on a line of its own: behind an output that is neither empty nor ended by a newline, a newline comes first.
abbrev pub newline_if : Bool → List ℕ
newline_if true = 10 ∷ []
newline_if false = []

-- the output with a line behind it, if there is one
unfoldable pub with_end_line : List ℕ → List ℕ → List ℕ
with_end_line output [] = output
with_end_line output (byte ∷ line) = output ++ (newline_if (is_open false output) ++ byte ∷ line)

-- all that is written of a run
abbrev pub played_text : ZRun → List ℕ
played_text r = with_end_line r.state.output (end_line r.end)
