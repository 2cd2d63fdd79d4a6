-- The source that is made from a number. Hold it against the README of this crate.
use Rattle.std.specs.Prelude.{ℕ, zero, suc, ◌+◌, ◌*◌, ◌%◌, List, [], ◌++◌, codes, decimal}

-- A room.
abbrev pub room_line : ℕ → List ℕ
room_line i = codes "(room #r" ++ (decimal i ++ codes ")\n")

-- A thing, among so many rooms, and the room in which it is.
abbrev pub thing_line : ℕ → ℕ → List ℕ
thing_line n i = codes "(#t" ++ (decimal i ++ codes " has parent #r") ++ (decimal ((7 * i + 3) % n) ++ codes ")\n")

-- The first so many lines, numbered from 0.
abbrev pub lines_to : (ℕ → List ℕ) → ℕ → List ℕ
lines_to line zero = []
lines_to line (suc k) = lines_to line k ++ line k

-- The program behind them: it prints each room with the things in it, and how many there were.
abbrev pub program_text : List ℕ
program_text =
    codes "(global variable (count 0))\n"
    ++ codes "(program entry point)\n"
    ++ codes "  (exhaust) { *(room $R) (describe $R) }\n"
    ++ codes "  (line) (count $C) $C things\n"
    ++ codes "(describe $R)\n"
    ++ codes "  (line) $R :\n"
    ++ codes "  (exhaust) { *($T has parent $R) $T (count $C) ($C plus 1 into $D) (now) (count $D) }\n"

-- The whole source of so many rooms and things.
abbrev pub made_source : ℕ → List ℕ
made_source n = lines_to room_line n ++ lines_to (thing_line n) n ++ program_text
