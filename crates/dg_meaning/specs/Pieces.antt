-- The pieces of a printed value. Hold it against the chapter of the Dialog manual on output, and docs/LANGUAGE.md, where it says how a value is printed.
use Rattle.std.specs.Prelude.{ℕ, nat_lt, List, [], ◌∷◌, ◌++◌, map, codes, get_or, encode_utf8_all, if◌then◌else◌}
use Rattle.std.specs.Fmt.{decimal}
use Rattle.dg_base.specs.declared.program.CoreProgram.{CoreProgram}
use Rattle.dg_meaning.specs.Values.{Label, Num, Word, Unknown, Object, Nil, Pair, Closure, Value, Var, Node, Values, NoMore, More}

-- A letter as it is printed, the number of a character; a question mark for the numbers from 55,296 to 57,343, which are none.
abbrev pub shown_letter : ℕ → ℕ
shown_letter c = if nat_lt c 55296 then c else if nat_lt c 57344 then 63 else c

-- The text of an unknown word: its letters in UTF-8.
abbrev pub word_text : List ℕ → List ℕ
word_text spelling = encode_utf8_all (map shown_letter spelling)

-- What is printed of a label: a number in decimal, a word by its spelling, an object by its name, a closure as braces, and of a list its first bracket.
abbrev pub label_piece : CoreProgram → Label → List ℕ
label_piece program (Num n) = decimal n
label_piece program (Word n) = get_or program.words n []
label_piece program (Unknown spelling) = word_text spelling
label_piece program (Object n) = codes "#" ++ get_or program.objects n []
label_piece program (Closure place) = codes "{}"
label_piece program Nil = codes "["
label_piece program Pair = codes "["

-- The first piece of a value, which is the only one where the value is no list.
abbrev pub first_piece : CoreProgram → Value → List ℕ
first_piece program (Var x) = codes "$"
first_piece program (Node f vs) = label_piece program f

-- The pieces of a value: a list is `[`, its elements, and `]`, with `|` and the tail before that where the tail isn't the empty list.
abbrev mutual
  pub pieces : CoreProgram → Value → List (List ℕ)
  pieces program (Node Nil vs) = codes "[" ∷ codes "]" ∷ []
  pieces program (Node Pair vs) = codes "[" ∷ list_pieces program vs
  pieces program v = first_piece program v ∷ []

  pub list_pieces : CoreProgram → Values → List (List ℕ)
  list_pieces program (More head (More tail NoMore)) = pieces program head ++ tail_pieces program tail
  list_pieces program vs = codes "]" ∷ []

  pub tail_pieces : CoreProgram → Value → List (List ℕ)
  tail_pieces program (Node Nil vs) = codes "]" ∷ []
  tail_pieces program (Node Pair vs) = list_pieces program vs
  tail_pieces program v = codes "|" ∷ first_piece program v ∷ codes "]" ∷ []
