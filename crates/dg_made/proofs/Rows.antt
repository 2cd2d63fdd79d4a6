-- The lines of a made source as rows of tokens.
use Rattle.std.proofs.Common.{◌≡◌, ◌+◌, ◌*◌, ◌%◌, ◌≤◌, ◌<◌, ℕ, zero, suc, true, List, [], ◌∷◌, ◌++◌, codes, decimal, None, length, length-append, append_assoc, mod-lt, refl, sym, ap, subst, ◌∙◌, arith}
use Rattle.std.specs.List.{list_all}
use Rattle.std.proofs.lemmas.Bool.{and_from}
use Rattle.std.proofs.lemmas.Fmt.{length-decimal-le}
use Rattle.std.proofs.lemmas.List.Folds.{list_all-append}
use Rattle.dg_lex.specs.Bad.{lex_refusal}
use Rattle.dg_lex.specs.Chars.{is_name_char}
use Rattle.dg_lex.specs.Tokens.{IsTokens, IsLexed}
use Rattle.dg_lex.specs.declared.token.TokenKind.TheVariants.{Word, Object, Var, RoundOpen, RoundClose, BraceOpen, BraceClose, Star}
use Rattle.dg_make.specs.Made.{room_line, thing_line, lines_to, program_text, made_source}
use Rattle.dg_made.proofs.Cells.{Cell, cell, text_of, tokens_from, are_cells, are_tokens}
use Rattle.dg_made.proofs.Digits.{digits_named, digits_mere}
use Rattle.dg_made.proofs.Items.{room_name, thing_name, room_of}
use Rattle.dg_made.proofs.Mere.{is_mere, not_refused, no_mark}

-- ---- rows

abbrev pub none : List ℕ
none = []

abbrev pub blank : List ℕ
blank = codes " "

abbrev pub line_end : List ℕ
line_end = codes "\n"

-- a line that goes on with two blanks
abbrev pub indent : List ℕ
indent = codes "\n  "

abbrev pub opening : List ℕ → Cell
opening gap = cell RoundOpen (codes "(") gap

abbrev pub closing : List ℕ → Cell
closing gap = cell RoundClose (codes ")") gap

abbrev pub word : List ℕ → List ℕ → Cell
word w gap = cell Word w gap

-- (room #NAME)
abbrev pub room_cells : List ℕ → List Cell
room_cells name = opening none ∷ word (codes "room") blank ∷ cell Object (35 ∷ name) none ∷ closing line_end ∷ []

-- (#NAME has parent #ROOM)
abbrev pub thing_cells : List ℕ → List ℕ → List Cell
thing_cells name room =
    opening none ∷ cell Object (35 ∷ name) blank ∷ word (codes "has") blank ∷ word (codes "parent") blank ∷ cell Object (35 ∷ room) none ∷ closing line_end ∷ []

-- (global variable (count 0))
abbrev pub count_cells : List Cell
count_cells =
    opening none ∷ word (codes "global") blank ∷ word (codes "variable") blank ∷ opening none ∷ word (codes "count") blank ∷ word (codes "0") none
    ∷ closing none ∷ closing line_end ∷ []

-- (program entry point), with its body
abbrev pub entry_cells : List Cell
entry_cells =
    opening none ∷ word (codes "program") blank ∷ word (codes "entry") blank ∷ word (codes "point") none ∷ closing indent
    ∷ opening none ∷ word (codes "exhaust") none ∷ closing blank ∷ cell BraceOpen (codes "{") blank
    ∷ cell Star (codes "*") none ∷ opening none ∷ word (codes "room") blank ∷ cell Var (codes "$R") none ∷ closing blank
    ∷ opening none ∷ word (codes "describe") blank ∷ cell Var (codes "$R") none ∷ closing blank ∷ cell BraceClose (codes "}") indent
    ∷ opening none ∷ word (codes "line") none ∷ closing blank ∷ opening none ∷ word (codes "count") blank ∷ cell Var (codes "$C") none ∷ closing blank
    ∷ cell Var (codes "$C") blank ∷ word (codes "things") line_end ∷ []

-- (describe $R), with its body
abbrev pub describe_cells : List Cell
describe_cells =
    opening none ∷ word (codes "describe") blank ∷ cell Var (codes "$R") none ∷ closing indent
    ∷ opening none ∷ word (codes "line") none ∷ closing blank ∷ cell Var (codes "$R") blank ∷ word (codes ":") indent
    ∷ opening none ∷ word (codes "exhaust") none ∷ closing blank ∷ cell BraceOpen (codes "{") blank
    ∷ cell Star (codes "*") none ∷ opening none ∷ cell Var (codes "$T") blank ∷ word (codes "has") blank ∷ word (codes "parent") blank
    ∷ cell Var (codes "$R") none ∷ closing blank ∷ cell Var (codes "$T") blank
    ∷ opening none ∷ word (codes "count") blank ∷ cell Var (codes "$C") none ∷ closing blank
    ∷ opening none ∷ cell Var (codes "$C") blank ∷ word (codes "plus") blank ∷ word (codes "1") blank ∷ word (codes "into") blank
    ∷ cell Var (codes "$D") none ∷ closing blank ∷ opening none ∷ word (codes "now") none ∷ closing blank
    ∷ opening none ∷ word (codes "count") blank ∷ cell Var (codes "$D") none ∷ closing blank ∷ cell BraceClose (codes "}") line_end ∷ []

abbrev pub program_cells : List Cell
program_cells = count_cells ++ (entry_cells ++ describe_cells)

abbrev pub room_row : ℕ → List Cell
room_row i = room_cells (room_name i)

abbrev pub thing_row : ℕ → ℕ → List Cell
thing_row n i = thing_cells (thing_name i) (room_of n i)

-- The first so many rows, numbered from 0.
abbrev pub rows_to : (ℕ → List Cell) → ℕ → List Cell
rows_to row zero = []
rows_to row (suc k) = rows_to row k ++ row k

abbrev pub made_cells : ℕ → List Cell
made_cells n = rows_to room_row n ++ (rows_to (thing_row n) n ++ program_cells)

-- ---- their text

text_append : (a b : List Cell) → text_of (a ++ b) ≡ text_of a ++ text_of b
text_append [] b = refl
text_append (c ∷ a) b =
    ap (λ t. c.text ++ (c.gap ++ t)) (text_append a b)
    ∙ ap (λ t. c.text ++ t) (sym (append_assoc c.gap (text_of a) (text_of b)))
    ∙ sym (append_assoc c.text (c.gap ++ text_of a) (text_of b))

room_text : (i : ℕ) → text_of (room_row i) ≡ room_line i
room_text i = refl

thing_text : (n i : ℕ) → text_of (thing_row n i) ≡ thing_line n i
thing_text n i = ap (λ t. codes "(#t" ++ t) (sym (append_assoc (decimal i) (codes " has parent #r") (decimal ((7 * i + 3) % n) ++ codes ")\n")))

rows_text : (row : ℕ → List Cell) (line : ℕ → List ℕ) → ((i : ℕ) → text_of (row i) ≡ line i) → (k : ℕ) → text_of (rows_to row k) ≡ lines_to line k
rows_text row line h zero = refl
rows_text row line h (suc k) =
    text_append (rows_to row k) (row k) ∙ ap (λ t. t ++ text_of (row k)) (rows_text row line h k) ∙ ap (λ t. lines_to line k ++ t) (h k)

program_is : text_of program_cells ≡ program_text
program_is = refl

made_text : (n : ℕ) → text_of (made_cells n) ≡ made_source n
made_text n =
    text_append (rows_to room_row n) (rows_to (thing_row n) n ++ program_cells)
    ∙ ap (λ t. t ++ text_of (rows_to (thing_row n) n ++ program_cells)) (rows_text room_row room_line room_text n)
    ∙ ap (λ t. lines_to room_line n ++ t)
    (text_append (rows_to (thing_row n) n) program_cells
    ∙ ap (λ t. t ++ text_of program_cells) (rows_text (thing_row n) (thing_line n) (thing_text n) n)
    ∙ ap (λ t. lines_to (thing_line n) n ++ t) program_is)
    ∙ sym (append_assoc (lines_to room_line n) (lines_to (thing_line n) n) program_text)

-- ---- each token ends before the next

room_fits : (name : ℕ) (w : List ℕ) (rest : List Cell) → list_all is_name_char (name ∷ w) ≡ true → are_cells rest ≡ true → are_cells (room_cells (name ∷ w) ++ rest) ≡ true
room_fits name w rest h k = rw (h, k) refl

thing_fits : (name room : ℕ) (w v : List ℕ) (rest : List Cell) → list_all is_name_char (name ∷ w) ≡ true → list_all is_name_char (room ∷ v) ≡ true → are_cells rest ≡ true → are_cells (thing_cells (name ∷ w) (room ∷ v) ++ rest) ≡ true
thing_fits name room w v rest h g k = rw (h, g, k) refl

rows_fit : (row : ℕ → List Cell) (k : ℕ) (rest : List Cell) → ((i : ℕ) (more : List Cell) → i < k → are_cells more ≡ true → are_cells (row i ++ more) ≡ true) → are_cells rest ≡ true → are_cells (rows_to row k ++ rest) ≡ true
rows_fit row zero rest h e = e
rows_fit row (suc k) rest h e =
    subst (λ l. are_cells l ≡ true) (sym (append_assoc (rows_to row k) (row k) rest))
    (rows_fit row k (row k ++ rest) (λ i more lt f. h i more (omega (arith, lt)) f) (h k rest (omega arith) e))

program_fits : are_cells program_cells ≡ true
program_fits = refl

-- a number that has a room or a thing is small
small_room : (n i : ℕ) → 1 ≤ n → n ≤ 400 → (7 * i + 3) % n < 1000
small_room n i some le = omega (arith, mod-lt (7 * i + 3) some, le)

made_fit : (n : ℕ) → 1 ≤ n → n ≤ 400 → are_cells (made_cells n) ≡ true
made_fit n some le =
    rows_fit room_row n (rows_to (thing_row n) n ++ program_cells) (λ i more lt e. room_fits 114 (decimal i) more (digits_named i (omega (arith, lt, le))) e)
    (rows_fit (thing_row n) n program_cells
    (λ i more lt e. thing_fits 116 114 (decimal i) (decimal ((7 * i + 3) % n)) more (digits_named i (omega (arith, lt, le)))
    (digits_named ((7 * i + 3) % n) (omega (arith, small_room n i some le))) e)
    program_fits)

-- ---- it isn't refused

lines_mere : (line : ℕ → List ℕ) (k : ℕ) → ((i : ℕ) → i < k → list_all is_mere (line i) ≡ true) → list_all is_mere (lines_to line k) ≡ true
lines_mere line zero h = refl
lines_mere line (suc k) h =
    list_all-append is_mere (lines_to line k) (line k) ∙ and_from _ _ (lines_mere line k λ i lt. h i (omega (arith, lt))) (h k (omega arith))

number_mere : (i : ℕ) (behind : List ℕ) → i < 1000 → list_all is_mere behind ≡ true → list_all is_mere (decimal i ++ behind) ≡ true
number_mere i behind lt h = list_all-append is_mere (decimal i) behind ∙ and_from _ _ (digits_mere i (omega (arith, lt))) h

room_mere : (i : ℕ) → i < 1000 → list_all is_mere (room_line i) ≡ true
room_mere i lt = list_all-append is_mere (codes "(room #r") (decimal i ++ codes ")\n") ∙ number_mere i (codes ")\n") lt refl

thing_mere : (n i : ℕ) → i < 1000 → (7 * i + 3) % n < 1000 → list_all is_mere (thing_line n i) ≡ true
thing_mere n i lt below =
    let front = number_mere i (codes " has parent #r") lt refl in
    let back = number_mere ((7 * i + 3) % n) (codes ")\n") below refl in
    let both = list_all-append is_mere (decimal i ++ codes " has parent #r") (decimal ((7 * i + 3) % n) ++ codes ")\n") in
    both ∙ and_from _ _ front back

program_mere : list_all is_mere program_text ≡ true
program_mere = refl

made_mere : (n : ℕ) → 1 ≤ n → n ≤ 400 → list_all is_mere (made_source n) ≡ true
made_mere n some le =
    let rooms = lines_mere room_line n (λ i lt. room_mere i (omega (arith, lt, le))) in
    let things = lines_mere (thing_line n) n (λ i lt. thing_mere n i (omega (arith, lt, le)) (small_room n i some le)) in
    let lines = list_all-append is_mere (lines_to room_line n) (lines_to (thing_line n) n) ∙ and_from _ _ rooms things in
    list_all-append is_mere (lines_to room_line n ++ lines_to (thing_line n) n) program_text ∙ and_from _ _ lines program_mere

lines_short : (line : ℕ → List ℕ) (k : ℕ) → ((i : ℕ) → i < k → length (line i) ≤ 40) → length (lines_to line k) ≤ 40 * k
lines_short line zero h = omega arith
lines_short line (suc k) h =
    omega (arith, length-append (lines_to line k) (line k), lines_short line k λ i lt. h i (omega (arith, lt)), h k (omega arith))

number_short : (i : ℕ) → i < 1000 → length (decimal i) ≤ 3
number_short i lt = length-decimal-le 3 i (omega arith) (omega (arith, lt)) (omega (arith, lt))

room_short : (i : ℕ) → i < 1000 → length (room_line i) ≤ 40
room_short i lt =
    let long : length (room_line i) ≡ 8 + length (decimal i ++ codes ")\n") = length-append (codes "(room #r") (decimal i ++ codes ")\n") in
    omega (arith, long, length-append (decimal i) (codes ")\n"), number_short i lt)

thing_short : (n i : ℕ) → i < 1000 → (7 * i + 3) % n < 1000 → length (thing_line n i) ≤ 40
thing_short n i lt below =
    let front = decimal i ++ codes " has parent #r" in
    let back = decimal ((7 * i + 3) % n) ++ codes ")\n" in
    let long : length (thing_line n i) ≡ 3 + length (front ++ back) = length-append (codes "(#t") (front ++ back) in
    omega (
      arith,
      long,
      length-append front back,
      length-append (decimal i) (codes " has parent #r"),
      length-append (decimal ((7 * i + 3) % n)) (codes ")\n"),
      number_short i lt,
      number_short ((7 * i + 3) % n) below,
    )

program_short : length program_text ≡ 236
program_short = refl

made_short : (n : ℕ) → 1 ≤ n → n ≤ 400 → length (made_source n) ≤ 1048576
made_short n some le =
    omega (
      arith,
      length-append (lines_to room_line n ++ lines_to (thing_line n) n) program_text,
      length-append (lines_to room_line n) (lines_to (thing_line n) n),
      program_short,
      le,
      lines_short room_line n (λ i lt. room_short i (omega (arith, lt, le))),
      lines_short (thing_line n) n (λ i lt. thing_short n i (omega (arith, lt, le)) (small_room n i some le)),
    )

pub made_accepted : (n : ℕ) → 1 ≤ n → n ≤ 400 → lex_refusal (made_source n) ≡ None
made_accepted n some le = not_refused (made_source n) (made_short n some le) (made_mere n some le)

-- The tokens of a made source.
pub made_lexed : (n : ℕ) → 1 ≤ n → n ≤ 400 → IsLexed (made_source n) (tokens_from true 1 none (made_cells n))
made_lexed n some le =
    subst (λ text. IsTokens true 1 text (tokens_from true 1 none (made_cells n))) (made_text n ∙ sym (no_mark (made_source n) (made_mere n some le)))
    (are_tokens true 1 none (made_cells n) refl (made_fit n some le))
