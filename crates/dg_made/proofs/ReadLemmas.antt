-- The tokens of a made source are its items.
use Rattle.std.proofs.Common.{◌≡◌, ◌+◌, ◌*◌, ◌%◌, ◌≤◌, ◌<◌, ℕ, zero, suc, true, false, List, [], ◌∷◌, ◌++◌, codes, decimal, map, drop, Ok, append_assoc, mod-lt, refl, sym, ap, subst, arith, rules}
use Rattle.dg_base.specs.Tree.{Parts, no_parts, part, part_word, part_value, object_name, nested, Said, Item, rule}
use Rattle.dg_lex.specs.Spelled.{without_escapes}
use Rattle.dg_lex.specs.Tokens.{Seen, seen}
use Rattle.dg_lex.specs.declared.token.TokenKind.TheVariants.{RoundOpen}
use Rattle.dg_open.specs.Shapes.{plain_rule, clause}
use Rattle.dg_reader.specs.Grammar.{IsEnd, ShapeAt}
use Rattle.dg_reader.specs.Read.{toks, begins_item, ReadTo, IsRead}
use Rattle.dg_reader.specs.Tokens.{object}
use Rattle.dg_made.proofs.Cells.{Cell, tokens_from, seen_from}
use Rattle.dg_made.proofs.Digits.{digits_mere}
use Rattle.dg_made.proofs.Items.{nothing, item, room_said, thing_said, count_said, zero_parts, entry_parts, entry_body, describe_parts, describe_body, room_name, thing_name, room_of, room_at, thing_at, behind, program_items, first_of, made_items}
use Rattle.dg_made.proofs.Mere.{no_escapes}
use Rattle.dg_made.proofs.Rows.{none, line_end, room_cells, thing_cells, count_cells, entry_cells, describe_cells, program_cells, room_row, thing_row, rows_to, made_cells}

-- ---- tokens

-- A token that begins a line.
abbrev opens : ℕ → Seen
opens line = record { kind = RoundOpen; text = codes "("; line = line; first = true }

-- The tokens behind this line.
abbrev pub left : ℕ → List Cell → List Seen
left line cs = seen_from false line line_end cs

-- Those of an item that stand behind its first.
abbrev others_of : ℕ → List Cell → List Seen
others_of line cs = seen_from false line none (drop 1 cs)

begins : (line : ℕ) (cs : List Cell) → begins_item (left line cs) ≡ true
begins line [] = refl
begins line (c ∷ cs) = refl

-- These tokens are read as these items.
abbrev pub AreRead : List Seen → List Item → Type 0
AreRead ts items = ReadTo false ts items []

-- ---- shapes

abbrev room_head : List ℕ → Parts
room_head name = part (part_word (codes "room")) (part (part_value (object_name name)) no_parts)

abbrev thing_head : List ℕ → List ℕ → Parts
thing_head name room =
    part (part_value (object_name name)) (part (part_word (codes "has")) (part (part_word (codes "parent"))
    (part (part_value (object_name room)) no_parts)))

abbrev count_head : Parts
count_head = part (part_word (codes "global")) (part (part_word (codes "variable")) (part (part_value (nested zero_parts)) no_parts))

room_shape : (line : ℕ) (name : List ℕ) → without_escapes name ≡ name
    → ShapeAt (clause plain_rule (room_head name) nothing) IsEnd (toks (opens line ∷ others_of line (room_cells name)))
room_shape line name e = (refl, (refl, (refl, (refl, (ap object e, (refl, refl))))))

thing_shape : (line : ℕ) (name room : List ℕ) → without_escapes name ≡ name → without_escapes room ≡ room
    → ShapeAt (clause plain_rule (thing_head name room) nothing) IsEnd (toks (opens line ∷ others_of line (thing_cells name room)))
thing_shape line name room e f = (refl, (refl, (ap object e, (refl, (refl, (refl, (refl, (ap object f, (refl, refl)))))))))

-- In each of these a line is a form of its own in the source, or begins one.
count_shape : (line : ℕ) → ShapeAt (clause plain_rule count_head nothing) IsEnd (toks (opens line ∷ others_of line count_cells))
count_shape line = search rules

entry_shape : (line : ℕ) → ShapeAt (clause plain_rule entry_parts entry_body) IsEnd (toks (opens line ∷ others_of line entry_cells))
entry_shape line = search rules

describe_shape : (line : ℕ) → ShapeAt (clause plain_rule describe_parts describe_body) IsEnd (toks (opens line ∷ others_of line describe_cells))
describe_shape line = search rules

-- ---- items

read_room : (line : ℕ) (name : List ℕ) (rest : List Cell) (items : List Item) → without_escapes name ≡ name → AreRead (left (line + 1) rest) items
    → AreRead (left line (room_cells name ++ rest)) (item (line + 1) (room_said name) ∷ items)
read_room line name rest items e h = (
  left (line + 1) rest,
  record {
    first = opens (line + 1);
    others = others_of (line + 1) (room_cells name);
    front = record { split = refl; alone = refl; ends = begins (line + 1) rest };
    shape = clause plain_rule (room_head name) nothing;
    shaped = record { column = refl; whole = room_shape (line + 1) name e };
    allowed = refl;
    is = refl;
  },
  h,
)

read_thing : (line : ℕ) (name room : List ℕ) (rest : List Cell) (items : List Item) → without_escapes name ≡ name → without_escapes room ≡ room
    → AreRead (left (line + 1) rest) items → AreRead (left line (thing_cells name room ++ rest)) (item (line + 1) (thing_said name room) ∷ items)
read_thing line name room rest items e f h = (
  left (line + 1) rest,
  record {
    first = opens (line + 1);
    others = others_of (line + 1) (thing_cells name room);
    front = record { split = refl; alone = refl; ends = begins (line + 1) rest };
    shape = clause plain_rule (thing_head name room) nothing;
    shaped = record { column = refl; whole = thing_shape (line + 1) name room e f };
    allowed = refl;
    is = refl;
  },
  h,
)

read_count : (line : ℕ) (rest : List Cell) (items : List Item) → AreRead (left (line + 1) rest) items
    → AreRead (left line (count_cells ++ rest)) (item (line + 1) count_said ∷ items)
read_count line rest items h = (
  left (line + 1) rest,
  record {
    first = opens (line + 1);
    others = others_of (line + 1) count_cells;
    front = record { split = refl; alone = refl; ends = begins (line + 1) rest };
    shape = clause plain_rule count_head nothing;
    shaped = record { column = refl; whole = count_shape (line + 1) };
    allowed = refl;
    is = refl;
  },
  h,
)

read_entry : (line : ℕ) (rest : List Cell) (items : List Item) → AreRead (left (line + 1 + 1 + 1) rest) items
    → AreRead (left line (entry_cells ++ rest)) (item (line + 1) (rule entry_parts entry_body) ∷ items)
read_entry line rest items h = (
  left (line + 1 + 1 + 1) rest,
  record {
    first = opens (line + 1);
    others = others_of (line + 1) entry_cells;
    front = record { split = refl; alone = refl; ends = begins (line + 1 + 1 + 1) rest };
    shape = clause plain_rule entry_parts entry_body;
    shaped = record { column = refl; whole = entry_shape (line + 1) };
    allowed = refl;
    is = refl;
  },
  h,
)

read_describe : (line : ℕ) → AreRead (left line describe_cells) (item (line + 1) (rule describe_parts describe_body) ∷ [])
read_describe line = (
  [],
  record {
    first = opens (line + 1);
    others = others_of (line + 1) describe_cells;
    front = record { split = refl; alone = refl; ends = refl };
    shape = clause plain_rule describe_parts describe_body;
    shaped = record { column = refl; whole = describe_shape (line + 1) };
    allowed = refl;
    is = refl;
  },
  refl,
)

read_program : (line : ℕ) → AreRead (left line program_cells) (program_items line)
read_program line =
    let last = item (line + 1 + 1 + 1 + 1 + 1) (rule describe_parts describe_body) ∷ [] in
    read_count line (entry_cells ++ describe_cells) (item (line + 1 + 1) (rule entry_parts entry_body) ∷ last)
    (read_entry (line + 1) describe_cells last (read_describe (line + 1 + 1 + 1 + 1)))

-- ---- all items

-- Lines of which each is read as an item, in front of others.
read_rows : (m : ℕ) (row : ℕ → List Cell) (said : ℕ → Said) (k : ℕ)
    → ((i : ℕ) → i < k → (rest : List Cell) (items : List Item) → AreRead (left (m + i + 1) rest) items
    → AreRead (left (m + i) (row i ++ rest)) (behind m said i ∷ items))
    → (rest : List Cell) (items : List Item) → AreRead (left (m + k) rest) items → AreRead (left m (rows_to row k ++ rest)) (first_of (behind m said) k ++ items)
read_rows m row said zero step rest items h = let same : m + 0 ≡ m = omega arith in subst (λ line. AreRead (left line rest) items) same h
read_rows m row said (suc k) step rest items h =
    let next : m + suc k ≡ m + k + 1 = omega arith in
    let last = step k (omega arith) rest items (subst (λ line. AreRead (left line rest) items) next h) in
    let all = read_rows m row said k (λ i lt. step i (omega (arith, lt))) (row k ++ rest) (behind m said k ∷ items) last in
    subst (λ cs. AreRead (left m cs) (first_of (behind m said) (suc k) ++ items)) (sym (append_assoc (rows_to row k) (row k) rest))
    (subst (λ is. AreRead (left m (rows_to row k ++ (row k ++ rest))) is) (sym (append_assoc (first_of (behind m said) k) (behind m said k ∷ []) items)) all)

-- the tokens of a source stand behind a line of number 0
from_start : (cs : List Cell) → seen_from true 1 none cs ≡ left 0 cs
from_start [] = refl
from_start (c ∷ cs) = refl

pub made_read : (n : ℕ) → 1 ≤ n → n ≤ 400 → IsRead (map seen (tokens_from true 1 none (made_cells n))) (Ok (made_items n))
made_read n some le =
    let whole : (i : ℕ) → i < 1000 → without_escapes (decimal i) ≡ decimal i = λ i lt. no_escapes (decimal i) (digits_mere i (omega (arith, lt))) in
    let rooms = read_rows 0 room_row room_at n (λ i lt rest items h.
    read_room (0 + i) (room_name i) rest items (ap (λ (l : List ℕ). 114 ∷ l) (whole i (omega (arith, lt, le)))) h) in
    let things = read_rows n (thing_row n) (thing_at n) n (λ i lt rest items h.
    read_thing (n + i) (thing_name i) (room_of n i) rest items (ap (λ (l : List ℕ). 116 ∷ l) (whole i (omega (arith, lt, le))))
    (ap (λ (l : List ℕ). 114 ∷ l) (whole ((7 * i + 3) % n) (omega (arith, mod-lt (7 * i + 3) some, le)))) h) in
    let start : 0 + n ≡ n = omega arith in
    subst (λ ts. AreRead ts (made_items n)) (sym (from_start (made_cells n)))
    (rooms (rows_to (thing_row n) n ++ program_cells) (first_of (behind n (thing_at n)) n ++ program_items (n + n))
    (subst (λ line. AreRead (left line (rows_to (thing_row n) n ++ program_cells)) (first_of (behind n (thing_at n)) n ++ program_items (n + n))) (sym start)
    (things program_cells (program_items (n + n)) (read_program (n + n)))))
