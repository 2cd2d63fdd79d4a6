-- The items of a source, from its tokens: hold it against docs/LANGUAGE.md, "Grammar", and against docs/REFUSALS.md on unclosed constructs,
-- unexpected tokens, refused names and bad heads.
use Rattle.std.specs.Prelude.{◌≡◌, ◌&&◌, ◌||◌, ℕ, zero, suc, List, [], ◌∷◌, ◌++◌, Bool, true, false, not, map, Some, None, unwrap_or, Option, Result, Ok, Err, if◌then◌else◌}
use Rattle.dg_base.specs.Tree.{Parts, Body, Said, topic, rule, deny, access, global_variable, Item}
use Rattle.dg_base.specs.declared.refusal.Refusal.{Refusal}
use Rattle.dg_base.specs.declared.refusal.Kind.{Kind}
use Rattle.dg_base.specs.declared.refusal.Kind.TheVariants.{Unclosed, Unexpected}
use Rattle.dg_lex.specs.Tokens.{Seen}
use Rattle.dg_reader.specs.Tokens.{Tok}
use Rattle.dg_reader.specs.TokenView.{kind_view}
use Rattle.dg_open.specs.Shapes.{Sign, plain_rule, negated, access_rule, Shape, topic_line, clause}
use Rattle.dg_reader.specs.Grammar.{is_declaration, InItem, IsUnclosed, IsUnexpectedAt}
use Rattle.dg_reader.specs.Heads.{declared_query, fault_of}

-- ---- the tokens of an item

-- What the grammar sees of tokens.
abbrev pub toks : List Seen → List Tok
toks ts = map (λ (t : Seen). kind_view t.kind t.text) ts

-- None of these stands in the first column.
abbrev pub all_behind : List Seen → Bool
all_behind [] = true
all_behind (t ∷ ts) = not t.first && all_behind ts

-- Nothing, or a token in the first column.
abbrev pub begins_item : List Seen → Bool
begins_item [] = true
begins_item (t ∷ ts) = t.first

-- The tokens of the first item, and those behind them.
pub record IsFront (ts : List Seen) (first : Seen) (others rest : List Seen) : Type 0 where
  pub split : ts ≡ first ∷ (others ++ rest)
  pub alone : all_behind others ≡ true
  pub ends : begins_item rest ≡ true

-- ---- what an item says

-- A declaration says the query that it declares, with its value.
abbrev pub declared : Parts → Said
declared ps = global_variable (unwrap_or (declared_query ps) ps)

-- A rule with such a head says what it declares, and each other item what it is.
abbrev pub declared_or : Said → Said
declared_or (rule ps b) = if is_declaration ps then declared ps else rule ps b
declared_or said = said

-- A head with its sign and its body, a declaration being a rule.
abbrev pub signed : Sign → Parts → Body → Said
signed plain_rule ps b = rule ps b
signed negated ps b = deny ps b
signed access_rule ps b = access ps b

-- An item of this shape, a declaration being a rule.
abbrev pub signed_of : Shape → Said
signed_of (topic_line n) = topic n
signed_of (clause sign ps b) = signed sign ps b

-- What an item of this shape says.
abbrev pub said_of : Shape → Said
said_of shape = declared_or (signed_of shape)

-- Why an item of this shape is refused, if it is.
abbrev pub item_fault : Bool → Shape → Option Kind
item_fault behind_topic shape = fault_of behind_topic (signed_of shape)

-- An item of this shape, on the line of its first token.
abbrev pub item_of : Seen → Shape → Item
item_of first shape = record { line = first.line; said = said_of shape }

-- ---- topics

-- Whether an item says what the topic is.
abbrev pub is_topic : Said → Bool
is_topic (topic n) = true
is_topic said = false

-- Whether a topic stands before what comes behind these items, which may stand behind one themselves.
abbrev pub behind_topic : Bool → List Item → Bool
behind_topic before [] = before
behind_topic before (i ∷ is) = behind_topic (before || is_topic i.said) is

-- ---- one item

-- The first of these tokens, which may stand behind a topic, are this item, and then this rest.
pub record IsItemAt (before : Bool) (ts : List Seen) (item : Item) (rest : List Seen) : Type 0 where
  pub first : Seen
  pub others : List Seen
  pub front : IsFront ts first others rest
  pub shape : Shape
  pub shaped : InItem first.first (toks (first ∷ others)) shape
  pub allowed : item_fault before shape ≡ None
  pub is : item ≡ item_of first shape

-- An item of this shape, on this line, is refused so.
pub record IsFaultOf (before : Bool) (line : ℕ) (shape : Shape) (r : Refusal) : Type 0 where
  pub kind : Kind
  pub fault : item_fault before shape ≡ Some kind
  pub is : r ≡ record { kind = kind; line = line }

-- the line of the token of this number among these
abbrev pub line_at : Seen → List Seen → ℕ → ℕ
line_at first others zero = first.line
line_at first [] (suc index) = first.line
line_at first (next ∷ others) (suc index) = line_at next others index

-- The first item of these tokens is refused: it isn't closed; or a token stands that no item goes on with, and its line is told; or it has a shape,
-- and a fault.
pub data IsRefusedAt (before : Bool) (ts : List Seen) (r : Refusal) : Type 0 where
  not_closed : (first : Seen) → (others rest : List Seen) → IsFront ts first others rest → IsUnclosed first.first (toks (first ∷ others)) →
      r ≡ record { kind = Unclosed; line = first.line } → IsRefusedAt before ts r
  not_expected : (first : Seen) → (others rest : List Seen) → IsFront ts first others rest → (index : ℕ) →
      IsUnexpectedAt first.first (toks (first ∷ others)) index
      → r ≡ record { kind = Unexpected; line = line_at first others index } → IsRefusedAt before ts r
  not_allowed : (first : Seen) → (others rest : List Seen) → IsFront ts first others rest → (shape : Shape) →
      InItem first.first (toks (first ∷ others)) shape → IsFaultOf before first.line shape r → IsRefusedAt before ts r

-- ---- all items

-- These items stand at the front, and then this rest.
abbrev pub ReadTo : Bool → List Seen → List Item → List Seen → Type 0
ReadTo before ts [] rest = rest ≡ ts
ReadTo before ts (item ∷ items) rest = (mid : List Seen) × IsItemAt before ts item mid × ReadTo (before || is_topic item.said) mid items rest

-- The first item that is none of the language's is refused; those before it are.
pub record IsRefusedIn (ts : List Seen) (r : Refusal) : Type 0 where
  pub items : List Item
  pub rest : List Seen
  pub before : ReadTo false ts items rest
  pub here : IsRefusedAt (behind_topic false items) rest r

-- These tokens are these items, or are refused so.
abbrev pub IsRead : List Seen → Result (List Item) Refusal → Type 0
IsRead ts (Ok items) = ReadTo false ts items []
IsRead ts (Err r) = IsRefusedIn ts r
