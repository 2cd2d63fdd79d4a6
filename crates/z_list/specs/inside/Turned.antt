-- What comes of a call that reads lines.
use Rattle.std.specs.Prelude.{◌≡◌, ◌<◌, ◌≤◌, ℕ, ◌+◌, ◌-◌, ◌*◌, List, [], ◌∷◌, ◌++◌, length, Option, MatchOption, Bool, true}
use Rattle.std.specs.Borrow.{Bor}
use Rattle.z_list.specs.declared.place.Place.{Place}
use Rattle.z_list.specs.declared.place.Place.TheVariants as places
use Rattle.z_list.specs.Listing.{Line, Data}
use Rattle.z_list.specs.Texts.{story_line, texts}
use Rattle.z_list.specs.inside.Lines.{Where, Outside, Named, Inside, Behind, is_full, IsRow, Comes, IsOutside}
use Rattle.z_list.specs.inside.Held.{bytes_of, IsFit, AreFit}
use Rattle.z_list.specs.inside.Read.{first_clamped, IsStuck, IsNext, Stands}
use Rattle.z_list.specs.inside.Forms.{IsData}

-- the state in which a line is read
abbrev pub where_of : Place → Where
where_of (places.Outside full) = Outside full
where_of places.Named = Named
where_of places.Inside = Inside

-- no more bytes were read than there are, and a mark that has begun has one left
abbrev pub HasRoom : Place → ℕ → ℕ → Type 0
HasRoom places.Named at count = at < count
HasRoom (places.Outside full) at count = at ≤ count
HasRoom places.Inside at count = at ≤ count

-- lines that were read beside three for each byte
abbrev pub slack : Where → ℕ
slack (Outside full) = 1
slack Named = 2
slack Inside = 0
slack (Behind full since) = 0

-- Lines were read that lead from a state to a place; the number of the next line and the bytes that were read are more by theirs.
pub record IsTurn (w : Where) (old text : List ℕ) (count line : ℕ) (next : Place) (new rest : List ℕ) (line' : ℕ) : Type 0 where
  pub lines : List Line
  pub comes : Comes first_clamped w (length old) (count - length old) lines (where_of next) (length new) (count - length new)
  pub fit : AreFit lines
  pub is : text ≡ texts lines ++ rest
  pub some : 0 < length lines
  pub many : line' ≡ line + length lines
  pub bytes : new ≡ old ++ bytes_of lines
  pub room : HasRoom next (length new) count

-- Lines were read, if any, behind which no line goes on; outside marks there is none.
pub record NoTurn (w : Where) (at left : ℕ) (text : List ℕ) (line line' : ℕ) : Type 0 where
  pub lines : List Line
  pub state : Where
  pub place : ℕ
  pub bytes_left : ℕ
  pub rest : List ℕ
  pub comes : Comes first_clamped w at left lines state place bytes_left
  pub fit : AreFit lines
  pub is : text ≡ texts lines ++ rest
  pub many : line' ≡ line + length lines
  pub stuck : IsStuck (IsNext state place bytes_left) rest
  pub outside : IsOutside first_clamped state → IsOutside first_clamped w × (rest ≡ text)

-- What a call that reads lines comes to: where the next one is read, and what is left of the text; or none goes on.
abbrev pub ReadsOn : (w : Where) (old text : List ℕ) (count line : ℕ) (new : List ℕ) (line' : ℕ) → Option (Place × Bor (List ℕ)) → Type 0
ReadsOn w old text count line new line' read =
    MatchOption read (NoTurn w (length old) (count - length old) text line line') (λ x. IsTurn w old text count line x.0 new x.1.now line')

-- Rows stand one behind another, each behind a full one, whatever they hold.
abbrev pub AreRows : Bool → ℕ → ℕ → List Line → Bool → ℕ → ℕ → Type 0
AreRows full at left [] full' at' left' = (full ≡ full') × (at ≡ at') × (left ≡ left')
AreRows full at left (Data a bs ∷ ls) full' at' left' =
    (full ≡ true) × (k : ℕ) × (n : ℕ) × IsRow at left a bs k n × IsFit (Data a bs) × AreRows (is_full bs) k n ls full' at' left'
AreRows full at left (l ∷ ls) full' at' left' = ⊥

-- Rows were read, and behind them a text in which none goes on.
pub record ReadRows (old text : List ℕ) (count : ℕ) (full : Bool) (new rest : List ℕ) : Type 0 where
  pub lines : List Line
  pub rows : AreRows true (length old) (count - length old) lines full (length new) (count - length new)
  pub is : text ≡ texts lines ++ rest
  pub bytes : new ≡ old ++ bytes_of lines
  pub within : length new ≤ count

abbrev pub NoRow : Bool → List ℕ → ℕ → List ℕ → Type 0
NoRow full new count rest = full ≡ true → IsStuck (IsData (length new) (count - length new)) rest

-- Lines of a text were read, and the next one has this number.
pub record Reads (count : ℕ) (text : List ℕ) (place : Place) (story rest : List ℕ) (line : ℕ) : Type 0 where
  pub lines : List Line
  pub stands : Stands count text lines (where_of place) (length story) (count - length story) rest
  pub bytes : bytes_of lines ≡ story
  pub room : HasRoom place (length story) count
  pub line_is : line ≡ length lines + 2
  pub few : length lines ≤ 3 * length story + slack (where_of place)

-- no first line stands in front
abbrev pub NoFirst : List ℕ → Type 0
NoFirst text = (count : ℕ) (rest : List ℕ) → count ≤ 524288 → text ≡ story_line count ++ rest → ⊥
