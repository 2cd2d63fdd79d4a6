-- What lasts of a run when a store goes back, and what of a world that stands for. Hold it against docs/LANGUAGE.md, "The world", "Choosing" and "Limits".
use Rattle.std.specs.Prelude.{ℕ, ◌≡◌, ◌+◌, ◌-◌, ◌^◌, ◌<◌, ◌≤◌, List, [], ◌∷◌, length, map, drop, slice_set, replicate}
use Rattle.std.specs.List.{All, flat_map}
use Rattle.dg_base.specs.declared.cells.Cell.{Cell}
use Rattle.dg_base.specs.declared.program.CoreProgram.{CoreProgram}
use Rattle.dg_base.specs.declared.program.Mode.{Mode}
use Rattle.dg_base.specs.declared.run.Limits.{Limits}
use Rattle.dg_meaning.specs.Values.{Value}
use Rattle.dg_meaning.specs.ValueCells.{cells_of}
use Rattle.dg_meaning.specs.Choosing.{die, Picks, no_picks, picked, picks_at, choice_by}
use Rattle.dg_meaning.specs.Facts.{Fact, kinds_of, kept_size, start_facts}
use Rattle.dg_meaning.specs.Transcript.{start_world}
use Rattle.dg_meaning.specs.World.{Game, World, Gathering, gathered_size, gathered_with, opened, kept}
use Rattle.dg_meaning.specs.inside.Context.{Drops, IsNewest, tags_of}
use Rattle.dg_meaning.specs.Moves.{selects, selected}
use Rattle.dg_world.specs.Tables.{Outline, outline_of}
use Rattle.dg_world.specs.Worlds.{StandsFor}
use Rattle.dg_choose.specs.Dice.{HasDrawn}
use Rattle.dg_choose.specs.Site.{picks_of}
use Rattle.dg_world.specs.declared.world.World.{World as FactsWorld}
use Rattle.dg_lists.specs.Formed.{IsFormed}
use Rattle.dg_lists.specs.Gathered.{added, gathered_size as size_of_rows}
use Rattle.dg_lasting.specs.declared.lack.Lack.{Lack}
use Rattle.dg_lasting.specs.declared.lack.Lack.TheVariants as lack
use Rattle.dg_lasting.specs.declared.lasting.Lasting.{Lasting}

-- What the world is made for, of a program of which so many cells may be kept.
abbrev pub outline : CoreProgram → ℕ → Outline
outline program keep = outline_of program.places (length program.objects) keep

-- The cells of what was gathered, one value after another.
abbrev pub row_of : Gathering → List Cell
row_of gathering = flat_map cells_of gathering.values

-- Rows are those of gatherings, whose values are values of the language.
abbrev pub HaveGathered : List (List Cell) → List Gathering → Type 0
HaveGathered rows gatherings = (rows ≡ map row_of gatherings) × All (λ (g : Gathering). All IsFormed g.values) gatherings

-- What was picked at each site.
abbrev pub picks_in : Lasting → List Picks
picks_in out = map picks_of out.sites.items

-- What is set stands in a world, all of it values of the language, and a row of so many cells has room for as much as may be kept.
pub record HasSet (world : FactsWorld) (row : ℕ) (program : CoreProgram) (facts : List Fact) : Type 0 where
  pub stands : StandsFor world (outline program world.area.keep) facts
  pub formed : All (λ (fact : Fact). IsFormed fact.value) facts
  pub room : row ≡ world.area.keep

-- What lasts stands for what a world has: what is set, what was gathered, the dice words that were drawn, and what was picked.
abbrev pub InWorld : Lasting → Game → World → Type 0
InWorld out g w = HasSet out.world (length out.row.items) g.program w.facts × HaveGathered out.gathered.rows w.gathered ×
    HasDrawn out.dice g.dice w.dice × (w.sites ≡ picks_in out)

-- ## Picks

-- Each site may pick so often before its count is full.
abbrev pub MayPick : ℕ → List Picks → Type 0
MayPick times picks = All (λ (p : Picks). p.count + times < 2 ^ 64) picks

-- A site has picked one of so many branches, after these picks: the one that the mode chooses, and the dice words for it were drawn. So
-- what lasts stands for the world behind that choice.
pub record PicksOne (site : ℕ) (mode : Mode) (branches : ℕ) (picked_one : ℕ) (old new : Lasting) : Type 0 where
  pub branch : (words : List ℕ) → (n : ℕ) → HasDrawn old.dice words n →
      picked_one ≡ (choice_by mode branches (picks_at (picks_in old) site) (die words n)).branch
  pub dice : (words : List ℕ) → (n : ℕ) → HasDrawn old.dice words n →
      HasDrawn new.dice words (n + (choice_by mode branches (picks_at (picks_in old) site) (die words n)).drawn)
  pub picks : picks_in new ≡ slice_set (picks_in old) site (picked picked_one (picks_at (picks_in old) site))
  pub may : (times : ℕ) → MayPick (times + 1) (picks_in old) → MayPick times (picks_in new)
  pub chosen : (g : Game) → (w : World) → InWorld old g w → picked_one ≡ (selects g site mode branches w).branch
  pub stands : (g : Game) → (w : World) → InWorld old g w → InWorld new g (selected site (selects g site mode branches w) w)
  pub world : new.world ≡ old.world
  pub gathered : new.gathered ≡ old.gathered
  pub row : new.row ≡ old.row

-- ## The start

-- The world at the start of a program, of which so many cells may be kept.
abbrev pub StartsWorld : CoreProgram → ℕ → FactsWorld → Type 0
StartsWorld program keep world = StandsFor world (outline program keep) (start_facts program.places)

-- What lasts, at the start of a program with these dice words.
pub record StartsLasting (program : CoreProgram) (limits : Limits) (dice : List ℕ) (out : Lasting) : Type 0 where
  pub stands : (g : Game) → (typed : List ℕ) → g.program ≡ program → g.dice ≡ dice → InWorld out g (start_world g typed)
  pub none : picks_in out ≡ replicate program.sites no_picks
  pub may : (times : ℕ) → times < 2 ^ 64 → MayPick times (picks_in out)
  pub begins : kept_size (kinds_of program) (start_facts program.places) ≤ limits.keep
  pub aux : out.gathered.aux ≡ limits.aux
  pub keep : out.world.area.keep ≡ limits.keep

-- There is nothing there at the start: memory ran out, or more starts kept than may be.
abbrev pub LacksAtStart : CoreProgram → ℕ → Lack → Type 0
LacksAtStart program keep lack.OutOfMemory = Unit {0}
LacksAtStart program keep lack.Keep = keep < kept_size (kinds_of program) (start_facts program.places)
LacksAtStart program keep other = ⊥

-- ## Gatherings

-- A gathering was opened, in which nothing is gathered, and it stands for a world in which it is open; no more is gathered there than may be.
pub record OpensOne (old new : Lasting) : Type 0 where
  pub is : new ≡ record old { gathered = record old.gathered { rows = [] ∷ old.gathered.rows } }
  pub stands : (g : Game) → (w : World) → (tag : ℕ) → InWorld old g w → InWorld new g (opened tag w)
  pub fits : (g : Game) → (w : World) → (tag : ℕ) → InWorld old g w →
      gathered_size (record { tag = tag; values = [] } ∷ w.gathered) ≤ old.gathered.aux

-- With one more gathering open more would be gathered than may be, here and in the world.
pub record OpensTooMuch (out : Lasting) : Type 0 where
  pub is : out.gathered.aux < size_of_rows ([] ∷ out.gathered.rows)
  pub stands : (g : Game) → (w : World) → (tag : ℕ) → InWorld out g w →
      out.gathered.aux < gathered_size (record { tag = tag; values = [] } ∷ w.gathered)

-- A value was gathered in the newest gathering, and it stands for a world in which it was; no more is gathered there than may be.
pub record Gathers (v : Value) (old new : Lasting) : Type 0 where
  pub is : new ≡ record old { gathered = record old.gathered { rows = added (cells_of v) old.gathered.rows } }
  pub stands : (g : Game) → (w : World) → (tag : ℕ) → InWorld old g w → IsNewest tag (tags_of w.gathered) → InWorld new g (kept tag v w)
  pub fits : (g : Game) → (w : World) → (tag : ℕ) → InWorld old g w → IsNewest tag (tags_of w.gathered) →
      gathered_size (gathered_with tag v w.gathered) ≤ old.gathered.aux

-- With this value more would be gathered than may be, here and in the world.
pub record GathersTooMuch (v : Value) (out : Lasting) : Type 0 where
  pub is : out.gathered.aux < size_of_rows (added (cells_of v) out.gathered.rows)
  pub stands : (g : Game) → (w : World) → (tag : ℕ) → InWorld out g w → IsNewest tag (tags_of w.gathered) →
      out.gathered.aux < gathered_size (gathered_with tag v w.gathered)

-- ## Gatherings that are dropped

-- The same with so many gatherings open, the oldest ones.
abbrev pub closed_to : ℕ → Lasting → Lasting
closed_to height out = record out { gathered = record out.gathered { rows = drop (length out.gathered.rows - height) out.gathered.rows } }

-- So many gatherings were left open, and it stands for a world that has dropped the others.
pub record Closes (height : ℕ) (old new : Lasting) : Type 0 where
  pub is : new ≡ closed_to height old
  pub stands : (g : Game) → (w v : World) → InWorld old g w → Drops w v → length v.gathered ≡ height → InWorld new g v
