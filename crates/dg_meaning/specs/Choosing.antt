-- How a select chooses one of its branches, and what the dice are. Hold it against docs/LANGUAGE.md, "Choosing": the modes and their draws are this
-- project's own choice.
use Rattle.std.specs.Prelude.{ℕ, ◌+◌, ◌-◌, ◌%◌, List, length, slice_index, slice_index_or, min, nat_eq, nat_lt, nat_le, if◌then◌else◌}
use Rattle.dg_base.specs.declared.program.Mode.{Mode}
use Rattle.dg_base.specs.declared.program.Mode.TheVariants.{Stopping, Cycling, PurelyAtRandom, AtRandom, ThenAtRandom, ThenPurelyAtRandom}

-- The dice word that is drawn after n others: the words are drawn in a circle.
abbrev pub die : List ℕ → ℕ → ℕ
die words n = slice_index words (n % length words)

-- What is kept of a select: how often it has picked a branch, and which it picked last.
pub record Picks : Type 0 where
  pub count : ℕ
  pub last : ℕ

-- It has never picked.
abbrev pub no_picks : Picks
no_picks = record { count = 0; last = 0 }

-- What is kept behind one more pick.
abbrev pub picked : ℕ → Picks → Picks
picked branch picks = record { count = picks.count + 1; last = branch }

-- What is kept of the site of this number.
abbrev pub picks_at : List Picks → ℕ → Picks
picks_at sites site = slice_index_or sites site no_picks

-- A branch, numbered from 0, and how many dice words are drawn for it.
pub record Choice : Type 0 where
  pub branch : ℕ
  pub drawn : ℕ

-- A branch for which nothing is drawn.
abbrev pub undrawn : ℕ → Choice
undrawn branch = record { branch = branch; drawn = 0 }

-- A branch for which one word is drawn.
abbrev pub drawn : ℕ → Choice
drawn branch = record { branch = branch; drawn = 1 }

-- The branch at a place among the others than the last one, in order.
abbrev pub other_at : ℕ → ℕ → ℕ
other_at last place = if nat_lt place last then place else place + 1

-- What a mode chooses among k branches, two or more, where w is the next dice word.
abbrev pub choice_among : Mode → ℕ → Picks → ℕ → Choice
choice_among Stopping k picks w = undrawn (min picks.count (k - 1))
choice_among Cycling k picks w = undrawn (picks.count % k)
choice_among PurelyAtRandom k picks w = drawn (w % k)
choice_among AtRandom k picks w = drawn (if nat_eq picks.count 0 then w % k else other_at picks.last (w % (k - 1)))
choice_among ThenAtRandom k picks w = if nat_lt picks.count k then undrawn picks.count else drawn (other_at picks.last (w % (k - 1)))
choice_among ThenPurelyAtRandom k picks w = if nat_lt picks.count k then undrawn picks.count else drawn (w % k)

-- What a mode chooses among k branches; of a single one nothing is drawn.
abbrev pub choice_by : Mode → ℕ → Picks → ℕ → Choice
choice_by mode k picks w = if nat_le k 1 then undrawn 0 else choice_among mode k picks w
