-- Which choices a cut leaves. Hold it against the Dialog manual, chapter "Choice points".
use Rattle.std.specs.Prelude.{ℕ, ◌≡◌, min, nat_lt, List, [], ◌∷◌, Option, Some, None, reverse, if◌then◌else◌}
use Rattle.dg_choices.specs.declared.frames.Left.{Left}
use Rattle.dg_choices.specs.declared.frames.Left.TheVariants.{Behind}
use Rattle.dg_choices.specs.declared.frames.Choice.{Choice}

-- The oldest tag that was cut inside an open stoppable part; the cut waits until the part is left.
abbrev pub cut_of : Left → Option ℕ
cut_of (Behind frame cut) = cut
cut_of other = None

-- A cut is noted, with one that waits already: the older one counts.
abbrev pub noting : ℕ → Option ℕ → Option ℕ
noting t None = Some t
noting t (Some u) = Some (min u t)

-- An open stoppable part stays where a cut is made that isn't younger, and the cut waits in it; no other choice does.
abbrev pub waits_in : ℕ → Choice → Left → Option Choice
waits_in t o (Behind frame cut) = Some (record o { left = Behind frame (noting t cut) })
waits_in t o other = None

-- What a cut to a tag leaves of a choice.
abbrev pub left_by : ℕ → Choice → Option Choice
left_by t o = if nat_lt o.tag t then Some o else waits_in t o o.left

-- A choice that was left, with those behind it, or else what was left of these.
abbrev pub with_older : Option Choice → List Choice → List Choice → List Choice
with_older None os older = older
with_older (Some o) os older = o ∷ os

-- The choices that a cut to a tag leaves, the newest first.
abbrev pub older_than : ℕ → List Choice → List Choice
older_than t [] = []
older_than t (o ∷ os) = with_older (left_by t o) os (older_than t os)

-- A cut to a tag was made.
abbrev pub Cuts : ℕ → List Choice → List Choice → Type 0
Cuts t old new = reverse new ≡ older_than t (reverse old)
