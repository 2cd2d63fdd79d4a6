-- How stoppable parts lie in memory, and the choices that they keep. Hold it against the Dialog manual, chapter "Control flow".
use Rattle.std.specs.Prelude.{ℕ, ◌*◌, ◌≡◌, ◌<◌, ◌≤◌, ◌++◌, ◌⊎◌, List, [], ◌∷◌, Option, length}
use Rattle.dg_mid.specs.State.{Stop, Choice as ChoiceOf}
use Rattle.dg_machine.specs.declared.now.Choice.{Choice}
use Rattle.dg_machine.specs.Links.{named}

-- The tags of stoppable parts, the oldest first.
abbrev pub tags_of : List Stop → List ℕ
tags_of [] = []
tags_of (s ∷ ss) = tags_of ss ++ s.place.tag ∷ []

-- This is the name of a stoppable part, by its place among all of them; 0 names none.
pub record StopIs (tags : List ℕ) (n : ℕ) (stop : Option ℕ) : Type 0 where
  pub within : n ≤ length tags
  pub is : named tags n ≡ stop

-- Choices are among others, in their order, and stand for some of what those stand for.
abbrev pub Among : List Choice → List ChoiceOf → List Choice → List ChoiceOf → Type 0
Among ps qs [] [] = Unit {0}
Among (p ∷ ps) (q ∷ qs) (k ∷ ks) (c ∷ cs) = ((k ≡ p) × (c ≡ q) × Among ps qs ks cs) ⊎ Among ps qs (k ∷ ks) (c ∷ cs)
Among ps qs ks cs = ⊥

-- Choices, of which the newest is first, opened below a height of the heap, where they have taken ten cells each.
abbrev pub IsUnder : ℕ → List Choice → Type 0
IsUnder h [] = Unit {0}
IsUnder h (k ∷ ks) = (k.mark.heap < h) × (10 * length (k ∷ ks) ≤ h)
