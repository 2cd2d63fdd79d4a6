-- That trails order choices and stoppable parts as tags do, so that what was bound since an older one opened includes what was bound since a newer one did.
-- Hold it against the Dialog manual, chapter "Choice points".
use Rattle.std.specs.Prelude.{ℕ, ◌<◌, ◌≤◌, List, [], ◌∷◌}
use Rattle.dg_mid.specs.State.{Stop, Choice, Mid, Status, Runs, Enters, Resumes, Fails, Ended}

-- The trail at a choice, and a trail where another tag was given, are ordered as the tags.
pub record TrailsAgree (c : Choice) (tag trail : ℕ) : Type 0 where
  pub older : c.place.tag < tag → c.state.trail ≤ trail
  pub newer : tag ≤ c.place.tag → trail ≤ c.state.trail

-- So it is with each of these choices.
abbrev pub TrailsAgreeAll : List Choice → ℕ → ℕ → Type 0
TrailsAgreeAll [] tag trail = Unit {0}
TrailsAgreeAll (c ∷ cs) tag trail = TrailsAgree c tag trail × TrailsAgreeAll cs tag trail

-- Stoppable parts, the innermost first, each within the next, where so many choices were opened and so much is on the trail, are ordered among these choices.
abbrev pub StopsTrailed : ℕ → ℕ → List Choice → List Stop → Type 0
StopsTrailed t r cs [] = Unit {0}
StopsTrailed t r cs (s ∷ ss) =
    (s.place.tag < t) × (s.state.trail ≤ r) × TrailsAgreeAll cs s.place.tag s.state.trail × StopsTrailed s.place.tag s.state.trail cs ss

-- Choices, the newest first, each within the next newer one, with the stoppable parts that each restores.
abbrev pub ChoicesTrailed : ℕ → ℕ → List Choice → Type 0
ChoicesTrailed t r [] = Unit {0}
ChoicesTrailed t r (c ∷ cs) =
    (c.place.tag < t) × (c.state.trail ≤ r) × StopsTrailed c.place.tag c.state.trail cs c.stops × ChoicesTrailed c.place.tag c.state.trail cs

-- So are those of a machine.
abbrev pub MidTrailed : Mid → Type 0
MidTrailed m = StopsTrailed m.next_tag m.state.trail m.choices m.stops × ChoicesTrailed m.next_tag m.state.trail m.choices

-- So are those of a status.
abbrev pub StatusTrailed : Status → Type 0
StatusTrailed (Runs m) = MidTrailed m
StatusTrailed (Enters call m) = MidTrailed m
StatusTrailed (Resumes way m) = MidTrailed m
StatusTrailed (Fails m) = MidTrailed m
StatusTrailed (Ended e) = Unit {0}
