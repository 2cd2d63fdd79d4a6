-- That heights order places as tags do, so that an engine may cut by heights. Hold it against the Dialog manual, chapter "Choice points".
use Rattle.std.specs.Prelude.{ℕ, ◌<◌, ◌≤◌, ◌≡◌, List, [], ◌∷◌}
use Rattle.dg_mid.specs.State.{Place, Frame, Way, Goes, Takes, Calls, Tries, Stop, Choice, Mid, Status, Runs, Enters, Resumes, Fails, Ended}

-- The heights of a choice's place and of another place are ordered as their tags.
pub record Agree (c p : Place) : Type 0 where
  pub older : c.tag < p.tag → c.height < p.height
  pub newer : p.tag ≤ c.tag → p.height ≤ c.height

-- So it is with each of these choices.
abbrev pub AgreeAll : List Choice → Place → Type 0
AgreeAll [] p = Unit {0}
AgreeAll (c ∷ cs) p = Agree c.place p × AgreeAll cs p

-- A place that is named where so many choices were opened and the heap is so high, among these choices.
pub record IsNamed (t h : ℕ) (cs : List Choice) (p : Place) : Type 0 where
  pub tag : p.tag ≤ t
  pub height : p.height ≤ h
  pub agrees : AgreeAll cs p

-- So is each of some places.
abbrev pub PlacesNamed : ℕ → ℕ → List Choice → List Place → Type 0
PlacesNamed t h cs [] = Unit {0}
PlacesNamed t h cs (p ∷ ps) = IsNamed t h cs p × PlacesNamed t h cs ps

-- So are the places that frames hold.
abbrev pub FramesNamed : ℕ → ℕ → List Choice → List Frame → Type 0
FramesNamed t h cs [] = Unit {0}
FramesNamed t h cs (f ∷ fs) = IsNamed t h cs f.cut × PlacesNamed t h cs f.inner × FramesNamed t h cs fs

-- Stoppable parts, the innermost first, each within the next and of a smaller tag.
abbrev pub StopsNamed : ℕ → ℕ → List Choice → List Stop → Type 0
StopsNamed t h cs [] = Unit {0}
StopsNamed t h cs (s ∷ ss) =
    IsNamed t h cs s.place × (s.place.tag < t) × (s.state.heap ≡ s.place.height) × PlacesNamed s.place.tag s.place.height cs s.inner ×
    FramesNamed s.place.tag s.place.height cs s.frames × StopsNamed s.place.tag s.place.height cs ss

-- So is the place of the call that a choice goes on with.
abbrev pub WayNamed : ℕ → ℕ → List Choice → Way → Type 0
WayNamed t h cs (Goes b) = Unit {0}
WayNamed t h cs (Takes b into) = Unit {0}
WayNamed t h cs (Calls call rules) = IsNamed t h cs call.cut
WayNamed t h cs (Tries f objects) = Unit {0}

-- What a choice or the code at hand names.
pub record AreNamed (t h : ℕ) (cs : List Choice) (frames : List Frame) (inner : List Place) (stops : List Stop) : Type 0 where
  pub frames_are : FramesNamed t h cs frames
  pub inner_are : PlacesNamed t h cs inner
  pub stops_are : StopsNamed t h cs stops

-- Choices, the newest first, each within the next newer one.
abbrev pub ChoicesNamed : ℕ → ℕ → List Choice → Type 0
ChoicesNamed t h [] = Unit {0}
ChoicesNamed t h (c ∷ cs) =
    (c.place.tag < t) × (c.place.height < h) × (c.state.heap ≡ c.place.height) × WayNamed c.place.tag c.place.height cs c.way ×
    AreNamed c.place.tag c.place.height cs c.frames c.inner c.stops × ChoicesNamed c.place.tag c.place.height cs

-- All that is named is, where so many choices were opened and the heap is so high.
pub record IsOrdered (t h : ℕ) (cs : List Choice) (frames : List Frame) (inner : List Place) (stops : List Stop) : Type 0 where
  pub named : AreNamed t h cs frames inner stops
  pub choices : ChoicesNamed t h cs

-- So it is in a machine.
abbrev pub MidOrdered : Mid → Type 0
MidOrdered m = IsOrdered m.next_tag m.state.heap m.choices m.frames m.inner m.stops

-- So it is in a status, with the place of the call that it enters.
abbrev pub StatusOrdered : Status → Type 0
StatusOrdered (Runs m) = MidOrdered m
StatusOrdered (Enters call m) = MidOrdered m × IsNamed m.next_tag m.state.heap m.choices call.cut
StatusOrdered (Resumes way m) = MidOrdered m × WayNamed m.next_tag m.state.heap m.choices way
StatusOrdered (Fails m) = ChoicesNamed m.next_tag m.state.heap m.choices
StatusOrdered (Ended e) = Unit {0}
