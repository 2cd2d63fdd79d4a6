-- Stoppable parts as the choices that opened with them. Hold it against the Dialog manual, chapter "Control flow".
use Rattle.std.specs.Prelude.{List, [], ◌∷◌}
use Rattle.dg_mid.specs.State.{Goes, Stop, Choice}

-- A stoppable part is kept as the choice that opened with it.
abbrev pub choice_of : Stop → List Stop → Choice
choice_of s around = record {
  place = s.place;
  way = Goes s.block;
  frames = s.frames;
  inner = s.inner;
  stops = around;
  stop = s.place.outer;
  height = s.height;
  state = s.state;
}

-- So is each of some, the innermost first.
abbrev pub choices_of : List Stop → List Choice
choices_of [] = []
choices_of (s ∷ ss) = choice_of s ss ∷ choices_of ss
