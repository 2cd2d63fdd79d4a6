-- No item ends where something else stands open around it.
use Rattle.std.proofs.Common.{◌≡◌, List, [], ◌∷◌, false, None, refl, sym, ◌∙◌, ap}
use Rattle.std.specs.Prelude.{IsTrue, map, reverse}
use Rattle.std.proofs.lemmas.List.{reverse-reverse}
use Rattle.dg_open.specs.inside.Standing.{Frame, finished}
use Rattle.dg_open.specs.inside.Views.{stack_view, frame_view}
use Rattle.dg_open.specs.declared.frames.Frame as code

reversed_empty : (fs : List code.Frame) → reverse fs ≡ [] → fs ≡ []
reversed_empty fs e = sym (reverse-reverse fs) ∙ ap reverse e

pub not_last : (fs : List code.Frame) (f : Frame) → (fs ≡ [] → IsTrue false) → None ≡ finished (f ∷ stack_view fs)
not_last fs f some = here (reverse fs) refl
  where
    untrue : IsTrue false → ⊥
    untrue e = cc

    here : (l : List code.Frame) → reverse fs ≡ l → None ≡ finished (f ∷ map frame_view l)
    here [] e = absurd (untrue (some (reversed_empty fs e)))
    here (g ∷ gs) e = refl
