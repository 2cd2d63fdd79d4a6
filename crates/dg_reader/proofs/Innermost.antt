-- What stands innermost, as a look at the end of the code's stack finds it.
use Rattle.std.proofs.Common.{◌≡◌, ℕ, zero, suc, ◌-◌, List, [], ◌∷◌, ◌++◌, Option, Some, None, length, map, Bor, refl, sym, ◌∙◌, ap, arith}
use Rattle.std.specs.Prelude.{reverse, slice_get}
use Rattle.std.specs.Option.{option_map, option_copied}
use Rattle.std.proofs.lemmas.List.{reverse-reverse, length-append}
use Rattle.std.proofs.lemmas.Grind.{reverse_onto}
use Rattle.dg_open.specs.declared.frames.Frame as code
use Rattle.dg_open.specs.inside.Standing.{Frame, Stack}
use Rattle.dg_open.specs.inside.Views.{frame_view, stack_view}

abbrev pub innermost : Stack → Option Frame
innermost [] = None
innermost (f ∷ below) = Some f

abbrev last_of : {X : Type 0} → List X → Option X
last_of xs = slice_get xs (length xs - 1)

at_length : {X : Type 0} (xs : List X) (x : X) (n : ℕ) → n ≡ length xs → slice_get (xs ++ x ∷ []) n ≡ Some x
at_length [] x zero e = refl
at_length [] x (suc n) e = absurd (omega arith)
at_length (y ∷ ys) x zero e = absurd (omega arith)
at_length (y ∷ ys) x (suc n) e = at_length ys x n (omega arith)

last_pushed : {X : Type 0} (xs : List X) (x : X) → last_of (xs ++ x ∷ []) ≡ Some x
last_pushed xs x = at_length xs x (length (xs ++ x ∷ []) - 1) (omega (arith, length-append xs (x ∷ [])))

viewed : (fs : List code.Frame) → innermost (stack_view fs) ≡ option_map frame_view (last_of fs)
viewed fs = here (reverse fs) refl
  where
    here : (l : List code.Frame) → reverse fs ≡ l → innermost (map frame_view l) ≡ option_map frame_view (last_of fs)
    here [] e = sym (ap (λ (k : List code.Frame). option_map frame_view (last_of k)) (sym (reverse-reverse fs) ∙ ap reverse e))
    here (g ∷ gs) e =
        sym (ap (λ (k : List code.Frame). option_map frame_view (last_of k)) (sym (reverse-reverse fs) ∙ ap reverse e ∙ reverse_onto gs g []) ∙ ap (option_map frame_view) (last_pushed (reverse gs) g))

pub looked : (fs gs : List code.Frame) (r : Option (Bor code.Frame)) → gs ≡ fs → option_copied r ≡ slice_get gs (length gs - 1) → innermost (stack_view fs) ≡ option_map frame_view (option_copied r)
looked fs gs r same e = viewed fs ∙ ap (option_map frame_view) (sym (e ∙ ap last_of same))
