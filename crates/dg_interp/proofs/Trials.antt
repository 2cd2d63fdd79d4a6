-- Objects that are tried, one after another.
use Rattle.std.proofs.Common.{◌≡◌, ℕ, ◌-◌, inl, inr, List, [], ◌∷◌, Bool, true, false, Option, refl, sym, ap, ◌∙◌}
use Rattle.std.specs.Prelude.{nat_lt}
use Rattle.std.proofs.lemmas.Bool.{cases_lt, lt-ltb, le-ltb}
use Rattle.dg_meaning.specs.Values.{Value}
use Rattle.dg_meaning.specs.Path.{Step, Registers, Plain}
use Rattle.dg_meaning.specs.Moves.{object_branches}
use Rattle.dg_meaning.specs.inside.Context.{stays}
use Rattle.dg_meaning.specs.inside.Keeps.{open_at}
use Rattle.dg_interp.specs.inside.Frames.{has_some}
use Rattle.dg_lasting.specs.Finding.{counted}
use Rattle.dg_lasting.proofs.Finds.{counted_first, counted_none}
use Rattle.dg_interp.specs.inside.Trying.{trial_branches}

pub counted_some : (from end : ℕ) → has_some (counted from (end - from)) ≡ nat_lt from end
counted_some from end =
    elim (cases_lt from end) [
      | inl lt ↦ ap has_some (counted_first from end lt) ∙ sym (lt-ltb from end lt)
      | inr ge ↦ ap has_some (counted_none from end ge) ∙ sym (le-ltb from end ge)
    ]

module _ (place : Option ℕ) (args : List Value) (many : Bool) (steps : List Step) (r : Registers) where
  pub trials_all : (os : List ℕ) → trial_branches true place args many steps r os ≡ object_branches place args many steps r os
  trials_all [] = refl
  trials_all (o ∷ os) = refl

pub trials_stay : (may : Bool) (place : Option ℕ) (args : List Value) (many : Bool) (steps : List Step) (r : Registers) (os : List ℕ) → stays Plain (trial_branches may place args many steps r os) ≡ has_some os
trials_stay may place args many steps r [] = refl
trials_stay true place args many steps r (o ∷ os) = refl
trials_stay false place args many steps r (o ∷ os) = refl

pub trials_open : (may : Bool) (place : Option ℕ) (args : List Value) (many : Bool) (steps : List Step) (r : Registers) (os : List ℕ) (h : ℕ) → open_at (trial_branches may place args many steps r os) h ≡ h
trials_open may place args many steps r [] h = refl
trials_open true place args many steps r (o ∷ os) h = refl
trials_open false place args many steps r (o ∷ os) h = refl
