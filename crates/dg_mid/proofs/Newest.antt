-- The newest of some gatherings, where it has a tag.
use Rattle.std.specs.Prelude.{eqb}
use Rattle.std.proofs.Common.{◌≡◌, ℕ, List, [], ◌∷◌, ◌++◌, refl, sym}
use Rattle.std.proofs.lemmas.Bool.{cond-true, eq-eqb}
use Rattle.dg_meaning.specs.Values.{Value}
use Rattle.dg_meaning.specs.World.{Gathering, gathered_with, gathered_at, gathered_without}
use Rattle.dg_meaning.specs.inside.Context.{IsNewest, tags_of}
use Rattle.dg_mid.specs.Step.{newest_with}

pub record HasNewest (t : ℕ) (gs : List Gathering) : Type 0 where
  pub first : Gathering
  pub others : List Gathering
  pub is : gs ≡ first ∷ others
  pub tag : t ≡ first.tag

pub has_newest : (t : ℕ) (gs : List Gathering) → IsNewest t (tags_of gs) → HasNewest t gs
has_newest t [] h = absurd h
has_newest t (x ∷ xs) h = record { first = x; others = xs; is = refl; tag = h }

pub with_newest : (t : ℕ) (v : Value) (gs : List Gathering) → IsNewest t (tags_of gs) → gathered_with t v gs ≡ newest_with v gs
with_newest t v [] h = absurd h
with_newest t v (x ∷ xs) h = cond-true (eqb x.tag t) (record x { values = x.values ++ v ∷ [] } ∷ xs) (x ∷ gathered_with t v xs) (eq-eqb x.tag t (sym h))

pub at_newest : (t : ℕ) (x : Gathering) (xs : List Gathering) → t ≡ x.tag → gathered_at t (x ∷ xs) ≡ x.values
at_newest t x xs h = cond-true (eqb x.tag t) x.values (gathered_at t xs) (eq-eqb x.tag t (sym h))

pub without_newest : (t : ℕ) (x : Gathering) (xs : List Gathering) → t ≡ x.tag → gathered_without t (x ∷ xs) ≡ xs
without_newest t x xs h = cond-true (eqb x.tag t) xs (x ∷ gathered_without t xs) (eq-eqb x.tag t (sym h))
