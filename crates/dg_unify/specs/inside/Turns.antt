-- What one turn of a unification leaves in a store. Hold it against dg_meaning/specs/Unify.antt.
use Rattle.std.specs.Prelude.{◌≡◌, ℕ, [], ◌∷◌, ◌&&◌, Option, Some, None, Bool, true, false, Result, Ok, Err}
use Rattle.dg_meaning.specs.Values.{Label, Var, Values, More}
use Rattle.dg_meaning.specs.inside.Substitutions.{is_bound}
use Rattle.dg_meaning.specs.Unify.{Turn, Goes, turn, Unified, same_label, as_many, side_by_side}
use Rattle.dg_meaning.specs.inside.Unify.{solve_turn, unify}
use Rattle.dg_unify.specs.Store.{Store, told, Holds, Does, UnifyFull}
use Rattle.dg_unify.specs.Parts.{values_of, AreIn, IsOpened, ShowsInner}
use Rattle.dg_unify.specs.declared.bindings.Ref.{Ref}
use Rattle.dg_unify.specs.declared.bindings.Full.{Full}
use Rattle.dg_unify.specs.declared.parts.Parts.{Parts}
use Rattle.dg_unify.specs.declared.unifying.Met.{Met}
use Rattle.dg_unify.specs.declared.unifying.Met.TheVariants as met
use Rattle.dg_unify.specs.declared.unifying.First.{First}

-- An unbound variable.
pub record IsUnbound (s : Store) (r : Ref) : Type 0 where
  pub number : ℕ
  pub value : s.value r ≡ Some (Var number)
  pub free : is_bound number s.state.subst ≡ false

-- A turn that came to no end has changed nothing.
pub record Stays (old new : Store) (meant : Unified) (e : Full) : Type 0 where
  pub cause : UnifyFull old meant e
  pub state : new.state ≡ old.state

-- What comes of a turn is what is meant, or nothing.
abbrev pub ComesTo : Store → Store → Unified → Result Bool Full → Type 0
ComesTo old new meant (Ok agreed) = Does old new meant agreed
ComesTo old new meant (Err e) = Stays old new meant e

-- What came of a turn, with no equation behind it.
abbrev pub FollowsTurn : Store → Store → Turn → Result Bool Full → Type 0
FollowsTurn old new t result = ComesTo old new (solve_turn old.state.subst [] t) result

-- The parts of two values are left, and nothing was bound.
pub record AreLeft (old new : Store) (a b : Ref) (p q : Parts) : Type 0 where
  pub same : new ≡ old
  pub turn : turn old.state.subst (told old a) (told old b) ≡ Goes (side_by_side (values_of old p) (values_of old q))
  pub left : IsOpened old a p
  pub right : IsOpened old b q

-- How two values met.
abbrev pub TurnsInto : Store → Store → Ref → Ref → Result Met Full → Type 0
TurnsInto old new a b (Ok (met.Done agreed)) = Does old new (unify old.state.subst (told old a) (told old b)) agreed
TurnsInto old new a b (Ok (met.Goes p q)) = AreLeft old new a b p q
TurnsInto old new a b (Err e) = Stays old new (unify old.state.subst (told old a) (told old b)) e

-- A turn behind which nothing is left.
abbrev pub met_of : Result Bool Full → Result Met Full
met_of (Ok agreed) = Ok (met.Done agreed)
met_of (Err e) = Err e

-- How two values meet that are no variables: with the same label and as many parts their parts are left, and else they clash.
abbrev pub Compares : Store → Label → Label → Values → Values → Met → Type 0
Compares s f g vs us (met.Done agreed) = (agreed ≡ false) × ((same_label f g && as_many vs us) ≡ false)
Compares s f g vs us (met.Goes p q) = ((same_label f g && as_many vs us) ≡ true) × ShowsInner s vs p × ShowsInner s us q

-- The first two of some values are an equation, and the others are further ones.
pub record IsFirst (s : Store) (p q : Parts) (n : First) : Type 0 where
  pub is : side_by_side (values_of s p) (values_of s q) ≡ (told s n.a, told s n.b) ∷ side_by_side (values_of s n.p) (values_of s n.q)
  pub left : values_of s p ≡ More (told s n.a) (values_of s n.p)
  pub right : values_of s q ≡ More (told s n.b) (values_of s n.q)
  pub a_in : Holds s n.a
  pub b_in : Holds s n.b
  pub p_in : AreIn s n.p
  pub q_in : AreIn s n.q

-- The first two of some values; none where no equation is left.
abbrev pub IsFirstOf : Store → Parts → Parts → Option First → Type 0
IsFirstOf s p q None = side_by_side (values_of s p) (values_of s q) ≡ []
IsFirstOf s p q (Some n) = IsFirst s p q n
