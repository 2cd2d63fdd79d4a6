-- What the routine does that unifies an argument with a term of a rule's head of which each variable is new. Hold it against
-- dg_meaning/specs/Unify.antt, and docs/LANGUAGE.md, where it says when two values unify.
use Rattle.std.specs.Prelude.{◌≡◌, ℕ, ◌<◌, ◌≤◌, [], ◌∷◌, true}
use Rattle.dg_meaning.specs.Values.{Label, Value, Var, leaf, pair}
use Rattle.dg_meaning.specs.Facts.{is_simple}
use Rattle.dg_meaning.specs.Substitutions.{Substitution}
use Rattle.dg_meaning.specs.Unify.{top, top_of_pairs}
use Rattle.dg_meaning.specs.inside.Unify.{unify}
use Rattle.dg_rt.specs.declared.heads.TheConstants.{TAKE_ACTS}
use Rattle.dg_rt.specs.Areas.{clash_reg}
use Rattle.dg_rt.specs.Shapes.{Shows}
use Rattle.dg_rt.specs.Moments.{Setting, Moment}
use Rattle.dg_rt.specs.Unifies.{price}
use Rattle.dg_rt.specs.Rules.{Matches, Skips}

-- The variables of a value ascend: from left to right each is greater than those before it, from the first number on and below the second. Beside
-- variables there are simple values and pairs in it.
pub data Ascends : ℕ → Value → ℕ → Type 0 where
  a_variable : (low x high : ℕ) → low ≤ x → x < high → Ascends low (Var x) high
  a_simple : (low high : ℕ) (f : Label) → is_simple (leaf f) ≡ true → low ≤ high → Ascends low (leaf f) high
  a_pair : {h t : Value} (low middle high : ℕ) → Ascends low h middle → Ascends middle t high → Ascends low (pair h t) high

-- A term's variables are new to a substitution and an argument: they ascend from a number on that is above all variables of these, and none is older
-- than the newest mark.
pub record AreNew (since : ℕ) (S : Substitution) (a b : Value) : Type 0 where
  pub low : ℕ
  pub high : ℕ
  pub young : since ≤ low
  pub bound : top_of_pairs S ≤ low
  pub argument : top a ≤ low
  pub term : Ascends low b high

-- An argument and a term of which each variable is new are unified, as long as no argument has clashed; else nothing is done.
pub record TakeWorks : Type 0 where
  pub takes : (g : Setting) (S : Substitution) (m : Moment g S) (x y : ℕ) (a b : Value) → Shows g.sh x a → Shows g.sh y b →
      m.cells clash_reg ≡ 0 → AreNew g.since S a b →
      Matches TAKE_ACTS g m.memory x y (price S ((a, b) ∷ [])) (unify S a b)
  pub skips : Skips TAKE_ACTS
