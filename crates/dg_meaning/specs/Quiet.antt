-- Which goals are quiet, so that they may find how the world starts: they neither print nor read, and neither change the world nor look at it. Hold it
-- against the Dialog manual on the state of the world, where it says how a flag and a variable start.
use Rattle.std.specs.Prelude.{◌≡◌, ℕ, List, Bool, true, false, Some, length, slice_get}
use Rattle.std.specs.List.{list_all}
use Rattle.dg_base.specs.declared.program.Goal.{Goal, out-Goal}
use Rattle.dg_base.specs.declared.program.Goal.TheOpen.{Goal-F, Equal, Ask, Either, Once, Not, If, Just, Fail, Exhaust, Arith, Compare, Test, IsObject}
use Rattle.dg_base.specs.declared.program.Pred.{Pred}
use Rattle.dg_base.specs.declared.program.Rule.{Rule}
use Rattle.dg_base.specs.Goals.{all_goals_of}
use Rattle.dg_meaning.specs.Sets.{is_in_set, IsSubset}

-- A form of goal that is quiet, what stands in it apart; what it asks is in the set.
abbrev pub is_quiet_form : List Bool → Goal-F Goal → Bool
is_quiet_form set (Equal a b) = true
is_quiet_form set (Ask pred args many) = is_in_set set pred
is_quiet_form set (Either lists) = true
is_quiet_form set (Once goals) = true
is_quiet_form set (Not goals) = true
is_quiet_form set (If test first other) = true
is_quiet_form set Just = true
is_quiet_form set Fail = true
is_quiet_form set (Exhaust goals) = true
is_quiet_form set (Arith op a b c) = true
is_quiet_form set (Compare op a b) = true
is_quiet_form set (Test kind a) = true
is_quiet_form set (IsObject a many) = true
is_quiet_form set goal = false

-- Goals are quiet, at every depth.
abbrev pub are_quiet : List Bool → List Goal → Bool
are_quiet set goals = list_all (λ goal. is_quiet_form set (out-Goal goal)) (all_goals_of goals)

-- The bodies of rules are quiet.
abbrev pub have_quiet_bodies : List Bool → List Rule → Bool
have_quiet_bodies set rules = list_all (λ rule. are_quiet set rule.body) rules

-- No predicate of a set changes, and the bodies of its rules are quiet by the set.
abbrev pub IsQuietBy : List Pred → (ℕ → Bool) → List Bool → Type 0
IsQuietBy preds changing set = (p : ℕ) → (pred : Pred) → slice_get preds p ≡ Some pred → is_in_set set p ≡ true →
    (changing p ≡ false) × (have_quiet_bodies set pred.rules ≡ true)

-- It has each such set of predicates within it.
abbrev pub HasAllQuiet : List Pred → (ℕ → Bool) → List Bool → Type 0
HasAllQuiet preds changing outer = (set : List Bool) → length set ≡ length preds → IsQuietBy preds changing set → IsSubset preds set outer

-- The quiet predicates, where these change: the greatest such set, with an answer for each predicate.
pub record AreQuiet (preds : List Pred) (changing : ℕ → Bool) (set : List Bool) : Type 0 where
  pub answers : length set ≡ length preds
  pub closed : IsQuietBy preds changing set
  pub greatest : HasAllQuiet preds changing set
