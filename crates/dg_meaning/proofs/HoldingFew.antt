-- The goals of a sound program hold few terms where its queries of predicates have few arguments.
use Rattle.std.proofs.Common.{ℕ, ◌≤◌, List, Option, Some, None, arith, length, get_or}
use Rattle.std.specs.Prelude.{slice_get}
use Rattle.std.specs.List.{All}
use Rattle.dg_base.specs.declared.program.CoreProgram.{CoreProgram}
use Rattle.dg_base.specs.declared.program.Goal.{Goal, out-Goal}
use Rattle.dg_base.specs.declared.program.Goal.TheOpen as form
use Rattle.dg_base.specs.declared.program.Place.{Place}
use Rattle.dg_base.specs.declared.program.PlaceKind.{PlaceKind}
use Rattle.dg_base.specs.declared.program.PlaceKind.TheVariants.{Flag, ObjectFlag, ObjectVar, Parent, Global}
use Rattle.dg_base.specs.declared.program.Term.{Term}
use Rattle.dg_base.specs.Goals.{all_goals_of, terms_held, option_terms}
use Rattle.dg_base.specs.Sound.{IsSound, IsGoalOf, FitsPlace, FitsProgram, terms_of_kind, closure_vars}
use Rattle.dg_meaning.specs.Few.{HoldsFew, AllHoldFew, FormAsksFew, AsksFew, AllAskFew}

kind_few : (k : PlaceKind) → terms_of_kind k ≤ 2
kind_few Flag = omega arith
kind_few ObjectFlag = omega arith
kind_few ObjectVar = omega arith
kind_few Parent = omega arith
kind_few Global = omega arith

place_few : (args : List Term) (place : Option Place) → FitsPlace (length args) place → length args ≤ 2
place_few args None h = absurd h
place_few args (Some place) h = let few = kind_few place.kind in omega (arith, h)

option_few : (b : Option Term) → length (option_terms b) ≤ 1
option_few None = omega arith
option_few (Some term) = omega arith

module _ (program : CoreProgram) (n : ℕ) (three : 3 ≤ n) where
  form_few : (o : form.Goal-F Goal) → FitsProgram program o → FormAsksFew n o → length (terms_held o) ≤ n
  form_few (form.Ask pred args many) fits few = few
  form_few (form.Holds place args many) fits few = let two = place_few args (slice_get program.places place) fits in omega arith
  form_few (form.Now place args set) fits few = let two = place_few args (slice_get program.places place) fits in omega arith
  form_few (form.Query a b many) fits few = let one = option_few b in omega arith
  form_few o fits few = omega arith

  goal_few : (vars : ℕ) (x : Goal) → IsGoalOf program vars x → AsksFew n x → HoldsFew n x
  goal_few vars x is few = form_few (out-Goal x) is.fits few

  body_few : (vars : ℕ) (body : List Goal) → All (IsGoalOf program vars) (all_goals_of body) → All (AsksFew n) (all_goals_of body) → All (HoldsFew n) (all_goals_of body)
  body_few vars body are few k d lt = goal_few vars _ (are k d lt) (few k d lt)

pub goals_hold_few : (program : CoreProgram) → IsSound program → (n : ℕ) → 3 ≤ n → AllAskFew n program → AllHoldFew n program
goals_hold_few program sound n three few = record {
  preds = λ i pred lt j rule lt'.
      let r = get_or (get_or program.preds i pred).rules j rule in
      body_few program n three r.vars r.body (((sound.preds i pred lt).rules j rule lt').body) (few.preds i pred lt j rule lt');
  closures = λ i closure lt. let c = get_or program.closures i closure in body_few program n three (closure_vars c) c.body ((sound.closures i closure lt).body) (few.closures i closure lt);
}
