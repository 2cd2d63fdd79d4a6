-- Behind a choice that goes on comes no other one.
use Rattle.std.proofs.Common.{◌≡◌, ℕ, zero, suc, ◌+◌, ◌-◌, List, [], ◌∷◌, Option, Some, None, Bool, true, false, refl, length, nat_lt}
use Rattle.std.specs.Prelude.{if◌then◌else◌}
use Rattle.dg_base.specs.declared.run.Ending.{Ending}
use Rattle.dg_base.specs.declared.run.Ending.TheVariants as ending
use Rattle.dg_meaning.specs.Path.{Act, Goes as GoesAct, Tests, Unifies, Ends, Fails as FailsNow, Stops}
use Rattle.dg_meaning.specs.Unify.{Unified, solve}
use Rattle.dg_meaning.specs.Values.{Value}
use Rattle.dg_meaning.specs.World.{Gathering}
use Rattle.dg_mid.specs.declared.code.Gathered.{Gathered}
use Rattle.dg_mid.specs.declared.code.Op.{Op}
use Rattle.dg_mid.specs.declared.code.Op.TheVariants as op
use Rattle.dg_mid.specs.declared.code.RuleCode.{RuleCode}
use Rattle.dg_mid.specs.Actions.{found_at, lasting_in}
use Rattle.dg_mid.specs.Code.{block_at, selected}
use Rattle.dg_mid.specs.State.{Call, Find, Way, Goes, Takes, Calls, Tries, Stop, Mid, Status, Runs, Enters, Resumes, Fails, Ended, stop_to}
use Rattle.dg_mid.specs.Step.{Setting, charged, bound, unified, if_agreed, if_passed, made_in, done, stops, stops_at, begins, enters, first_of, resumed, goes_on, step, passed, taken_out, takes_newest, takes, trying, trying_cells, tries}
use Rattle.dg_chain.specs.Steps.{is_resumed}

module _ (set : Setting) where
  abbrev S : Status → Type 0
  S now = is_resumed now ≡ false

  if_ends : (b : Bool) (e : Ending) (s : Status) → S s → S (if b then Ended e else s)
  if_ends true e s h = refl
  if_ends false e s h = h

  on_charged : (n : ℕ) (m : Mid) (s : Status) → S s → S (charged set n m s)
  on_charged zero m s h = h
  on_charged (suc n) m s h = if_ends (nat_lt set.limits.heap (m.state.heap + suc n)) ending.HeapLimit s h

  on_agreed : (b : Bool) (m : Mid) (s : Status) → S s → S (if_agreed b m s)
  on_agreed true m s h = h
  on_agreed false m s h = refl

  on_unified : (u : Unified) (m : Mid) (s : Status) → S s → S (unified set u m s)
  on_unified u m s h = if_ends _ ending.TrailLimit (if_agreed u.agrees (bound u m) s) (on_agreed u.agrees (bound u m) s h)

  on_passed : (b : Bool) (m : Mid) → S (if_passed b m)
  on_passed true m = refl
  on_passed false m = refl

  on_stop_at : (found : Option (Stop × List Stop)) (m : Mid) → S (stops_at set found m)
  on_stop_at None m = refl
  on_stop_at (Some x) m = refl

  on_stops : (t : Option ℕ) (m : Mid) → S (stops set t m)
  on_stops None m = refl
  on_stops (Some t) m = on_stop_at (stop_to t m.stops) m

  on_done : (act : Act) (m : Mid) → S (done set act m)
  on_done (GoesAct [] w) m = if_ends _ ending.KeepLimit (Runs (lasting_in w m)) refl
  on_done (GoesAct (s ∷ steps) w) m = refl
  on_done (Tests b w) m = on_passed b (lasting_in w m)
  on_done (Unifies made es w) m =
      let m' = made_in made (lasting_in w m) in
      let u = solve made.bound es in
      on_charged (made.heap - m.state.heap) m (unified set u m' (Runs (bound u m'))) (on_unified u m' (Runs (bound u m')) refl)
  on_done (Ends x w) m = refl
  on_done (FailsNow w) m = refl
  on_done (Stops w) m = on_stops m.stop (lasting_in w m)

  on_enters : (c : Call) (r : RuleCode) (rules : List RuleCode) (m : Mid) → S (enters set c r rules m)
  on_enters c r [] m = refl
  on_enters c r (q ∷ qs) m = on_charged (10 + length c.args) m _ refl

  on_begins : (c : Call) (rules : List RuleCode) (m : Mid) → S (begins set c rules m)
  on_begins c [] m = refl
  on_begins c (r ∷ rs) m = on_enters c r (selected (first_of m.state.subst c) rs) m

  on_resumed : (xs : List Op) (m : Mid) → S (resumed set xs m)
  on_resumed (op.Retry alt ∷ xs) m = on_charged 10 m _ refl
  on_resumed xs m = refl

  on_takes_newest : (whole : Gathered) (into : Value) (gs : List Gathering) (m : Mid) → S (takes_newest set whole into gs m)
  on_takes_newest whole into [] m = refl
  on_takes_newest whole into (x ∷ xs) m = let m' = passed (record m { gathered = xs }) in on_done (taken_out [] whole into x.values m') m'

  on_takes : (into : Value) (xs : List Op) (m : Mid) → S (takes set into xs m)
  on_takes into (op.TakeOut whole t ∷ xs) m = on_takes_newest whole into m.gathered (record m { ops = xs })
  on_takes into xs m = refl

  on_tries : (x : Find) (objects : List ℕ) (m : Mid) → S (tries set x objects m)
  on_tries x [] m = refl
  on_tries x (o ∷ objects) m = let m' = trying set x objects m in on_charged (trying_cells x objects) m (done set (found_at [] x o m') m') (on_done (found_at [] x o m') m')

  on_goes_on : (way : Way) (m : Mid) → S (goes_on set way m)
  on_goes_on (Goes b) m = on_resumed (block_at set.code b) m
  on_goes_on (Takes b into) m = on_takes into (block_at set.code b) m
  on_goes_on (Calls call rules) m = on_begins call rules m
  on_goes_on (Tries x objects) m = on_tries x objects m

  pub rests : (now : Status) → is_resumed now ≡ true → is_resumed (step set now) ≡ false
  rests (Runs m) e = absurd (cc)
  rests (Enters call m) e = absurd (cc)
  rests (Resumes way m) e = on_goes_on way m
  rests (Fails m) e = absurd (cc)
  rests (Ended x) e = absurd (cc)
