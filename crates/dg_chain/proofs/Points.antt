-- A story goes from point to point of a run of its code, over those where a choice goes on.
use Rattle.std.proofs.Common.{◌≡◌, ℕ, zero, suc, ◌+◌, ◌*◌, ◌≤◌, Bool, true, false, List, [], ◌∷◌, ◌⊎◌, inl, inr, refl, sym, ap, ◌∙◌, subst, arith}
use Rattle.std.specs.Prelude.{if◌then◌else◌}
use Rattle.dg_meaning.specs.World.{Game, Print}
use Rattle.dg_meaning.specs.Render.{render}
use Rattle.dg_mid.specs.declared.code.Op.{Op}
use Rattle.dg_mid.specs.declared.code.Code.{Code}
use Rattle.dg_mid.specs.State.{Goes, Takes, Calls, Tries, Status, Runs, Enters, Resumes, Fails, Ended}
use Rattle.dg_mid.specs.Step.{Setting, setting, step}
use Rattle.dg_mid.specs.Units.{units, units_of, selects}
use Rattle.dg_mid.specs.Runs.{Point, after}
use Rattle.dg_mid.specs.Potential.{IsOver}
use Rattle.z_model.specs.declared.end.ZEnd.{ZEnd}
use Rattle.z_model.specs.Run.{ZGiven, ZState}
use Rattle.z_lang.specs.Leads.{Leads}
use Rattle.z_lang.specs.Turns.{Turn, To, Over as IsOverWith, Turning, Reaches, here, on as on_to}
use Rattle.z_lang.specs.WholeRuns.{IsTurn, Does}
use Rattle.z_lang.proofs.Stretches.{leads_none, leads_then, ends_then}
use Rattle.dg_chain.specs.Agrees.{story_limits}
use Rattle.dg_chain.specs.Steps.{end_of, written_with, Standing, Comes, Next, step_cost, is_resumed, least_of, StepsAreTurns, Starts}
use Rattle.dg_chain.proofs.Resting.{rests}

-- a run has ended or not
pub over_or : (now : Status) → IsOver now ⊎ (IsOver now → ⊥)
over_or (Runs m) = inr (λ o. o)
over_or (Enters call m) = inr (λ o. o)
over_or (Resumes way m) = inr (λ o. o)
over_or (Fails m) = inr (λ o. o)
over_or (Ended e) = inl tt

-- What comes behind a boundary, where the next point is this.
abbrev pub turn_to : List Print → Status → ℕ → Turn ZEnd ℕ
turn_to ps (Ended e) k = IsOverWith (end_of e) (written_with ps e)
turn_to ps (Runs m) k = To k
turn_to ps (Enters call m) k = To k
turn_to ps (Resumes way m) k = To k
turn_to ps (Fails m) k = To k

pub turn_on : (ps : List Print) (now : Status) (k : ℕ) → (IsOver now → ⊥) → turn_to ps now k ≡ To k
turn_on ps (Runs m) k on = refl
turn_on ps (Enters call m) k on = refl
turn_on ps (Resumes way m) k on = refl
turn_on ps (Fails m) k on = refl
turn_on ps (Ended e) k on = absurd (on tt)

pub units_never_none : (s : Setting) (ps : List Print) (now : Status) → (IsOver now → ⊥) → 1 ≤ units s ps now
units_never_none s ps (Runs m) on = some m.ops
  where
    some : (ops : List Op) → 1 ≤ units_of s ps ops m
    some [] = omega arith
    some (x ∷ ops) = omega arith
units_never_none s ps (Enters call m) on = omega arith
units_never_none s ps (Resumes (Goes b) m) on = omega arith
units_never_none s ps (Resumes (Takes b into) m) on = omega arith
units_never_none s ps (Resumes (Calls call rules) m) on = omega arith
units_never_none s ps (Resumes (Tries f objects) m) on = omega arith
units_never_none s ps (Fails m) on = omega arith
units_never_none s ps (Ended e) on = absurd (on tt)

-- a choice that goes on is no end
resumed_on : (now : Status) → is_resumed now ≡ true → IsOver now → ⊥
resumed_on (Runs m) e o = o
resumed_on (Enters call m) e o = o
resumed_on (Resumes way m) e o = o
resumed_on (Fails m) e o = o
resumed_on (Ended x) e o = cc

module _ (g : Game) (code : Code) (typed : List ℕ) where
  abbrev pub set : Setting
  set = setting g code story_limits

  abbrev pub points : ℕ → Point
  points k = after set typed k

  abbrev pub resumed_at : ℕ → Bool
  resumed_at k = is_resumed (points k).now

  -- What the step of a point costs: 30 instructions more a unit than its turn, for what is in front of it and for an ending.
  abbrev pub cost_at : ℕ → ℕ
  cost_at k = 830 * units set (points k).prints (points k).now + 9000 * selects (points k).now

  -- The next point, or the one behind it where a choice goes on there.
  abbrev pub behind : ℕ → ℕ
  behind k = if resumed_at (suc k) then suc (suc k) else suc k

  -- The boundaries.
  abbrev pub turning : Turning ZEnd ℕ
  turning = record {
    next = λ k. turn_to (points (behind k)).prints (points (behind k)).now (behind k);
    out = λ k. render (points k).prints;
    cost = λ k. cost_at k + (if resumed_at (suc k) then cost_at (suc k) else 0);
  }

  abbrev to_point : ℕ → Turn ZEnd ℕ
  to_point j = turn_to (points j).prints (points j).now j

  pub next_is : (k : ℕ) → resumed_at (suc k) ≡ false → turning.next k ≡ to_point (suc k)
  next_is k e = ap (λ (b : Bool). to_point (if b then suc (suc k) else suc k)) e

  pub second_is : (k : ℕ) → resumed_at (suc k) ≡ true → turning.next k ≡ to_point (suc (suc k))
  second_is k e = ap (λ (b : Bool). to_point (if b then suc (suc k) else suc k)) e

  pub cost_once : (k : ℕ) → resumed_at (suc k) ≡ false → turning.cost k ≡ cost_at k + 0
  cost_once k e = ap (λ (b : Bool). cost_at k + (if b then cost_at (suc k) else 0)) e

  pub cost_twice : (k : ℕ) → resumed_at (suc k) ≡ true → turning.cost k ≡ cost_at k + cost_at (suc k)
  cost_twice k e = ap (λ (b : Bool). cost_at k + (if b then cost_at (suc k) else 0)) e

  -- an end stays
  over_stays : (now : Status) → IsOver now → IsOver (step set now)
  over_stays (Runs m) o = absurd o
  over_stays (Enters call m) o = absurd o
  over_stays (Resumes way m) o = absurd o
  over_stays (Fails m) o = absurd o
  over_stays (Ended e) o = tt

  pub on_before : (k : ℕ) → (IsOver (points (suc k)).now → ⊥) → IsOver (points k).now → ⊥
  on_before k on o = on (over_stays (points k).now o)

  -- in front of a choice that goes on none does
  pub rests_before : (k : ℕ) → resumed_at (suc k) ≡ true → resumed_at k ≡ false
  rests_before k e = by (resumed_at k) refl
    where
      by : (b : Bool) → resumed_at k ≡ b → resumed_at k ≡ false
      by true q = absurd (differ (resumed_at (suc k)) e (rests set (points k).now q))
        where
          differ : (b : Bool) → b ≡ true → b ≡ false → ⊥
          differ b p q = cc
      by false q = q

  then_to : {a b d : ℕ} {n : ℕ} → Reaches turning a n b → turning.next b ≡ To d → Reaches turning a (n + turning.cost b) d
  then_to {a} {b} {d} {n} here e = let q : turning.cost b + 0 ≡ 0 + turning.cost b = omega arith in subst (λ (i : ℕ). Reaches turning b i d) q (on_to e here)
  then_to {a} {b} {d} (on_to {a = x} {b = y} {c = z} {n = m} f r) e = let q : turning.cost x + (m + turning.cost z) ≡ turning.cost x + m + turning.cost z = omega arith in subst (λ (i : ℕ). Reaches turning x i d) q (on_to f (then_to r e))

  -- what all steps up to a point cost
  abbrev pub all_spent : ℕ → ℕ
  all_spent k = 830 * (points k).spent + 9000 * (points k).looks

  ReachedAt : ℕ → Type 0
  ReachedAt k = resumed_at k ≡ false → (IsOver (points k).now → ⊥) → Reaches turning 0 (all_spent k) k

  spent_once : (k : ℕ) → resumed_at (suc k) ≡ false → all_spent k + turning.cost k ≡ all_spent (suc k)
  spent_once k e =
      let u = units set (points k).prints (points k).now in
      let l = selects (points k).now in
      let c : turning.cost k ≡ 830 * u + 9000 * l + 0 = cost_once k e in
      let s : (points (suc k)).spent ≡ u + (points k).spent = refl in
      let t : (points (suc k)).looks ≡ l + (points k).looks = refl in
      omega arith

  spent_twice : (k : ℕ) → resumed_at (suc k) ≡ true → all_spent k + turning.cost k ≡ all_spent (suc (suc k))
  spent_twice k e =
      let u = units set (points k).prints (points k).now in
      let l = selects (points k).now in
      let u' = units set (points (suc k)).prints (points (suc k)).now in
      let l' = selects (points (suc k)).now in
      let c : turning.cost k ≡ 830 * u + 9000 * l + (830 * u' + 9000 * l') = cost_twice k e in
      let s : (points (suc (suc k))).spent ≡ u' + (u + (points k).spent) = refl in
      let t : (points (suc (suc k))).looks ≡ l' + (l + (points k).looks) = refl in
      omega arith

  reaches_once : (k : ℕ) → resumed_at k ≡ false → ReachedAt k → ReachedAt (suc k)
  unfolding ReachedAt
  reaches_once k here_rests before e on =
      let first = before here_rests (on_before k on) in
      subst (λ (i : ℕ). Reaches turning 0 i (suc k)) (spent_once k e) (then_to first (next_is k e ∙ turn_on (points (suc k)).prints (points (suc k)).now (suc k) on))

  reaches_twice : (k : ℕ) → resumed_at (suc k) ≡ true → ReachedAt k → ReachedAt (suc (suc k))
  unfolding ReachedAt
  reaches_twice k q before e on =
      let first = before (rests_before k q) (on_before k (on_before (suc k) on)) in
      subst (λ (i : ℕ). Reaches turning 0 i (suc (suc k))) (spent_twice k q) (then_to first (second_is k q ∙ turn_on (points (suc (suc k))).prints (points (suc (suc k))).now (suc (suc k)) on))

  reaches_by : (k : ℕ) (b : Bool) → resumed_at (suc k) ≡ b → ReachedAt k → ReachedAt (suc k) → ReachedAt (suc (suc k))
  reaches_by k true q first second = reaches_twice k q first
  reaches_by k false q first second = reaches_once (suc k) q second

  reached_all : (k : ℕ) → ReachedAt k
  unfolding ReachedAt
  reached_all zero e on = here
  reached_all (suc zero) e on = reaches_once 0 refl (λ e' on'. here) e on
  reached_all (suc (suc k)) e on = reaches_by k (resumed_at (suc k)) refl (λ e' on'. reached_all k e' on') (λ e' on'. reached_all (suc k) e' on') e on

  -- Each point before the end at which no choice goes on is reached at the cost of its units and looks.
  pub reaches : (k : ℕ) → resumed_at k ≡ false → (IsOver (points k).now → ⊥) → Reaches turning 0 (all_spent k) k
  unfolding ReachedAt
  reaches k e on = reached_all k e on

  module _ (w : ZGiven) (Always : Status → Type 0) (Stands : Standing) (steps : StepsAreTurns w set Always Stands) (always : (k : ℕ) → Always (points k).now) where
    -- The player is 10 instructions at most in front of a point that isn't the end, and at which no choice goes on.
    pub record Before (k : ℕ) (z : ZState) : Type 0 where
      pub count : ℕ
      pub few : count ≤ 10
      pub there : ZState
      pub leads : Leads w count z there
      pub stands : Stands (points k).prints (points k).now there
      pub printed : z.output ≡ render (points k).prints
      pub on : IsOver (points k).now → ⊥
      pub rests_here : resumed_at k ≡ false

    -- The next boundary is come to, or the run ends.
    record Went (x : Turn ZEnd ℕ) (least most : ℕ) (z : ZState) : Type 0 where
      count : ℕ
      some : least ≤ count
      few : count ≤ most + 20
      does : Does w (λ e. e) Before x count z

    comes_so : (k least most : ℕ) (z : ZState) (now : Status) → (IsOver now → ⊥) → (points k).now ≡ now → resumed_at k ≡ false → Comes w Stands least (points k).prints now most z → Went (To k) least most z
    comes_so k least most z now on e r h =
        let there = h.there in
        let rep : Stands (points k).prints (points k).now there = subst (λ (x : Status). Stands (points k).prints x there) (sym e) h.stands in
        let none : Before k there = record { count = 0; few = omega arith; there = there; leads = leads_none w there; stands = rep; printed = steps.printed (points k).prints (points k).now there rep; on = λ o. on (subst IsOver e o); rests_here = r } in
        let few = h.few in
        record { count = h.count; some = h.some; few = omega arith; does = (there, none, h.leads) }

    goes_so : (k least most : ℕ) (z : ZState) (now : Status) → (points k).now ≡ now → resumed_at k ≡ false → Next w Stands least (points k).prints now most z → Went (turn_to (points k).prints now k) least most z
    goes_so k least most z (Ended e) q r h = record { count = h.count; some = h.some; few = h.few; does = (h.last, h.output, h.ends) }
    goes_so k least most z (Runs m) q r h = comes_so k least most z (Runs m) (λ o. o) q r h
    goes_so k least most z (Enters call m) q r h = comes_so k least most z (Enters call m) (λ o. o) q r h
    goes_so k least most z (Resumes way m) q r h = comes_so k least most z (Resumes way m) (λ o. o) q r h
    goes_so k least most z (Fails m) q r h = comes_so k least most z (Fails m) (λ o. o) q r h

    -- where a choice goes on the player stands
    comes_of : (least : ℕ) (ps : List Print) (now : Status) (most : ℕ) (z : ZState) → is_resumed now ≡ true → Next w Stands least ps now most z → Comes w Stands least ps now most z
    comes_of least ps (Runs m) most z e h = absurd (cc)
    comes_of least ps (Enters call m) most z e h = absurd (cc)
    comes_of least ps (Resumes way m) most z e h = h
    comes_of least ps (Fails m) most z e h = absurd (cc)
    comes_of least ps (Ended x) most z e h = absurd (cc)

    then_does : (x : Turn ZEnd ℕ) (a b : ℕ) (z there : ZState) → Leads w a z there → Does w (λ e. e) Before x b there → Does w (λ e. e) Before x (a + b) z
    then_does (To k) a b z there l d = (d.0, d.1, leads_then w a b z there d.0 l d.2)
    then_does (IsOverWith end bytes) a b z there l d = (d.0, d.1, ends_then w a b z there (record { end = end; state = d.0 }) l d.2)

    abbrev Turned : ℕ → ZState → Type 0
    Turned k z = IsTurn w (λ e. e) turning Before k z

    abbrev turn_at : (k : ℕ) (z : ZState) → (IsOver (points k).now → ⊥) → Stands (points k).prints (points k).now z → Next w Stands (least_of (points k).now) (points (suc k)).prints (points (suc k)).now (step_cost set (points k).prints (points k).now) z
    turn_at k z on h = steps.turn (points k).prints (points k).now z on (always k) h

    turns_once : (k : ℕ) (z : ZState) → Before k z → resumed_at (suc k) ≡ false → Turned k z
    turns_once k z h e =
        let p = points k in
        let u = units set p.prints p.now in
        let least = least_of p.now in
        let one : least ≡ 1 = ap (λ (b : Bool). if b then 0 else 1) h.rests_here in
        let went = goes_so (suc k) least (step_cost set p.prints p.now) h.there (points (suc k)).now refl e (turn_at k h.there h.on h.stands) in
        let some = went.some in
        let few = went.few in
        let early = h.few in
        let unit = units_never_none set p.prints p.now h.on in
        let cost : turning.cost k ≡ cost_at k + 0 = cost_once k e in
        record {
          printed = h.printed;
          count = h.count + went.count;
          some = omega arith;
          most = omega arith;
          does = subst (λ (x : Turn ZEnd ℕ). Does w (λ e. e) Before x (h.count + went.count) z) (sym (next_is k e)) (then_does (to_point (suc k)) h.count went.count z h.there h.leads went.does);
        }

    turns_twice : (k : ℕ) (z : ZState) → Before k z → resumed_at (suc k) ≡ true → Turned k z
    turns_twice k z h e =
        let p = points k in
        let q = points (suc k) in
        let u = units set p.prints p.now in
        let u' = units set q.prints q.now in
        let least = least_of p.now in
        let one : least ≡ 1 = ap (λ (b : Bool). if b then 0 else 1) h.rests_here in
        let first = comes_of least q.prints q.now (step_cost set p.prints p.now) h.there e (turn_at k h.there h.on h.stands) in
        let went = goes_so (suc (suc k)) (least_of q.now) (step_cost set q.prints q.now) first.there (points (suc (suc k))).now refl (rests set q.now e) (turn_at (suc k) first.there (resumed_on q.now e) first.stands) in
        let some = first.some in
        let few1 = first.few in
        let few2 = went.few in
        let early = h.few in
        let unit = units_never_none set p.prints p.now h.on in
        let cost : turning.cost k ≡ cost_at k + cost_at (suc k) = cost_twice k e in
        record {
          printed = h.printed;
          count = h.count + (first.count + went.count);
          some = omega arith;
          most = omega arith;
          does = subst (λ (x : Turn ZEnd ℕ). Does w (λ e. e) Before x (h.count + (first.count + went.count)) z) (sym (second_is k e))
              (then_does (to_point (suc (suc k))) h.count (first.count + went.count) z h.there h.leads (then_does (to_point (suc (suc k))) first.count went.count h.there first.there first.leads went.does));
        }

    -- Each boundary's turn is the player's.
    pub turns : (k : ℕ) (z : ZState) → Before k z → Turned k z
    turns k z h = by (resumed_at (suc k)) refl
      where
        by : (b : Bool) → resumed_at (suc k) ≡ b → Turned k z
        by true e = turns_twice k z h e
        by false e = turns_once k z h e

    pub first : (z : ZState) → Starts w set Stands typed z → Before 0 z
    unfolding render
    first z s = record { count = s.count; few = s.few; there = s.there; leads = s.leads; stands = s.stands; printed = s.printed; on = λ o. o; rests_here = refl }
