-- What a search comes to that neither prints nor reads.
use Rattle.std.proofs.Common.{◌≡◌, ℕ, suc, ◌<◌, ◌≤◌, inl, inr, Option, Some, None, Bool, true, false, refl, sym, ap, ◌∙◌, subst, arith, length}
use Rattle.std.specs.Prelude.{Result, Ok, Err, IfOk, IfErr}
use Rattle.dg_base.specs.declared.program.Goal.{Goal}
use Rattle.dg_base.specs.declared.run.Ending.{Ending}
use Rattle.dg_base.specs.declared.run.Ending.TheVariants.{Done, Failed}
use Rattle.dg_meaning.specs.Path.{Result as SearchResult, Failing, End}
use Rattle.dg_meaning.specs.Transcript.{Run, ending_of}
use Rattle.dg_meaning.specs.World.{Game, World}
use Rattle.dg_lasting.specs.declared.lack.Lack.{Lack}
use Rattle.dg_lasting.specs.declared.lack.Lack.TheVariants as lack
use Rattle.dg_lasting.specs.Lasting.{outline}
use Rattle.dg_world.specs.Worlds.{StandsFor}
use Rattle.dg_interp.specs.declared.engine.Engine.{Engine}
use Rattle.dg_interp.specs.declared.seeking.Sought.{Sought}
use Rattle.dg_interp.specs.declared.seeking.Sought.TheVariants as sought
use Rattle.dg_interp.specs.inside.Engine.{IsReady, StandsAt, TakesAt, Taken, LackAt, WentOn, HasEndedSo, AtGoal, GoesToGoal, Branches, Forgets}
use Rattle.dg_interp.specs.inside.Seeking.{heap_limit_in, Each, ComesFrom, HasCome, SeeksOn, SeeksNoMore, SeeksSo, Turns, SeeksTooMuch, Ended, sought_at, IsSought}
use Rattle.dg_interp.proofs.Places.{peak_drops}
use Rattle.dg_interp.proofs.Runs.{forgets_ready, forgets_stands, forgets_left, forgets_goals, limited_at}

-- ## A goal

module _ (x : Goal) (old mid : Engine) (taken : Taken x old mid) where
  takes_here : (g : Game) (w : World) (run : Run) → StandsAt old g old.left w run → TakesAt x mid g mid.left w run
  takes_here g w run st = taken.takes g mid.left w run (subst (λ n. StandsAt old g n w run) taken.left st)

  goal_on : (new : Engine) → WentOn (TakesAt x mid) mid new → SeeksOn old new
  goal_on new h = record {
    ready = h.ready;
    left = taken.left ∙ ap suc (sym h.left);
    limit = h.limits.heap ∙ taken.limits.heap;
    comes = λ g w run st.
        let t = h.leads g mid.left w run (takes_here g w run st) in
        record { world = t.world; stands = subst (λ n. StandsAt new g n t.world run) (sym h.left) t.holds };
  }

  goal_over : (new : Engine) → HasEndedSo (TakesAt x mid) Failing mid new → SeeksNoMore Failing old new
  goal_over new h = record {
    limit = h.limits.heap ∙ taken.limits.heap;
    ends = λ g w run st. let t = h.ends g mid.left w run (takes_here g w run st) in record { left = mid.left; world = t.world; ends = t.holds };
  }

  goal_found : (new : Engine) (found : Bool) → Branches (TakesAt x mid) found mid new → SeeksSo found old new
  goal_found new true h = goal_on new h
  goal_found new false h = goal_over new h

  pub goal_done : (new : Engine) (r : Result Bool Lack) → IfOk r (λ found. Branches (TakesAt x mid) found mid new) → IfOk r (λ found. SeeksSo found old new)
  goal_done new (Ok found) h = goal_found new found h
  goal_done new (Err l) h = tt

  goal_lacks : (l : Lack) → LackAt (TakesAt x mid) mid l → SeeksTooMuch l old
  goal_lacks lack.Heap h = λ g w run st. let passes = h g mid.left w run (takes_here g w run st) in omega (arith, passes, taken.limits.heap)
  goal_lacks lack.Trail h = tt
  goal_lacks lack.Aux h = tt
  goal_lacks lack.Keep h = tt
  goal_lacks lack.OutOfMemory h = tt

  pub goal_short : (r : Result Bool Lack) → IfErr r (λ l. LackAt (TakesAt x mid) mid l) → IfErr r (λ l. SeeksTooMuch l old)
  goal_short (Ok found) h = tt
  goal_short (Err l) h = goal_lacks l h

-- ## The next goal

module _ (old mid : Engine) (h : SeeksOn old mid) where
  next_on : (new : Engine) → AtGoal (StandsAt mid) mid new → Turns None old new
  next_on new a = (
    record {
      ready = a.went_on.ready;
      left = h.left ∙ ap suc (sym a.went_on.left);
      limit = a.went_on.limits.heap ∙ h.limit;
      comes = λ g w run st.
          let c = h.comes g w run st in
          let t = a.went_on.leads g mid.left c.world run c.stands in
          record { world = t.world; stands = subst (λ n. StandsAt new g n t.world run) (sym a.went_on.left) t.holds };
    },
    a.goal,
  )

  next_over : (new : Engine) (result : SearchResult) → HasEndedSo (StandsAt mid) result mid new → SeeksNoMore result old new
  next_over new result a = record {
    limit = a.limits.heap ∙ h.limit;
    ends = λ g w run st.
        let c = h.comes g w run st in
        let t = a.ends g mid.left c.world run c.stands in
        record { left = mid.left; world = t.world; ends = t.holds };
  }

  next_turns : (new : Engine) (ending : Option Ending) → GoesToGoal (StandsAt mid) ending mid new → Turns ending old new
  next_turns new None a = next_on new a
  next_turns new (Some Done) a = next_over new (End Done) a
  next_turns new (Some Failed) a = next_over new Failing a
  next_turns new (Some _) a = absurd a

  pub next_done : (new : Engine) (r : Result (Option Ending) Lack) → IfOk r (λ ending. GoesToGoal (StandsAt mid) ending mid new) → IfOk r (λ ending. Turns ending old new)
  next_done new (Ok ending) k = next_turns new ending k
  next_done new (Err l) k = tt

  next_lacks : (l : Lack) → LackAt (StandsAt mid) mid l → SeeksTooMuch l old
  next_lacks lack.Heap k = λ g w run st. let c = h.comes g w run st in let passes = k g mid.left c.world run c.stands in omega (arith, passes, h.limit)
  next_lacks lack.Trail k = tt
  next_lacks lack.Aux k = tt
  next_lacks lack.Keep k = tt
  next_lacks lack.OutOfMemory k = tt

  pub next_short : (r : Result (Option Ending) Lack) → IfErr r (λ l. LackAt (StandsAt mid) mid l) → IfErr r (λ l. SeeksTooMuch l old)
  next_short (Ok ending) k = tt
  next_short (Err l) k = next_lacks l k

-- ## On and on

-- each run goes on from one engine at a goal of another
pub record Sofar (first now : Engine) : Type 0 where
  pub ready : IsReady now
  pub goal : 0 < length now.here.goals.now
  pub limit : heap_limit_in now ≡ heap_limit_in first
  pub comes : Each first (ComesFrom now)

pub so_far : (e : Engine) → IsReady e → 0 < length e.here.goals.now → Sofar e e
so_far e ready goal = record { ready = ready; goal = goal; limit = refl; comes = λ g w run st. record { world = w; stands = st } }

-- what was told is forgotten
pub hushed_on : (first now e : Engine) → Forgets now e → Sofar first now → Sofar first e
hushed_on first now e forgets h = record {
  ready = forgets_ready now e forgets h.ready;
  goal = subst (λ l. 0 < length l) (sym (forgets_goals now e forgets)) h.goal;
  limit = ap heap_limit_in forgets.same ∙ h.limit;
  comes = λ g w run st.
      let c = h.comes g w run st in
      record { world = c.world; stands = subst (λ n. StandsAt e g n c.world run) (sym (forgets_left now e forgets)) (forgets_stands now e forgets g now.left c.world run c.stands) };
}

module _ (first now : Engine) (h : Sofar first now) where
  each_from : (P : Game → Run → Type 0) → Each now P → Each first P
  each_from P f g w run st = let c = h.comes g w run st in f g c.world run c.stands

  pub turned : (new : Engine) → Turns None now new → Sofar first new
  turned new t = record { ready = t.0.ready; goal = t.1; limit = t.0.limit ∙ h.limit; comes = each_from (ComesFrom new) t.0.comes }

  -- the run has ended
  ended_so : (new : Engine) (result : SearchResult) (ending : Ending) → ending ≡ ending_of result → SeeksNoMore result now new → Each first (λ g run. Ended ending (heap_limit_in first) new.lasting.world g.program run)
  ended_so new result ending is over =
      each_from (λ g run. Ended ending (heap_limit_in first) new.lasting.world g.program run)
      (λ g w run st.
      let e = over.ends g w run st in
      let f = e.ends.finished in
      let peak = peak_drops (heap_limit_in new) e.world f.world f.drops e.ends.peak in
      let world : run.world ≡ f.world = ap (λ (r : Run). r.world) f.is in
      let facts : run.world.facts ≡ e.world.facts = ap (λ (u : World). u.facts) world ∙ ap (λ (u : World). u.facts) f.drops.is in
      record {
        is = ap (λ (r : Run). r.ending) f.is ∙ sym is;
        within = omega (arith, peak, ap (λ (u : World). u.meters.heap) world, over.limit, h.limit);
        stands = subst (StandsFor new.lasting.world (outline g.program new.lasting.world.area.keep)) (sym facts) e.ends.world.0.stands;
      })

  pub found_so : (new : Engine) (ending : Ending) → Turns (Some ending) now new → Each first (λ g run. IsSought (sought_at ending) (heap_limit_in first) new.lasting.world g.program run)
  found_so new Done t = ended_so new (End Done) Done refl t
  found_so new Failed t = ended_so new Failing Failed refl t
  found_so new _ t = absurd t

  pub found_limit : (new : Engine) → SeeksTooMuch lack.Heap now → Each first (λ g run. IsSought sought.TooLong (heap_limit_in first) new.lasting.world g.program run)
  found_limit new passes = each_from (λ g run. IsSought sought.TooLong (heap_limit_in first) new.lasting.world g.program run)
      (λ g w run st. let more = passes g w run st in inr (omega (arith, more, h.limit)))

  pub found_end : now.left ≡ 0 → Each first (λ g run. IsSought sought.TooLong (heap_limit_in first) now.lasting.world g.program run)
  found_end none = each_from (λ g run. IsSought sought.TooLong (heap_limit_in first) now.lasting.world g.program run)
      (λ g w run st. inl (ap (λ (r : Run). r.ending) (limited_at now g w run h.goal (subst (λ n. StandsAt now g n w run) none st)).is))
