-- Whole runs.
use Rattle.std.proofs.Common.{◌≡◌, ℕ, zero, suc, ◌+◌, List, [], Bool, true, false, refl, sym, ap, ◌∙◌, subst, arith}
use Rattle.std.specs.Prelude.{◌-◌}
use Rattle.std.proofs.lemmas.List.{append-nil}
use Rattle.dg_base.specs.declared.run.Limits.{Limits}
use Rattle.dg_base.specs.declared.run.Ending.TheVariants as ending
use Rattle.dg_meaning.specs.World.{Game, World, Print, prints}
use Rattle.dg_meaning.specs.Path.{End as EndsSo}
use Rattle.dg_meaning.specs.Transcript.{Run, run, start_world, start_path}
use Rattle.dg_base.specs.Begins.{Begins}
use Rattle.dg_meaning.specs.inside.Keeps.{Finished}
use Rattle.dg_meaning.proofs.Keeps.{starts as stands_at_start, limited}
use Rattle.dg_meaning.proofs.OneRun.{begins_on}
use Rattle.dg_mid.specs.declared.code.Op.{Op}
use Rattle.dg_mid.specs.declared.code.Code.{Code}
use Rattle.dg_mid.specs.State.{Lasting, Mid, Status, Runs, Enters, Resumes, Fails, Ended}
use Rattle.dg_mid.specs.Step.{Setting, setting, step, said, followed, takes_goal, at_goal}
use Rattle.dg_mid.specs.Units.{one_if, earned}
use Rattle.dg_mid.specs.Codes.{Codes, End, Stands, jumps, returns, commits, refuses, backs, leaves, keeps, finishes, acts, ask, last_ask, query, last_query, holds, objects, only, either, selects, once, negates, branch, exhausts, shields, collects, accumulates, forever}
use Rattle.dg_mid.specs.Reads.{none, At, before, Comes, RunsAt}
use Rattle.dg_mid.specs.Runs.{start, Point, next, after, IsAt}
use Rattle.dg_mid.proofs.Here.{Here, steps_of, answers, prints_dropped, typed_dropped, followed_is}
use Rattle.dg_mid.proofs.Simulation.{simulates}

-- the typed bytes that a machine has; one that has ended tells none
abbrev pub typed_in : Status → List ℕ
typed_in (Runs m) = m.lasting.typed
typed_in (Enters call m) = m.lasting.typed
typed_in (Resumes way m) = m.lasting.typed
typed_in (Fails m) = m.lasting.typed
typed_in (Ended e) = []

module _ (g : Game) (code : Code) (limits : Limits) (codes : Codes g.program code) (typed : List ℕ) where
  abbrev set : Setting
  set = setting g code limits

  -- ## The start

  at_start : (n : ℕ) → Comes 0 [] set (start set typed) g n (run g typed n)
  at_start n = record {
    world = start_world g typed;
    at = record {
      lives = [];
      ways = [];
      registers = (start_path g).registers;
      mirrors = record { agrees = record { bound = refl; vars = refl; heap = omega arith; trail = omega arith; since = omega arith }; tag = refl; choices_are = none; below = tt; stops_are = tt; stop_is = refl; gathered_is = refl; lasting_is = refl; printed_is = refl };
      answered = [];
      steps = (start_path g).steps;
      reads = record { goals = _; end = _; rest = _; stands = codes.starts; below = refl; gathers = tt; is = refl };
      stands = stands_at_start g typed n;
    };
    worked = omega arith;
  }

  -- ## A step

  -- where the machine is, the run goes on
  step_comes : (least n k : ℕ) (ps : List Print) (now : Status) → Comes least ps set now g (before (takes_goal now) n) (run g typed k) → Comes (earned set ps now + least) (followed ps (said set now)) set (step set now) g n (run g typed k)
  step_comes least n k ps now c = simulates code limits now g codes (earned set ps now + least) n ps c.world (run g typed k) c.at (let x = c.worked in omega (arith, x))

  comes_on : (least : ℕ) (ps : List Print) (goals : ℕ) (now : Status) (b : Bool) → takes_goal now ≡ b → ((n : ℕ) → Comes least ps set now g n (run g typed (goals + n))) → (n : ℕ) → Comes (earned set ps now + least) (followed ps (said set now)) set (step set now) g n (run g typed (one_if b + goals + n))
  comes_on least ps goals now true e h n =
      let same : goals + suc n ≡ 1 + goals + n = omega arith in
      subst (λ k. Comes (earned set ps now + least) (followed ps (said set now)) set (step set now) g n (run g typed k)) same
      (step_comes least n (goals + suc n) ps now (subst (λ x. Comes least ps set now g (before x n) (run g typed (goals + suc n))) (sym e) (h (suc n))))
  comes_on least ps goals now false e h n =
      let same : goals + n ≡ 0 + goals + n = omega arith in
      subst (λ k. Comes (earned set ps now + least) (followed ps (said set now)) set (step set now) g n (run g typed k)) same
      (step_comes least n (goals + n) ps now (subst (λ x. Comes least ps set now g (before x n) (run g typed (goals + n))) (sym e) (h n)))

  -- ## The limit of goals

  -- where the next instruction takes a goal, the run with no more of its budget ends
  limited_one : (m : Mid) (ps : List Print) (ops : List Op) (goals : _) (end : End) (rest : _) (w : World) (r : Run) → Stands code ops goals end → at_goal ops ≡ true → Here code m ps (steps_of m goals end rest) g 0 w r → Finished 0 w (EndsSo ending.StepLimit) r
  limited_one m ps ops goals end rest w r (jumps b others goals' end' s) e h = absurd (cc (e))
  limited_one m ps ops goals end rest w r (returns others) e h = absurd (cc (e))
  limited_one m ps ops goals end rest w r (commits others goals' end' s) e h = absurd (cc (e))
  limited_one m ps ops goals end rest w r (refuses others) e h = absurd (cc (e))
  limited_one m ps ops goals end rest w r (backs others) e h = absurd (cc (e))
  limited_one m ps ops goals end rest w r (leaves others goals' end' s) e h = absurd (cc (e))
  limited_one m ps ops goals end rest w r (keeps term others) e h = absurd (cc (e))
  limited_one m ps ops goals end rest w r (finishes others) e h = absurd (cc (e))
  limited_one m ps ops goals end rest w r (acts a others goals' end' s) e h = limited g h.lives h.ways _ _ _ _ h.registers w r h.stands
  limited_one m ps ops goals end rest w r (ask pred terms many next others goals' end' s) e h = limited g h.lives h.ways _ _ _ _ h.registers w r h.stands
  limited_one m ps ops goals end rest w r (last_ask pred terms many others) e h = limited g h.lives h.ways _ _ _ _ h.registers w r h.stands
  limited_one m ps ops goals end rest w r (query a b many next others goals' end' s) e h = limited g h.lives h.ways _ _ _ _ h.registers w r h.stands
  limited_one m ps ops goals end rest w r (last_query a b many others) e h = limited g h.lives h.ways _ _ _ _ h.registers w r h.stands
  limited_one m ps ops goals end rest w r (holds place terms many next others goals' end' s o) e h = limited g h.lives h.ways _ _ _ _ h.registers w r h.stands
  limited_one m ps ops goals end rest w r (objects term many next others goals' end' s o) e h = limited g h.lives h.ways _ _ _ _ h.registers w r h.stands
  limited_one m ps ops goals end rest w r (only list others goals' end' s) e h = limited g h.lives h.ways _ _ _ _ h.registers w r h.stands
  limited_one m ps ops goals end rest w r (either alt list second lists others goals' end' s o) e h = limited g h.lives h.ways _ _ _ _ h.registers w r h.stands
  limited_one m ps ops goals end rest w r (selects site mode blocks lists behind others goals' end' bs s) e h = limited g h.lives h.ways _ _ _ _ h.registers w r h.stands
  limited_one m ps ops goals end rest w r (once inner others goals' end' s) e h = limited g h.lives h.ways _ _ _ _ h.registers w r h.stands
  limited_one m ps ops goals end rest w r (negates alt inner others goals' end' s o) e h = limited g h.lives h.ways _ _ _ _ h.registers w r h.stands
  limited_one m ps ops goals end rest w r (branch alt tested first other others goals' end' s o) e h = limited g h.lives h.ways _ _ _ _ h.registers w r h.stands
  limited_one m ps ops goals end rest w r (exhausts alt inner others goals' end' s o) e h = limited g h.lives h.ways _ _ _ _ h.registers w r h.stands
  limited_one m ps ops goals end rest w r (shields alt inner others goals' end' s o) e h = limited g h.lives h.ways _ _ _ _ h.registers w r h.stands
  limited_one m ps ops goals end rest w r (collects term into alt inner others behind goals' end' s q o) e h = limited g h.lives h.ways _ _ _ _ h.registers w r h.stands
  limited_one m ps ops goals end rest w r (accumulates term into alt inner others behind goals' end' s q o) e h = limited g h.lives h.ways _ _ _ _ h.registers w r h.stands
  limited_one m ps ops goals end rest w r (forever b others goals' end' q s) e h = limited g h.lives h.ways _ _ _ _ h.registers w r h.stands

  -- the run so far has printed what the machine has printed, and has left the typed bytes that it has
  pub record AtLimit (printed : List Print) (left : List ℕ) (r : Run) : Type 0 where
    pub world : World
    pub is : r ≡ record { left = 0; world = world; ending = ending.StepLimit }
    pub printed_is : prints world.events ≡ printed
    pub typed_is : world.typed ≡ left

  limited_at : (m : Mid) (ps : List Print) (w : World) (r : Run) → at_goal m.ops ≡ true → RunsAt code m ps g 0 w r → AtLimit ps m.lasting.typed r
  limited_at m ps w r e h =
      let layer = h.reads in
      let a = answers code m ps h.answered h.steps g 0 w r (record { lives = h.lives; ways = h.ways; registers = h.registers; mirrors = h.mirrors; stands = h.stands }) in
      let f = limited_one m ps m.ops layer.goals layer.end layer.rest a.world r layer.stands e (subst (λ l. Here code m ps l g 0 a.world r) layer.is a.here) in
      record {
        world = f.world;
        is = f.is;
        printed_is = prints_dropped a.world f.world f.drops ∙ a.here.mirrors.printed_is;
        typed_is = typed_dropped a.world f.world f.drops ∙ ap (λ (o : Lasting). o.typed) a.here.mirrors.lasting_is;
      }

  pub at_limit : (now : Status) (ps : List Print) (w : World) (r : Run) → takes_goal now ≡ true → At set now ps g 0 w r → AtLimit ps (typed_in now) r
  at_limit (Runs m) ps w r e h = limited_at m ps w r e h
  at_limit (Enters call m) ps w r e h = absurd (cc (e))
  at_limit (Resumes way m) ps w r e h = absurd (cc (e))
  at_limit (Fails m) ps w r e h = absurd (cc (e))
  at_limit (Ended x) ps w r e h = absurd (cc (e))

  -- ## All steps

  nothing_first : prints (run g typed 0).world.events ≡ []
  nothing_first =
      let f = limited g [] [] _ _ _ _ (start_path g).registers (start_world g typed) (run g typed 0) (stands_at_start g typed 0) in
      ap (λ (x : Run). prints x.world.events) f.is ∙ prints_dropped (start_world g typed) f.world f.drops

  more_said : (ps qs : List Print) → Begins ps (followed ps qs)
  more_said ps qs = record { behind = qs; is = followed_is ps qs }

  since_on : (p : Point) (b : Bool) → takes_goal p.now ≡ b → IsAt set g typed p → Begins (prints (run g typed (one_if b + p.goals - 1)).world.events) (followed p.prints (said set p.now))
  since_on p false e h = subst (λ k. Begins (prints (run g typed (k - 1)).world.events) (followed p.prints (said set p.now))) (let same : p.goals ≡ 0 + p.goals = omega arith in same) (begins_on _ p.prints _ h.since (more_said p.prints (said set p.now)))
  since_on p true e h =
      let c = h.comes 0 in
      let l = at_limit p.now p.prints c.world (run g typed (p.goals + 0)) e c.at in
      let same : p.goals + 0 ≡ 1 + p.goals - 1 = omega arith in
      subst (λ k. Begins (prints (run g typed k).world.events) (followed p.prints (said set p.now))) same
      (subst (λ ps. Begins ps (followed p.prints (said set p.now))) (sym (ap (λ (x : Run). prints x.world.events) l.is ∙ l.printed_is)) (more_said p.prints (said set p.now)))

  pub is_at : (k : ℕ) → IsAt set g typed (after set typed k)
  is_at zero = record { comes = λ n. let same : n ≡ 0 + n = omega arith in subst (λ k. Comes 0 [] set (start set typed) g n (run g typed k)) same (at_start n); since = record { behind = []; is = sym (append-nil (prints (run g typed (0 - 1)).world.events) ∙ nothing_first) } }
  is_at (suc k) =
      let h = is_at k in
      let p = after set typed k in
      record { comes = comes_on p.paid p.prints p.goals p.now (takes_goal p.now) refl h.comes; since = since_on p (takes_goal p.now) refl h }
