-- What the steps of a run cost is within the work of the search.
use Rattle.std.proofs.Common.{◌≡◌, ℕ, zero, suc, ◌+◌, ◌*◌, ◌≤◌, ◌<◌, ◌⊎◌, List, [], ◌∷◌, Bool, true, false, refl, sym, ◌∙◌, subst, arith, inl, inr}
use Rattle.dg_base.specs.declared.run.Limits.{Limits}
use Rattle.dg_meaning.specs.World.{Game}
use Rattle.dg_meaning.specs.Transcript.{run}
use Rattle.dg_mid.specs.declared.code.Code.{Code}
use Rattle.std.proofs.Common.{Option, Some, None}
use Rattle.dg_mid.specs.State.{Mid, Status, Runs, Enters, Resumes, Fails, Ended, Goes, Calls, Tries, Takes}
use Rattle.dg_mid.specs.Step.{Setting, step, setting}
use Rattle.std.specs.Prelude.{slice_get, nat_lt}
use Rattle.std.proofs.lemmas.Bool.{ltb-true, ltb-false}
use Rattle.dg_base.specs.declared.program.Rule.{Rule}
use Rattle.dg_base.specs.declared.program.ClosureBody.{ClosureBody}
use Rattle.dg_mid.specs.declared.code.BodyCode.{BodyCode}
use Rattle.dg_meaning.specs.Moves.{rules_of}
use Rattle.dg_mid.specs.declared.code.RuleCode.{RuleCode}
use Rattle.dg_mid.specs.Code.{rules_at}
use Rattle.dg_mid.specs.Codes.{Codes, BodyStands, RulesStand}
use Rattle.dg_mid.specs.Runs.{after}
use Rattle.dg_meaning.specs.World.{Print}
use Rattle.dg_mid.specs.Units.{units, units_of}
use Rattle.dg_mid.specs.declared.code.Op.{Op}
use Rattle.dg_meaning.proofs.Limits.{later_run}
use Rattle.dg_mid.specs.Potential.{Tidy, AllEnter, Affords, IsOver}
use Rattle.dg_mid.proofs.Taking.{least_in}
use Rattle.dg_mid.proofs.Whole.{is_at}
use Rattle.dg_base.specs.declared.program.CoreProgram.{CoreProgram}
use Rattle.dg_mid.specs.Code.{block_at}
use Rattle.dg_mid.specs.Potential.{MidFine, StatusFine, pending}
use Rattle.dg_mid.specs.inside.Shapes.{RulesFit, MayBody, ShapedAt, head_of, Active, StatusShaped}
use Rattle.dg_mid.proofs.Law.{due_most, Unwinds, MayStop, StatusMayStop, pays}
use Rattle.dg_mid.proofs.Shapes.{found, unwinds}
use Rattle.dg_mid.proofs.Shaped.{shaped}

-- code that stands for rules begins by entering them
all_enter : (code : Code) (cs : List RuleCode) (rules : List Rule) → RulesStand code cs rules → AllEnter code cs × RulesFit code cs
all_enter code [] [] h = (tt, tt)
all_enter code [] (r ∷ rs) h = absurd h
all_enter code (c ∷ cs) [] h = absurd h
all_enter code (c ∷ cs) (r ∷ rs) h =
    let others = all_enter code cs rs h.1 in
    ((record { vars = r.vars; head = r.head; rest = h.0.ops; is = h.0.block }, others.0), (record { vars = r.vars; head = r.head; rest = h.0.ops; body = r.body; is = h.0.block; stands = h.0.body }, others.1))

-- code that stands for a body fits
body_fits : (code : Code) (c : Option BodyCode) (closure : Option ClosureBody) → BodyStands code c closure → MayBody code c
body_fits code None None h = tt
body_fits code None (Some x) h = absurd h
body_fits code (Some c) None h = absurd h
body_fits code (Some c) (Some x) h = record { body = x.body; stands = h.1 }

-- a part is stopped where it is open
may_stop : (code : Code) (m : Mid) (chain : List ℕ) → MidFine code m → ShapedAt code m chain → MayStop code m
may_stop code m chain fine h t e s ss found_is = by chain h (sym h.here.stop_is ∙ e) where
  by : (chain : List ℕ) → ShapedAt code m chain → head_of chain ≡ Some t → Unwinds code m s
  by [] h e = absurd (cc (e))
  by (t' ∷ chain) h e =
      let same : t' ≡ t = cc in
      unwinds code m t m.next_tag chain s ss (found code (pending m.frames m.inner) t m.state.trail m.next_tag m.choices chain m.stops s ss h.here.trails h.here.below (subst (λ k. Active code (pending m.frames m.inner) (k ∷ chain) m.stops) same h.here.active) found_is) fine.choices_are

status_may_stop : (code : Code) (now : Status) → StatusFine code now → StatusShaped code now → StatusMayStop code now
status_may_stop code (Runs m) fine h = may_stop code m h.0 fine.0 h.1
status_may_stop code (Enters call m) fine h = tt
status_may_stop code (Resumes way m) fine h = tt
status_may_stop code (Fails m) fine h = tt
status_may_stop code (Ended e) fine h = tt

-- each status is as it should be, and what was spent is within what was paid
module _ (g : Setting) (program : CoreProgram) (codes : Codes program g.code) (tidy : Tidy g.code) where
  rules : (pred : ℕ) → AllEnter g.code (rules_at g.code pred) × RulesFit g.code (rules_at g.code pred)
  rules pred = all_enter g.code (rules_at g.code pred) (rules_of (slice_get program.preds pred)) (codes.rules pred)

  pub affords : (typed : List ℕ) (k : ℕ) → Affords g.code (after g typed k).spent (13 * (after g typed k).paid + 7) (after g typed k).now × StatusShaped g.code (after g typed k).now
  affords typed zero = (
    record {
      fine = (record { newest = refl; lower = tt; frames_are = tt; choices_are = tt }, tidy.blocks 1);
      few = let x = due_most [] (block_at g.code 1) in omega (arith, x);
    },
    ([], record { here = record { active = tt; stop_is = refl; older = tt; below = tt; trails = tt }; choices_are = tt }, record { r = []; code_is = record { goals = _; end = _; stands = codes.starts; fits = tt }; frames_are = tt }),
  )
  affords typed (suc n) =
      let p = after g typed n in
      let h = affords typed n in
      let k = pays g tidy (λ pred. (rules pred).0) p.prints p.now h.0.fine (status_may_stop g.code p.now h.0.fine h.1) in
      (record { fine = k.fine; few = let x = h.0.few in let y = k.few in omega (arith, x, y) }, shaped g codes.answers (λ pred. (rules pred).1) (λ j. body_fits g.code (slice_get g.code.closures j) (slice_get program.closures j) (codes.bodies j)) p.now h.0.fine h.1)

cases_lt : (a b : ℕ) → (a < b) ⊎ (b ≤ a)
cases_lt a b = by (nat_lt a b) refl where
  by : (x : Bool) → nat_lt a b ≡ x → (a < b) ⊎ (b ≤ a)
  by true e = inl (ltb-true a b e)
  by false e = inr (ltb-false a b e)

-- ## Every step costs

costs_one : (s : Setting) (ps : List Print) (now : Status) → IsOver now ⊎ (1 ≤ units s ps now)
costs_one s ps (Runs m) = inr (one m.ops) where
  one : (ops : List Op) → 1 ≤ units_of s ps ops m
  one [] = omega arith
  one (x ∷ ops) = omega arith
costs_one s ps (Enters call m) = inr (omega arith)
costs_one s ps (Resumes (Goes b) m) = inr (omega arith)
costs_one s ps (Resumes (Takes b into) m) = inr (omega arith)
costs_one s ps (Resumes (Calls call rules) m) = inr (omega arith)
costs_one s ps (Resumes (Tries f os) m) = inr (omega arith)
costs_one s ps (Fails m) = inr (omega arith)
costs_one s ps (Ended e) = inl tt

stays_ended : (s : Setting) (now : Status) → IsOver now → IsOver (step s now)
stays_ended s (Runs m) h = absurd h
stays_ended s (Enters call m) h = absurd h
stays_ended s (Resumes way m) h = absurd h
stays_ended s (Fails m) h = absurd h
stays_ended s (Ended e) h = tt

steps_cost : (s : Setting) (typed : List ℕ) (k : ℕ) → IsOver (after s typed k).now ⊎ (k ≤ (after s typed k).spent)
steps_cost s typed zero = inr (omega arith)
steps_cost s typed (suc k) = elim (steps_cost s typed k) [
  | inl h ↦ inl (stays_ended s (after s typed k).now h)
  | inr le ↦ elim (costs_one s (after s typed k).prints (after s typed k).now) [
    | inl h ↦ inl (stays_ended s (after s typed k).now h)
    | inr one ↦ inr (omega (arith, le, one))
  ]
]

module _ (g : Game) (code : Code) (limits : Limits) (codes : Codes g.program code) (tidy : Tidy code) (typed : List ℕ) where
  abbrev set : Setting
  set = setting g code limits

  -- what is work of the search has been done in the run
  pub paid_in_time : (k : ℕ) → (after set typed k).paid ≤ (run g typed (after set typed k).goals).world.meters.work
  paid_in_time k =
      let p = after set typed k in
      let c = (is_at g code limits codes typed k).comes 0 in
      let worked = least_in p.paid set p.now p.prints g 0 (run g typed (p.goals + 0)) c in
      let same : p.goals + 0 ≡ p.goals = omega arith in
      subst (λ n. p.paid ≤ (run g typed n).world.meters.work) same worked

  -- all that was spent when so many goals have been taken is within their work: up to where the next one is taken, and where the machine has ended
  pub in_time : (k : ℕ) → (after set typed k).spent ≤ 13 * (run g typed (after set typed k).goals).world.meters.work + 7
  in_time k = let few = (affords set g.program codes tidy typed k).0.few in let work = paid_in_time k in omega (arith, few, work)

  -- so it moves on: after more steps than that it has taken a further goal or has ended
  pub moves_on : (n k : ℕ) → 13 * (run g typed n).world.meters.work + 7 < k → IsOver (after set typed k).now ⊎ (n < (after set typed k).goals)
  moves_on n k lt = elim (cases_lt n (after set typed k).goals) [
    | inl more ↦ inr more
    | inr few ↦ elim (steps_cost set typed k) [
      | inl h ↦ inl h
      | inr le ↦
          let spent = in_time k in
          let work = (later_run g typed (after set typed k).goals n few).meters.work in
          absurd (omega (arith, lt, le, spent, work))
    ]
  ]
