-- How often rules are looked at is within the work of the search.
use Rattle.std.proofs.Common.{◌≡◌, ℕ, zero, suc, ◌+◌, ◌≤◌, List, [], ◌∷◌, refl, sym, subst, arith, length}
use Rattle.std.specs.Prelude.{nat_lt}
use Rattle.std.proofs.lemmas.Bool.{cond_both}
use Rattle.dg_base.specs.declared.run.Limits.{Limits}
use Rattle.dg_meaning.specs.World.{Game}
use Rattle.dg_meaning.specs.Transcript.{run}
use Rattle.dg_mid.specs.declared.code.Op.{Op}
use Rattle.dg_mid.specs.declared.code.Op.TheVariants as op
use Rattle.dg_mid.specs.declared.code.RuleCode.{RuleCode}
use Rattle.dg_mid.specs.declared.code.Code.{Code}
use Rattle.dg_mid.specs.Code.{selected}
use Rattle.dg_mid.specs.State.{Call, Way, Goes, Calls, Tries, Mid, Status, Runs, Enters, Resumes, Fails, Ended, Takes}
use Rattle.dg_mid.specs.Step.{Setting, setting, step, runs, charged, enters, goes_on, first_of, inside, at_rule}
use Rattle.dg_mid.specs.Codes.{Codes}
use Rattle.dg_mid.specs.Units.{earned, earned_of, entering, selects, selects_at}
use Rattle.dg_mid.specs.Potential.{Tidy, StatusFine, EntersRule, left_for}
use Rattle.dg_mid.specs.Runs.{after}
use Rattle.dg_meaning.specs.World.{Print}
use Rattle.dg_base.specs.declared.run.Ending.TheVariants as ending
use Rattle.dg_mid.proofs.Charge.{affords, paid_in_time}

left_few : (s : Status) → left_for s ≤ 1
left_few (Runs m) = omega arith
left_few (Enters call m) = omega arith
left_few (Resumes way m) = omega arith
left_few (Fails m) = omega arith
left_few (Ended e) = omega arith

selects_paid : (g : Setting) (ps : List Print) (ops : List Op) (m : Mid) → selects_at ops ≤ earned_of g ps ops m
selects_paid g ps [] m = omega arith
selects_paid g ps (op.Ask pred terms many next ∷ ops) m = omega arith
selects_paid g ps (op.LastAsk pred terms many ∷ ops) m = omega arith
selects_paid g ps (x ∷ ops) m = omega arith

entering_one : (g : Setting) (call : Call) (ops : List Op) (m : Mid) → EntersRule ops → 1 ≤ entering g call ops m
entering_one g call ops m e = subst (λ l. 1 ≤ entering g call l m) (sym e.is) (omega arith)

charged_left : (g : Setting) (k : ℕ) (m : Mid) (call : Call) (m' : Mid) → left_for (charged g k m (Enters call m')) ≡ 0
charged_left g zero m call m' = refl
charged_left g (suc k) m call m' = cond_both (nat_lt g.limits.heap (m.state.heap + suc k)) (Ended ending.HeapLimit) (Enters call m') (λ s. left_for s ≡ 0) (λ e. refl) (λ e. refl)

-- a rule that is begun pays for what comes
enters_left : (g : Setting) (call : Call) (r : RuleCode) (others : List RuleCode) (m : Mid) → left_for (enters g call r others m) ≡ 0
enters_left g call r [] m = refl
enters_left g call r (q ∷ qs) m = charged_left g (10 + length call.args) m call (inside (Calls call (q ∷ qs)) (length call.args) (at_rule g r m))

way_left : (g : Setting) (way : Way) (m : Mid) → selects (Resumes way m) + left_for (goes_on g way m) ≤ 1
way_left g (Goes b) m = let x = left_few (goes_on g (Goes b) m) in omega (arith, x)
way_left g (Takes b into) m = let x = left_few (goes_on g (Takes b into) m) in omega (arith, x)
way_left g (Calls call []) m = omega arith
way_left g (Tries f os) m = let x = left_few (goes_on g (Tries f os) m) in omega (arith, x)
way_left g (Calls call (r ∷ rs)) m = let x = enters_left g call r (selected (first_of m.state.subst call) rs) m in omega (arith, x)

selects_once : (g : Setting) (ps : List Print) (now : Status) → StatusFine g.code now → selects now + left_for (step g now) ≤ left_for now + earned g ps now
selects_once g ps (Runs m) h = let x = left_few (runs g m.ops m) in let y = selects_paid g ps m.ops m in omega (arith, x, y)
selects_once g ps (Enters call m) h = let x = left_few (step g (Enters call m)) in let y = entering_one g call m.ops m h.2 in omega (arith, x, y)
selects_once g ps (Resumes way m) h = let x = way_left g way m in omega (arith, x)
selects_once g ps (Fails m) h = let x = left_few (step g (Fails m)) in omega (arith, x)
selects_once g ps (Ended e) h = omega arith

module _ (g : Game) (code : Code) (limits : Limits) (codes : Codes g.program code) (tidy : Tidy code) (typed : List ℕ) where
  abbrev set : Setting
  set = setting g code limits

  selects_few : (k : ℕ) → (after set typed k).looks + left_for (after set typed k).now ≤ 1 + (after set typed k).paid
  selects_few zero = omega arith
  selects_few (suc k) =
      let p = after set typed k in
      let x = selects_few k in
      let y = selects_once set p.prints p.now (affords set g.program codes tidy typed k).0.fine in
      omega (arith, x, y)

  -- rules are looked at no more often than the work of the goals that were taken, and once
  pub looks_in_time : (k : ℕ) → (after set typed k).looks ≤ 1 + (run g typed (after set typed k).goals).world.meters.work
  looks_in_time k = let few = selects_few k in let work = paid_in_time g code limits codes tidy typed k in omega (arith, few, work)
