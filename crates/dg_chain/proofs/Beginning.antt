-- Code that is run, and choices that go on, begin as they should in every run of code that stands for a program.
use Rattle.std.proofs.Common.{◌≡◌, ℕ, List, [], ◌∷◌, Option, Bool, true, false, refl, sym, ap, ◌∙◌}
use Rattle.std.proofs.lemmas.Bool.{cond-false, cond-true}
use Rattle.dg_base.specs.declared.program.Goal.{Goal}
use Rattle.dg_meaning.specs.Transcript.{Run}
use Rattle.dg_meaning.specs.Values.{Value}
use Rattle.dg_meaning.specs.World.{Game, World, Print}
use Rattle.dg_mid.specs.declared.code.Code.{Code}
use Rattle.dg_mid.specs.declared.code.Op.{Op}
use Rattle.dg_mid.specs.declared.code.RuleCode.{RuleCode}
use Rattle.dg_mid.specs.Code.{excluded, selected}
use Rattle.dg_mid.specs.Codes.{End, Stands, jumps, returns, commits, refuses, backs, leaves, keeps, finishes, acts, ask, last_ask, query, last_query, holds, objects, only, either, selects, once, negates, branch, exhausts, shields, collects, accumulates, forever}
use Rattle.dg_mid.specs.Reads.{At}
use Rattle.dg_mid.specs.inside.Shapes.{Fits, StatusShaped}
use Rattle.dg_mid.specs.State.{Place, Goes, Takes, Calls, Tries, Status, Runs, Enters, Resumes, Fails, Ended}
use Rattle.dg_mid.specs.Step.{Setting, first_of}
use Rattle.dg_chain.specs.Always.{MayRun, StandsInside, StatusBegins}

-- Rules that are left behind excluded ones are left.
pub selected_twice : (first : Option Value) (rules : List RuleCode) → selected first (selected first rules) ≡ selected first rules
selected_twice first [] = refl
selected_twice first (r ∷ rs) = by (selected_twice first rs) (excluded first r.key) refl
  where
    by : selected first (selected first rs) ≡ selected first rs → (b : Bool) → excluded first r.key ≡ b → selected first (selected first (r ∷ rs)) ≡ selected first (r ∷ rs)
    by more true e = let q : selected first (r ∷ rs) ≡ selected first rs = cond-true (excluded first r.key) (selected first rs) (r ∷ rs) e in ap (selected first) q ∙ more ∙ sym q
    by more false e = let q : selected first (r ∷ rs) ≡ r ∷ rs = cond-false (excluded first r.key) (selected first rs) (r ∷ rs) e in ap (selected first) q

-- Code that stands for goals, in inner constructs that fit.
run_in : {code : Code} {ops : List Op} {goals : List Goal} {end : End} (chain r : List ℕ) → Stands code ops goals end → (inner : List Place) → Fits chain r end inner → MayRun ops × StandsInside ops inner
run_in chain r (jumps b ops goals end s) places f = (tt, tt)
run_in chain r (returns ops) places f = (tt, tt)
run_in chain r (commits ops goals end s) [] f = absurd f
run_in chain r (commits ops goals end s) (p ∷ ps) f = (tt, tt)
run_in chain r (refuses ops) [] f = absurd f
run_in chain r (refuses ops) (p ∷ ps) f = (tt, tt)
run_in chain r (backs ops) places f = (tt, tt)
run_in [] r (leaves ops goals end s) places f = absurd f
run_in (t ∷ chain) r (leaves ops goals end s) [] f = absurd f
run_in (t ∷ chain) r (leaves ops goals end s) (p ∷ ps) f = (tt, tt)
run_in chain r (keeps term ops) places f = (tt, tt)
run_in chain r (finishes ops) places f = (tt, tt)
run_in chain r (acts a ops goals end s) places f = (tt, tt)
run_in chain r (ask pred terms many next ops goals end s) places f = (tt, tt)
run_in chain r (last_ask pred terms many ops) places f = (tt, tt)
run_in chain r (query a b many next ops goals end s) places f = (tt, tt)
run_in chain r (last_query a b many ops) places f = (tt, tt)
run_in chain r (holds place terms many next ops goals end s u) places f = (tt, tt)
run_in chain r (objects term many next ops goals end s u) places f = (tt, tt)
run_in chain r (only list ops goals end s) places f = (tt, tt)
run_in chain r (either alt list second lists ops goals end s u) places f = (tt, tt)
run_in chain r (selects site mode blocks lists behind ops goals end s u) places f = (tt, tt)
run_in chain r (once inner ops goals end s) places f = (tt, tt)
run_in chain r (negates alt inner ops goals end s u) places f = (tt, tt)
run_in chain r (branch alt test first other ops goals end s u) places f = (tt, tt)
run_in chain r (exhausts alt inner ops goals end s u) places f = (tt, tt)
run_in chain r (shields alt inner ops goals end s u) places f = (tt, tt)
run_in chain r (collects term into alt inner ops others goals end s e u) places f = (tt, tt)
run_in chain r (accumulates term into alt inner ops others goals end s e u) places f = (tt, tt)
run_in chain r (forever b ops goals end e s) places f = (tt, tt)

-- Of a status that comes from a run of the search, in inner constructs that fit.
pub begins_at : (s : Setting) (g : Game) (now : Status) (ps : List Print) (n : ℕ) (w : World) (run : Run) → StatusShaped s.code now → At s now ps g n w run → StatusBegins s.code now
begins_at s g (Runs m) ps n w run f h = let k = f.2 in run_in f.0 k.r k.code_is.stands m.inner k.code_is.fits
begins_at s g (Enters call m) ps n w run f h = tt
begins_at s g (Resumes (Goes b) m) ps n w run f h = tt
begins_at s g (Resumes (Takes b into) m) ps n w run f h = let k = h.way_is.1 in record { whole = k.whole; into = k.term; rest = k.ops; is = k.block }
begins_at s g (Resumes (Calls call rules) m) ps n w run f h =
    let k = h.way_is in
    let first = first_of m.state.subst call in
    ap (selected first) k.rules_are ∙ selected_twice first k.codes ∙ sym k.rules_are
begins_at s g (Resumes (Tries x os) m) ps n w run f h = tt
begins_at s g (Fails m) ps n w run f h = tt
begins_at s g (Ended e) ps n w run f h = tt
