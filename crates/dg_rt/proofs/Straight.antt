-- Acts without labels, jumps and branches: a routine of them can be assembled, however long it is.
use Rattle.std.proofs.Common.{ℕ, ◌≤◌, List, [], ◌∷◌, ◌++◌}
use Rattle.z_code.specs.declared.target.LOp.{LOp}
use Rattle.z_code.specs.Open.{Counts, HasLabel}
use Rattle.z_lang.specs.declared.act.Act.{Act}
use Rattle.z_lang.specs.declared.act.Act.TheVariants as acts
use Rattle.z_lang.specs.declared.act.Routine.{Routine}
use Rattle.z_lang.specs.Code.{ops_of_acts}
use Rattle.z_lang.specs.Bodies.{FitsAct, AreFit}
use Rattle.dg_rt.specs.Fits.{IsFit}

-- an act that fits where no label stands, and is none
abbrev pub FitsStraight : Counts → Act → Type 0
FitsStraight counts (acts.Label l) = ⊥
FitsStraight counts act = FitsAct counts [] [] act

abbrev pub AreStraight : Counts → List Act → Type 0
AreStraight counts [] = Unit {0}
AreStraight counts (act ∷ more) = FitsStraight counts act × AreStraight counts more

pub straight_append : (counts : Counts) (xs ys : List Act) → AreStraight counts xs → AreStraight counts ys → AreStraight counts (xs ++ ys)
straight_append counts [] ys a b = b
straight_append counts (x ∷ xs) ys a b = (a.0, straight_append counts xs ys a.1 b)

no_label : (counts : Counts) (body : List Act) → AreStraight counts body → (l : ℕ) → HasLabel l (ops_of_acts body) → ⊥
no_label counts [] a l h = h
no_label counts (acts.Label k ∷ more) a l h = a.0
no_label counts (act ∷ more) a l h = no_label counts more a.1 l h

-- it fits anywhere
anywhere : (counts : Counts) (all behind : List LOp) (act : Act) → FitsStraight counts act → FitsAct counts all behind act
anywhere counts all behind (acts.Label l) f = absurd f
anywhere counts all behind (acts.Goto l) f = absurd f
anywhere counts all behind (acts.When t l) f = absurd (f.1)
anywhere counts all behind act f = f

all_anywhere : (counts : Counts) (all : List LOp) (body : List Act) → AreStraight counts body → AreFit counts all body
all_anywhere counts all [] a = tt
all_anywhere counts all (act ∷ more) a = (anywhere counts all (ops_of_acts more) act a.0, all_anywhere counts all more a.1)

pub straight_fits : (counts : Counts) (r : Routine) → r.locals ≤ 15 → AreStraight counts r.body → IsFit counts r
straight_fits counts r few a = record {
  few = few;
  short = λ l has. absurd (no_label counts r.body a l has);
  fit = all_anywhere counts (ops_of_acts r.body) r.body a;
}
