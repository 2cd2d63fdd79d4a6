-- The labels of constructs stand once in what lines flatten to, so that each leads to its place.
use Rattle.std.proofs.Common.{◌≡◌, ◌≢◌, ℕ, ◌+◌, ◌<◌, ◌≤◌, Bool, true, false, cond, eqb, ltb, List, [], ◌∷◌, ◌++◌, Some, refl, ap, ◌∙◌, arith, eq-eqb}
use Rattle.std.proofs.lemmas.Bool.{eqb-true, ltb-true, ltb-false, ne_eqb}
use Rattle.z_lang.specs.declared.act.Act.{Act}
use Rattle.z_lang.specs.declared.act.Act.TheVariants as acts
use Rattle.z_lang.specs.declared.lines.Line.{Line}
use Rattle.z_lang.specs.declared.lines.Line.TheVariants as lines
use Rattle.z_lang.specs.declared.lines.Open.{Open}
use Rattle.z_lang.specs.declared.lines.Open.TheVariants as opens
use Rattle.z_lang.specs.Runs.{behind_label}
use Rattle.z_lang.specs.Lines.{flattened, first_label}
use Rattle.z_lang.specs.Constructs.{AreOwn, LabelsLead}

abbrev one_if : Bool → ℕ
one_if true = 1
one_if false = 0

-- how often a label stands in acts
abbrev times : ℕ → List Act → ℕ
times l [] = 0
times l (acts.Label k ∷ more) = one_if (eqb k l) + times l more
times l (act ∷ more) = times l more

-- how often an open construct still puts it
abbrev due_by : ℕ → Open → ℕ
due_by l (opens.Branch next end) = one_if (eqb next l) + one_if (eqb end l)
due_by l (opens.Other end) = one_if (eqb end l)
due_by l (opens.Loop start end) = one_if (eqb end l)

abbrev due : ℕ → List Open → ℕ
due l [] = 0
due l (open_ ∷ more) = due_by l open_ + due l more

-- and a construct that begins later, whose labels come from a number on
abbrev late : ℕ → ℕ → ℕ
late n l = cond (ltb l n) 0 1

-- ---- once at most

joined : (l : ℕ) (xs ys : List Act) → times l (xs ++ ys) ≡ times l xs + times l ys
joined l [] ys = omega arith
joined l (acts.Label k ∷ more) ys = let h = joined l more ys in omega (arith, h)
joined l (act ∷ more) ys = joined l more ys

-- two labels are given out
given : (n l : ℕ) → one_if (eqb n l) + one_if (eqb (n + 1) l) + late (n + 2) l ≤ late n l
given n l = by_tests (eqb n l) (eqb (n + 1) l) (ltb l (n + 2)) (ltb l n) refl refl refl refl
  where
    by_tests : (p q r s : Bool) → eqb n l ≡ p → eqb (n + 1) l ≡ q → ltb l (n + 2) ≡ r → ltb l n ≡ s → one_if p + one_if q + cond r 0 1 ≤ cond s 0 1
    by_tests true true r s a b c d = absurd (omega (arith, eqb-true n l a, eqb-true (n + 1) l b))
    by_tests true false true true a b c d = absurd (omega (arith, eqb-true n l a, ltb-true l n d))
    by_tests true false true false a b c d = omega arith
    by_tests true false false s a b c d = absurd (omega (arith, eqb-true n l a, ltb-false l (n + 2) c))
    by_tests false true true true a b c d = absurd (omega (arith, eqb-true (n + 1) l b, ltb-true l n d))
    by_tests false true true false a b c d = omega arith
    by_tests false true false s a b c d = absurd (omega (arith, eqb-true (n + 1) l b, ltb-false l (n + 2) c))
    by_tests false false true s a b c d = omega arith
    by_tests false false false true a b c d = absurd (omega (arith, ltb-false l (n + 2) c, ltb-true l n d))
    by_tests false false false false a b c d = omega arith

-- a label of one's own is none of a construct
own : (k l : ℕ) → k < first_label → first_label ≤ l → one_if (eqb k l) ≡ 0
own k l below from = let ne : k ≢ l = omega arith in ap one_if (ne_eqb k l ne)

once : (l : ℕ) → first_label ≤ l → (xs : List Line) → AreOwn xs → (n : ℕ) (around : List Open) → times l (flattened n around xs) ≤ due l around + late n l
once l from [] h n around = omega arith
once l from (lines.Do (acts.Label k) ∷ more) h n around = omega (arith, own k l h.0 from, once l from more h.1 n around)
once l from (lines.Do act ∷ more) h n around = once l from more h.1 n around
once l from (lines.If t ∷ more) h n around = omega (arith, given n l, once l from more h.1 (n + 2) (opens.Branch n (n + 1) ∷ around))
once l from (lines.While t ∷ more) h n around = omega (arith, given n l, once l from more h.1 (n + 2) (opens.Loop n (n + 1) ∷ around))
once l from (lines.Else ∷ more) h n [] = once l from more h.1 n []
once l from (lines.Else ∷ more) h n (opens.Branch next end ∷ around) = omega (arith, once l from more h.1 n (opens.Other end ∷ around))
once l from (lines.Else ∷ more) h n (opens.Other end ∷ around) = omega (arith, once l from more h.1 n around)
once l from (lines.Else ∷ more) h n (opens.Loop start end ∷ around) = omega (arith, once l from more h.1 n around)
once l from (lines.End ∷ more) h n [] = once l from more h.1 n []
once l from (lines.End ∷ more) h n (opens.Branch next end ∷ around) = omega (arith, once l from more h.1 n around)
once l from (lines.End ∷ more) h n (opens.Other end ∷ around) = omega (arith, once l from more h.1 n around)
once l from (lines.End ∷ more) h n (opens.Loop start end ∷ around) = omega (arith, once l from more h.1 n around)

-- ---- its place

same_is : (l : ℕ) → eqb l l ≡ true
same_is l = eq-eqb l l refl

not_before : (l : ℕ) (front more : List Act) → times l front ≡ 0 → behind_label l (front ++ (acts.Label l ∷ more)) ≡ Some more
unfolding behind_label
not_before l [] more none = rw same_is refl
not_before l (acts.Label k ∷ front) more none = by_test (eqb k l) refl (not_before l front more)
  where
    by_test : (t : Bool) → eqb k l ≡ t → (times l front ≡ 0 → behind_label l (front ++ (acts.Label l ∷ more)) ≡ Some more) →
        cond t (Some (front ++ (acts.Label l ∷ more))) (behind_label l (front ++ (acts.Label l ∷ more))) ≡ Some more
    by_test true e later = absurd (omega (arith, none, ap one_if e))
    by_test false e later = later (omega (arith, none))
not_before l (act ∷ front) more none = not_before l front more none

-- a label that stands once leads to its place
leads_once : (l : ℕ) (body front more : List Act) → times l body ≤ 1 → body ≡ front ++ (acts.Label l ∷ more) → behind_label l body ≡ Some more
leads_once l body front more few is =
    let all : times l body ≡ times l front + times l (acts.Label l ∷ more) = ap (times l) is ∙ joined l front (acts.Label l ∷ more) in
    let one : one_if (eqb l l) ≡ 1 = ap one_if (same_is l) in
    ap (behind_label l) is ∙ not_before l front more (omega (arith, all, few, one))

late_small : (n l : ℕ) → late n l ≤ 1
late_small n l = by_test (ltb l n)
  where
    by_test : (t : Bool) → cond t 0 1 ≤ 1
    by_test true = omega arith
    by_test false = omega arith

pub labels_lead : (xs : List Line) → LabelsLead xs (flattened first_label [] xs)
labels_lead xs = record {
  leads = λ own l front more from is. leads_once l (flattened first_label [] xs) front more (omega (arith, once l from xs own first_label [], late_small first_label l)) is;
}
