-- What a watch promises: it stands for lists of what it was told, and may tell a test on what may come behind.
use Rattle.std.specs.Prelude.{ℕ, ◌≡◌, List, [], ◌++◌, Bool, false, Option, Some, None}
use Rattle.std.proofs.Common.{refl, sym, ap, ◌∙◌, subst, append_assoc}
use Rattle.std.proofs.lemmas.List.{append-nil}
use Rattle.dg_watch.specs.Told.{Told}
use Rattle.dg_watch.specs.Watching.{Watching}

-- A test on what may come behind, where one is told.
abbrev pub Test : Type 0
Test = Option (List Told → Bool)

-- A test that is told is told still, as a test on what may come behind these.
abbrev pub TestBehind : Test → List Told → Test → Type 0
TestBehind None ts new = Unit {0}
TestBehind (Some old) ts None = ⊥
TestBehind (Some old) ts (Some new) = (more : List Told) → new more ≡ old (ts ++ more)

-- These don't pass a test that is told.
abbrev pub FailsTest : Test → List Told → Type 0
FailsTest None ts = Unit {0}
FailsTest (Some test) ts = test ts ≡ false

-- From one state to another a watch was told these: it stands for each list that it stood for with these behind it.
pub record WasTold {W : Type 0} (sees : W → List Told → Type 0) (test : W → Test) (old new : W) (ts : List Told) : Type 0 where
  pub stands : (before : List Told) → sees old before → sees new (before ++ ts)
  pub tests : TestBehind (test old) ts (test new)

-- ## In two stretches

pub test_none : (t : Test) → TestBehind t [] t
test_none None = tt
test_none (Some t) = λ more. refl

pub test_on : (t u v : Test) (xs ys : List Told) → TestBehind t xs u → TestBehind u ys v → TestBehind t (xs ++ ys) v
test_on None u v xs ys h k = tt
test_on (Some t) None v xs ys h k = absurd h
test_on (Some t) (Some u) None xs ys h k = absurd k
test_on (Some t) (Some u) (Some v) xs ys h k = λ more. k more ∙ h (ys ++ more) ∙ ap t (sym (append_assoc xs ys more))

pub fails_behind : (t u : Test) (xs ys : List Told) → TestBehind t xs u → FailsTest u ys → FailsTest t (xs ++ ys)
fails_behind None u xs ys h f = tt
fails_behind (Some t) None xs ys h f = absurd h
fails_behind (Some t) (Some u) xs ys h f = sym (h ys) ∙ f

-- What a watch is told that stands for these and tells this test.
abbrev pub watched : {W : Type 0} → (W → List Told → Type 0) → (W → Test) → (W → ℕ) → Watching W
watched sees test faults = record {
  told = λ a b ts. WasTold sees test a b ts;
  refuses = λ a ts. FailsTest (test a) ts;
  faults = faults;
  nothing = λ a. record { stands = λ before h. subst (sees a) (sym (append-nil before)) h; tests = test_none (test a) };
  on = λ a b c xs ys h k. record {
    stands = λ before s. subst (sees c) (append_assoc before xs ys) (k.stands (before ++ xs) (h.stands before s));
    tests = test_on (test a) (test b) (test c) xs ys h.tests k.tests;
  };
  behind = λ a b xs ys h f. fails_behind (test a) (test b) xs ys h.tests f;
}
