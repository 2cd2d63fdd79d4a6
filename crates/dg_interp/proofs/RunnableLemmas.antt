-- The goals in runnable goals are runnable.
use Rattle.std.proofs.Common.{◌≡◌, suc, List, [], ◌∷◌, ◌++◌, sym, subst, arith}
use Rattle.std.specs.List.{All, flat_map}
use Rattle.std.proofs.lemmas.List.Elements.{All-cons, All-append}
use Rattle.dg_base.specs.declared.program.Goal.{Goal, Goal-F, out-Goal}
use Rattle.dg_base.specs.Goals.{goals_within, all_goals_of}
use Rattle.dg_interp.specs.Runnable.{IsRunnableGoal, IsForm, AreRunnable}
use Rattle.dg_base.proofs.NodeLemmas.{inside, within_out}

pub all_none : {A : Type 0} (P : A → Type 0) → All P []
all_none P k d lt = absurd (omega arith)

first : {A : Type 0} (P : A → Type 0) (x : A) (xs : List A) → All P (x ∷ xs) → P x
first P x xs h = h 0 x (omega arith)

rest : {A : Type 0} (P : A → Type 0) (x : A) (xs : List A) → All P (x ∷ xs) → All P xs
rest P x xs h k d lt = h (suc k) d (omega (arith, lt))

front : {A : Type 0} (P : A → Type 0) (xs ys : List A) → All P (xs ++ ys) → All P xs
front P [] ys h = all_none P
front P (x ∷ xs) ys h = All-cons P x xs (first P x (xs ++ ys) h) (front P xs ys (rest P x (xs ++ ys) h))

back : {A : Type 0} (P : A → Type 0) (xs ys : List A) → All P (xs ++ ys) → All P ys
back P [] ys h = h
back P (x ∷ xs) ys h = back P xs ys (rest P x (xs ++ ys) h)

within : (x : Goal) (gs : List Goal) → AreRunnable (x ∷ gs) → All IsRunnableGoal (x ∷ inside (out-Goal x))
within x gs h = subst (All IsRunnableGoal) (within_out x) (front IsRunnableGoal (goals_within x) (all_goals_of gs) h)

pub runnable_goal : (x : Goal) (gs : List Goal) → AreRunnable (x ∷ gs) → IsRunnableGoal x
runnable_goal x gs h = first IsRunnableGoal x (inside (out-Goal x)) (within x gs h)

pub runnable_rest : (x : Goal) (gs : List Goal) → AreRunnable (x ∷ gs) → AreRunnable gs
runnable_rest x gs h = back IsRunnableGoal (goals_within x) (all_goals_of gs) h

pub runnable_inside : (x : Goal) (gs : List Goal) (layer : Goal-F Goal) → out-Goal x ≡ layer → AreRunnable (x ∷ gs) → All IsRunnableGoal (inside layer)
runnable_inside x gs layer is h = subst (λ l. All IsRunnableGoal (inside l)) is (rest IsRunnableGoal x (inside (out-Goal x)) (within x gs h))

-- a goal alone
pub runnable_alone : (x : Goal) (gs : List Goal) → AreRunnable (x ∷ gs) → AreRunnable (x ∷ [])
runnable_alone x gs h = All-append IsRunnableGoal (goals_within x) [] (front IsRunnableGoal (goals_within x) (all_goals_of gs) h) (all_none IsRunnableGoal)

pub runnable_from : (x : Goal) (layer : Goal-F Goal) → out-Goal x ≡ layer → IsForm layer → All IsRunnableGoal (inside layer) → AreRunnable (x ∷ [])
runnable_from x layer is h k =
    All-append IsRunnableGoal (goals_within x) [] (subst (All IsRunnableGoal) (sym (within_out x)) (All-cons IsRunnableGoal x (inside (out-Goal x)) (subst IsForm (sym is) h) (subst (λ l. All IsRunnableGoal (inside l)) (sym is) k))) (all_none IsRunnableGoal)

-- lists of goals
pub lists_runnable : (lists : List (List Goal)) → All IsRunnableGoal (flat_map all_goals_of lists) → All AreRunnable lists
lists_runnable [] h = all_none AreRunnable
lists_runnable (gs ∷ lists) h = All-cons AreRunnable gs lists (front IsRunnableGoal (all_goals_of gs) (flat_map all_goals_of lists) h) (lists_runnable lists (back IsRunnableGoal (all_goals_of gs) (flat_map all_goals_of lists) h))

-- the parts of a condition
pub three_runnable : (a b c : List Goal) → All IsRunnableGoal (all_goals_of a ++ all_goals_of b ++ all_goals_of c) → AreRunnable a × AreRunnable b × AreRunnable c
three_runnable a b c h =
    let both = front IsRunnableGoal (all_goals_of a ++ all_goals_of b) (all_goals_of c) h in
    (front IsRunnableGoal (all_goals_of a) (all_goals_of b) both, back IsRunnableGoal (all_goals_of a) (all_goals_of b) both, back IsRunnableGoal (all_goals_of a ++ all_goals_of b) (all_goals_of c) h)
