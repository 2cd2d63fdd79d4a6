-- Constructs: what lines flatten to, and what the acts of an `if` and of a loop do.
use Rattle.std.proofs.Common.{◌≡◌, ℕ, suc, ◌+◌, Bool, true, false, List, [], ◌∷◌, ◌++◌, Some, refl, sym, ap, ◌∙◌, subst, arith}
use Rattle.std.specs.Prelude.{not}
use Rattle.std.proofs.lemmas.List.{append_assoc, append-nil}
use Rattle.z_lang.specs.declared.act.Test.{Test}
use Rattle.z_lang.specs.declared.act.Act.{Act}
use Rattle.z_lang.specs.declared.act.Act.TheVariants as acts
use Rattle.z_lang.specs.declared.lines.Line.{Line}
use Rattle.z_lang.specs.declared.lines.Line.TheVariants as lines
use Rattle.z_lang.specs.declared.lines.Open.{Open}
use Rattle.z_lang.specs.declared.lines.Open.TheVariants as opens
use Rattle.z_lang.specs.State.{State, Program}
use Rattle.z_lang.specs.Runs.{ActsOutcome, Rests, ActsRun, rests, at_label, goes, taken, passed, behind_label}
use Rattle.z_lang.specs.Lines.{opposite, next_label, flattened}
use Rattle.z_lang.specs.Constructs.{AreEnded, none, act, branch, choice, loop, label_behind, Flattens, end_if, end_first, end_loop, test_acts, Holds, Loops, over, again, ConstructsRun}
use Rattle.z_lang.proofs.Routines.{runs_then}

-- ---- lines whose constructs are ended

-- What such lines flatten to, whatever is open around them and stands behind them.
record Flat (n : ℕ) (xs : List Line) : Type 0 where
  code : List Act
  next : ℕ
  next_is : next ≡ label_behind n xs
  same : (around : List Open) (tail : List Line) → flattened n around (xs ++ tail) ≡ code ++ flattened next around tail

label_joined : (n : ℕ) (xs ys : List Line) → label_behind n (xs ++ ys) ≡ label_behind (label_behind n xs) ys
label_joined n [] ys = refl
label_joined n (x ∷ xs) ys = label_joined (next_label n x) xs ys

flat : (xs : List Line) → AreEnded xs → (n : ℕ) → Flat n xs
flat xs none n = record { code = []; next = n; next_is = refl; same = λ around tail. refl }
flat xs (act {a = a} {more = more} h) n =
    let r = flat more h n in
    record { code = a ∷ r.code; next = r.next; next_is = r.next_is; same = λ around tail. ap (λ (ys : List Act). a ∷ ys) (r.same around tail) }
flat xs (branch {t = t} {first = first} {more = more} h i) n =
    let a = flat first h (n + 2) in
    let b = flat more i a.next in
    record {
      code = acts.When (opposite t) n ∷ (a.code ++ (acts.Label n ∷ b.code));
      next = b.next;
      next_is = b.next_is ∙ (ap (λ (k : ℕ). label_behind k more) a.next_is ∙ sym (label_joined (n + 2) first (lines.End ∷ more)));
      same = λ around tail.
          ap (λ (ys : List Act). acts.When (opposite t) n ∷ ys) (
          ap (λ (ys : List Line). flattened (n + 2) (opens.Branch n (n + 1) ∷ around) ys) (append_assoc first (lines.End ∷ more) tail)
          ∙ (a.same (opens.Branch n (n + 1) ∷ around) (lines.End ∷ (more ++ tail))
          ∙ (ap (λ (ys : List Act). a.code ++ (acts.Label n ∷ ys)) (b.same around tail)
          ∙ sym (append_assoc a.code (acts.Label n ∷ b.code) (flattened b.next around tail)))));
    }
flat xs (choice {t = t} {first = first} {other = other} {more = more} h j i) n =
    let a = flat first h (n + 2) in
    let o = flat other j a.next in
    let b = flat more i o.next in
    record {
      code = acts.When (opposite t) n ∷ (a.code ++ (acts.Goto (n + 1) ∷ acts.Label n ∷ (o.code ++ (acts.Label (n + 1) ∷ b.code))));
      next = b.next;
      next_is = b.next_is ∙ (ap (λ (k : ℕ). label_behind k more) (o.next_is ∙ ap (λ (k : ℕ). label_behind k other) a.next_is)
          ∙ (sym (label_joined (label_behind (n + 2) first) other (lines.End ∷ more))
          ∙ sym (label_joined (n + 2) first (lines.Else ∷ (other ++ (lines.End ∷ more))))));
      same = λ around tail.
          ap (λ (ys : List Act). acts.When (opposite t) n ∷ ys) (
          ap (λ (ys : List Line). flattened (n + 2) (opens.Branch n (n + 1) ∷ around) ys) (append_assoc first (lines.Else ∷ (other ++ (lines.End ∷ more))) tail)
          ∙ (a.same (opens.Branch n (n + 1) ∷ around) (lines.Else ∷ ((other ++ (lines.End ∷ more)) ++ tail))
          ∙ (ap (λ (ys : List Act). a.code ++ (acts.Goto (n + 1) ∷ acts.Label n ∷ ys)) (
          ap (λ (ys : List Line). flattened a.next (opens.Other (n + 1) ∷ around) ys) (append_assoc other (lines.End ∷ more) tail)
          ∙ (o.same (opens.Other (n + 1) ∷ around) (lines.End ∷ (more ++ tail))
          ∙ (ap (λ (ys : List Act). o.code ++ (acts.Label (n + 1) ∷ ys)) (b.same around tail)
          ∙ sym (append_assoc o.code (acts.Label (n + 1) ∷ b.code) (flattened b.next around tail)))))
          ∙ sym (append_assoc a.code (acts.Goto (n + 1) ∷ acts.Label n ∷ (o.code ++ (acts.Label (n + 1) ∷ b.code))) (flattened b.next around tail)))));
    }
flat xs (loop {t = t} {part = part} {more = more} h i) n =
    let a = flat part h (n + 2) in
    let b = flat more i a.next in
    record {
      code = acts.Label n ∷ acts.When (opposite t) (n + 1) ∷ (a.code ++ (acts.Goto n ∷ acts.Label (n + 1) ∷ b.code));
      next = b.next;
      next_is = b.next_is ∙ (ap (λ (k : ℕ). label_behind k more) a.next_is ∙ sym (label_joined (n + 2) part (lines.End ∷ more)));
      same = λ around tail.
          ap (λ (ys : List Act). acts.Label n ∷ acts.When (opposite t) (n + 1) ∷ ys) (
          ap (λ (ys : List Line). flattened (n + 2) (opens.Loop n (n + 1) ∷ around) ys) (append_assoc part (lines.End ∷ more) tail)
          ∙ (a.same (opens.Loop n (n + 1) ∷ around) (lines.End ∷ (more ++ tail))
          ∙ (ap (λ (ys : List Act). a.code ++ (acts.Goto n ∷ acts.Label (n + 1) ∷ ys)) (b.same around tail)
          ∙ sym (append_assoc a.code (acts.Goto n ∷ acts.Label (n + 1) ∷ b.code) (flattened b.next around tail)))));
    }

joined : (n : ℕ) (around : List Open) (xs tail : List Line) → AreEnded xs →
    flattened n around (xs ++ tail) ≡ flattened n [] xs ++ flattened (label_behind n xs) around tail
joined n around xs tail h =
    let r = flat xs h n in
    let alone : flattened n [] xs ≡ r.code = ap (λ (ys : List Line). flattened n [] ys) (sym (append-nil xs)) ∙ (r.same [] [] ∙ append-nil r.code) in
    r.same around tail ∙ (ap (λ (ys : List Act). ys ++ flattened r.next around tail) (sym alone)
    ∙ ap (λ (k : ℕ). flattened n [] xs ++ flattened k around tail) r.next_is)

pub flattens : (n : ℕ) (around : List Open) (first other more : List Line) (t : Test) → Flattens n around first other more t
flattens n around first other more t =
    record {
      joined = λ h. joined n around first more h;
      branch = λ h. ap (λ (ys : List Act). acts.When (opposite t) n ∷ ys) (joined (n + 2) (opens.Branch n (n + 1) ∷ around) first (lines.End ∷ more) h);
      choice = λ h j. ap (λ (ys : List Act). acts.When (opposite t) n ∷ ys) (
          joined (n + 2) (opens.Branch n (n + 1) ∷ around) first (lines.Else ∷ (other ++ (lines.End ∷ more))) h
          ∙ ap (λ (ys : List Act). flattened (n + 2) [] first ++ (acts.Goto (n + 1) ∷ acts.Label n ∷ ys))
          (joined (label_behind (n + 2) first) (opens.Other (n + 1) ∷ around) other (lines.End ∷ more) j));
      loop = λ h. ap (λ (ys : List Act). acts.Label n ∷ acts.When (opposite t) (n + 1) ∷ ys)
          (joined (n + 2) (opens.Loop n (n + 1) ∷ around) first (lines.End ∷ more) h);
    }

-- ---- what they do

twice_not : (b : Bool) → b ≡ not (not b)
twice_not true = refl
twice_not false = refl

module _ (p : Program) (f w : ℕ) (body : List Act) (t : Test) where
  counted : (acts : List Act) (s s' : State) (o : ActsOutcome) (n m : ℕ) → n ≡ m → ActsRun p f w body acts s o s' n → ActsRun p f w body acts s o s' m
  counted acts s s' o n m e r = subst (λ (i : ℕ). ActsRun p f w body acts s o s' i) e r

  -- the first part is run, since the test of the opposite fails
  enters : (l n : ℕ) (part : List Act) (s s' : State) (o : ActsOutcome) → Holds p s t → ActsRun p f w body part s o s' n →
      ActsRun p f w body (acts.When (opposite t) l ∷ part) s o s' (suc n)
  enters l n part s s' o h r = passed (h ∙ ap (λ (b : Bool). Some b) (twice_not t.answer)) r

  tests : (l e : ℕ) (part more : List Act) (s s' : State) (n : ℕ) → behind_label l body ≡ Some (test_acts t l e part more) → behind_label e body ≡ Some more →
      Loops p f w body t part (end_loop l e more) s s' n → ActsRun p f w body (test_acts t l e part more) s (Rests more) s' n
  tests l e part more s s' n bl be (over h) = taken h be rests
  tests l e part more s s' n bl be (again {s1 = s1} {n = k} {m = m} h r later) =
      let back = goes bl (tests l e part more s1 s' m bl be later) in
      let turn = runs_then p (suc m) (end_loop l e more) s' (Rests more) refl r back in
      counted (test_acts t l e part more) s s' (Rests more) (suc (k + suc m)) (k + 2 + m) (omega arith)
      (enters e (k + suc m) (part ++ end_loop l e more) s s' (Rests more) h turn)

pub constructs : (p : Program) (f w : ℕ) (body : List Act) (t : Test) (l e : ℕ) (first other more : List Act) (s s' : State) (n : ℕ) →
    ConstructsRun p f w body t l e first other more s s' n
constructs p f w body t l e first other more s s' n =
    record {
      if_holds = λ h r.
          counted p f w body t (acts.When (opposite t) l ∷ (first ++ end_if l more)) s s' (Rests more) (suc (n + 0)) (n + 1) (omega arith)
          (enters p f w body t l (n + 0) (first ++ end_if l more) s s' (Rests more) h (runs_then p 0 (end_if l more) s' (Rests more) refl r (at_label rests)));
      if_fails = λ h b. taken h b rests;
      choice_holds = λ h b r.
          counted p f w body t (acts.When (opposite t) l ∷ (first ++ end_first l e other more)) s s' (Rests more) (suc (n + 1)) (n + 2) (omega arith)
          (enters p f w body t l (n + 1) (first ++ end_first l e other more) s s' (Rests more) h
          (runs_then p 1 (end_first l e other more) s' (Rests more) refl r (goes b rests)));
      choice_fails = λ h b r.
          counted p f w body t (acts.When (opposite t) l ∷ (first ++ end_first l e other more)) s s' (Rests more) (suc (n + 0)) (n + 1) (omega arith)
          (taken h b (runs_then p 0 (end_if e more) s' (Rests more) refl r (at_label rests)));
      loops = λ bl be r. at_label (tests p f w body t l e first more s s' n bl be r);
      leaves = λ o rest h r.
          counted p f w body t (acts.When (opposite t) l ∷ (first ++ rest)) s s' o (suc n) (n + 1) (omega arith)
          (enters p f w body t l n (first ++ rest) s s' o h r);
    }
