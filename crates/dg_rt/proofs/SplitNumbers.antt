-- The routine that lays the list of a number's digits does so.
use Rattle.std.proofs.Common.{◌≡◌, ℕ, zero, suc, ◌+◌, ◌*◌, ◌/◌, ◌%◌, ◌<◌, ◌≤◌, inl, inr, Bool, true, false, List, [], ◌∷◌, ◌++◌, drop, length, Some, refl, sym, ap, ◌∙◌, subst, arith, append-nil, append_assoc, length-append}
use Rattle.std.specs.Prelude.{◌==◌}
use Rattle.std.specs.Fmt.{decimal}
use Rattle.std.proofs.lemmas.Bool.{eq-eqb, ne_eqb, cases_lt}
use Rattle.std.proofs.lemmas.Fmt.{decimal_digit, decimal_step}
use Rattle.dg_base.specs.declared.run.Ending.TheVariants.{HeapLimit}
use Rattle.z_model.specs.declared.end.Halt.TheVariants.{AtQuit}
use Rattle.dg_meaning.specs.Copies.{copy_cells}
use Rattle.z_lang.specs.declared.act.Act.{Act}
use Rattle.z_lang.specs.declared.act.Act.TheVariants as acts
use Rattle.z_lang.specs.declared.act.Args.TheVariants as args
use Rattle.z_lang.specs.declared.act.Atom.TheVariants as atoms
use Rattle.z_lang.specs.declared.act.Comparison.TheVariants as comparisons
use Rattle.z_lang.specs.declared.act.Function.TheVariants as functions
use Rattle.z_lang.specs.State.{State, put}
use Rattle.z_lang.specs.Acts.{answer_of, arguments}
use Rattle.z_lang.specs.Runs.{ActsRun as Runs, ActsOutcome, Returns, Stops, at_label, taken, passed, done, calls, calls_last, returns, behind_label}
use Rattle.dg_rt.specs.declared.numbers.TheConstants.{LETTER_ON}
use Rattle.dg_rt.specs.declared.splitting.TheConstants.{LETTER_ON_ACTS, SPLIT_NUMBER_ACTS}
use Rattle.dg_rt.specs.Areas.{state}
use Rattle.dg_rt.specs.Closings.{closing}
use Rattle.dg_rt.specs.Dictionary.{HasSpellings}
use Rattle.dg_rt.specs.RunTime.{routine_of}
use Rattle.dg_rt.specs.Shapes.{ArePrinted}
use Rattle.dg_rt.proofs.CaptureSteps.{divides, leaves}
use Rattle.dg_rt.proofs.Following.{some_state, tested, computes, copies, local_1, local_2, local_3, put_1, put_2, put_3}
use Rattle.dg_rt.proofs.LaySteps.{Laid, M, in_m}
use Rattle.dg_rt.proofs.LetterOn.{Listed, Same, Lays, all_laid, no_room, in_front, letter_on}
use Rattle.dg_rt.proofs.Locals.{added}
use Rattle.dg_rt.proofs.SplitLists.{alone, alone_behind}

module _ (io : Laid) (words : List (List ℕ)) (dict : HasSpellings io.p io.story words) where
  open io use {p, story, captures, has, typed, output, drawn, area}

  letter_on_at : p.routine_at (p.names.routine LETTER_ON) ≡ Some (routine_of 5 LETTER_ON_ACTS)
  letter_on_at = has.has.each 123 (routine_of 5 LETTER_ON_ACTS) refl

  -- ## A letter more

  abbrev pub on_most : ℕ
  on_most = length words * 47 + 80

  abbrev pub call_of : ℕ → Act
  call_of i = acts.Call (Some 2) (atoms.Routine LETTER_ON) (args.Two (atoms.Var i) (atoms.Var 2))

  module _ (f w : ℕ) (some : 4 ≤ f) (enough : 18 ≤ w) (body more : List Act) (m0 m : M io) (lo c x : ℕ) (ls all : List ℕ) (locals : List ℕ) (i : ℕ) (after : ℕ → List ℕ) (most : ℕ) (same : Same io words m0 m lo) (l : Listed io words m lo ls x) (fine : ArePrinted (c ∷ [])) (given : arguments p (in_m io m locals) (args.Two (atoms.Var i) (atoms.Var 2)) ≡ Some (c, x, 0)) (puts : (m' : M io) (y : ℕ) → put p 2 y (in_m io m' locals) ≡ some_state (in_m io m' (after y))) (within : copy_cells (alone words (c ∷ ls)) ≤ copy_cells (alone words all)) (next : (m' : M io) (y : ℕ) → Listed io words m' lo (c ∷ ls) y → Same io words m0 m' lo → Lays io words f w body more m0 lo (in_m io m' (after y)) all most) where
    by_outcome : Lays io words 3 13 LETTER_ON_ACTS LETTER_ON_ACTS m lo (in_m io m (c ∷ x ∷ 0 ∷ 0 ∷ 0 ∷ [])) (c ∷ ls) on_most → Lays io words f w body (call_of i ∷ more) m0 lo (in_m io m locals) all (suc on_most + most)
    by_outcome (all_laid m' y locals' count l' same' few runs) =
        in_front io words (suc on_most + most) (λ j. suc count + j) (λ j le. (omega arith)) (λ j le. (omega arith))
        (λ o s' j go. calls {f' = 3} {w' = 13} {n = count} {n' = j} {xs = (c, x, 0)} {s1 = in_m io m' locals'} {s2 = in_m io m' (after y)} refl given letter_on_at some enough runs (puts m' y) go)
        (next m' y l' (λ k n3 far. same' k n3 far ∙ same k n3 far))
    by_outcome (no_room memory' count over few runs) =
        let last : m.cells 28 ≡ m0.cells 28 = same 28 (λ g. (omega arith)) (λ g. (omega arith)) in
        no_room memory' (suc count) (omega arith) (omega arith)
        (subst (λ (j : ℕ). Runs p f w body (call_of i ∷ more) (in_m io m locals) (Stops AtQuit) (state memory' [] typed drawn (output ++ closing j HeapLimit)) (suc count)) last
        (calls_last {f' = 3} {w' = 13} {n = count} {xs = (c, x, 0)} refl given letter_on_at some enough runs))

    pub calls_on : Lays io words f w body (call_of i ∷ more) m0 lo (in_m io m locals) all (suc on_most + most)
    calls_on = by_outcome (letter_on io words 3 13 (omega arith) (omega arith) m lo c x ls l fine dict)

  -- ## Digits

  module _ (f w : ℕ) (some : 4 ≤ f) (enough : 18 ≤ w) (m0 : M io) (lo : ℕ) where
    abbrev three : M io → ℕ → ℕ → ℕ → State
    three m a b d = in_m io m (a ∷ b ∷ d ∷ [])

    abbrev Loop : M io → ℕ → ℕ → ℕ → List ℕ → ℕ → Type 0
    Loop m n x d all most = Lays io words f w SPLIT_NUMBER_ACTS (drop 2 SPLIT_NUMBER_ACTS) m0 lo (three m n x d) all most

    abbrev digit_most : ℕ
    digit_most = length words * 47 + 85

    module _ (n : ℕ) (low : n < 16384) (m : M io) (x d : ℕ) (ls all : List ℕ) (l : Listed io words m lo ls x) (same : Same io words m0 m lo) where
      abbrev c : ℕ
      c = 48 + n % 10

      abbrev r : ℕ
      r = n % 10

      abbrev n' : ℕ
      n' = n / 10

      fine : ArePrinted (c ∷ [])
      fine = search arith

      tested_zero : (m' : M io) (y : ℕ) (t : Bool) → (n' == 0) ≡ t → answer_of p (three m' n' y c) (record { comparison = comparisons.Equal; first = atoms.Var 1; second = atoms.Num 0; answer = false }) ≡ Some t
      tested_zero m' y t e = tested p (three m' n' y c) comparisons.Equal (atoms.Var 1) (atoms.Num 0) false n' 0 t (local_1 p m'.memory n' (y ∷ c ∷ []) typed drawn output) refl e

      divided : (m' : M io) (y : ℕ) (o : ActsOutcome) (s' : State) (i : ℕ) → Runs p f w SPLIT_NUMBER_ACTS (drop 6 SPLIT_NUMBER_ACTS) (three m' n' y c) o s' i → Runs p f w SPLIT_NUMBER_ACTS (drop 5 SPLIT_NUMBER_ACTS) (three m' n y c) o s' (suc i)
      divided m' y o s' i go = done (computes p (three m' n y c) (three m' n' y c) 1 functions.Div (atoms.Var 1) (atoms.Num 10) n 10 n' (local_1 p m'.memory n (y ∷ c ∷ []) typed drawn output) refl (divides p m'.memory n 10 (omega arith) (omega arith) (omega arith)) (put_1 p m'.memory n n' (y ∷ c ∷ []) typed drawn output)) go

      -- up to the call
      to_call : (o : ActsOutcome) (s' : State) (i : ℕ) → Runs p f w SPLIT_NUMBER_ACTS (drop 4 SPLIT_NUMBER_ACTS) (three m n x c) o s' i → Runs p f w SPLIT_NUMBER_ACTS (drop 2 SPLIT_NUMBER_ACTS) (three m n x d) o s' (suc (suc i))
      to_call o s' i go =
          done (computes p (three m n x d) (three m n x r) 3 functions.Mod (atoms.Var 1) (atoms.Num 10) n 10 r (local_1 p m.memory n (x ∷ d ∷ []) typed drawn output) refl (leaves p m.memory n 10 (omega arith) (omega arith) (omega arith)) (put_3 p m.memory n x d r [] typed drawn output))
          (done (computes p (three m n x r) (three m n x c) 3 functions.Add (atoms.Var 3) (atoms.Num 48) r 48 c (local_3 p m.memory n x r [] typed drawn output) refl (added p m.memory r 48 c (omega arith)) (put_3 p m.memory n x r c [] typed drawn output))
          go)

      digit_on : (most : ℕ) → copy_cells (alone words (c ∷ ls)) ≤ copy_cells (alone words all) → ((m' : M io) (y : ℕ) → Listed io words m' lo (c ∷ ls) y → Same io words m0 m' lo → Lays io words f w SPLIT_NUMBER_ACTS (drop 5 SPLIT_NUMBER_ACTS) m0 lo (three m' n y c) all most) → Loop m n x d all (length words * 47 + 83 + most)
      digit_on most within next =
          in_front io words (length words * 47 + 83 + most) (λ i. suc (suc i)) (λ i le. (omega arith)) (λ i le. (omega arith)) to_call
          (calls_on f w some enough SPLIT_NUMBER_ACTS (drop 5 SPLIT_NUMBER_ACTS) m0 m lo c x ls all (n ∷ x ∷ c ∷ []) 3 (λ y. n ∷ y ∷ c ∷ []) most same l fine
          (rw (local_3 p m.memory n x c [] typed drawn output, local_2 p m.memory n x (c ∷ []) typed drawn output) refl) (λ m' y. put_2 p m'.memory n x y (c ∷ []) typed drawn output) within next)

      -- the first digit
      last_digit : n < 10 → decimal n ++ ls ≡ all → Loop m n x d all (length (decimal n) * digit_most + 1)
      last_digit lt e =
          let one : decimal n ≡ c ∷ [] = decimal_digit n lt ∙ ap (λ (i : ℕ). (48 + i) ∷ []) (omega arith) in
          let e' : c ∷ ls ≡ all = ap (λ (xs : List ℕ). xs ++ ls) (sym one) ∙ e in
          let product = ap (λ (xs : List ℕ). length xs * digit_most) one in
          in_front io words (length (decimal n) * digit_most + 1) (λ i. i) (λ i le. (omega arith)) (λ i le. (omega arith)) (λ o s' i go. go)
          (digit_on 3 (let same_cells = ap (λ (xs : List ℕ). copy_cells (alone words xs)) e' in omega arith)
          (λ m' y l' same'. all_laid m' y (n' ∷ y ∷ c ∷ []) 3 (subst (λ (xs : List ℕ). Listed io words m' lo xs y) e' l') same' (omega arith)
          (divided m' y (Returns y) (three m' n' y c) 2 (passed (tested_zero m' y true (eq-eqb n' 0 (omega arith))) (returns (local_2 p m'.memory n' y (c ∷ []) typed drawn output))))))

      -- one behind others
      more_digits : 10 ≤ n → decimal n ++ ls ≡ all → ((m' : M io) (y : ℕ) → Listed io words m' lo (c ∷ ls) y → Same io words m0 m' lo → Loop m' n' y c all (length (decimal n') * digit_most + 1)) → Loop m n x d all (length (decimal n) * digit_most + 1)
      unfolding behind_label
      more_digits le e next =
          let step : decimal n ≡ decimal n' ++ (c ∷ []) = decimal_step n le (omega arith) in
          let e' : decimal n' ++ (c ∷ ls) ≡ all = sym (append_assoc (decimal n') (c ∷ []) ls) ∙ ap (λ (xs : List ℕ). xs ++ ls) (sym step) ∙ e in
          let many : length (decimal n) ≡ length (decimal n') + 1 = ap (λ (xs : List ℕ). length xs) step ∙ length-append (decimal n') (c ∷ []) in
          let product = ap (λ (k : ℕ). k * digit_most) many in
          let within = alone_behind words (decimal n') (c ∷ ls) in
          let most = length (decimal n') * digit_most + 3 in
          in_front io words (length (decimal n) * digit_most + 1) (λ i. i) (λ i le'. (omega arith)) (λ i le'. (omega arith)) (λ o s' i go. go)
          (digit_on most (let same_cells = ap (λ (xs : List ℕ). copy_cells (alone words xs)) e' in omega arith)
          (λ m' y l' same'. in_front io words most (λ i. suc (suc i)) (λ i le'. (omega arith)) (λ i le'. (omega arith))
          (λ o s' i go. divided m' y o s' (suc i) (taken (tested_zero m' y false (ne_eqb n' 0 (λ (z : n' ≡ 0). (omega arith)))) refl go))
          (next m' y l' same')))

    digits : (fuel n : ℕ) → n < fuel → n < 16384 → (m : M io) (x d : ℕ) (ls all : List ℕ) → Listed io words m lo ls x → Same io words m0 m lo → decimal n ++ ls ≡ all → Loop m n x d all (length (decimal n) * digit_most + 1)
    digits zero n lt low m x d ls all l same e = absurd (omega arith)
    digits (suc fuel) n lt low m x d ls all l same e = elim (cases_lt n 10) [
      | inl one ↦ last_digit n low m x d ls all l same one e
      | inr more ↦ more_digits n low m x d ls all l same more e (λ m' y l' same'. digits fuel (n / 10) (omega arith) (omega arith) m' y (48 + n % 10) ((48 + n % 10) ∷ ls) all l' same' (sym (append_assoc (decimal (n / 10)) ((48 + n % 10) ∷ []) ls) ∙ ap (λ (xs : List ℕ). xs ++ ls) (sym (decimal_step n more (omega arith))) ∙ e))
    ]

  -- The list of a number's digits is laid.
  pub number_laid : (f w : ℕ) → 4 ≤ f → 18 ≤ w → (m : M io) (lo n : ℕ) → m.cells 3 ≡ lo → lo ≤ 10000 → n < 16384 → Lays io words f w SPLIT_NUMBER_ACTS SPLIT_NUMBER_ACTS m lo (in_m io m (n ∷ 0 ∷ 0 ∷ [])) (decimal n) (length (decimal n) * (length words * 47 + 85) + 2)
  number_laid f w some enough m lo n top room low =
      let l : Listed io words m lo [] 28672 = record { heap = top ∙ omega arith; lies = (tt, tt); word = refl; room = omega arith; printed = tt } in
      in_front io words (length (decimal n) * (length words * 47 + 85) + 2) (λ i. suc i) (λ i le. (omega arith)) (λ i le. (omega arith))
      (λ o s' i go. done (copies p (in_m io m (n ∷ 0 ∷ 0 ∷ [])) (in_m io m (n ∷ 28672 ∷ 0 ∷ [])) 2 (atoms.Num 28672) 28672 refl (put_2 p m.memory n 0 28672 (0 ∷ []) typed drawn output)) (at_label go))
      (digits f w some enough m lo (suc n) n (omega arith) low m 28672 0 [] (decimal n) l (λ k n3 far. refl) (append-nil (decimal n)))
