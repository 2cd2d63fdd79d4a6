-- The routines that end a run do so.
use Rattle.std.proofs.Common.{◌≡◌, ◌≢◌, ℕ, suc, ◌+◌, ◌<◌, ◌≤◌, inl, inr, Bool, true, false, List, [], ◌∷◌, ◌++◌, length, map, refl, sym, ap, subst, arith, append_assoc}
use Rattle.std.specs.Prelude.{◌&&◌, nat_lt, None, codes}
use Rattle.std.proofs.lemmas.Bool.{eq-eqb, ne_eqb, lt-ltb, ltb-true, cases_eq, and_parts}
use Rattle.std.proofs.lemmas.List.{append-nil}
use Rattle.std.proofs.Math.Utf8.{encode}
use Rattle.dg_base.specs.declared.run.Ending.{Ending}
use Rattle.dg_base.specs.declared.run.Ending.TheVariants as endings
use Rattle.dg_meaning.specs.Transcript.{line_of}
use Rattle.z_model.specs.Zscii.{code_utf8}
use Rattle.z_model.specs.declared.end.Halt.TheVariants.{AtQuit}
use Rattle.z_lang.specs.declared.act.Act.{Act}
use Rattle.z_lang.specs.declared.act.Act.TheVariants as acts
use Rattle.z_lang.specs.declared.act.Args.TheVariants as args
use Rattle.z_lang.specs.declared.act.Atom.TheVariants as atoms
use Rattle.z_lang.specs.declared.act.Comparison.TheVariants as comparisons
use Rattle.z_lang.specs.declared.act.Print.TheVariants as prints
use Rattle.z_lang.specs.State.{State, Program, value}
use Rattle.z_lang.specs.Acts.{print_output}
use Rattle.z_lang.specs.Runs.{ActsRun as Runs, Returns, Stops, at_label, taken, passed, done, calls, returns, quits, behind_label}
use Rattle.dg_rt.specs.declared.numbers.TheConstants.{NEWLINE}
use Rattle.dg_rt.specs.declared.closings.TheConstants.{NEWLINE_ACTS, DONE_ACTS, TRAIL_LIMIT_ACTS}
use Rattle.dg_rt.specs.Cells.{Holds}
use Rattle.dg_rt.specs.Areas.{last_reg, state}
use Rattle.dg_rt.specs.RunTime.{routine_of, HasRunTime}
use Rattle.dg_rt.specs.Closings.{closing, Closes, EndsRuns, ClosingsWork}
use Rattle.dg_rt.proofs.Cells.{some_list}
use Rattle.dg_rt.proofs.Following.{word, tested, register, says}
use Rattle.dg_rt.proofs.Standing.{newline_at}

-- ## Letters

abbrev pub say : ℕ → Act
say code = acts.Print prints.Code (atoms.Num code)

-- printed letters of ASCII
abbrev are_letters : List ℕ → Bool
are_letters [] = true
are_letters (c ∷ cs) = (nat_lt 31 c && nat_lt c 127) && are_letters cs

pub itself : (c : ℕ) → c < 128 → encode c ≡ c ∷ []
unfolding encode
itself c lt = rw (lt-ltb c 128 lt) refl

pub letter_printed : (memory : List ℕ) (c : ℕ) → 31 < c → c < 127 → print_output memory prints.Code c ≡ some_list (c ∷ [])
unfolding print_output code_utf8
letter_printed memory c low high =
    rw (ne_eqb c 0 (λ (e : c ≡ 0). (omega arith)), ne_eqb c 13 (λ (e : c ≡ 13). (omega arith)), lt-ltb 31 c low, lt-ltb c 127 high) (ap some_list (itself c (omega arith)))

pub newline_printed : (memory : List ℕ) → print_output memory prints.Code 13 ≡ some_list (10 ∷ [])
unfolding print_output code_utf8 encode
newline_printed memory = refl

-- The acts that end a run with a line of letters.
abbrev closing_acts : List ℕ → List Act
closing_acts letters = acts.Call None (atoms.Routine NEWLINE) args.Zero ∷ (map say letters ++ say 13 ∷ acts.Quit ∷ [])

module _ (p : Program) (has : HasRunTime p) (memory typed : List ℕ) (drawn : ℕ) (cells : ℕ → ℕ) (h : Holds p.world.layout memory cells) where
  abbrev now : List ℕ → State
  now output = state memory [] typed drawn output

  -- ## Newlines

  last_is : (output : List ℕ) → value p (now output) (atoms.Var 44) ≡ word (cells last_reg)
  last_is output = let room = has.mapped.room in register p (now output) cells 44 h (omega arith) (omega arith) (omega arith)

  abbrev Newline : List ℕ → List ℕ → ℕ → Type 0
  Newline output out n = Runs p 0 0 NEWLINE_ACTS NEWLINE_ACTS (now output) (Returns 0) (now out) n

  newline_none : (output : List ℕ) → cells last_reg ≡ 0 → Newline output output 2
  unfolding behind_label
  newline_none output e =
      taken (tested p (now output) comparisons.Equal (atoms.Var 44) (atoms.Num 0) true (cells last_reg) 0 true (last_is output) refl (eq-eqb (cells last_reg) 0 e)) refl
      (returns refl)

  newline_some : (output : List ℕ) → cells last_reg ≢ 0 → Newline output (output ++ 10 ∷ []) 3
  newline_some output ne =
      passed (tested p (now output) comparisons.Equal (atoms.Var 44) (atoms.Num 0) true (cells last_reg) 0 false (last_is output) refl (ne_eqb (cells last_reg) 0 ne))
      (done (says p (now output) prints.Code (atoms.Num 13) 13 (10 ∷ []) refl (newline_printed memory))
      (at_label (returns refl)))

  -- ## Closings

  abbrev Closing : List Act → List Act → List ℕ → List ℕ → ℕ → Type 0
  Closing body acts output out n = Runs p 1 0 body acts (now output) (Stops AtQuit) (now out) n

  letters_printed : (body more : List Act) (out : List ℕ) (n : ℕ) (cs : List ℕ) (output : List ℕ) → are_letters cs ≡ true → Closing body more (output ++ cs) out n →
      Closing body (map say cs ++ more) output out (length cs + n)
  letters_printed body more out n [] output fine rest =
      let e : n ≡ length {A = ℕ} [] + n = omega arith in
      subst (λ (k : ℕ). Closing body more output out k) e (subst (λ (o : List ℕ). Closing body more o out n) (append-nil output) rest)
  letters_printed body more out n (c ∷ cs) output fine rest =
      let both = and_parts (nat_lt 31 c && nat_lt c 127) (are_letters cs) fine in
      let range = and_parts (nat_lt 31 c) (nat_lt c 127) both.0 in
      let later = letters_printed body more out n cs (output ++ c ∷ []) both.1 (subst (λ (o : List ℕ). Closing body more o out n) (sym (append_assoc output (c ∷ []) cs)) rest) in
      let e : suc (length cs + n) ≡ length (c ∷ cs) + n = omega arith in
      subst (λ (k : ℕ). Closing body (map say (c ∷ cs) ++ more) output out k) e
      (done (says p (now output) prints.Code (atoms.Num c) c (c ∷ []) refl (letter_printed memory c (ltb-true 31 c range.0) (ltb-true c 127 range.1))) later)

  -- behind the newline
  line_ends : (body : List Act) (letters output : List ℕ) → are_letters letters ≡ true → Closing body (map say letters ++ say 13 ∷ acts.Quit ∷ []) output (output ++ (letters ++ 10 ∷ [])) (length letters + 2)
  line_ends body letters output fine =
      letters_printed body (say 13 ∷ acts.Quit ∷ []) (output ++ (letters ++ 10 ∷ [])) 2 letters output fine
      (done (says p (now (output ++ letters)) prints.Code (atoms.Num 13) 13 (10 ∷ []) refl (newline_printed memory))
      (subst (λ (o : List ℕ). Closing body (acts.Quit ∷ []) ((output ++ letters) ++ 10 ∷ []) o 1) (append_assoc output letters (10 ∷ [])) quits))

  abbrev call_newline : Act
  call_newline = acts.Call None (atoms.Routine NEWLINE) args.Zero

  -- A newline comes where something was printed, and then the line.
  ended : (more : List Act) (output : List ℕ) (ending : Ending) (k : ℕ) → k ≤ 15 → ((out : List ℕ) → Closing (call_newline ∷ more) more out (out ++ line_of ending) k) →
      Closes p (call_newline ∷ more) (now output) (cells last_reg) ending
  ended more output ending k few rest = elim (cases_eq (cells last_reg) 0) [
    | inl e ↦ record {
      count = 3 + k;
      runs = subst (λ (t : List ℕ). Closing (call_newline ∷ more) (call_newline ∷ more) output (output ++ t) (3 + k)) (nothing e)
          (calls {f' = 0} {w' = 0} {n = 2} {n' = k} {xs = (0, 0, 0)} {r = routine_of 0 NEWLINE_ACTS} refl refl (newline_at p has) (omega arith) (omega arith) (newline_none output e) refl (rest output));
      few = omega arith;
    }
    | inr ne ↦ record {
      count = 4 + k;
      runs = subst (λ (t : List ℕ). Closing (call_newline ∷ more) (call_newline ∷ more) output t (4 + k)) (behind ne)
          (calls {f' = 0} {w' = 0} {n = 3} {n' = k} {xs = (0, 0, 0)} {r = routine_of 0 NEWLINE_ACTS} refl refl (newline_at p has) (omega arith) (omega arith) (newline_some output ne) refl (rest (output ++ 10 ∷ [])));
      few = omega arith;
    }
  ]
    where
      nothing : cells last_reg ≡ 0 → line_of ending ≡ closing (cells last_reg) ending
      nothing e = rw (eq-eqb (cells last_reg) 0 e) refl

      behind : cells last_reg ≢ 0 → (output ++ 10 ∷ []) ++ line_of ending ≡ output ++ closing (cells last_reg) ending
      behind ne = rw (ne_eqb (cells last_reg) 0 ne) (append_assoc output (10 ∷ []) (line_of ending))

  -- the line has letters and a newline
  with_line : (letters output : List ℕ) (ending : Ending) → are_letters letters ≡ true → length letters ≤ 13 → line_of ending ≡ letters ++ 10 ∷ [] →
      Closes p (closing_acts letters) (now output) (cells last_reg) ending
  with_line letters output ending fine few is =
      ended (map say letters ++ say 13 ∷ acts.Quit ∷ []) output ending (length letters + 2) (omega arith)
      (λ out. subst (λ (t : List ℕ). Closing (closing_acts letters) (map say letters ++ say 13 ∷ acts.Quit ∷ []) out (out ++ t) (length letters + 2)) (sym is)
      (line_ends (closing_acts letters) letters out fine))

  done_closes : (output : List ℕ) → Closes p DONE_ACTS (now output) (cells last_reg) endings.Done
  done_closes output =
      ended (acts.Quit ∷ []) output endings.Done 1 (omega arith)
      (λ out. subst (λ (t : List ℕ). Closing DONE_ACTS (acts.Quit ∷ []) out t 1) (sym (append-nil out)) quits)

-- ## The routines

pub trail_closes : EndsRuns TRAIL_LIMIT_ACTS endings.TrailLimit
trail_closes p has memory typed output drawn cells h = with_line p has memory typed drawn cells h (codes "[Trail limit]") output endings.TrailLimit refl (let n : length (codes "[Trail limit]") ≡ 13 = refl in omega arith) refl

pub closings_work : ClosingsWork
closings_work = record {
  done = λ p has memory typed output drawn cells h. done_closes p has memory typed drawn cells h output;
  failed = λ p has memory typed output drawn cells h. with_line p has memory typed drawn cells h (codes "[Failed]") output endings.Failed refl (let n : length (codes "[Failed]") ≡ 8 = refl in omega arith) refl;
  stopped = λ p has memory typed output drawn cells h. with_line p has memory typed drawn cells h (codes "[Stopped]") output endings.Stopped refl (let n : length (codes "[Stopped]") ≡ 9 = refl in omega arith) refl;
  heap = λ p has memory typed output drawn cells h. with_line p has memory typed drawn cells h (codes "[Heap limit]") output endings.HeapLimit refl (let n : length (codes "[Heap limit]") ≡ 12 = refl in omega arith) refl;
  trail = trail_closes;
  aux = λ p has memory typed output drawn cells h. with_line p has memory typed drawn cells h (codes "[Aux limit]") output endings.AuxLimit refl (let n : length (codes "[Aux limit]") ≡ 11 = refl in omega arith) refl;
  keep = λ p has memory typed output drawn cells h. with_line p has memory typed drawn cells h (codes "[Keep limit]") output endings.KeepLimit refl (let n : length (codes "[Keep limit]") ≡ 12 = refl in omega arith) refl;
}
