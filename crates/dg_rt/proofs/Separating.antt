-- The routine that prints what separates a piece does so.
use Rattle.std.proofs.Common.{◌≡◌, ◌≢◌, ℕ, zero, suc, ◌+◌, ◌-◌, ◌*◌, ◌<◌, ◌≤◌, Bool, true, false, List, [], ◌∷◌, ◌++◌, drop, replicate, Option, Some, None, refl, sym, ap, ◌∙◌, subst, arith, append_assoc}
use Rattle.std.specs.Prelude.{◌==◌, ◌||◌, eqb, if◌then◌else◌}
use Rattle.std.specs.List.{list_any}
use Rattle.std.proofs.lemmas.Bool.{eq-eqb, ne_eqb, lt-ltb}
use Rattle.std.proofs.lemmas.List.{append-nil}
use Rattle.dg_meaning.specs.Render.{is_line, is_par, spaces_from, last_asked, opens, closes, space_for, separator, Met}
use Rattle.z_lang.specs.declared.act.Act.{Act}
use Rattle.z_lang.specs.declared.act.Act.TheVariants as acts
use Rattle.z_lang.specs.declared.act.Args.TheVariants as args
use Rattle.z_lang.specs.declared.act.Atom.{Atom}
use Rattle.z_lang.specs.declared.act.Atom.TheVariants as atoms
use Rattle.z_lang.specs.declared.act.Comparison.TheVariants as comparisons
use Rattle.z_lang.specs.declared.act.Function.TheVariants as functions
use Rattle.z_lang.specs.declared.act.Print.TheVariants as prints
use Rattle.z_lang.specs.State.{State, Program, value}
use Rattle.z_lang.specs.Acts.{answer_of, does}
use Rattle.z_lang.specs.Runs.{ActsRun as Runs, ActsOutcome as Outcome, Returns, at_label, taken, passed, done, goes, calls, returns, behind_label}
use Rattle.dg_rt.specs.declared.numbers.TheConstants.{SEPARATE}
use Rattle.dg_rt.specs.declared.gaps.TheConstants.{SEPARATE_ACTS}
use Rattle.dg_rt.specs.Cells.{with_cell, replaced, Holds}
use Rattle.dg_rt.specs.Areas.{state}
use Rattle.dg_rt.specs.RunTime.{HasRunTime}
use Rattle.dg_rt.specs.Gaps.{last_word, asked_word, Meets, Separates, SeparateWorks}
use Rattle.dg_rt.specs.inside.Walks.{steps}
use Rattle.dg_rt.proofs.Cells.{other_cell, same_cell}
use Rattle.dg_rt.proofs.Closing.{say, letter_printed, newline_printed}
use Rattle.dg_rt.proofs.Following.{word, some_state, tested, computes, copies, says, register, puts, local_1}
use Rattle.dg_rt.proofs.Locals.{subtracts}
use Rattle.dg_rt.proofs.Standing.{separate_at}
use Rattle.dg_rt.proofs.UnifySteps.{steps_are}

-- three further tests of a list
pub or_three : (a b c d : Bool) → (a || (b || (c || d))) ≡ ((a || (b || c)) || d)
or_three true b c d = refl
or_three false true c d = refl
or_three false false true d = refl
or_three false false false d = refl

pub or_nothing : (t : Bool) → (t || false) ≡ t
or_nothing true = refl
or_nothing false = refl

-- one of three characters
abbrev pub among : ℕ → ℕ → ℕ → ℕ → Bool
among c x y z = (c == x) || ((c == y) || (c == z))

pub closes_by : (c : ℕ) → closes c ≡ (among c 46 44 59 || (among c 58 33 63 || among c 41 93 125))
closes_by c =
    let third : (eqb c 41 || (eqb c 93 || (eqb c 125 || false))) ≡ among c 41 93 125 = or_three (eqb c 41) (eqb c 93) (eqb c 125) false ∙ or_nothing (among c 41 93 125) in
    or_three (eqb c 46) (eqb c 44) (eqb c 59) (eqb c 58 || (eqb c 33 || (eqb c 63 || (eqb c 41 || (eqb c 93 || (eqb c 125 || false))))))
    ∙ ap (λ (t : Bool). among c 46 44 59 || t) (or_three (eqb c 58) (eqb c 33) (eqb c 63) (eqb c 41 || (eqb c 93 || (eqb c 125 || false))) ∙ ap (λ (t : Bool). among c 58 33 63 || t) third)

module _ (p : Program) (has : HasRunTime p) (f w : ℕ) (typed : List ℕ) (drawn first : ℕ) where
  abbrev st : List ℕ → List ℕ → State
  st m out = state m (first ∷ []) typed drawn out

  -- The routine goes on so, and leads to this output.
  record Ends (acts : List Act) (m : List ℕ) (c : ℕ → ℕ) (out final : List ℕ) (most : ℕ) : Type 0 where
    memory' : List ℕ
    cells' : ℕ → ℕ
    holds : Holds p.world.layout memory' cells'
    lines : cells' 30 ≡ 0
    spaces : cells' 31 ≡ 0
    asked : cells' 32 ≡ 0
    others : (k : ℕ) → k ≢ 30 → k ≢ 31 → k ≢ 32 → cells' k ≡ c k
    count : ℕ
    few : count ≤ most
    runs : Runs p f w SEPARATE_ACTS acts (st m out) (Returns 0) (st memory' final) count

  -- acts in front that change no memory
  before : {acts acts' : List Act} {m : List ℕ} {c : ℕ → ℕ} {out out' final : List ℕ} {most : ℕ} (n : ℕ) → ((s' : State) (i : ℕ) → Runs p f w SEPARATE_ACTS acts (st m out) (Returns 0) s' i → Runs p f w SEPARATE_ACTS acts' (st m out') (Returns 0) s' (steps n i)) → Ends acts m c out final most → Ends acts' m c out' final (n + most)
  before n way r = let few = r.few in record { memory' = r.memory'; cells' = r.cells'; holds = r.holds; lines = r.lines; spaces = r.spaces; asked = r.asked; others = r.others; count = steps n r.count; few = omega (arith, steps_are n r.count); runs = way _ r.count r.runs }

  weaker : {acts : List Act} {m : List ℕ} {c : ℕ → ℕ} {out final final' : List ℕ} {most most' : ℕ} → most ≤ most' → final ≡ final' → Ends acts m c out final most → Ends acts m c out final' most'
  weaker {acts} {m} {c} {out} {most' = most'} le e r =
      let few = r.few in
      subst (λ (x : List ℕ). Ends acts m c out x most') e (record { memory' = r.memory'; cells' = r.cells'; holds = r.holds; lines = r.lines; spaces = r.spaces; asked = r.asked; others = r.others; count = r.count; few = omega arith; runs = r.runs })

  is_word : (m out : List ℕ) (c : ℕ → ℕ) → Holds p.world.layout m c → (v k : ℕ) (answer t : Bool) → 16 ≤ v → v < 240 → (c (v - 16) == k) ≡ t → answer_of p (st m out) (record { comparison = comparisons.Equal; first = atoms.Var v; second = atoms.Num k; answer = answer }) ≡ Some t
  is_word m out c h v k answer t low high e = let room = has.mapped.room in tested p (st m out) comparisons.Equal (atoms.Var v) (atoms.Num k) answer (c (v - 16)) k t (register p (st m out) c v h low high (omega arith)) refl e

  says_space : (m out : List ℕ) → does p (say 32) (st m out) ≡ some_state (st m (out ++ 32 ∷ []))
  says_space m out = says p (st m out) prints.Code (atoms.Num 32) 32 (32 ∷ []) refl (letter_printed m 32 (omega arith) (omega arith))

  says_newline : (m out : List ℕ) → does p (say 13) (st m out) ≡ some_state (st m (out ++ 10 ∷ []))
  says_newline m out = says p (st m out) prints.Code (atoms.Num 13) 13 (10 ∷ []) refl (newline_printed m)

  -- behind the last label
  finish : (m out : List ℕ) (c : ℕ → ℕ) → Holds p.world.layout m c → c 31 ≡ 0 → Ends (drop 23 SEPARATE_ACTS) m c out out 3
  finish m out c h none =
      let room = has.mapped.room in
      let put = puts p (st m out) c 46 0 h (omega arith) (omega arith) (omega arith) (omega arith) in
      let m1 = with_cell m 30 0 in
      let c1 = replaced c 30 0 in
      let put' = puts p (st m1 out) c1 48 0 put.holds (omega arith) (omega arith) (omega arith) (omega arith) in
      let m2 = with_cell m1 32 0 in
      record {
        memory' = m2;
        cells' = replaced c1 32 0;
        holds = put'.holds;
        lines = other_cell c1 32 0 30 (λ e. (omega arith)) ∙ same_cell c 30 0;
        spaces = other_cell c1 32 0 31 (λ e. (omega arith)) ∙ other_cell c 30 0 31 (λ e. (omega arith)) ∙ none;
        asked = same_cell c1 32 0;
        others = λ k no30 no31 no32. other_cell c1 32 0 k no32 ∙ other_cell c 30 0 k no30;
        count = 3;
        few = omega arith;
        runs = done (copies p (st m out) (st m1 out) 46 (atoms.Num 0) 0 refl put.put_is) (done (copies p (st m1 out) (st m2 out) 48 (atoms.Num 0) 0 refl put'.put_is) (returns refl));
      }

  -- so many spaces
  loop : (n : ℕ) (m out : List ℕ) (c : ℕ → ℕ) → Holds p.world.layout m c → c 31 ≡ n → Ends (drop 21 SEPARATE_ACTS) m c out (out ++ replicate n 32) (3 * n + 4)
  unfolding behind_label
  loop zero m out c h is = weaker (omega arith) (sym (append-nil out)) (before 1 (λ s' i r. passed (is_word m out c h 47 0 false true (omega arith) (omega arith) (eq-eqb (c 31) 0 is)) (at_label r)) (finish m out c h is))
  loop (suc n) m out c h is =
      let room = has.mapped.room in
      let small = h.words 31 in
      let out1 = out ++ 32 ∷ [] in
      let put = puts p (st m out1) c 47 n h (omega arith) (omega arith) (omega arith) (omega arith) in
      let m1 = with_cell m 31 n in
      let c1 = replaced c 31 n in
      let r = loop n m1 out1 c1 put.holds (same_cell c 31 n) in
      let few = r.few in
      weaker (omega arith) (append_assoc out (32 ∷ []) (replicate n 32)) (record {
        memory' = r.memory';
        cells' = r.cells';
        holds = r.holds;
        lines = r.lines;
        spaces = r.spaces;
        asked = r.asked;
        others = λ k no30 no31 no32. r.others k no30 no31 no32 ∙ other_cell c 31 n k no31;
        count = suc (suc (suc r.count));
        few = (let le : suc (suc (suc r.count)) ≤ 3 * suc n + 4 = omega arith in le);
        runs = taken (is_word m out c h 47 0 false false (omega arith) (omega arith) (ne_eqb (c 31) 0 (λ (e : c 31 ≡ 0). (omega arith)))) refl
            (done (says_space m out)
            (done (computes p (st m out1) (st m1 out1) 47 functions.Sub (atoms.Var 47) (atoms.Num 1) (suc n) 1 n (register p (st m out1) c 47 h (omega arith) (omega arith) (omega arith) ∙ ap word is) refl (subtracts p m (suc n) 1 n (omega arith) (omega arith)) put.put_is)
            (at_label r.runs)));
      })

  module _ (m : List ℕ) (c : ℕ → ℕ) (h : Holds p.world.layout m c) (met : Met) (meets : Meets c met) (out : List ℕ) where
    abbrev n : ℕ
    n = spaces_from 0 met.gap

    -- a register's value
    known : (v k x : ℕ) (answer t : Bool) (out' : List ℕ) → 16 ≤ v → v < 240 → c (v - 16) ≡ x → (x == k) ≡ t → answer_of p (st m out') (record { comparison = comparisons.Equal; first = atoms.Var v; second = atoms.Num k; answer = answer }) ≡ Some t
    known v k x answer t out' low high e is = is_word m out' c h v k answer t low high (ap (λ (y : ℕ). y == k) e ∙ is)

    is_among : (x y z : ℕ) (t : Bool) → among first x y z ≡ t → answer_of p (st m out) (record { comparison = comparisons.Any (atoms.Num y) (atoms.Num z); first = atoms.Var 1; second = atoms.Num x; answer = true }) ≡ Some t
    is_among x y z t e = rw (local_1 p m first [] typed drawn out) (ap (λ (b : Bool). Some b) e)

    abbrev Separated : List Act → List ℕ → Type 0
    Separated acts final = Ends acts m c out final (3 * n + 14)

    abbrev last_by : Bool → ℕ
    last_by o = if o then 1 else 2

    not_none : (o : Bool) → (last_by o == 0) ≡ false
    not_none true = refl
    not_none false = refl

    last_known : (b : ℕ) → met.last ≡ Some b → (o : Bool) → opens b ≡ o → c 28 ≡ last_by o
    last_known b e o eo = meets.last ∙ ap last_word e ∙ ap last_by eo

    -- spaces alone
    spaced : Ends (drop 21 SEPARATE_ACTS) m c out (out ++ replicate n 32) (3 * n + 4)
    spaced = loop n m out c h meets.spaces

    none_before : met.last ≡ None → Separated SEPARATE_ACTS (out ++ separator met.gap met.last first)
    unfolding behind_label
    none_before e =
        let is : separator met.gap met.last first ≡ replicate n 32 = rw e refl in
        weaker (omega arith) (ap (λ (x : List ℕ). out ++ x) (sym is)) (before 1 (λ s' i r. taken (known 44 0 0 true true out (omega arith) (omega arith) (meets.last ∙ ap last_word e) refl) refl r) spaced)

    -- by the tests of closing characters, where nothing else tells
    closing_tests : (t1 t2 t3 : Bool) → among first 46 44 59 ≡ t1 → among first 58 33 63 ≡ t2 → among first 41 93 125 ≡ t3 → n ≡ 0 → Ends (drop 11 SEPARATE_ACTS) m c out (out ++ (if t1 || (t2 || t3) then [] else 32 ∷ [])) 8
    unfolding behind_label
    closing_tests true t2 t3 e1 e2 e3 none = weaker (omega arith) (sym (append-nil out)) (before 1 (λ s' i r. taken (is_among 46 44 59 true e1) refl r) (finish m out c h (meets.spaces ∙ none)))
    closing_tests false true t3 e1 e2 e3 none = weaker (omega arith) (sym (append-nil out)) (before 2 (λ s' i r. passed (is_among 46 44 59 false e1) (taken (is_among 58 33 63 true e2) refl r)) (finish m out c h (meets.spaces ∙ none)))
    closing_tests false false true e1 e2 e3 none = weaker (omega arith) (sym (append-nil out)) (before 3 (λ s' i r. passed (is_among 46 44 59 false e1) (passed (is_among 58 33 63 false e2) (taken (is_among 41 93 125 true e3) refl r))) (finish m out c h (meets.spaces ∙ none)))
    closing_tests false false false e1 e2 e3 none =
        weaker (omega arith) refl (before 5 (λ s' i r. passed (is_among 46 44 59 false e1) (passed (is_among 58 33 63 false e2) (passed (is_among 41 93 125 false e3) (at_label (done (says_space m out) (goes refl r)))))) (finish m (out ++ 32 ∷ []) c h (meets.spaces ∙ none)))

    -- what stands between two characters
    abbrev between : Option Bool → Bool → Bool → List ℕ
    between (Some true) o t = 32 ∷ []
    between (Some false) o t = []
    between None o t = if o || t then [] else 32 ∷ []

    by_asked : (a : Option Bool) → last_asked None met.gap ≡ a → (o : Bool) → c 28 ≡ (if o then 1 else 2) → n ≡ 0 → Ends (drop 8 SEPARATE_ACTS) m c out (out ++ between a o (closes first)) 11
    unfolding behind_label
    by_asked (Some false) e o l none = weaker (omega arith) (sym (append-nil out)) (before 1 (λ s' i r. taken (known 48 1 1 true true out (omega arith) (omega arith) (meets.asked ∙ ap asked_word e) refl) refl r) (finish m out c h (meets.spaces ∙ none)))
    by_asked (Some true) e o l none =
        let is = meets.asked ∙ ap asked_word e in
        weaker (omega arith) refl (before 4 (λ s' i r. passed (known 48 1 2 true false out (omega arith) (omega arith) is refl) (taken (known 48 2 2 true true out (omega arith) (omega arith) is refl) refl (done (says_space m out) (goes refl r)))) (finish m (out ++ 32 ∷ []) c h (meets.spaces ∙ none)))
    by_asked None e true l none =
        let is = meets.asked ∙ ap asked_word e in
        weaker (omega arith) (sym (append-nil out)) (before 3 (λ s' i r. passed (known 48 1 0 true false out (omega arith) (omega arith) is refl) (passed (known 48 2 0 true false out (omega arith) (omega arith) is refl) (taken (known 44 1 1 true true out (omega arith) (omega arith) l refl) refl r))) (finish m out c h (meets.spaces ∙ none)))
    by_asked None e false l none =
        let is = meets.asked ∙ ap asked_word e in
        weaker (omega arith) (ap (λ (t : Bool). out ++ (if t then [] else 32 ∷ [])) (sym (closes_by first)))
        (before 3 (λ s' i r. passed (known 48 1 0 true false out (omega arith) (omega arith) is refl) (passed (known 48 2 0 true false out (omega arith) (omega arith) is refl) (passed (known 44 1 2 true false out (omega arith) (omega arith) l refl) r)))
        (closing_tests (among first 46 44 59) (among first 58 33 63) (among first 41 93 125) refl refl refl none))

    -- nothing breaks the line
    unbroken : (b : ℕ) → (o : Bool) → opens b ≡ o → c 28 ≡ (if o then 1 else 2) → list_any is_par met.gap ≡ false → list_any is_line met.gap ≡ false → (k : ℕ) → n ≡ k → Ends (drop 7 SEPARATE_ACTS) m c out (out ++ separator met.gap (Some b) first) (3 * n + 12)
    unfolding behind_label
    unbroken b o eo l ep el (suc k) e =
        let is : separator met.gap (Some b) first ≡ replicate n 32 = rw (ep, el, lt-ltb 0 n (omega arith)) refl in
        weaker (omega arith) (ap (λ (x : List ℕ). out ++ x) (sym is)) (before 1 (λ s' i r. taken (known 47 0 (suc k) false false out (omega arith) (omega arith) (meets.spaces ∙ e) (ne_eqb (suc k) 0 (λ (z : suc k ≡ 0). (omega arith)))) refl r) spaced)
    unbroken b o eo l ep el zero e =
        let a = last_asked None met.gap in
        let is : separator met.gap (Some b) first ≡ between a o (closes first) = rw (ep, el, e) (by_asked_is a b o eo) in
        weaker (omega arith) (ap (λ (x : List ℕ). out ++ x) (sym is)) (before 1 (λ s' i r. passed (known 47 0 0 false true out (omega arith) (omega arith) (meets.spaces ∙ e) refl) r) (by_asked a refl o l e))
      where
        by_asked_is : (a : Option Bool) (b : ℕ) (o : Bool) → opens b ≡ o → space_for a b first ≡ between a o (closes first)
        by_asked_is (Some true) b o eo = refl
        by_asked_is (Some false) b o eo = refl
        by_asked_is None b o eo = rw eo refl

    some_before : (b : ℕ) → met.last ≡ Some b → (o : Bool) → opens b ≡ o → (t u : Bool) → list_any is_par met.gap ≡ t → list_any is_line met.gap ≡ u → Separated SEPARATE_ACTS (out ++ separator met.gap (Some b) first)
    unfolding behind_label
    some_before b e o eo true u ep el =
        let l = last_known b e o eo in
        let broken : c 30 ≡ 2 = meets.lines ∙ rw ep refl in
        let is : separator met.gap (Some b) first ≡ 10 ∷ 10 ∷ replicate n 32 = rw ep refl in
        let out1 = out ++ 10 ∷ [] in
        let out2 = out1 ++ 10 ∷ [] in
        let final : out2 ++ replicate n 32 ≡ out ++ separator met.gap (Some b) first = append_assoc out1 (10 ∷ []) (replicate n 32) ∙ append_assoc out (10 ∷ []) (10 ∷ replicate n 32) ∙ ap (λ (x : List ℕ). out ++ x) (sym is) in
        weaker (omega arith) final (before 6 (λ s' i r. passed (known 44 0 (last_by o) true false out (omega arith) (omega arith) l (not_none o)) (passed (known 46 0 2 true false out (omega arith) (omega arith) broken refl) (done (says_newline m out) (passed (known 46 1 2 true false out1 (omega arith) (omega arith) broken refl) (done (says_newline m out1) (goes refl r)))))) (loop n m out2 c h meets.spaces))
    some_before b e o eo false true ep el =
        let l = last_known b e o eo in
        let broken : c 30 ≡ 1 = meets.lines ∙ rw (ep, el) refl in
        let is : separator met.gap (Some b) first ≡ 10 ∷ replicate n 32 = rw (ep, el) refl in
        let out1 = out ++ 10 ∷ [] in
        let final : out1 ++ replicate n 32 ≡ out ++ separator met.gap (Some b) first = append_assoc out (10 ∷ []) (replicate n 32) ∙ ap (λ (x : List ℕ). out ++ x) (sym is) in
        weaker (omega arith) final (before 4 (λ s' i r. passed (known 44 0 (last_by o) true false out (omega arith) (omega arith) l (not_none o)) (passed (known 46 0 1 true false out (omega arith) (omega arith) broken refl) (done (says_newline m out) (taken (known 46 1 1 true true out1 (omega arith) (omega arith) broken refl) refl r)))) (loop n m out1 c h meets.spaces))
    some_before b e o eo false false ep el =
        let l = last_known b e o eo in
        let broken : c 30 ≡ 0 = meets.lines ∙ rw (ep, el) refl in
        weaker (omega arith) refl (before 2 (λ s' i r. passed (known 44 0 (last_by o) true false out (omega arith) (omega arith) l (not_none o)) (taken (known 46 0 0 true true out (omega arith) (omega arith) broken refl) refl r)) (unbroken b o eo l ep el n refl))

    by_last : (l : Option ℕ) → met.last ≡ l → Separated SEPARATE_ACTS (out ++ separator met.gap met.last first)
    by_last None e = none_before e
    by_last (Some b) e = weaker (omega arith) (ap (λ (l : Option ℕ). out ++ separator met.gap l first) (sym e)) (some_before b e (opens b) refl (list_any is_par met.gap) (list_any is_line met.gap) refl refl)

pub separate_works : SeparateWorks
separate_works p has f w memory typed output drawn first cells h m meets =
    let r = by_last p has f w typed drawn first memory cells h m meets output m.last refl in
    record { memory' = r.memory'; cells' = r.cells'; holds = r.holds; lines = r.lines; spaces = r.spaces; asked = r.asked; others = r.others; count = r.count; few = r.few; runs = r.runs }

-- It is called with the first character of a piece.
pub calls_separate : (p : Program) (has : HasRunTime p) (f w : ℕ) → 1 ≤ f → 1 ≤ w → (body rest : List Act) (a : Atom) (memory locals typed output : List ℕ) (drawn first : ℕ) (cells : ℕ → ℕ) (m : Met) (r : Separates p 0 0 memory typed output drawn first cells m) → value p (state memory locals typed drawn output) a ≡ word first →
    (o : Outcome) (s' : State) (n : ℕ) → Runs p f w body rest (state r.memory' locals typed drawn (output ++ separator m.gap m.last first)) o s' n → Runs p f w body (acts.Call None (atoms.Routine SEPARATE) (args.One a) ∷ rest) (state memory locals typed drawn output) o s' (suc r.count + n)
calls_separate p has f w some enough body rest a memory locals typed output drawn first cells m r e o s' n q =
    calls {f' = 0} {w' = 0} {n = r.count} {n' = n} {xs = (first, 0, 0)} {s1 = state r.memory' (first ∷ []) typed drawn (output ++ separator m.gap m.last first)} {s2 = state r.memory' locals typed drawn (output ++ separator m.gap m.last first)} refl (rw e refl) (separate_at p has) some enough r.runs refl q
