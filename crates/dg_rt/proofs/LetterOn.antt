-- The routine that lays what a letter spells in front of a list does so.
use Rattle.std.proofs.Common.{◌≡◌, ◌≢◌, ℕ, suc, ◌+◌, ◌*◌, ◌%◌, ◌<◌, ◌≤◌, inl, inr, Bool, true, false, List, [], ◌∷◌, ◌++◌, drop, length, Some, refl, sym, ap, ◌∙◌, subst, arith}
use Rattle.std.specs.Prelude.{◌==◌}
use Rattle.std.proofs.lemmas.Bool.{eq-eqb, ne_eqb, cases_lt}
use Rattle.dg_base.specs.declared.run.Ending.TheVariants.{HeapLimit}
use Rattle.z_model.specs.declared.end.Halt.TheVariants.{AtQuit}
use Rattle.dg_meaning.specs.Copies.{copy_cells, all_copy_cells}
use Rattle.dg_meaning.specs.Values.{Num, Word, Unknown, Value, More, NoMore, leaf}
use Rattle.dg_meaning.specs.Words.{word_from, spelled_value}
use Rattle.z_lang.specs.declared.act.Act.{Act}
use Rattle.z_lang.specs.declared.act.Act.TheVariants as acts
use Rattle.z_lang.specs.declared.act.Atom.{Atom}
use Rattle.z_lang.specs.declared.act.Atom.TheVariants as atoms
use Rattle.z_lang.specs.declared.act.Comparison.TheVariants as comparisons
use Rattle.z_lang.specs.declared.act.Function.TheVariants as functions
use Rattle.z_lang.specs.declared.act.Width.TheVariants as widths
use Rattle.z_lang.specs.State.{State, Program, value}
use Rattle.z_lang.specs.Acts.{answer_of}
use Rattle.z_lang.specs.Runs.{ActsRun as Runs, ActsOutcome, Returns, Stops, at_label, goes, taken, passed, done, calls, returns, behind_label}
use Rattle.dg_rt.specs.declared.numbers.TheConstants.{SPELLED_NUMBER, FIND_WORD}
use Rattle.dg_rt.specs.declared.dictionary.TheConstants.{FIND_WORD_ACTS}
use Rattle.dg_rt.specs.declared.typing.TheConstants.{SPELLED_NUMBER_ACTS}
use Rattle.dg_rt.specs.declared.splitting.TheConstants.{LETTER_ON_ACTS}
use Rattle.dg_rt.specs.Cells.{compared, at_cell, with_cell}
use Rattle.dg_rt.specs.Areas.{heap_at, state}
use Rattle.dg_rt.specs.Closings.{closing, closing_most}
use Rattle.dg_rt.specs.Dictionary.{HasSpellings, dict_word, FindsWord}
use Rattle.dg_rt.specs.Laying.{copy_word, Lies}
use Rattle.dg_rt.specs.RunTime.{routine_of, HasRunTime}
use Rattle.dg_rt.specs.Shapes.{ArePrinted}
use Rattle.dg_rt.specs.Typing.{number_spelled, TellsNumber}
use Rattle.dg_rt.proofs.Cells.{writes_cell}
use Rattle.dg_rt.proofs.Charging.{quits_full}
use Rattle.dg_rt.proofs.FindingWords.{find_works}
use Rattle.dg_rt.proofs.Following.{word, tested, computes, copies, writes, register, put_register}
use Rattle.dg_rt.proofs.LaySteps.{Laid, lies_keep, replaced_at, replaced_else, copy_word_small, M, in_m, wrote, Did, Store}
use Rattle.dg_rt.proofs.LineValues.{one_value}
use Rattle.dg_rt.proofs.Locals.{first, second, third, fourth, fifth, put_first, put_third, put_fourth, put_fifth, added, subtracts, more_by, not_more_by}
use Rattle.dg_rt.proofs.SpelledCells.{Numbered, a_number, no_number, numbered, Looked, a_word, unknown, looked}
use Rattle.dg_rt.proofs.SpelledNumbers.{tells_number}
use Rattle.dg_rt.proofs.SplitLists.{alone, alone_formed}

spelled_number_at : (p : Program) → HasRunTime p → p.routine_at (p.names.routine SPELLED_NUMBER) ≡ Some (routine_of 4 SPELLED_NUMBER_ACTS)
spelled_number_at p has = has.each 116 (routine_of 4 SPELLED_NUMBER_ACTS) refl

find_word_at : (p : Program) → HasRunTime p → p.routine_at (p.names.routine FIND_WORD) ≡ Some (routine_of 4 FIND_WORD_ACTS)
find_word_at p has = has.each 113 (routine_of 4 FIND_WORD_ACTS) refl

module _ (io : Laid) (words : List (List ℕ)) where
  open io use {p, story, captures, has, typed, output, drawn, area}

  -- ## What is laid

  -- The list of what letters spell lies on top of the heap, from a place on, and this is its word.
  pub record Listed (m : M io) (lo : ℕ) (ls : List ℕ) (x : ℕ) : Type 0 where
    pub heap : m.cells 3 ≡ lo + copy_cells (alone words ls)
    pub lies : Lies (λ k. m.cells (heap_at + k)) lo (alone words ls)
    pub word : x ≡ copy_word lo (alone words ls)
    pub room : lo + copy_cells (alone words ls) ≤ 10000
    pub printed : ArePrinted ls

  -- Words are the same but for how many cells are taken, and those of the heap from a place on.
  abbrev pub Same : M io → M io → ℕ → Type 0
  Same m m' lo = (k : ℕ) → k ≢ 3 → (heap_at + lo ≤ k → 10315 ≤ k) → m'.cells k ≡ m.cells k

  -- Acts lay that list and answer its word, or they meet the heap's limit.
  pub data Lays (f w : ℕ) (body acts : List Act) (m : M io) (lo : ℕ) (s : State) (all : List ℕ) (most : ℕ) : Type 0 where
    all_laid : (m' : M io) (x : ℕ) (locals' : List ℕ) (count : ℕ) → Listed m' lo all x → Same m m' lo → count ≤ most →
        Runs p f w body acts s (Returns x) (in_m io m' locals') count → Lays f w body acts m lo s all most
    no_room : (memory' : List ℕ) (count : ℕ) → 10000 < lo + copy_cells (alone words all) → count ≤ most + closing_most →
        Runs p f w body acts s (Stops AtQuit) (state memory' [] typed drawn (output ++ closing (m.cells 28) HeapLimit)) count → Lays f w body acts m lo s all most

  -- acts in front
  pub in_front : {f w lo most : ℕ} {body acts acts' : List Act} {m : M io} {s s1 : State} {all : List ℕ} (most' : ℕ) (g : ℕ → ℕ) →
      ((i : ℕ) → i ≤ most → g i ≤ most') → ((i : ℕ) → i ≤ most + closing_most → g i ≤ most' + closing_most) →
      ((o : ActsOutcome) (s' : State) (i : ℕ) → Runs p f w body acts' s1 o s' i → Runs p f w body acts s o s' (g i)) →
      Lays f w body acts' m lo s1 all most → Lays f w body acts m lo s all most'
  in_front most' g le le' way (all_laid m' x locals' count l same few runs) = all_laid m' x locals' (g count) l same (le count few) (way (Returns x) (in_m io m' locals') count runs)
  in_front {m = m} most' g le le' way (no_room memory' count over few runs) = no_room memory' (g count) over (le' count few) (way (Stops AtQuit) (state memory' [] typed drawn (output ++ closing (m.cells 28) HeapLimit)) count runs)

  -- ## Words that are written

  pub heap_is : (m : M io) (ls : List ℕ) → value p (in_m io m ls) (atoms.Var 19) ≡ word (m.cells 3)
  heap_is m ls = let r = has.has.mapped.room in register p (in_m io m ls) m.cells 19 m.holds (omega arith) (omega arith) (omega arith)

  did_write : (m : M io) (ls : List ℕ) (a : ℕ) (b c : Atom) (ptr k x : ℕ) → value p (in_m io m ls) b ≡ word ptr → value p (in_m io m ls) c ≡ word x → (a + 2 * ptr) % 65536 ≡ at_cell k → k < 12315 → x < 65536 → Did io (Store io a b c) m ls k x
  did_write m ls a b c ptr k x eb ec e lt small =
      let r = has.has.mapped.room in
      record {
        m' = wrote io m k x lt small;
        is = writes p (in_m io m ls) widths.Word (atoms.Num a) b c a ptr x (with_cell m.memory k x) refl eb ec (writes_cell p.world.layout m.memory m.cells a ptr x k m.holds e (omega arith));
        at = replaced_at m.cells k x;
        keeps = replaced_else m.cells k x;
      }

  did_charge : (m : M io) (ls : List ℕ) (x : ℕ) → value p (in_m io m ls) (atoms.Var 4) ≡ word x → x < 65536 → Did io (acts.Copy 19 (atoms.Var 4)) m ls 3 x
  did_charge m ls x e small = record {
    m' = wrote io m 3 x (omega arith) small;
    is = copies p (in_m io m ls) (in_m io (wrote io m 3 x (omega arith) small) ls) 19 (atoms.Var 4) x e (put_register p (in_m io m ls) 19 x m.holds.globals (omega arith) (omega arith));
    at = replaced_at m.cells 3 x;
    keeps = replaced_else m.cells 3 x;
  }

  abbrev five : ℕ → ℕ → ℕ → ℕ → ℕ → List ℕ
  five a b c d e = a ∷ b ∷ c ∷ d ∷ e ∷ []

  -- ## The routine

  module _ (f w : ℕ) (some : 3 ≤ f) (enough : 13 ≤ w) (m : M io) (lo c x : ℕ) (ls : List ℕ) (l : Listed m lo ls x) (fine : ArePrinted (c ∷ [])) (dict : HasSpellings p story words) where
    abbrev Run : List Act → State → ActsOutcome → State → ℕ → Type 0
    Run acts s o s' i = Runs p f w LETTER_ON_ACTS acts s o s' i

    abbrev u : Value
    u = spelled_value words (c ∷ [])

    abbrev rest : Value
    rest = alone words ls

    -- where the heap ends, and where the pair lies
    abbrev q : ℕ
    q = lo + all_copy_cells (More rest NoMore)

    abbrev k : ℕ
    k = lo + all_copy_cells (More u (More rest NoMore))

    abbrev box : ℕ
    box = 49152 + k

    abbrev hw : ℕ
    hw = copy_word q u

    x_small : x < 65536
    x_small = let room = l.room in subst (λ (i : ℕ). i < 65536) (sym l.word) (copy_word_small captures lo rest (alone_formed captures words dict.few ls l.printed) room)

    u_few : copy_cells u ≤ 6
    u_few = let few = (one_value captures words dict.few (c ∷ []) fine).few_cells in omega arith

    -- ---- the pair

    module _ (m2 : M io) (d e : ℕ) (lies : Lies (λ i. m2.cells (heap_at + i)) q u) (same : Same m m2 q) where
      abbrev end : ℕ
      end = 3 + k

      abbrev st : M io → ℕ → State
      st m' d' = in_m io m' (five hw x box d' e)

      low : k ≤ 10006
      low = let a = u_few in let b = l.room in omega arith

      to_test : (o : ActsOutcome) (s' : State) (i : ℕ) → Run (drop 17 LETTER_ON_ACTS) (st m2 end) o s' i → Run (drop 16 LETTER_ON_ACTS) (st m2 d) o s' (suc i)
      to_test o s' i go =
          let le = low in
          done (computes p (st m2 d) (st m2 end) 4 functions.Sub (atoms.Var 3) (atoms.Num 49149) box 49149 end (third p m2.memory hw x box d e typed drawn output) refl (subtracts p m2.memory box 49149 end (omega arith) (omega arith)) (put_fourth p m2.memory hw x box d e end typed drawn output)) go

      tested_end : (t : Bool) → compared comparisons.Greater end 10000 ≡ t → answer_of p (st m2 end) (record { comparison = comparisons.Greater; first = atoms.Var 4; second = atoms.Num 10000; answer = true }) ≡ Some t
      tested_end t g = tested p (st m2 end) comparisons.Greater (atoms.Var 4) (atoms.Num 10000) true end 10000 t (fourth p m2.memory hw x box end e typed drawn output) refl g

      pair_full : 10000 < end → Lays f w LETTER_ON_ACTS (drop 16 LETTER_ON_ACTS) m lo (st m2 d) (c ∷ ls) 7
      unfolding behind_label
      pair_full over =
          let le = low in
          let z = quits_full p has.has f w (omega arith) LETTER_ON_ACTS (acts.Quit ∷ []) m2.memory (five hw x box end e) typed output drawn (m.cells 28) m2.cells m2.holds (same 28 (λ g. (omega arith)) (λ g. (omega arith))) in
          let few = z.few in
          no_room m2.memory (suc (suc (suc z.count))) (omega arith) (omega arith)
          (to_test (Stops AtQuit) (state m2.memory [] typed drawn (output ++ closing (m.cells 28) HeapLimit)) (suc (suc z.count))
          (taken (tested_end true (more_by end 10000 (omega arith) (omega arith) (omega arith))) refl z.runs))

      pair_fits : end ≤ 10000 → (s1 : Did io (acts.Copy 19 (atoms.Var 4)) m2 (five hw x box end e) 3 end) (s2 : Did io (Store io 33438 (atoms.Var 3) (atoms.Num 0)) s1.m' (five hw x box end e) (heap_at + k) 0) (s3 : Did io (Store io 33440 (atoms.Var 3) (atoms.Var 1)) s2.m' (five hw x box end e) (heap_at + (k + 1)) hw) → Did io (Store io 33442 (atoms.Var 3) (atoms.Var 2)) s3.m' (five hw x box end e) (heap_at + (k + 2)) x → Lays f w LETTER_ON_ACTS (drop 16 LETTER_ON_ACTS) m lo (st m2 d) (c ∷ ls) 7
      pair_fits fits s1 s2 s3 s4 =
          let le = low in
          let few = u_few in
          let keep : (i : ℕ) → i < k → s4.m'.cells (heap_at + i) ≡ m2.cells (heap_at + i) = λ i lt. s4.keeps (heap_at + i) (λ g. (omega arith)) ∙ s3.keeps (heap_at + i) (λ g. (omega arith)) ∙ s2.keeps (heap_at + i) (λ g. (omega arith)) ∙ s1.keeps (heap_at + i) (λ g. (omega arith)) in
          let here : lo ≡ lo + all_copy_cells NoMore = omega arith in
          let next : suc (k + 1) ≡ k + 2 = omega arith in
          let formed = alone_formed captures words dict.few ls l.printed in
          all_laid s4.m' box (five hw x box end e) 7
          (record {
            heap = s4.keeps 3 (λ g. (omega arith)) ∙ s3.keeps 3 (λ g. (omega arith)) ∙ s2.keeps 3 (λ g. (omega arith)) ∙ s1.at ∙ (omega arith);
            lies = (
              (
                s4.keeps (heap_at + k) (λ g. (omega arith)) ∙ s3.keeps (heap_at + k) (λ g. (omega arith)) ∙ s2.at,
                (
                  s4.keeps (heap_at + (k + 1)) (λ g. (omega arith)) ∙ s3.at,
                  (ap (λ (i : ℕ). s4.m'.cells (heap_at + i)) next ∙ s4.at ∙ l.word ∙ ap (λ (i : ℕ). copy_word i rest) here, tt),
                ),
              ),
              (
                lies_keep captures (λ i. m2.cells (heap_at + i)) (λ i. s4.m'.cells (heap_at + i)) u q (one_value captures words dict.few (c ∷ []) fine).formed (λ i from to. keep i (omega arith)) lies,
                (
                  subst (λ (j : ℕ). Lies (λ i. s4.m'.cells (heap_at + i)) j rest) here (lies_keep captures (λ i. m.cells (heap_at + i)) (λ i. s4.m'.cells (heap_at + i)) rest lo formed (λ i from to. keep i (omega arith) ∙ same (heap_at + i) (λ g. (omega arith)) (λ g. (omega arith))) l.lies),
                  tt,
                ),
              ),
            );
            word = refl;
            room = omega arith;
            printed = (fine.0, l.printed);
          })
          (λ j n3 far. s4.keeps j (λ g. (let z = far (omega arith) in omega arith)) ∙ s3.keeps j (λ g. (let z = far (omega arith) in omega arith)) ∙ s2.keeps j (λ g. (let z = far (omega arith) in omega arith)) ∙ s1.keeps j n3 ∙ same j n3 (λ g. far (omega arith)))
          (omega arith)
          (to_test (Returns box) (in_m io s4.m' (five hw x box end e)) 6
          (passed (tested_end false (not_more_by end 10000 (omega arith) (omega arith) fits))
          (done s1.is (done s2.is (done s3.is (done s4.is (returns (third p s4.m'.memory hw x box end e typed drawn output))))))))

      hw_small : end ≤ 10000 → hw < 65536
      hw_small fits = let a = u_few in let b = l.room in copy_word_small captures q u (one_value captures words dict.few (c ∷ []) fine).formed (omega arith)

      abbrev ls5 : List ℕ
      ls5 = five hw x box end e

      tailed : end ≤ 10000 → (s1 : Did io (acts.Copy 19 (atoms.Var 4)) m2 ls5 3 end) (s2 : Did io (Store io 33438 (atoms.Var 3) (atoms.Num 0)) s1.m' ls5 (heap_at + k) 0) → Did io (Store io 33440 (atoms.Var 3) (atoms.Var 1)) s2.m' ls5 (heap_at + (k + 1)) hw → Lays f w LETTER_ON_ACTS (drop 16 LETTER_ON_ACTS) m lo (st m2 d) (c ∷ ls) 7
      tailed fits s1 s2 s3 = pair_fits fits s1 s2 s3 (did_write s3.m' ls5 33442 (atoms.Var 3) (atoms.Var 2) box (heap_at + (k + 2)) x (third p s3.m'.memory hw x box end e typed drawn output) (second p s3.m'.memory hw x box end e typed drawn output) (omega arith) (omega arith) x_small)

      headed : end ≤ 10000 → (s1 : Did io (acts.Copy 19 (atoms.Var 4)) m2 ls5 3 end) → Did io (Store io 33438 (atoms.Var 3) (atoms.Num 0)) s1.m' ls5 (heap_at + k) 0 → Lays f w LETTER_ON_ACTS (drop 16 LETTER_ON_ACTS) m lo (st m2 d) (c ∷ ls) 7
      headed fits s1 s2 = tailed fits s1 s2 (did_write s2.m' ls5 33440 (atoms.Var 3) (atoms.Var 1) box (heap_at + (k + 1)) hw (third p s2.m'.memory hw x box end e typed drawn output) (first p s2.m'.memory hw x box end e typed drawn output) (omega arith) (omega arith) (hw_small fits))

      charged : end ≤ 10000 → Did io (acts.Copy 19 (atoms.Var 4)) m2 ls5 3 end → Lays f w LETTER_ON_ACTS (drop 16 LETTER_ON_ACTS) m lo (st m2 d) (c ∷ ls) 7
      charged fits s1 = headed fits s1 (did_write s1.m' ls5 33438 (atoms.Var 3) (atoms.Num 0) box (heap_at + k) 0 (third p s1.m'.memory hw x box end e typed drawn output) refl (omega arith) (omega arith) (omega arith))

      pair_room : end ≤ 10000 → Lays f w LETTER_ON_ACTS (drop 16 LETTER_ON_ACTS) m lo (st m2 d) (c ∷ ls) 7
      pair_room fits = charged fits (did_charge m2 ls5 end (fourth p m2.memory hw x box end e typed drawn output) (omega arith))

      pair_on : Lays f w LETTER_ON_ACTS (drop 16 LETTER_ON_ACTS) m lo (st m2 d) (c ∷ ls) 7
      pair_on = elim (cases_lt 10000 end) [
        | inl over ↦ pair_full over
        | inr fits ↦ pair_room fits
      ]

      pair_of : (h b : ℕ) → hw ≡ h → box ≡ b → Lays f w LETTER_ON_ACTS (drop 16 LETTER_ON_ACTS) m lo (in_m io m2 (five h x b d e)) (c ∷ ls) 7
      pair_of h b is is' = subst (λ (i : ℕ). Lays f w LETTER_ON_ACTS (drop 16 LETTER_ON_ACTS) m lo (in_m io m2 (five i x b d e)) (c ∷ ls) 7) is (subst (λ (j : ℕ). Lays f w LETTER_ON_ACTS (drop 16 LETTER_ON_ACTS) m lo (in_m io m2 (five hw x j d e)) (c ∷ ls) 7) is' pair_on)

    -- ---- what the letter spells

    -- where the letter is written
    abbrev kk : ℕ
    kk = heap_at + (q + 3)

    abbrev a : ℕ
    a = at_cell kk

    abbrev a2 : ℕ
    a2 = at_cell (kk + length (c ∷ []))

    abbrev b0 : ℕ
    b0 = 49152 + q

    heap_q : m.cells 3 ≡ q
    heap_q = l.heap ∙ omega arith

    low_q : q ≤ 10000
    low_q = let b = l.room in omega arith

    module _ (s1 : Did io (Store io 33444 (atoms.Var 3) (atoms.Var 1)) m (five c x b0 0 0) kk c) where
      abbrev m1 : M io
      m1 = s1.m'

      same_1 : Same m m1 q
      same_1 j n3 far = s1.keeps j (λ g. (let z = far (omega arith) in let b = low_q in omega arith))

      tells : TellsNumber p 0 0 m1.memory typed output drawn kk (c ∷ [])
      tells = let room = has.has.mapped.room in let b = low_q in tells_number p 0 0 m1.memory typed output drawn m1.cells m1.holds kk (c ∷ []) (omega arith) (omega arith) (s1.at, tt)

      finds : FindsWord p words 2 9 m1.memory typed output drawn kk (c ∷ [])
      finds = let room = has.has.mapped.room in let b = low_q in find_works p has.has story words dict 2 9 (omega arith) (omega arith) m1.memory typed output drawn m1.cells m1.holds m1.kept kk (c ∷ []) (omega arith) (omega arith) (s1.at, tt)

      abbrev y : ℕ
      y = number_spelled (c ∷ [])

      abbrev z : ℕ
      z = dict_word (word_from 0 words (c ∷ []))

      abbrev at : ℕ → ℕ → State
      at h b = in_m io m1 (five h x b a a2)

      to_number : (n1 : TellsNumber p 0 0 m1.memory typed output drawn kk (c ∷ [])) (o : ActsOutcome) (s' : State) (i : ℕ) → Run (drop 6 LETTER_ON_ACTS) (at y b0) o s' i → Run LETTER_ON_ACTS (in_m io m (five c x 0 0 0)) o s' (suc (suc (suc (suc (suc (suc n1.count + i))))))
      to_number n1 o s' i go =
          let b = low_q in
          let top = heap_q in
          let top' = s1.keeps 3 (λ g. (omega arith)) ∙ heap_q in
          let dd = q + q in
          done (computes p (in_m io m (five c x 0 0 0)) (in_m io m (five c x b0 0 0)) 3 functions.Add (atoms.Var 19) (atoms.Num 49152) (m.cells 3) 49152 b0 (heap_is m (five c x 0 0 0)) refl (added p m.memory (m.cells 3) 49152 b0 (omega arith)) (put_third p m.memory c x 0 0 0 b0 typed drawn output))
          (done s1.is
          (done (computes p (in_m io m1 (five c x b0 0 0)) (in_m io m1 (five c x b0 dd 0)) 4 functions.Add (atoms.Var 19) (atoms.Var 19) (m1.cells 3) (m1.cells 3) dd (heap_is m1 (five c x b0 0 0)) (heap_is m1 (five c x b0 0 0)) (added p m1.memory (m1.cells 3) (m1.cells 3) dd (omega arith)) (put_fourth p m1.memory c x b0 0 0 dd typed drawn output))
          (done (computes p (in_m io m1 (five c x b0 dd 0)) (in_m io m1 (five c x b0 a 0)) 4 functions.Add (atoms.Var 4) (atoms.Num 676) dd 676 a (fourth p m1.memory c x b0 dd 0 typed drawn output) refl (added p m1.memory dd 676 a (omega arith)) (put_fourth p m1.memory c x b0 dd 0 a typed drawn output))
          (done (computes p (in_m io m1 (five c x b0 a 0)) (in_m io m1 (five c x b0 a a2)) 5 functions.Add (atoms.Var 4) (atoms.Num 2) a 2 a2 (fourth p m1.memory c x b0 a 0 typed drawn output) refl (added p m1.memory a 2 a2 (omega arith)) (put_fifth p m1.memory c x b0 a 0 a2 typed drawn output))
          (calls {f' = 0} {w' = 0} {n = n1.count} {n' = i} {xs = (a, a2, 0)} {s2 = at y b0} refl (rw (fourth p m1.memory c x b0 a a2 typed drawn output, fifth p m1.memory c x b0 a a2 typed drawn output) refl) (spelled_number_at p has.has) (omega arith) (omega arith) n1.runs (put_first p m1.memory c x b0 a a2 y typed drawn output)
          go)))))

      is_none : (h : ℕ) (t : Bool) → (h == 65535) ≡ t → answer_of p (at h b0) (record { comparison = comparisons.Equal; first = atoms.Var 1; second = atoms.Num 65535; answer = false }) ≡ Some t
      is_none h t e = tested p (at h b0) comparisons.Equal (atoms.Var 1) (atoms.Num 65535) false h 65535 t (first p m1.memory h x b0 a a2 typed drawn output) refl e

      to_word : y ≡ 65535 → (n2 : FindsWord p words 2 9 m1.memory typed output drawn kk (c ∷ [])) (o : ActsOutcome) (s' : State) (i : ℕ) → Run (drop 8 LETTER_ON_ACTS) (at z b0) o s' i → Run (drop 6 LETTER_ON_ACTS) (at y b0) o s' (suc (suc n2.count + i))
      to_word none n2 o s' i go =
          passed (is_none y true (eq-eqb y 65535 none))
          (calls {f' = 2} {w' = 9} {n = n2.count} {n' = i} {xs = (a, a2, 0)} {s2 = at z b0} refl (rw (fourth p m1.memory y x b0 a a2 typed drawn output, fifth p m1.memory y x b0 a a2 typed drawn output) refl) (find_word_at p has.has) (omega arith) (omega arith) n2.runs (put_first p m1.memory y x b0 a a2 z typed drawn output)
          go)

      abbrev Here : List Act → State → ℕ → Type 0
      Here acts s most = Lays f w LETTER_ON_ACTS acts m lo s (c ∷ ls) most

      -- a number
      of_number : (n : ℕ) → n < 16384 → y ≡ n → u ≡ leaf (Num n) → Here (drop 6 LETTER_ON_ACTS) (at y b0) 8
      unfolding behind_label
      of_number n lt is value =
          let none = ap copy_cells value in
          let lie = subst (Lies (λ i. m1.cells (heap_at + i)) q) (sym value) (tt, tt) in
          in_front 8 (λ i. suc i) (λ i le. (omega arith)) (λ i le. (omega arith)) (λ o s' i go. taken (is_none y false (ne_eqb y 65535 (λ (e : y ≡ 65535). (omega arith)))) refl go)
          (pair_of m1 a a2 lie same_1 y b0 (ap (copy_word q) value ∙ sym is) (omega arith))

      -- a word of the program
      of_word : (n : ℕ) → n < 8192 → z ≡ n → u ≡ leaf (Word n) → Here (drop 8 LETTER_ON_ACTS) (at z b0) 9
      unfolding behind_label
      of_word n lt is value =
          let none = ap copy_cells value in
          let lie = subst (Lies (λ i. m1.cells (heap_at + i)) q) (sym value) (tt, tt) in
          let h = 16384 + n in
          in_front 9 (λ i. suc (suc i)) (λ i le. (omega arith)) (λ i le. (omega arith))
          (λ o s' i go. taken (is_none z false (ne_eqb z 65535 (λ (e : z ≡ 65535). (omega arith)))) refl
          (done (computes p (at z b0) (at h b0) 1 functions.Add (atoms.Var 1) (atoms.Num 16384) z 16384 h (first p m1.memory z x b0 a a2 typed drawn output) refl (added p m1.memory z 16384 h (omega arith)) (put_first p m1.memory z x b0 a a2 h typed drawn output))
          (at_label go)))
          (pair_of m1 a a2 lie same_1 h b0 (ap (copy_word q) value) (omega arith))

      -- an unknown word
      of_unknown : z ≡ 65535 → u ≡ leaf (Unknown (c ∷ [])) → Did io (Store io 33438 (atoms.Var 3) (atoms.Num 32769)) m1 (five z x b0 a a2) (heap_at + q) 32769 → Here (drop 8 LETTER_ON_ACTS) (at z b0) 12
      unfolding behind_label
      of_unknown none value s2 =
          let b = low_q in
          let six = ap copy_cells value in
          let b6 = 49152 + (q + 6) in
          let m2 = s2.m' in
          let here : q + all_copy_cells NoMore ≡ q = omega arith in
          let behind : q + all_copy_cells NoMore + 3 ≡ q + 3 = omega arith in
          let lie = subst (Lies (λ i. m2.cells (heap_at + i)) q) (sym value) ((ap (λ (i : ℕ). m2.cells (heap_at + i)) here ∙ s2.at, (ap (λ (i : ℕ). m2.cells (heap_at + i)) behind ∙ s2.keeps kk (λ g. (omega arith)) ∙ s1.at, tt)), tt) in
          let same : Same m m2 q = λ j n3 far. s2.keeps j (λ g. (let v = far (omega arith) in omega arith)) ∙ same_1 j n3 far in
          in_front 12 (λ i. suc (suc (suc (suc (suc i))))) (λ i le. (omega arith)) (λ i le. (omega arith))
          (λ o s' i go. passed (is_none z true (eq-eqb z 65535 none))
          (done s2.is
          (done (copies p (in_m io m2 (five z x b0 a a2)) (in_m io m2 (five b0 x b0 a a2)) 1 (atoms.Var 3) b0 (third p m2.memory z x b0 a a2 typed drawn output) (put_first p m2.memory z x b0 a a2 b0 typed drawn output))
          (done (computes p (in_m io m2 (five b0 x b0 a a2)) (in_m io m2 (five b0 x b6 a a2)) 3 functions.Add (atoms.Var 3) (atoms.Num 6) b0 6 b6 (third p m2.memory b0 x b0 a a2 typed drawn output) refl (added p m2.memory b0 6 b6 (omega arith)) (put_third p m2.memory b0 x b0 a a2 b6 typed drawn output))
          (goes refl go)))))
          (pair_of m2 a a2 lie same b0 b6 (ap (copy_word q) value ∙ omega arith) (omega arith))

      by_word : (v : Value) → word_from 0 words (c ∷ []) ≡ v → u ≡ v → Looked (c ∷ []) v → Here (drop 8 LETTER_ON_ACTS) (at z b0) 12
      by_word v is value (a_word n lt e) = in_front 12 (λ i. i) (λ i le. (omega arith)) (λ i le. (omega arith)) (λ o s' i go. go) (of_word n lt (ap dict_word (is ∙ e)) (value ∙ e))
      by_word v is value (unknown e) =
          let b = low_q in
          of_unknown (ap dict_word (is ∙ e)) (value ∙ e)
          (did_write m1 (five z x b0 a a2) 33438 (atoms.Var 3) (atoms.Num 32769) b0 (heap_at + q) 32769 (third p m1.memory z x b0 a a2 typed drawn output) refl (omega arith) (omega arith) (omega arith))

      by_number : Numbered (c ∷ []) → TellsNumber p 0 0 m1.memory typed output drawn kk (c ∷ []) → FindsWord p words 2 9 m1.memory typed output drawn kk (c ∷ []) → Here LETTER_ON_ACTS (in_m io m (five c x 0 0 0)) (length words * 47 + 80)
      by_number (a_number n lt is value) n1 n2 =
          let few1 = n1.few in
          in_front (length words * 47 + 80) (λ i. suc (suc (suc (suc (suc (suc n1.count + i)))))) (λ i le. (omega arith)) (λ i le. (omega arith)) (to_number n1) (of_number n lt is (value words))
      by_number (no_number none value) n1 n2 =
          let few1 = n1.few in
          let few2 = n2.few in
          in_front (length words * 47 + 80) (λ i. suc (suc (suc (suc (suc (suc n1.count + suc (suc n2.count + i))))))) (λ i le. (omega arith)) (λ i le. (omega arith))
          (λ o s' i go. to_number n1 o s' (suc (suc n2.count + i)) (to_word none n2 o s' i go))
          (by_word (word_from 0 words (c ∷ [])) refl (value words) (looked 0 words (c ∷ []) (let few = dict.few in omega arith)))

      letter_by : Here LETTER_ON_ACTS (in_m io m (five c x 0 0 0)) (length words * 47 + 80)
      letter_by = by_number (numbered (c ∷ [])) tells finds

    -- The list of the letter and those behind it is laid, or the limit is met.
    pub letter_on : Lays f w LETTER_ON_ACTS LETTER_ON_ACTS m lo (in_m io m (five c x 0 0 0)) (c ∷ ls) (length words * 47 + 80)
    letter_on =
        let b = low_q in
        letter_by (did_write m (five c x b0 0 0) 33444 (atoms.Var 3) (atoms.Var 1) b0 kk c (third p m.memory c x b0 0 0 typed drawn output) (first p m.memory c x b0 0 0 typed drawn output) (omega arith) (omega arith) fine.0.0)
