-- The routine that lays the list of an unknown word's letters does so.
use Rattle.std.proofs.Common.{◌≡◌, ℕ, suc, ◌+◌, ◌*◌, ◌<◌, ◌≤◌, Bool, true, false, List, [], ◌∷◌, drop, length, Some, refl, sym, ap, ◌∙◌, subst, arith}
use Rattle.std.specs.Prelude.{◌==◌}
use Rattle.std.proofs.lemmas.Bool.{eq-eqb, ne_eqb}
use Rattle.dg_meaning.specs.Copies.{copy_cells}
use Rattle.z_lang.specs.declared.act.Act.TheVariants as acts
use Rattle.z_lang.specs.declared.act.Atom.TheVariants as atoms
use Rattle.z_lang.specs.declared.act.Comparison.TheVariants as comparisons
use Rattle.z_lang.specs.declared.act.Function.TheVariants as functions
use Rattle.z_lang.specs.State.{State}
use Rattle.z_lang.specs.Acts.{answer_of, does}
use Rattle.z_lang.specs.Runs.{at_label, goes, taken, passed, done, returns, behind_label}
use Rattle.dg_rt.specs.declared.splitting.TheConstants.{SPLIT_LETTERS_ACTS}
use Rattle.dg_rt.specs.Areas.{heap_at}
use Rattle.dg_rt.specs.Copies.{Row}
use Rattle.dg_rt.specs.Dictionary.{HasSpellings}
use Rattle.dg_rt.specs.Shapes.{ArePrinted}
use Rattle.dg_rt.proofs.Cells.{reads_cell}
use Rattle.dg_rt.proofs.Following.{word, some_state, tested, computes, copies}
use Rattle.dg_rt.proofs.LaySteps.{Laid, M, in_m}
use Rattle.dg_rt.proofs.LetterOn.{Listed, Same, Lays, all_laid, in_front}
use Rattle.dg_rt.proofs.Locals.{added, subtracts, get_1, get_2, get_3, get_4, set_2, set_3, set_4}
use Rattle.dg_rt.proofs.SplitLists.{alone, onto, turned_back, onto_length, alone_onto, printed_onto, Below, below_row}
use Rattle.dg_rt.proofs.SplitNumbers.{calls_on}

module _ (io : Laid) (words : List (List ℕ)) (dict : HasSpellings io.p io.story words) (f w : ℕ) (some : 4 ≤ f) (enough : 18 ≤ w) (m0 : M io) (lo k : ℕ) (low : lo ≤ 10000) where
  open io use {p, story, captures, has, typed, output, drawn, area}

  abbrev four : M io → ℕ → ℕ → ℕ → ℕ → State
  four m a b c d = in_m io m (a ∷ b ∷ c ∷ d ∷ [])

  abbrev box : ℕ
  box = 49152 + k

  abbrev at : ℕ → ℕ
  at i = m0.cells (heap_at + i)

  abbrev Loop : M io → ℕ → ℕ → ℕ → List ℕ → ℕ → Type 0
  Loop m x j d all most = Lays io words f w SPLIT_LETTERS_ACTS (drop 5 SPLIT_LETTERS_ACTS) m0 lo (four m box x j d) all most

  at_first : (m : M io) (x j d : ℕ) (t : Bool) → (j == box) ≡ t → answer_of p (four m box x j d) (record { comparison = comparisons.Equal; first = atoms.Var 3; second = atoms.Var 1; answer = true }) ≡ Some t
  at_first m x j d t e = tested p (four m box x j d) comparisons.Equal (atoms.Var 3) (atoms.Var 1) true j box t (get_3 p m.memory box x j d typed drawn output) (get_1 p m.memory box x j d typed drawn output) e

  fetched : (m : M io) (x i d c : ℕ) → Same io words m0 m lo → k + 3 + i < lo → at (k + 3 + i) ≡ c → does p (acts.Compute 4 functions.Word (atoms.Num 33444) (atoms.Var 3)) (four m box x (49152 + (k + i)) d) ≡ some_state (four m box x (49152 + (k + i)) c)
  fetched m x i d c same lt is =
      let r = has.has.mapped.room in
      let j = 49152 + (k + i) in
      computes p (four m box x j d) (four m box x j c) 4 functions.Word (atoms.Num 33444) (atoms.Var 3) 33444 j c refl (get_3 p m.memory box x j d typed drawn output)
      (reads_cell p.world.layout m.memory m.cells 33444 j (heap_at + (k + 3 + i)) m.holds (omega arith) (omega arith) ∙ ap word (same (heap_at + (k + 3 + i)) (λ g. (omega arith)) (λ g. (omega arith)) ∙ is)) (set_4 p m.memory box x j d c typed drawn output)

  letters : (rs : List ℕ) (m : M io) (x d : ℕ) (ls all : List ℕ) → Below at (k + 3) rs → ArePrinted rs → k + 3 + length rs ≤ lo → Listed io words m lo ls x → Same io words m0 m lo → onto rs ls ≡ all → Loop m x (49152 + (k + length rs)) d all (length rs * (length words * 47 + 85) + 2)
  unfolding behind_label
  letters [] m x d ls all below fine room l same e =
      let j = 49152 + (k + length {A = ℕ} []) in
      all_laid m x (box ∷ x ∷ j ∷ d ∷ []) 2 (subst (λ (xs : List ℕ). Listed io words m lo xs x) e l) same (omega arith)
      (taken (at_first m x j d true (eq-eqb j box (omega arith))) refl (returns (get_2 p m.memory box x j d typed drawn output)))
  letters (c ∷ rs) m x d ls all below fine room l same e =
      let j = 49152 + (k + length (c ∷ rs)) in
      let j' = 49152 + (k + length rs) in
      let more = alone_onto words rs (c ∷ ls) in
      let same_cells = ap (λ (xs : List ℕ). copy_cells (alone words xs)) e in
      in_front io words (length (c ∷ rs) * (length words * 47 + 85) + 2) (λ i. suc (suc (suc i))) (λ i le. (omega arith)) (λ i le. (omega arith))
      (λ o s' i go. passed (at_first m x j d false (ne_eqb j box (λ (g : j ≡ box). (omega arith))))
      (done (computes p (four m box x j d) (four m box x j' d) 3 functions.Sub (atoms.Var 3) (atoms.Num 1) j 1 j' (get_3 p m.memory box x j d typed drawn output) refl (subtracts p m.memory j 1 j' (omega arith) (omega arith)) (set_3 p m.memory box x j d j' typed drawn output))
      (done (fetched m x (length rs) d c same (omega arith) below.0) go)))
      (calls_on io words dict f w some enough SPLIT_LETTERS_ACTS (drop 9 SPLIT_LETTERS_ACTS) m0 m lo c x ls all (box ∷ x ∷ j' ∷ c ∷ []) 4 (λ y. box ∷ y ∷ j' ∷ c ∷ []) (length rs * (length words * 47 + 85) + 3) same l (fine.0, tt)
      (rw (get_4 p m.memory box x j' c typed drawn output, get_2 p m.memory box x j' c typed drawn output) refl) (λ m' y. set_2 p m'.memory box x j' c y typed drawn output) (omega arith)
      (λ m' y l' same'. in_front io words (length rs * (length words * 47 + 85) + 3) (λ i. suc i) (λ i le. (omega arith)) (λ i le. (omega arith)) (λ o s' i go. goes refl go)
      (letters rs m' y c (c ∷ ls) all below.1 fine.1 (omega arith) l' same' e)))

  -- The list of the letters of a word whose box begins at the place is laid.
  pub letters_laid : (ls : List ℕ) → m0.cells 3 ≡ lo → at k ≡ 32768 + length ls → Row at (k + 3) ls → ArePrinted ls → k + 3 + length ls ≤ lo → Lays io words f w SPLIT_LETTERS_ACTS SPLIT_LETTERS_ACTS m0 lo (four m0 box 0 0 0) ls (length ls * (length words * 47 + 85) + 6)
  letters_laid ls top header row fine room =
      let r = has.has.mapped.room in
      let rs = onto ls [] in
      let n = length ls in
      let h = 32768 + n in
      let j = 49152 + (k + length rs) in
      let many : length (onto ls []) ≡ length ls = onto_length ls [] ∙ omega arith in
      let product = ap (λ (i : ℕ). i * (length words * 47 + 85)) many in
      let back = turned_back ls in
      let l : Listed io words m0 lo [] 28672 = record { heap = top ∙ omega arith; lies = (tt, tt); word = refl; room = omega arith; printed = tt } in
      let below = (below_row at (k + 3) rs [] (subst (λ (xs : List ℕ). Row at (k + 3) xs) (sym back) row)).0 in
      in_front io words (length ls * (length words * 47 + 85) + 6) (λ i. suc (suc (suc (suc i)))) (λ i le. (omega arith)) (λ i le. (omega arith))
      (λ o s' i go. done (copies p (four m0 box 0 0 0) (four m0 box 28672 0 0) 2 (atoms.Num 28672) 28672 refl (set_2 p m0.memory box 0 0 0 28672 typed drawn output))
      (done (computes p (four m0 box 28672 0 0) (four m0 box 28672 h 0) 3 functions.Word (atoms.Num 33438) (atoms.Var 1) 33438 box h refl (get_1 p m0.memory box 28672 0 0 typed drawn output) (reads_cell p.world.layout m0.memory m0.cells 33438 box (heap_at + k) m0.holds (omega arith) (omega arith) ∙ ap word header) (set_3 p m0.memory box 28672 0 0 h typed drawn output))
      (done (computes p (four m0 box 28672 h 0) (four m0 box 28672 n 0) 3 functions.Sub (atoms.Var 3) (atoms.Num 32768) h 32768 n (get_3 p m0.memory box 28672 h 0 typed drawn output) refl (subtracts p m0.memory h 32768 n refl (omega arith)) (set_3 p m0.memory box 28672 h 0 n typed drawn output))
      (done (computes p (four m0 box 28672 n 0) (four m0 box 28672 j 0) 3 functions.Add (atoms.Var 3) (atoms.Var 1) n box j (get_3 p m0.memory box 28672 n 0 typed drawn output) (get_1 p m0.memory box 28672 n 0 typed drawn output) (added p m0.memory n box j (omega arith)) (set_3 p m0.memory box 28672 n 0 j typed drawn output))
      (at_label go)))))
      (letters rs m0 28672 0 [] ls below (printed_onto ls [] fine tt) (omega arith) l (λ q n3 far. refl) back)
