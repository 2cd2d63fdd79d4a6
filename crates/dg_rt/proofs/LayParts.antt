-- Laying a copy of a pair and of a closure on the heap.
use Rattle.std.proofs.Common.{◌≡◌, ◌≢◌, ℕ, suc, ◌+◌, ◌*◌, ◌%◌, ◌<◌, ◌≤◌, Bool, true, false, List, [], ◌∷◌, ◌++◌, drop, map, length, Some, refl, sym, ap, ◌∙◌, subst, arith, length-append, append-nil}
use Rattle.std.specs.Prelude.{◌==◌}
use Rattle.std.proofs.lemmas.Bool.{eq-eqb, ne_eqb}
use Rattle.std.proofs.lemmas.List.{map-append}
use Rattle.z_lang.specs.declared.act.Act.TheVariants as acts
use Rattle.z_lang.specs.declared.act.Atom.TheVariants as atoms
use Rattle.z_lang.specs.declared.act.Function.TheVariants as functions
use Rattle.z_lang.specs.declared.act.Comparison.TheVariants as comparisons
use Rattle.z_lang.specs.State.{State}
use Rattle.z_lang.specs.Acts.{answer_of, does}
use Rattle.z_lang.specs.Runs.{at_label, goes, taken, passed, done, calls, returns, behind_label}
use Rattle.dg_meaning.specs.Values.{Closure, Value, Node, Values, NoMore, More, pair}
use Rattle.dg_meaning.specs.ValueCells.{count_of, cells_of, cells_of_all}
use Rattle.dg_meaning.specs.Copies.{copy_cells, all_copy_cells}
use Rattle.dg_meaning.specs.Letters.{letters_in_all}
use Rattle.dg_meaning.specs.Unify.{sizes}
use Rattle.dg_rt.proofs.Standing.{copy_in_at}
use Rattle.dg_rt.specs.declared.copies.TheConstants.{COPY_IN_ACTS}
use Rattle.dg_rt.specs.Cells.{at_cell}
use Rattle.dg_rt.specs.Areas.{heap_at}
use Rattle.dg_rt.specs.Laying.{Formed, copy_word, WordsLie, AllLie}
use Rattle.dg_rt.specs.Copies.{cell_word, words_of}
use Rattle.dg_rt.specs.CopiesIn.{CopiesIn}
use Rattle.dg_rt.specs.inside.Walks.{steps}
use Rattle.dg_rt.proofs.Following.{word, some_state, tested, computes, copies}
use Rattle.dg_rt.proofs.Locals.{first, second, third, fourth, fifth, put_first, put_third, put_fourth, put_fifth, boxed_no_reference, boxed_is_negative, added}
use Rattle.dg_rt.proofs.UnifySteps.{steps_are}
use Rattle.dg_rt.proofs.LaySteps.{Laid, lies_keep, copy_word_small, M, in_m, Run, five, word_2, read_1, first_less, first_is, InArea, area_front, area_back, price, Copy, Did, Down, On, Store, did_down, did_on, did_store}

module _ (io : Laid) where
  open io use {p, story, captures, has, typed, output, drawn, area}

  -- ---- a pair

  module _ (f : ℕ) (h t : Value) (fine_h : Formed captures h) (fine_t : Formed captures t) (head : (Copy io) f h) (tail : (Copy io) f t) (m : (M io)) (r lo : ℕ) (inside : (InArea io) r (words_of (pair h t))) (from : m.cells 38 ≡ at_cell r) (fill : m.cells 39 ≡ lo + copy_cells (pair h t)) (room : lo + copy_cells (pair h t) ≤ 10000) where
    abbrev box_at : ℕ
    box_at = lo + all_copy_cells (More h (More t NoMore))

    abbrev box : ℕ
    box = 49152 + (lo + all_copy_cells (More h (More t NoMore)))

    abbrev lo_h : ℕ
    lo_h = lo + all_copy_cells (More t NoMore)

    abbrev lo_t : ℕ
    lo_t = lo + all_copy_cells NoMore

    abbrev hw : ℕ
    hw = copy_word lo_h h

    abbrev tw : ℕ
    tw = copy_word lo_t t

    pair_words : words_of (pair h t) ≡ 28673 ∷ (words_of h ++ words_of t)
    pair_words = ap (λ (l : List ℕ). 28673 ∷ l) (map-append cell_word (cells_of h) (cells_of t ++ []) ∙ ap (λ (l : List ℕ). words_of h ++ l) (ap (map cell_word) (append-nil (cells_of t))))

    pair_length : length (words_of (pair h t)) ≡ 1 + (length (words_of h) + length (words_of t))
    pair_length = let both = length-append (words_of h) (words_of t) in let whole = ap (λ (l : List ℕ). length l) pair_words in omega arith

    all_cells : (InArea io) r (28673 ∷ (words_of h ++ words_of t))
    all_cells = subst ((InArea io) r) pair_words inside

    rest_cells : (InArea io) (suc r) (words_of h ++ words_of t)
    rest_cells = (area_back io) r (suc r) (28673 ∷ []) (words_of h ++ words_of t) (omega arith) all_cells

    abbrev Part : ℕ → (M io) → ℕ → ℕ → Value → Type 0
    Part f m r lo v = CopiesIn p story area f COPY_IN_ACTS typed output drawn m (0 ∷ 0 ∷ 0 ∷ 0 ∷ 0 ∷ []) r lo v 4 ((price io) v)

    abbrev Whole : Type 0
    Whole = CopiesIn p story area (suc f) COPY_IN_ACTS typed output drawn m (0 ∷ 0 ∷ 0 ∷ 0 ∷ 0 ∷ []) r lo (pair h t) 4 ((price io) (pair h t))

    pair_7 : (s1 : (Did io) (On io) m ((five io) 28673 0 0 0 0) 38 (at_cell (suc r))) (s2 : (Did io) ((Down io) (atoms.Num 3)) s1.m' ((five io) 28673 0 0 0 0) 39 box_at) (s3 : (Did io) ((Store io) 33438 (atoms.Var 2) (atoms.Num 0)) s2.m' ((five io) 28673 box 0 0 0) (heap_at + box_at) 0) (hd : Part f s3.m' (suc r) lo_h h)
        (s4 : (Did io) ((Store io) 33440 (atoms.Var 2) (atoms.Var 3)) hd.m' ((five io) 28673 box hw 0 0) (heap_at + (box_at + 1)) hw) (tl : Part f s4.m' (suc r + length (words_of h)) lo_t t) (s5 : (Did io) ((Store io) 33442 (atoms.Var 2) (atoms.Var 3)) tl.m' ((five io) 28673 box tw 0 0) (heap_at + (box_at + 2)) tw) → s2.m'.cells 39 ≡ box_at → s1.m'.cells 39 ≡ box_at + 3 → Whole
    unfolding behind_label
    pair_7 s1 s2 s3 hd s4 tl s5 fill2 fill1 =
        let low = all_cells.low in
        let in_base = inside.within in
        let n = pair_length in
        let few_h = hd.few in
        let few_t = tl.few in
        record {
          m' = s5.m';
          locals' = (five io) 28673 box tw 0 0;
          count = steps 7 (suc hd.count + suc (suc tl.count + 2));
          runs = done ((read_1 io) m 0 0 0 0 0 r 28673 from low all_cells.row.0 (omega arith))
              (done s1.is
              (passed ((first_less io) s1.m' 28673 0 0 0 0 0 false true refl)
              (taken ((first_is io) s1.m' 28673 0 0 0 0 28673 true true refl) refl
              (done s2.is
              (done ((word_2 io) s2.m' 28673 0 0 0 0 49152 box_at fill2 (omega arith))
              (done s3.is
              (calls {f' = f} {w' = 5 * f} {n = hd.count} {n' = suc (suc tl.count + 2)} {xs = (0, 0, 0)} refl refl (copy_in_at p has.has) (omega arith) (omega arith) hd.runs (put_third p hd.m'.memory 28673 box 0 0 0 hw typed drawn output)
              (done s4.is
              (calls {f' = f} {w' = 5 * f} {n = tl.count} {n' = 2} {xs = (0, 0, 0)} refl refl (copy_in_at p has.has) (omega arith) (omega arith) tl.runs (put_third p tl.m'.memory 28673 box hw 0 0 tw typed drawn output)
              (done s5.is
              (returns (second p s5.m'.memory 28673 box tw 0 0 typed drawn output))))))))))));
          from = s5.keeps 38 (λ e. (omega arith)) ∙ tl.from ∙ (omega arith);
          fill = s5.keeps 39 (λ e. (omega arith)) ∙ tl.fill ∙ (omega arith);
          lies = (
            (
              s5.keeps (heap_at + box_at) (λ e. (omega arith)) ∙ tl.others (heap_at + box_at) (λ e. (omega arith)) (λ e. (omega arith)) (λ z. (omega arith)) ∙ s4.keeps (heap_at + box_at) (λ e. (omega arith)) ∙ hd.others (heap_at + box_at) (λ e. (omega arith)) (λ e. (omega arith)) (λ z. (omega arith)) ∙ s3.at,
              (
                s5.keeps (heap_at + (box_at + 1)) (λ e. (omega arith)) ∙ tl.others (heap_at + (box_at + 1)) (λ e. (omega arith)) (λ e. (omega arith)) (λ z. (omega arith)) ∙ s4.at,
                ((let e : suc (box_at + 1) ≡ box_at + 2 = omega arith in ap (λ (i : ℕ). s5.m'.cells (heap_at + i)) e ∙ s5.at), tt),
              ),
            ),
            (
              lies_keep captures (λ i. hd.m'.cells (heap_at + i)) (λ i. s5.m'.cells (heap_at + i)) h lo_h fine_h (λ i at_least below. s5.keeps (heap_at + i) (λ e. (omega arith)) ∙ tl.others (heap_at + i) (λ e. (omega arith)) (λ e. (omega arith)) (λ z. (omega arith)) ∙ s4.keeps (heap_at + i) (λ e. (omega arith))) hd.lies,
              (lies_keep captures (λ i. tl.m'.cells (heap_at + i)) (λ i. s5.m'.cells (heap_at + i)) t lo_t fine_t (λ i at_least below. s5.keeps (heap_at + i) (λ e. (omega arith))) tl.lies, tt),
            ),
          );
          others = λ q ne36 ne37 far. s5.keeps q (λ e. (let z = far (omega arith) in omega arith)) ∙ tl.others q ne36 ne37 (λ z. (let y = far (omega arith) in omega arith)) ∙ s4.keeps q (λ e. (let z = far (omega arith) in omega arith)) ∙ hd.others q ne36 ne37 (λ z. (let y = far (omega arith) in omega arith))
              ∙ s3.keeps q (λ e. (let z = far (omega arith) in omega arith)) ∙ s2.keeps q ne37 ∙ s1.keeps q ne36;
          few = omega (arith, steps_are 7 (suc hd.count + suc (suc tl.count + 2)));
        }

    pair_6 : (s1 : (Did io) (On io) m ((five io) 28673 0 0 0 0) 38 (at_cell (suc r))) (s2 : (Did io) ((Down io) (atoms.Num 3)) s1.m' ((five io) 28673 0 0 0 0) 39 box_at) (s3 : (Did io) ((Store io) 33438 (atoms.Var 2) (atoms.Num 0)) s2.m' ((five io) 28673 box 0 0 0) (heap_at + box_at) 0) (hd : Part f s3.m' (suc r) lo_h h)
        (s4 : (Did io) ((Store io) 33440 (atoms.Var 2) (atoms.Var 3)) hd.m' ((five io) 28673 box hw 0 0) (heap_at + (box_at + 1)) hw) → s2.m'.cells 39 ≡ box_at → s1.m'.cells 39 ≡ box_at + 3 → Whole
    pair_6 s1 s2 s3 hd s4 fill2 fill1 =
        let tl = tail s4.m' (suc r + length (words_of h)) lo_t ((area_back io) (suc r) (suc r + length (words_of h)) (words_of h) (words_of t) refl rest_cells) (s4.keeps 38 (λ e. (omega arith)) ∙ hd.from) (s4.keeps 39 (λ e. (omega arith)) ∙ hd.fill ∙ (omega arith)) (omega arith) in
        pair_7 s1 s2 s3 hd s4 tl ((did_store io) tl.m' ((five io) 28673 box tw 0 0) 33442 (atoms.Var 2) (atoms.Var 3) box (box_at + 2) tw (second p tl.m'.memory 28673 box tw 0 0 typed drawn output) (third p tl.m'.memory 28673 box tw 0 0 typed drawn output) (omega arith) (omega arith) (copy_word_small captures lo_t t fine_t (omega arith))) fill2 fill1

    pair_4 : (s1 : (Did io) (On io) m ((five io) 28673 0 0 0 0) 38 (at_cell (suc r))) (s2 : (Did io) ((Down io) (atoms.Num 3)) s1.m' ((five io) 28673 0 0 0 0) 39 box_at) (s3 : (Did io) ((Store io) 33438 (atoms.Var 2) (atoms.Num 0)) s2.m' ((five io) 28673 box 0 0 0) (heap_at + box_at) 0) → s1.m'.cells 39 ≡ box_at + 3 → Whole
    pair_4 s1 s2 s3 fill1 =
        let hd = head s3.m' (suc r) lo_h ((area_front io) (suc r) (words_of h) (words_of t) rest_cells) (s3.keeps 38 (λ e. (omega arith)) ∙ s2.keeps 38 (λ e. (omega arith)) ∙ s1.at) (s3.keeps 39 (λ e. (omega arith)) ∙ s2.at ∙ (omega arith)) (omega arith) in
        pair_6 s1 s2 s3 hd ((did_store io) hd.m' ((five io) 28673 box hw 0 0) 33440 (atoms.Var 2) (atoms.Var 3) box (box_at + 1) hw (second p hd.m'.memory 28673 box hw 0 0 typed drawn output) (third p hd.m'.memory 28673 box hw 0 0 typed drawn output) (omega arith) (omega arith) (copy_word_small captures lo_h h fine_h (omega arith))) s2.at fill1

    pair_2 : (s1 : (Did io) (On io) m ((five io) 28673 0 0 0 0) 38 (at_cell (suc r))) → s1.m'.cells 39 ≡ box_at + 3 → Whole
    pair_2 s1 fill1 =
        let s2 = (did_down io) s1.m' ((five io) 28673 0 0 0 0) (atoms.Num 3) 3 box_at refl fill1 (omega arith) in
        pair_4 s1 s2 ((did_store io) s2.m' ((five io) 28673 box 0 0 0) 33438 (atoms.Var 2) (atoms.Num 0) box box_at 0 (second p s2.m'.memory 28673 box 0 0 0 typed drawn output) refl (omega arith) (omega arith) (omega arith)) fill1

    pub of_pair : Whole
    of_pair =
        let small = inside.small in
        let n = pair_length in
        let s1 = (did_on io) m ((five io) 28673 0 0 0 0) r from (omega arith) in
        pair_2 s1 (s1.keeps 39 (λ e. (omega arith)) ∙ fill ∙ (omega arith))

  -- ---- captured values, one after another

  abbrev rows : Values → List ℕ
  rows vs = map cell_word (cells_of_all vs)

  abbrev price_all : Values → ℕ
  price_all vs = 24 * sizes vs + 8 * letters_in_all vs

  -- words are the same but in the registers, and in two ranges of the heap
  abbrev SameButTwo : (ℕ → ℕ) → (ℕ → ℕ) → ℕ → ℕ → ℕ → ℕ → Type 0
  SameButTwo cells cells' lo hi i j = (q : ℕ) → q ≢ 38 → q ≢ 39 → (heap_at + lo ≤ q → heap_at + hi ≤ q) → (heap_at + i ≤ q → heap_at + j ≤ q) → cells' q ≡ cells q

  pub record Fills (f : ℕ) (m : (M io)) (a b c j e r lo : ℕ) (vs : Values) : Type 0 where
    pub m' : (M io)
    pub locals' : List ℕ
    pub count : ℕ
    pub runs : (Run io) (suc f) (drop 38 COPY_IN_ACTS) ((in_m io) m ((five io) a b c (49152 + j) e)) b ((in_m io) m' locals') count
    pub from : m'.cells 38 ≡ at_cell (r + length (rows vs))
    pub fill : m'.cells 39 ≡ lo
    pub words : WordsLie (λ k. m'.cells (heap_at + k)) (j + 3) lo vs
    pub all : AllLie (λ k. m'.cells (heap_at + k)) lo vs
    pub others : SameButTwo m.cells m'.cells lo (lo + all_copy_cells vs) (j + 3) (j + 3 + count_of vs)
    pub few : count ≤ 2 + price_all vs

  pub at_end : (m : (M io)) (a b c d e : ℕ) (t : Bool) → (d == e) ≡ t → answer_of p ((in_m io) m ((five io) a b c d e)) (record { comparison = comparisons.Equal; first = atoms.Var 4; second = atoms.Var 5; answer = false }) ≡ Some t
  at_end m a b c d e t q = tested p ((in_m io) m ((five io) a b c d e)) comparisons.Equal (atoms.Var 4) (atoms.Var 5) false d e t (fourth p m.memory a b c d e typed drawn output) (fifth p m.memory a b c d e typed drawn output) q

  pub next_4 : (m : (M io)) (a b c d e r : ℕ) → (d + 1) % 65536 ≡ r → does p (acts.Compute 4 functions.Add (atoms.Var 4) (atoms.Num 1)) ((in_m io) m ((five io) a b c d e)) ≡ some_state ((in_m io) m ((five io) a b c r e))
  next_4 m a b c d e r q = computes p ((in_m io) m ((five io) a b c d e)) ((in_m io) m ((five io) a b c r e)) 4 functions.Add (atoms.Var 4) (atoms.Num 1) d 1 r (fourth p m.memory a b c d e typed drawn output) refl (added p m.memory d 1 r q) (put_fourth p m.memory a b c d e r typed drawn output)

  abbrev pub Fill : ℕ → Values → Type 0
  Fill f vs = (m : (M io)) (a b c j e r lo : ℕ) → e ≡ 49152 + (j + count_of vs) → (InArea io) r (rows vs) → m.cells 38 ≡ at_cell r → m.cells 39 ≡ lo + all_copy_cells vs → lo + all_copy_cells vs ≤ j → j + 3 + count_of vs ≤ 10000 → Fills f m a b c j e r lo vs

  pub no_values : (f : ℕ) → Fill f NoMore
  no_values f m a b c j e r lo ee inside from fill apart room = record {
    m' = m;
    locals' = (five io) a b c (49152 + j) e;
    count = 2;
    runs = passed (at_end m a b c (49152 + j) e true (eq-eqb (49152 + j) e (omega arith))) (returns (second p m.memory a b c (49152 + j) e typed drawn output));
    from = from ∙ (omega arith);
    fill = fill ∙ (omega arith);
    words = tt;
    all = tt;
    others = λ q ne36 ne37 far far'. refl;
    few = omega arith;
  }

  module _ (f : ℕ) (v : Value) (vs : Values) (fine : Formed captures v) (part : (Copy io) f v) (others_do : Fill f vs) (m : (M io)) (a b c j e r lo : ℕ) (ee : e ≡ 49152 + (j + count_of (More v vs))) (inside : (InArea io) r (rows (More v vs))) (from : m.cells 38 ≡ at_cell r) (fill : m.cells 39 ≡ lo + all_copy_cells (More v vs)) (apart : lo + all_copy_cells (More v vs) ≤ j) (room : j + 3 + count_of (More v vs) ≤ 10000) where
    abbrev lo_v : ℕ
    lo_v = lo + all_copy_cells vs

    abbrev vw : ℕ
    vw = copy_word lo_v v

    split : rows (More v vs) ≡ words_of v ++ rows vs
    split = map-append cell_word (cells_of v) (cells_of_all vs)

    both_cells : (InArea io) r (words_of v ++ rows vs)
    both_cells = subst ((InArea io) r) split inside

    more_3 : (sub : CopiesIn p story area f COPY_IN_ACTS typed output drawn m (0 ∷ 0 ∷ 0 ∷ 0 ∷ 0 ∷ []) r lo_v v 4 ((price io) v)) (s : (Did io) ((Store io) 33444 (atoms.Var 4) (atoms.Var 3)) sub.m' ((five io) a b vw (49152 + j) e) (heap_at + (j + 3)) vw) → Fills f s.m' a b vw (suc j) e (r + length (words_of v)) lo vs → Fills f m a b c j e r lo (More v vs)
    unfolding behind_label
    more_3 sub s rest =
        let few = sub.few in
        let few' = rest.few in
        let n = ap (λ (l : List ℕ). length l) split in
        let total = length-append (words_of v) (rows vs) in
        let behind : suc j + 3 ≡ suc (j + 3) = omega arith in
        record {
          m' = rest.m';
          locals' = rest.locals';
          count = suc (suc sub.count + suc (suc rest.count));
          runs = taken (at_end m a b c (49152 + j) e false (ne_eqb (49152 + j) e (λ (i : 49152 + j ≡ e). (omega arith)))) refl
              (calls {f' = f} {w' = 5 * f} {n = sub.count} {n' = suc (suc rest.count)} {xs = (0, 0, 0)} refl refl (copy_in_at p has.has) (omega arith) (omega arith) sub.runs (put_third p sub.m'.memory a b c (49152 + j) e vw typed drawn output)
              (done s.is
              (done (next_4 s.m' a b vw (49152 + j) e (49152 + suc j) (omega arith)) (at_label rest.runs))));
          from = rest.from ∙ (omega arith);
          fill = rest.fill;
          words = (rest.others (heap_at + (j + 3)) (λ i. (omega arith)) (λ i. (omega arith)) (λ i. (omega arith)) (λ i. (omega arith)) ∙ s.at, subst (λ (i : ℕ). WordsLie (λ k. rest.m'.cells (heap_at + k)) i lo vs) behind rest.words);
          all = (lies_keep captures (λ i. sub.m'.cells (heap_at + i)) (λ i. rest.m'.cells (heap_at + i)) v lo_v fine (λ i at_least below. rest.others (heap_at + i) (λ z. (omega arith)) (λ z. (omega arith)) (λ z. (omega arith)) (λ z. (omega arith)) ∙ s.keeps (heap_at + i) (λ z. (omega arith))) sub.lies, rest.all);
          others = λ q ne36 ne37 far far'. rest.others q ne36 ne37 (λ z. (let y = far (omega arith) in omega arith)) (λ z. (let y = far' (omega arith) in omega arith)) ∙ s.keeps q (λ z. (let y = far' (omega arith) in omega arith)) ∙ sub.others q ne36 ne37 (λ z. (let y = far (omega arith) in omega arith));
          few = omega arith;
        }

    more_2 : (sub : CopiesIn p story area f COPY_IN_ACTS typed output drawn m (0 ∷ 0 ∷ 0 ∷ 0 ∷ 0 ∷ []) r lo_v v 4 ((price io) v)) (s : (Did io) ((Store io) 33444 (atoms.Var 4) (atoms.Var 3)) sub.m' ((five io) a b vw (49152 + j) e) (heap_at + (j + 3)) vw) → Fills f m a b c j e r lo (More v vs)
    more_2 sub s = more_3 sub s (others_do s.m' a b vw (suc j) e (r + length (words_of v)) lo (omega arith) ((area_back io) r (r + length (words_of v)) (words_of v) (rows vs) refl both_cells) (s.keeps 38 (λ i. (omega arith)) ∙ sub.from) (s.keeps 39 (λ i. (omega arith)) ∙ sub.fill) (omega arith) (omega arith))

    pub more_values : Fills f m a b c j e r lo (More v vs)
    more_values =
        let sub = part m r lo_v ((area_front io) r (words_of v) (rows vs) both_cells) from (fill ∙ (omega arith)) (omega arith) in
        more_2 sub ((did_store io) sub.m' ((five io) a b vw (49152 + j) e) 33444 (atoms.Var 4) (atoms.Var 3) (49152 + j) (j + 3) vw (fourth p sub.m'.memory a b vw (49152 + j) e typed drawn output) (third p sub.m'.memory a b vw (49152 + j) e typed drawn output) (omega arith) (omega arith) (copy_word_small captures lo_v v fine (omega arith)))

  -- ---- a closure

  module _ (f place : ℕ) (vs : Values) (few_places : place < 16384) (told : count_of vs ≡ captures place) (few_captured : captures place < 256) (values : Fill f vs) (m : (M io)) (r lo : ℕ) (inside : (InArea io) r (words_of (Node (Closure place) vs))) (from : m.cells 38 ≡ at_cell r) (fill : m.cells 39 ≡ lo + copy_cells (Node (Closure place) vs)) (room : lo + copy_cells (Node (Closure place) vs) ≤ 10000) where
    abbrev at_k : ℕ
    at_k = lo + all_copy_cells vs

    abbrev its_box : ℕ
    its_box = 49152 + (lo + all_copy_cells vs)

    abbrev many : ℕ
    many = count_of vs

    abbrev header : ℕ
    header = 1 + place

    abbrev last : ℕ
    last = 49152 + (lo + all_copy_cells vs + count_of vs)

    abbrev cell_is : ℕ
    cell_is = 49152 + place

    abbrev Result : Type 0
    Result = CopiesIn p story area (suc f) COPY_IN_ACTS typed output drawn m (0 ∷ 0 ∷ 0 ∷ 0 ∷ 0 ∷ []) r lo (Node (Closure place) vs) 4 ((price io) (Node (Closure place) vs))

    -- up to its place in the heap
    to_place : (m1 : (M io)) (x : ℕ) (s' : State) (i : ℕ) → (Run io) (suc f) (drop 25 COPY_IN_ACTS) ((in_m io) m1 ((five io) header 0 many 0 0)) x s' i → (Run io) (suc f) (drop 2 COPY_IN_ACTS) ((in_m io) m1 ((five io) cell_is 0 0 0 0)) x s' (steps 5 i)
    unfolding behind_label
    to_place m1 x s' i rest =
        taken ((first_less io) m1 cell_is 0 0 0 0 0 true true (boxed_is_negative place few_places)) refl
        (taken ((first_less io) m1 cell_is 0 0 0 0 49152 false false (boxed_no_reference place few_places)) refl
        (done (computes p ((in_m io) m1 ((five io) cell_is 0 0 0 0)) ((in_m io) m1 ((five io) cell_is 0 place 0 0)) 3 functions.Add (atoms.Var 1) (atoms.Num 16384) cell_is 16384 place (first p m1.memory cell_is 0 0 0 0 typed drawn output) refl (added p m1.memory cell_is 16384 place (omega arith)) (put_third p m1.memory cell_is 0 0 0 0 place typed drawn output))
        (done (computes p ((in_m io) m1 ((five io) cell_is 0 place 0 0)) ((in_m io) m1 ((five io) header 0 place 0 0)) 1 functions.Add (atoms.Var 3) (atoms.Num 1) place 1 header (third p m1.memory cell_is 0 place 0 0 typed drawn output) refl (added p m1.memory place 1 header (omega arith)) (put_first p m1.memory cell_is 0 place 0 0 header typed drawn output))
        (done (computes p ((in_m io) m1 ((five io) header 0 place 0 0)) ((in_m io) m1 ((five io) header 0 many 0 0)) 3 functions.Byte (atoms.Table 0) (atoms.Var 3) (p.names.table 0) place many refl (third p m1.memory header 0 place 0 0 typed drawn output) (has.told m1.memory place few_places few_captured m1.kept ∙ ap word (sym told)) (put_third p m1.memory header 0 place 0 0 many typed drawn output)) rest))))

    -- from behind its header to its values
    to_values : (m5 : (M io)) (x : ℕ) (s' : State) (i : ℕ) → last < 65536 → (Run io) (suc f) (drop 38 COPY_IN_ACTS) ((in_m io) m5 ((five io) header its_box many its_box last)) x s' i → (Run io) (suc f) (drop 30 COPY_IN_ACTS) ((in_m io) m5 ((five io) header its_box many 0 0)) x s' (steps 3 i)
    unfolding behind_label
    to_values m5 x s' i lt rest =
        done (copies p ((in_m io) m5 ((five io) header its_box many 0 0)) ((in_m io) m5 ((five io) header its_box many its_box 0)) 4 (atoms.Var 2) its_box (second p m5.memory header its_box many 0 0 typed drawn output) (put_fourth p m5.memory header its_box many 0 0 its_box typed drawn output))
        (done (computes p ((in_m io) m5 ((five io) header its_box many its_box 0)) ((in_m io) m5 ((five io) header its_box many its_box last)) 5 functions.Add (atoms.Var 2) (atoms.Var 3) its_box many last (second p m5.memory header its_box many its_box 0 typed drawn output) (third p m5.memory header its_box many its_box 0 typed drawn output) (added p m5.memory its_box many last (omega arith)) (put_fifth p m5.memory header its_box many its_box 0 last typed drawn output))
        (goes refl rest))

    closure_6 : (s1 : (Did io) (On io) m ((five io) cell_is 0 0 0 0) 38 (at_cell (suc r))) (s2 : (Did io) ((Down io) (atoms.Var 3)) s1.m' ((five io) header 0 many 0 0) 39 (at_k + 3)) (s3 : (Did io) ((Down io) (atoms.Num 3)) s2.m' ((five io) header 0 many 0 0) 39 at_k) (s4 : (Did io) ((Store io) 33438 (atoms.Var 2) (atoms.Var 1)) s3.m' ((five io) header its_box many 0 0) (heap_at + at_k) header)
        (s5 : (Did io) ((Store io) 33440 (atoms.Var 2) (atoms.Var 3)) s4.m' ((five io) header its_box many 0 0) (heap_at + (at_k + 1)) many) → Fills f s5.m' header its_box many at_k last (suc r) lo vs → Result
    closure_6 s1 s2 s3 s4 s5 vals =
        let low = inside.low in
        let in_base = inside.within in
        let few = vals.few in
        record {
          m' = vals.m';
          locals' = vals.locals';
          count = steps 15 vals.count;
          runs = done ((read_1 io) m 0 0 0 0 0 r cell_is from low inside.row.0 (omega arith))
              (done s1.is
              (to_place s1.m' its_box ((in_m io) vals.m' vals.locals') (steps 8 vals.count)
              (done s2.is
              (done s3.is
              (done ((word_2 io) s3.m' header 0 many 0 0 49152 at_k s3.at (omega arith))
              (done s4.is
              (done s5.is
              (to_values s5.m' its_box ((in_m io) vals.m' vals.locals') vals.count (omega arith) vals.runs))))))));
          from = vals.from ∙ (omega arith);
          fill = vals.fill;
          lies = (
            (
              vals.others (heap_at + at_k) (λ e. (omega arith)) (λ e. (omega arith)) (λ z. (omega arith)) (λ z. (omega arith)) ∙ s5.keeps (heap_at + at_k) (λ e. (omega arith)) ∙ s4.at,
              vals.others (heap_at + (at_k + 1)) (λ e. (omega arith)) (λ e. (omega arith)) (λ z. (omega arith)) (λ z. (omega arith)) ∙ s5.at,
              vals.words,
            ),
            vals.all,
          );
          others = λ q ne36 ne37 far. vals.others q ne36 ne37 (λ z. (let y = far (omega arith) in omega arith)) (λ z. (let y = far (omega arith) in omega arith)) ∙ s5.keeps q (λ e. (let z = far (omega arith) in omega arith)) ∙ s4.keeps q (λ e. (let z = far (omega arith) in omega arith)) ∙ s3.keeps q ne37 ∙ s2.keeps q ne37 ∙ s1.keeps q ne36;
          few = omega (arith, steps_are 15 vals.count);
        }

    closure_4 : (s1 : (Did io) (On io) m ((five io) cell_is 0 0 0 0) 38 (at_cell (suc r))) (s2 : (Did io) ((Down io) (atoms.Var 3)) s1.m' ((five io) header 0 many 0 0) 39 (at_k + 3)) (s3 : (Did io) ((Down io) (atoms.Num 3)) s2.m' ((five io) header 0 many 0 0) 39 at_k) (s4 : (Did io) ((Store io) 33438 (atoms.Var 2) (atoms.Var 1)) s3.m' ((five io) header its_box many 0 0) (heap_at + at_k) header) → Result
    closure_4 s1 s2 s3 s4 =
        let s5 = (did_store io) s4.m' ((five io) header its_box many 0 0) 33440 (atoms.Var 2) (atoms.Var 3) its_box (at_k + 1) many (second p s4.m'.memory header its_box many 0 0 typed drawn output) (third p s4.m'.memory header its_box many 0 0 typed drawn output) (omega arith) (omega arith) (omega arith) in
        closure_6 s1 s2 s3 s4 s5
        (values s5.m' header its_box many at_k last (suc r) lo (omega arith) ((area_back io) r (suc r) (cell_is ∷ []) (rows vs) (omega arith) inside) (s5.keeps 38 (λ e. (omega arith)) ∙ s4.keeps 38 (λ e. (omega arith)) ∙ s3.keeps 38 (λ e. (omega arith)) ∙ s2.keeps 38 (λ e. (omega arith)) ∙ s1.at) (s5.keeps 39 (λ e. (omega arith)) ∙ s4.keeps 39 (λ e. (omega arith)) ∙ s3.at) (omega arith) (omega arith))

    closure_2 : (s1 : (Did io) (On io) m ((five io) cell_is 0 0 0 0) 38 (at_cell (suc r))) (s2 : (Did io) ((Down io) (atoms.Var 3)) s1.m' ((five io) header 0 many 0 0) 39 (at_k + 3)) → Result
    closure_2 s1 s2 =
        let s3 = (did_down io) s2.m' ((five io) header 0 many 0 0) (atoms.Num 3) 3 at_k refl s2.at (omega arith) in
        closure_4 s1 s2 s3 ((did_store io) s3.m' ((five io) header its_box many 0 0) 33438 (atoms.Var 2) (atoms.Var 1) its_box at_k header (second p s3.m'.memory header its_box many 0 0 typed drawn output) (first p s3.m'.memory header its_box many 0 0 typed drawn output) (omega arith) (omega arith) (omega arith))

    pub of_closure : Result
    of_closure =
        let small = inside.small in
        let s1 = (did_on io) m ((five io) cell_is 0 0 0 0) r from (omega arith) in
        closure_2 s1 ((did_down io) s1.m' ((five io) header 0 many 0 0) (atoms.Var 3) many (at_k + 3) (third p s1.m'.memory header 0 many 0 0 typed drawn output) (s1.keeps 39 (λ e. (omega arith)) ∙ fill ∙ (omega arith)) (omega arith))
