-- The routine that lays a copy of a value on the heap does so.
use Rattle.std.proofs.Common.{◌≡◌, ◌≢◌, ℕ, zero, suc, ◌+◌, ◌*◌, ◌<◌, ◌≤◌, true, false, List, [], ◌∷◌, drop, map, length, None, refl, ap, ◌∙◌, subst, arith, append-nil}
use Rattle.std.proofs.lemmas.Bool.{eq-eqb, ne_eqb}
use Rattle.z_lang.specs.declared.act.Act.TheVariants as acts
use Rattle.z_lang.specs.declared.act.Atom.TheVariants as atoms
use Rattle.z_lang.specs.declared.act.Function.TheVariants as functions
use Rattle.z_lang.specs.State.{State, Program}
use Rattle.z_lang.specs.Acts.{does}
use Rattle.z_lang.specs.Runs.{at_label, goes, taken, passed, done, returns, behind_label}
use Rattle.dg_base.specs.declared.cells.Cell.TheVariants as cell
use Rattle.dg_meaning.specs.Values.{Num, Word, Object, Nil, Pair, Closure, Unknown, Value, Var, Node, Values, NoMore, More, leaf}
use Rattle.dg_meaning.specs.Copies.{copy_cells, all_copy_cells}
use Rattle.dg_meaning.specs.Letters.{letters_in}
use Rattle.dg_meaning.specs.Unify.{size, sizes}
use Rattle.dg_rt.specs.declared.copies.TheConstants.{COPY_IN_ACTS}
use Rattle.dg_rt.specs.Cells.{at_cell}
use Rattle.dg_rt.specs.Areas.{heap_at}
use Rattle.dg_rt.specs.Shapes.{Shape, IsShape, Stands}
use Rattle.dg_rt.specs.Laying.{Formed, AllFormed, LettersLie}
use Rattle.dg_rt.specs.Copies.{cell_word, words_of, Row}
use Rattle.dg_rt.specs.CopiesIn.{HasCaptures, Reading, CopiesIn, CopiedIn}
use Rattle.dg_rt.specs.inside.Walks.{steps}
use Rattle.dg_meaning.specs.Substitutions.{Substitution}
use Rattle.dg_meaning.specs.inside.Unifiers.{binding_of}
use Rattle.dg_rt.proofs.Following.{some_state, computes, copies}
use Rattle.dg_rt.proofs.Locals.{first, second, third, fourth, put_first, put_third, put_fourth, put_fifth, reference, reference_is_negative, added}
use Rattle.dg_rt.proofs.CopySteps.{chars_are}
use Rattle.dg_rt.proofs.Laying.{copied, copied_grown, copied_places, copied_boxes, copied_low, copied_shape, copied_stands, copied_shows}
use Rattle.dg_rt.proofs.UnifySteps.{steps_are}
use Rattle.dg_rt.proofs.LaySteps.{Laid, M, in_m, Run, from_is, sub_is, three_times, five, word_2, read_1, first_less, first_is, InArea, area_back, price, Copy, simple, variable, Did, Down, On, Store, did_down, did_on, did_store, fetch}
use Rattle.dg_rt.proofs.LayParts.{Fill, no_values, more_values, of_pair, of_closure, at_end, next_4}

module _ (io : Laid) where
  open io use {p, story, captures, has, typed, output, drawn, area}

  -- ---- letters, one after another

  record LettersIn (f : ℕ) (m : (M io)) (a b c j e r : ℕ) (xs : List ℕ) : Type 0 where
    m' : (M io)
    locals' : List ℕ
    count : ℕ
    runs : (Run io) f (drop 57 COPY_IN_ACTS) ((in_m io) m ((five io) a b c (49152 + j) e)) b ((in_m io) m' locals') count
    from : m'.cells 38 ≡ at_cell (r + length xs)
    letters : LettersLie (λ k. m'.cells (heap_at + k)) (j + 3) xs
    others : (q : ℕ) → q ≢ 38 → (heap_at + (j + 3) ≤ q → heap_at + (j + 3 + length xs) ≤ q) → m'.cells q ≡ m.cells q
    few : count ≤ 2 + 5 * length xs

  read_3 : (m : (M io)) (a b c d e r x : ℕ) → m.cells 38 ≡ at_cell r → 12315 ≤ r → area r ≡ x → at_cell r + 1 < p.world.layout.base → does p (acts.Compute 3 functions.Word (atoms.Var 54) (atoms.Num 0)) ((in_m io) m ((five io) a b c d e)) ≡ some_state ((in_m io) m ((five io) a b x d e))
  read_3 m a b c d e r x from le is lt = computes p ((in_m io) m ((five io) a b c d e)) ((in_m io) m ((five io) a b x d e)) 3 functions.Word (atoms.Var 54) (atoms.Num 0) (m.cells 38) 0 x ((from_is io) m ((five io) a b c d e)) refl ((fetch io) m r x from le is lt) (put_third p m.memory a b c d e x typed drawn output)

  more_letters : (f : ℕ) (m : (M io)) (a b c j e r x : ℕ) (xs : List ℕ) → e ≡ 49152 + (j + length (x ∷ xs)) → (InArea io) r (x ∷ xs) → m.cells 38 ≡ at_cell r → j + 3 + length (x ∷ xs) ≤ 10000 → (s1 : (Did io) (On io) m ((five io) a b x (49152 + j) e) 38 (at_cell (suc r))) (s2 : (Did io) ((Store io) 33444 (atoms.Var 4) (atoms.Var 3)) s1.m' ((five io) a b x (49152 + j) e) (heap_at + (j + 3)) x) → LettersIn f s2.m' a b x (suc j) e (suc r) xs → LettersIn f m a b c j e r (x ∷ xs)
  unfolding behind_label
  more_letters f m a b c j e r x xs ee inside from room s1 s2 rest =
      let low = inside.low in
      let in_base = inside.within in
      let few = rest.few in
      let behind : suc j + 3 ≡ suc (j + 3) = omega arith in
      record {
        m' = rest.m';
        locals' = rest.locals';
        count = steps 5 rest.count;
        runs = taken ((at_end io) m a b c (49152 + j) e false (ne_eqb (49152 + j) e (λ (i : 49152 + j ≡ e). (omega arith)))) refl
            (done (read_3 m a b c (49152 + j) e r x from low inside.row.0 (omega arith))
            (done s1.is
            (done s2.is
            (done ((next_4 io) s2.m' a b x (49152 + j) e (49152 + suc j) (omega arith)) (at_label rest.runs)))));
        from = rest.from ∙ (omega arith);
        letters = (rest.others (heap_at + (j + 3)) (λ i. (omega arith)) (λ i. (omega arith)) ∙ s2.at, subst (λ (i : ℕ). LettersLie (λ k. rest.m'.cells (heap_at + k)) i xs) behind rest.letters);
        others = λ q ne36 far. rest.others q ne36 (λ z. (let y = far (omega arith) in omega arith)) ∙ s2.keeps q (λ z. (let y = far (omega arith) in omega arith)) ∙ s1.keeps q ne36;
        few = omega (arith, steps_are 5 rest.count);
      }

  area_word : (m : (M io)) (r x : ℕ) → 12315 ≤ r → area r ≡ x → x < 65536
  area_word m r x le e = subst (λ (y : ℕ). y < 65536) (m.behind r le ∙ e) (m.holds.words r)

  all_letters : (f : ℕ) (xs : List ℕ) (m : (M io)) (a b c j e r : ℕ) → e ≡ 49152 + (j + length xs) → (InArea io) r xs → m.cells 38 ≡ at_cell r → j + 3 + length xs ≤ 10000 → LettersIn f m a b c j e r xs
  all_letters f [] m a b c j e r ee inside from room = record {
    m' = m;
    locals' = (five io) a b c (49152 + j) e;
    count = 2;
    runs = passed ((at_end io) m a b c (49152 + j) e true (eq-eqb (49152 + j) e (omega arith))) (returns (second p m.memory a b c (49152 + j) e typed drawn output));
    from = from ∙ (omega arith);
    letters = tt;
    others = λ q ne36 far. refl;
    few = omega arith;
  }
  all_letters f (x ∷ xs) m a b c j e r ee inside from room =
      let small = inside.small in
      let s1 = (did_on io) m ((five io) a b x (49152 + j) e) r from (omega arith) in
      let s2 = (did_store io) s1.m' ((five io) a b x (49152 + j) e) 33444 (atoms.Var 4) (atoms.Var 3) (49152 + j) (j + 3) x (fourth p s1.m'.memory a b x (49152 + j) e typed drawn output) (third p s1.m'.memory a b x (49152 + j) e typed drawn output) (omega arith) (omega arith) (area_word m r x inside.low inside.row.0) in
      more_letters f m a b c j e r x xs ee inside from room s1 s2
      (all_letters f xs s2.m' a b x (suc j) e (suc r) (omega arith) ((area_back io) r (suc r) (x ∷ []) xs (omega arith) inside) (s2.keeps 38 (λ i. (omega arith)) ∙ s1.at) (omega arith))

  -- ---- an unknown word

  module _ (f : ℕ) (xs : List ℕ) (m : (M io)) (r lo : ℕ) (inside : (InArea io) r (words_of (leaf (Unknown xs)))) (from : m.cells 38 ≡ at_cell r) (fill : m.cells 39 ≡ lo + copy_cells (leaf (Unknown xs))) (room : lo + copy_cells (leaf (Unknown xs)) ≤ 10000) where
    abbrev word_at : ℕ
    word_at = lo + all_copy_cells NoMore

    abbrev word_box : ℕ
    word_box = 49152 + (lo + all_copy_cells NoMore)

    abbrev size_is : ℕ
    size_is = length xs

    abbrev word_header : ℕ
    word_header = 32768 + length xs

    abbrev thrice : ℕ
    thrice = 3 * length xs

    abbrev word_end : ℕ
    word_end = 49152 + (lo + all_copy_cells NoMore + length xs)

    abbrev word_cell : ℕ
    word_cell = 32768 + (1 + length xs)

    abbrev WordResult : Type 0
    WordResult = CopiesIn p story area f COPY_IN_ACTS typed output drawn m (0 ∷ 0 ∷ 0 ∷ 0 ∷ 0 ∷ []) r lo (leaf (Unknown xs)) 4 ((price io) (leaf (Unknown xs)))

    word_words : words_of (leaf (Unknown xs)) ≡ (32769 + length xs) ∷ xs
    word_words = ap (λ (l : List ℕ). (32769 + length xs) ∷ l) (ap (map cell_word) (append-nil (map cell.Char xs)) ∙ chars_are xs)

    word_cells : (InArea io) r ((32769 + length xs) ∷ xs)
    word_cells = subst ((InArea io) r) word_words inside

    to_word : (m1 : (M io)) (x : ℕ) (s' : State) (i : ℕ) → (Run io) f (drop 44 COPY_IN_ACTS) ((in_m io) m1 ((five io) word_header 0 size_is thrice 0)) x s' i → (Run io) f (drop 2 COPY_IN_ACTS) ((in_m io) m1 ((five io) word_cell 0 0 0 0)) x s' (steps 6 i)
    unfolding behind_label
    to_word m1 x s' i rest =
        taken ((first_less io) m1 word_cell 0 0 0 0 0 true true (reference_is_negative (1 + length xs) (omega arith))) refl
        (passed ((first_less io) m1 word_cell 0 0 0 0 49152 true false (reference (1 + length xs) (omega arith)))
        (taken ((first_is io) m1 word_cell 0 0 0 0 32768 false false (ne_eqb word_cell 32768 (λ (e : word_cell ≡ 32768). (omega arith)))) refl
        (done (computes p ((in_m io) m1 ((five io) word_cell 0 0 0 0)) ((in_m io) m1 ((five io) word_header 0 0 0 0)) 1 functions.Sub (atoms.Var 1) (atoms.Num 1) word_cell 1 word_header (first p m1.memory word_cell 0 0 0 0 typed drawn output) refl ((sub_is io) m1.memory word_cell 1 word_header (omega arith) (omega arith)) (put_first p m1.memory word_cell 0 0 0 0 word_header typed drawn output))
        (done (computes p ((in_m io) m1 ((five io) word_header 0 0 0 0)) ((in_m io) m1 ((five io) word_header 0 size_is 0 0)) 3 functions.Sub (atoms.Var 1) (atoms.Num 32768) word_header 32768 size_is (first p m1.memory word_header 0 0 0 0 typed drawn output) refl ((sub_is io) m1.memory word_header 32768 size_is (omega arith) (omega arith)) (put_third p m1.memory word_header 0 0 0 0 size_is typed drawn output))
        (done (computes p ((in_m io) m1 ((five io) word_header 0 size_is 0 0)) ((in_m io) m1 ((five io) word_header 0 size_is thrice 0)) 4 functions.Mul (atoms.Var 3) (atoms.Num 3) size_is 3 thrice (third p m1.memory word_header 0 size_is 0 0 typed drawn output) refl ((three_times io) m1.memory size_is thrice refl (omega arith)) (put_fourth p m1.memory word_header 0 size_is 0 0 thrice typed drawn output)) rest)))))

    to_letters : (m4 : (M io)) (x : ℕ) (s' : State) (i : ℕ) → word_end < 65536 → (Run io) f (drop 57 COPY_IN_ACTS) ((in_m io) m4 ((five io) word_header word_box size_is word_box word_end)) x s' i → (Run io) f (drop 48 COPY_IN_ACTS) ((in_m io) m4 ((five io) word_header word_box size_is thrice 0)) x s' (steps 3 i)
    unfolding behind_label
    to_letters m4 x s' i lt rest =
        done (copies p ((in_m io) m4 ((five io) word_header word_box size_is thrice 0)) ((in_m io) m4 ((five io) word_header word_box size_is word_box 0)) 4 (atoms.Var 2) word_box (second p m4.memory word_header word_box size_is thrice 0 typed drawn output) (put_fourth p m4.memory word_header word_box size_is thrice 0 word_box typed drawn output))
        (done (computes p ((in_m io) m4 ((five io) word_header word_box size_is word_box 0)) ((in_m io) m4 ((five io) word_header word_box size_is word_box word_end)) 5 functions.Add (atoms.Var 2) (atoms.Var 3) word_box size_is word_end (second p m4.memory word_header word_box size_is word_box 0 typed drawn output) (third p m4.memory word_header word_box size_is word_box 0 typed drawn output) (added p m4.memory word_box size_is word_end (omega arith)) (put_fifth p m4.memory word_header word_box size_is word_box 0 word_end typed drawn output))
        (goes refl rest))

    word_5 : (s1 : (Did io) (On io) m ((five io) word_cell 0 0 0 0) 38 (at_cell (suc r))) (s2 : (Did io) ((Down io) (atoms.Var 4)) s1.m' ((five io) word_header 0 size_is thrice 0) 39 (word_at + 3)) (s3 : (Did io) ((Down io) (atoms.Num 3)) s2.m' ((five io) word_header 0 size_is thrice 0) 39 word_at) (s4 : (Did io) ((Store io) 33438 (atoms.Var 2) (atoms.Var 1)) s3.m' ((five io) word_header word_box size_is thrice 0) (heap_at + word_at) word_header) → LettersIn f s4.m' word_header word_box size_is word_at word_end (suc r) xs → WordResult
    word_5 s1 s2 s3 s4 rest =
        let low = word_cells.low in
        let in_base = word_cells.within in
        let few = rest.few in
        let n = ap (λ (l : List ℕ). length l) word_words in
        record {
          m' = rest.m';
          locals' = rest.locals';
          count = steps 15 rest.count;
          runs = done ((read_1 io) m 0 0 0 0 0 r word_cell from low (word_cells.row.0 ∙ (omega arith)) (omega arith))
              (done s1.is
              (to_word s1.m' word_box ((in_m io) rest.m' rest.locals') (steps 7 rest.count)
              (done s2.is
              (done s3.is
              (done ((word_2 io) s3.m' word_header 0 size_is thrice 0 49152 word_at s3.at (omega arith))
              (done s4.is
              (to_letters s4.m' word_box ((in_m io) rest.m' rest.locals') rest.count (omega arith) rest.runs)))))));
          from = rest.from ∙ (omega arith);
          fill = rest.others 39 (λ e. (omega arith)) (λ z. (omega arith)) ∙ s4.keeps 39 (λ e. (omega arith)) ∙ s3.at ∙ (omega arith);
          lies = ((rest.others (heap_at + word_at) (λ e. (omega arith)) (λ z. (omega arith)) ∙ s4.at, rest.letters), tt);
          others = λ q ne36 ne37 far. rest.others q ne36 (λ z. (let y = far (omega arith) in omega arith)) ∙ s4.keeps q (λ e. (let z = far (omega arith) in omega arith)) ∙ s3.keeps q ne37 ∙ s2.keeps q ne37 ∙ s1.keeps q ne36;
          few = omega (arith, steps_are 15 rest.count);
        }

    word_3 : (s1 : (Did io) (On io) m ((five io) word_cell 0 0 0 0) 38 (at_cell (suc r))) (s2 : (Did io) ((Down io) (atoms.Var 4)) s1.m' ((five io) word_header 0 size_is thrice 0) 39 (word_at + 3)) (s3 : (Did io) ((Down io) (atoms.Num 3)) s2.m' ((five io) word_header 0 size_is thrice 0) 39 word_at) → WordResult
    word_3 s1 s2 s3 =
        let s4 = (did_store io) s3.m' ((five io) word_header word_box size_is thrice 0) 33438 (atoms.Var 2) (atoms.Var 1) word_box word_at word_header (second p s3.m'.memory word_header word_box size_is thrice 0 typed drawn output) (first p s3.m'.memory word_header word_box size_is thrice 0 typed drawn output) (omega arith) (omega arith) (omega arith) in
        word_5 s1 s2 s3 s4
        (all_letters f xs s4.m' word_header word_box size_is word_at word_end (suc r) refl ((area_back io) r (suc r) ((32769 + length xs) ∷ []) xs (omega arith) word_cells) (s4.keeps 38 (λ e. (omega arith)) ∙ s3.keeps 38 (λ e. (omega arith)) ∙ s2.keeps 38 (λ e. (omega arith)) ∙ s1.at) (omega arith))

    word_2_of : (s1 : (Did io) (On io) m ((five io) word_cell 0 0 0 0) 38 (at_cell (suc r))) (s2 : (Did io) ((Down io) (atoms.Var 4)) s1.m' ((five io) word_header 0 size_is thrice 0) 39 (word_at + 3)) → WordResult
    word_2_of s1 s2 = word_3 s1 s2 ((did_down io) s2.m' ((five io) word_header 0 size_is thrice 0) (atoms.Num 3) 3 word_at refl s2.at (omega arith))

    of_word : WordResult
    of_word =
        let small = word_cells.small in
        let s1 = (did_on io) m ((five io) word_cell 0 0 0 0) r from (omega arith) in
        word_2_of s1 ((did_down io) s1.m' ((five io) word_header 0 size_is thrice 0) (atoms.Var 4) thrice (word_at + 3) (fourth p s1.m'.memory word_header 0 size_is thrice 0 typed drawn output) (s1.keeps 39 (λ e. (omega arith)) ∙ fill ∙ (omega arith)) (omega arith))

  -- ---- all together

  mutual
    copy_in : (v : Value) (f : ℕ) → size v ≤ f → Formed captures v → (Copy io) f v
    copy_in (Var y) f few fine = (variable io) f y
    copy_in (Node (Num n) NoMore) f few fine = let lt : n < 16384 = fine.0 in (simple io) f n (leaf (Num n)) refl (omega arith) (λ (e : n ≡ 28673). (omega arith)) refl (λ lo. refl) (λ at lo. (tt, tt)) (omega arith)
    copy_in (Node (Word n) NoMore) f few fine = let lt : n < 8192 = fine.0 in (simple io) f (16384 + n) (leaf (Word n)) refl (omega arith) (λ (e : 16384 + n ≡ 28673). (omega arith)) refl (λ lo. refl) (λ at lo. (tt, tt)) (omega arith)
    copy_in (Node (Object n) NoMore) f few fine = let lt : n < 4096 = fine.0 in (simple io) f (24576 + n) (leaf (Object n)) refl (omega arith) (λ (e : 24576 + n ≡ 28673). (omega arith)) refl (λ lo. refl) (λ at lo. (tt, tt)) (omega arith)
    copy_in (Node Nil NoMore) f few fine = (simple io) f 28672 (leaf Nil) refl (omega arith) (λ (e : 28672 ≡ 28673). (omega arith)) refl (λ lo. refl) (λ at lo. (tt, tt)) (omega arith)
    copy_in (Node (Unknown xs) NoMore) f few fine = of_word f xs
    copy_in (Node Pair (More h (More t NoMore))) zero few fine = absurd (omega arith)
    copy_in (Node Pair (More h (More t NoMore))) (suc f) few fine = (of_pair io) f h t fine.1.0 fine.1.1.0 (copy_in h f (omega arith) fine.1.0) (copy_in t f (omega arith) fine.1.1.0)
    copy_in (Node (Closure place) vs) zero few fine = absurd (omega arith)
    copy_in (Node (Closure place) vs) (suc f) few fine = (of_closure io) f place vs fine.0.0 fine.0.1 fine.0.2 (fill_in vs f (omega arith) fine.1)
    copy_in (Node g vs) f few fine = absurd fine.0

    fill_in : (vs : Values) (f : ℕ) → sizes vs ≤ f → AllFormed captures vs → (Fill io) f vs
    fill_in NoMore f few fine = (no_values io) f
    fill_in (More v vs) f few fine = (more_values io) f v vs fine.0 (copy_in v f (omega arith) fine.0) (fill_in vs f (omega arith) fine.1)

  -- The routine, from its beginning.
  pub copies_in : (m : (M io)) (v : Value) (r lo : ℕ) → Formed captures v → 12315 ≤ r → at_cell (r + length (words_of v)) ≤ p.world.layout.base → at_cell (r + length (words_of v)) < 65536 → Row area r (words_of v) → m.cells 38 ≡ at_cell r → m.cells 39 ≡ lo + copy_cells v → lo + copy_cells v ≤ 10000 → CopiesIn p story area (size v) COPY_IN_ACTS typed output drawn m (0 ∷ 0 ∷ 0 ∷ 0 ∷ 0 ∷ []) r lo v 0 (24 * size v + 8 * letters_in v)
  copies_in m v r lo fine low within small row from fill room =
      let c = copy_in v (size v) (omega arith) fine m r lo (record { low = low; within = within; small = small; row = row }) from fill room in
      let few = c.few in
      record { m' = c.m'; locals' = c.locals'; count = c.count; runs = c.runs; from = c.from; fill = c.fill; lies = c.lies; others = c.others; few = omega arith }

-- And what memory stands for behind it.
module _ (p : Program) (story : List ℕ) (sh : Shape) (has : HasCaptures p story sh.captures) (typed output : List ℕ) (drawn : ℕ) (area : ℕ → ℕ) (m : Reading p story area) (is : IsShape sh) (low : (n : ℕ) → n < sh.vars → sh.place n < sh.top) (S : Substitution) (st : Stands sh m.cells S) (known : (n : ℕ) → sh.vars ≤ n → binding_of n S ≡ None) (v : Value) (r : ℕ) (fine : Formed sh.captures v) (room : sh.top + copy_cells v ≤ 10000) where
  stands_for : CopiesIn p story area (size v) COPY_IN_ACTS typed output drawn m (0 ∷ 0 ∷ 0 ∷ 0 ∷ 0 ∷ []) r sh.top v 0 (24 * size v + 8 * letters_in v) → CopiedIn p story area typed output drawn m sh S r v
  stands_for c =
      let same : (k : ℕ) → k < sh.top → c.m'.cells (heap_at + k) ≡ m.cells (heap_at + k) = λ k lt. c.others (heap_at + k) (λ e. (omega arith)) (λ e. (omega arith)) (λ z. (omega arith)) in
      record {
        copies = c;
        sh' = copied sh is low m.cells c.m'.cells S st known v fine room same c.lies;
        top = refl;
        vars = refl;
        grown = copied_grown sh is low m.cells c.m'.cells S st known v fine room same c.lies;
        shape = copied_shape sh is low m.cells c.m'.cells S st known v fine room same c.lies;
        low = copied_low sh is low m.cells c.m'.cells S st known v fine room same c.lies;
        new_places = copied_places sh is low m.cells c.m'.cells S st known v fine room same c.lies;
        new_boxes = copied_boxes sh is low m.cells c.m'.cells S st known v fine room same c.lies;
        stands = copied_stands sh is low m.cells c.m'.cells S st known v fine room same c.lies;
        shows = copied_shows sh is low m.cells c.m'.cells S st known v fine room same c.lies;
      }

  pub copy_in_works : 12315 ≤ r → at_cell (r + length (words_of v)) ≤ p.world.layout.base → at_cell (r + length (words_of v)) < 65536 → Row area r (words_of v) → m.cells 38 ≡ at_cell r → m.cells 39 ≡ sh.top + copy_cells v → CopiedIn p story area typed output drawn m sh S r v
  copy_in_works low_r within small row from fill = stands_for (copies_in (record { p = p; story = story; captures = sh.captures; has = has; typed = typed; output = output; drawn = drawn; area = area }) m v r sh.top fine low_r within small row from fill room)
