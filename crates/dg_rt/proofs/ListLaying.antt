-- A list of values is laid on the heap downwards, each value in front of its pair.
use Rattle.std.proofs.Common.{◌≡◌, ◌≢◌, ℕ, suc, ◌+◌, ◌*◌, ◌<◌, ◌≤◌, Bool, true, false, List, [], ◌∷◌, drop, length, Some, refl, sym, ap, ◌∙◌, subst, arith, length-append}
use Rattle.std.specs.Prelude.{◌==◌}
use Rattle.std.specs.List.{sum_by}
use Rattle.std.proofs.lemmas.List.Sums.{sum_by-cons}
use Rattle.std.proofs.lemmas.Bool.{eq-eqb, ne_eqb}
use Rattle.dg_meaning.specs.Values.{Nil, Value, NoMore, More, leaf}
use Rattle.dg_meaning.specs.Copies.{list_of, copy_cells, all_copy_cells}
use Rattle.dg_meaning.specs.Letters.{letters_in}
use Rattle.dg_meaning.specs.Unify.{size}
use Rattle.z_lang.specs.declared.act.Act.{Act}
use Rattle.z_lang.specs.declared.act.Act.TheVariants as acts
use Rattle.z_lang.specs.declared.act.Atom.TheVariants as atoms
use Rattle.z_lang.specs.declared.act.Comparison.TheVariants as comparisons
use Rattle.z_lang.specs.declared.act.Function.TheVariants as functions
use Rattle.z_lang.specs.State.{State}
use Rattle.z_lang.specs.Acts.{answer_of, does}
use Rattle.z_lang.specs.Runs.{ActsRun as Runs, Returns, goes, taken, passed, done, calls, returns, behind_label}
use Rattle.dg_rt.specs.declared.gathering.TheConstants.{TAKE_LIST_ACTS}
use Rattle.dg_rt.specs.declared.copies.TheConstants.{COPY_IN_ACTS}
use Rattle.dg_rt.specs.Cells.{at_cell}
use Rattle.dg_rt.specs.Areas.{heap_at}
use Rattle.dg_rt.specs.Laying.{Formed, copy_word, Lies}
use Rattle.dg_rt.specs.Copies.{words_of}
use Rattle.dg_rt.specs.CopiesIn.{CopiesIn, SameBut}
use Rattle.dg_rt.specs.Gatherings.{rows_of, AreFormed}
use Rattle.dg_rt.proofs.Following.{some_state, tested, computes}
use Rattle.dg_rt.proofs.Locals.{first, second, third, fourth, put_third, put_fourth, added}
use Rattle.dg_rt.proofs.Standing.{copy_in_at}
use Rattle.dg_rt.proofs.LaySteps.{Laid, lies_keep, copy_word_small, M, in_m, five, from_is, fill_is, InArea, area_front, area_back, Did, Down, Store, did_down, did_store}
use Rattle.dg_rt.proofs.CopyingIn.{copies_in}
use Rattle.dg_rt.proofs.ValueBounds.{some_size, size_words}

-- the values' list is formed where they are
pub list_formed : (captures : ℕ → ℕ) (vs : List Value) → AreFormed captures vs → Formed captures (list_of vs)
list_formed captures [] fine = (tt, tt)
list_formed captures (v ∷ vs) fine = (tt, (fine.0, (list_formed captures vs fine.1, tt)))

-- the price of a list
abbrev value_price : Value → ℕ
value_price v = 34 * size v + 8 * letters_in v

abbrev pub list_price : List Value → ℕ
list_price vs = sum_by value_price vs

pub price_more : (v : Value) (vs : List Value) → list_price (v ∷ vs) ≡ 34 * size v + 8 * letters_in v + list_price vs
price_more v vs = sum_by-cons value_price v vs

module _ (io : Laid) where
  open io use {p, story, captures, has, typed, output, drawn, area}

  abbrev Acts : ℕ → ℕ → List Act → State → ℕ → State → ℕ → Type 0
  Acts f w acts s x s' i = Runs p f w TAKE_LIST_ACTS acts s (Returns x) s' i

  -- A list was laid from a place on: the word of its first pair, which stands in the second local, is answered.
  pub record Listed (f w : ℕ) (m : M io) (e b c d x r lo : ℕ) (vs : List Value) : Type 0 where
    pub m' : M io
    pub locals' : List ℕ
    pub count : ℕ
    pub runs : Acts f w (drop 16 TAKE_LIST_ACTS) (in_m io m (five io e b c d x)) b (in_m io m' locals') count
    pub lies : Lies (λ k. m'.cells (heap_at + k)) lo (list_of vs)
    pub others : SameBut m.cells m'.cells lo (lo + copy_cells (list_of vs))
    pub few : count ≤ list_price vs

  word_3 : (m : M io) (e b c d x q : ℕ) → m.cells 39 ≡ q → q < 10000 → does p (acts.Compute 3 functions.Add (atoms.Var 55) (atoms.Num 49152)) (in_m io m (five io e b c d x)) ≡ some_state (in_m io m (five io e b (49152 + q) d x))
  word_3 m e b c d x q is lt = computes p (in_m io m (five io e b c d x)) (in_m io m (five io e b (49152 + q) d x)) 3 functions.Add (atoms.Var 55) (atoms.Num 49152) (m.cells 39) 49152 (49152 + q) (fill_is io m (five io e b c d x)) refl (added p m.memory (m.cells 39) 49152 (49152 + q) (omega arith)) (put_third p m.memory e b c d x (49152 + q) typed drawn output)

  word_4 : (m : M io) (e b c d x q : ℕ) → m.cells 39 ≡ q + 3 → q < 10000 → does p (acts.Compute 4 functions.Add (atoms.Var 55) (atoms.Num 49149)) (in_m io m (five io e b c d x)) ≡ some_state (in_m io m (five io e b c (49152 + q) x))
  word_4 m e b c d x q is lt = computes p (in_m io m (five io e b c d x)) (in_m io m (five io e b c (49152 + q) x)) 4 functions.Add (atoms.Var 55) (atoms.Num 49149) (m.cells 39) 49149 (49152 + q) (fill_is io m (five io e b c d x)) refl (added p m.memory (m.cells 39) 49149 (49152 + q) (omega arith)) (put_fourth p m.memory e b c d x (49152 + q) typed drawn output)

  pub at_end : (m : M io) (e b c d x r : ℕ) (t : Bool) → m.cells 38 ≡ at_cell r → (at_cell r == e) ≡ t → answer_of p (in_m io m (five io e b c d x)) (record { comparison = comparisons.Equal; first = atoms.Var 54; second = atoms.Var 1; answer = true }) ≡ Some t
  at_end m e b c d x r t is q = tested p (in_m io m (five io e b c d x)) comparisons.Equal (atoms.Var 54) (atoms.Var 1) true (m.cells 38) e t (from_is io m (five io e b c d x)) (first p m.memory e b c d x typed drawn output) (ap (λ (i : ℕ). i == e) is ∙ q)

  -- ---- one pair

  module _ (f w : ℕ) (m : M io) (e b c d x r lo : ℕ) (v : Value) (vs : List Value) (fine : AreFormed captures (v ∷ vs)) (inside : InArea io r (rows_of (v ∷ vs))) (end : e ≡ at_cell (r + length (rows_of (v ∷ vs)))) (from : m.cells 38 ≡ at_cell r) (fill : m.cells 39 ≡ lo + copy_cells (list_of (v ∷ vs))) (room : lo + copy_cells (list_of (v ∷ vs)) ≤ 10000) (deep : size v < f) (wide : 5 + 5 * size v ≤ w) where
    abbrev rest : Value
    rest = list_of vs

    abbrev k : ℕ
    k = lo + all_copy_cells (More v (More (list_of vs) NoMore))

    abbrev box : ℕ
    box = 49152 + (lo + all_copy_cells (More v (More (list_of vs) NoMore)))

    abbrev lo_h : ℕ
    lo_h = lo + all_copy_cells (More (list_of vs) NoMore)

    abbrev hw : ℕ
    hw = copy_word lo_h v

    abbrev r' : ℕ
    r' = r + length (words_of v)

    abbrev Head : M io → Type 0
    Head m1 = CopiesIn p story area (size v) COPY_IN_ACTS typed output drawn m1 (0 ∷ 0 ∷ 0 ∷ 0 ∷ 0 ∷ []) r lo_h v 0 (24 * size v + 8 * letters_in v)

    -- What stands where the head is written.
    record Half : Type 0 where
      s1 : Did io (Down io (atoms.Num 3)) m (five io e b c d x) 39 k
      s2 : Did io (Store io 33438 (atoms.Var 3) (atoms.Num 0)) s1.m' (five io e b box d x) (heap_at + k) 0
      hd : Head s2.m'
      s3 : Did io (Store io 33440 (atoms.Var 3) (atoms.Var 4)) hd.m' (five io e b box hw x) (heap_at + (k + 1)) hw

    half_3 : (s1 : Did io (Down io (atoms.Num 3)) m (five io e b c d x) 39 k) (s2 : Did io (Store io 33438 (atoms.Var 3) (atoms.Num 0)) s1.m' (five io e b box d x) (heap_at + k) 0) → Head s2.m' → Half
    half_3 s1 s2 hd = record {
      s1 = s1;
      s2 = s2;
      hd = hd;
      s3 = did_store io hd.m' (five io e b box hw x) 33440 (atoms.Var 3) (atoms.Var 4) box (k + 1) hw (third p hd.m'.memory e b box hw x typed drawn output) (fourth p hd.m'.memory e b box hw x typed drawn output) (omega arith) (omega arith) (copy_word_small captures lo_h v fine.0 (omega arith));
    }

    half_2 : (s1 : Did io (Down io (atoms.Num 3)) m (five io e b c d x) 39 k) (s2 : Did io (Store io 33438 (atoms.Var 3) (atoms.Num 0)) s1.m' (five io e b box d x) (heap_at + k) 0) → Half
    half_2 s1 s2 =
        let front = area_front io r (words_of v) (rows_of vs) inside in
        half_3 s1 s2 (copies_in io s2.m' v r lo_h fine.0 front.low front.within front.small front.row (s2.keeps 38 (λ q. (omega arith)) ∙ s1.keeps 38 (λ q. (omega arith)) ∙ from) (s2.keeps 39 (λ q. (omega arith)) ∙ s1.at ∙ (omega arith)) (omega arith))

    half : Half
    half =
        let s1 = did_down io m (five io e b c d x) (atoms.Num 3) 3 k refl (fill ∙ (omega arith)) (omega arith) in
        half_2 s1 (did_store io s1.m' (five io e b box d x) 33438 (atoms.Var 3) (atoms.Num 0) box k 0 (third p s1.m'.memory e b box d x typed drawn output) refl (omega arith) (omega arith) (omega arith))

    -- up to the tail
    to_tail : (a : Half) (y : ℕ) (s' : State) (i : ℕ) → Acts f w (drop 21 TAKE_LIST_ACTS) (in_m io a.s3.m' (five io e b box hw x)) y s' i → Acts f w (drop 16 TAKE_LIST_ACTS) (in_m io m (five io e b c d x)) y s' (suc (suc (suc (suc a.hd.count + suc i))))
    to_tail a y s' i go =
        done a.s1.is
        (done (word_3 a.s1.m' e b c d x k a.s1.at (omega arith))
        (done a.s2.is
        (calls {f' = size v} {w' = 5 * size v} {n = a.hd.count} {n' = suc i} {xs = (0, 0, 0)} refl refl (copy_in_at p has.has) deep wide a.hd.runs (put_fourth p a.hd.m'.memory e b box d x hw typed drawn output)
        (done a.s3.is go))))

    from_then : (a : Half) → a.s3.m'.cells 38 ≡ at_cell r'
    from_then a = a.s3.keeps 38 (λ q. (omega arith)) ∙ a.hd.from

    fill_then : (a : Half) → a.s3.m'.cells 39 ≡ lo_h
    fill_then a = a.s3.keeps 39 (λ q. (omega arith)) ∙ a.hd.fill

    -- what is laid there stays, where what changes lies in front of it
    lies_then : (a : Half) (m2 : M io) (tw : ℕ) → tw ≡ copy_word (lo + all_copy_cells NoMore) rest → m2.cells (heap_at + (k + 2)) ≡ tw → ((q : ℕ) → lo_h ≤ q → q ≢ k + 2 → q < 10000 → m2.cells (heap_at + q) ≡ a.s3.m'.cells (heap_at + q)) → Lies (λ i. m2.cells (heap_at + i)) (lo + all_copy_cells NoMore) rest → Lies (λ i. m2.cells (heap_at + i)) lo (list_of (v ∷ vs))
    lies_then a m2 tw is tail same lies = (
      (
        same k (omega arith) (λ q. (omega arith)) (omega arith) ∙ a.s3.keeps (heap_at + k) (λ q. (omega arith)) ∙ a.hd.others (heap_at + k) (λ q. (omega arith)) (λ q. (omega arith)) (λ q. (omega arith)) ∙ a.s2.at,
        (
          same (k + 1) (omega arith) (λ q. (omega arith)) (omega arith) ∙ a.s3.at,
          ((let q : suc (k + 1) ≡ k + 2 = omega arith in ap (λ (i : ℕ). m2.cells (heap_at + i)) q ∙ tail ∙ is), tt),
        ),
      ),
      (
        lies_keep captures (λ i. a.hd.m'.cells (heap_at + i)) (λ i. m2.cells (heap_at + i)) v lo_h fine.0 (λ i low below. same i (omega arith) (λ q. (omega arith)) (omega arith) ∙ a.s3.keeps (heap_at + i) (λ q. (omega arith))) a.hd.lies,
        (lies, tt),
      ),
    )

    -- nothing else has changed
    others_then : (a : Half) → SameBut m.cells a.s3.m'.cells lo (lo + copy_cells (list_of (v ∷ vs)))
    others_then a q n38 n39 far =
        a.s3.keeps q (λ z. (let y = far (omega arith) in omega arith)) ∙ a.hd.others q n38 n39 (λ z. (let y = far (omega arith) in omega arith)) ∙ a.s2.keeps q (λ z. (let y = far (omega arith) in omega arith)) ∙ a.s1.keeps q n39

  -- ---- the last pair

  last_pair : (f w : ℕ) (m : M io) (e b c d x r lo : ℕ) (v : Value) (fine : AreFormed captures (v ∷ [])) (inside : InArea io r (rows_of (v ∷ []))) (end : e ≡ at_cell (r + length (rows_of (v ∷ [])))) (from : m.cells 38 ≡ at_cell r) (fill : m.cells 39 ≡ lo + copy_cells (list_of (v ∷ []))) (room : lo + copy_cells (list_of (v ∷ [])) ≤ 10000) → size v < f → 5 + 5 * size v ≤ w → 1 ≤ size v → Listed f w m e b c d x r lo (v ∷ [])
  unfolding behind_label
  last_pair f w m e b c d x r lo v fine inside end from fill room deep wide some =
      let a = half f w m e b c d x r lo v [] fine inside end from fill room deep wide in
      let k = lo + all_copy_cells (More v (More (leaf Nil) NoMore)) in
      let box = 49152 + k in
      let hw = copy_word (lo + all_copy_cells (More (leaf Nil) NoMore)) v in
      let r' = r + length (words_of v) in
      let n' = length-append (words_of v) [] in
      let there : at_cell r' ≡ e = (omega arith) in
      let s4 = did_store io a.s3.m' (five io e b box hw x) 33442 (atoms.Var 3) (atoms.Num 28672) box (k + 2) 28672 (third p a.s3.m'.memory e b box hw x typed drawn output) refl (omega arith) (omega arith) (omega arith) in
      let few = a.hd.few in
      let price = price_more v [] in
      record {
        m' = s4.m';
        locals' = five io e b box hw x;
        count = suc (suc (suc (suc a.hd.count + suc 3)));
        runs = to_tail f w m e b c d x r lo v [] fine inside end from fill room deep wide a b (in_m io s4.m' (five io e b box hw x)) 3
            (taken (at_end a.s3.m' e b box hw x r' true (from_then f w m e b c d x r lo v [] fine inside end from fill room deep wide a) (eq-eqb (at_cell r') e there)) refl
            (done s4.is (returns (second p s4.m'.memory e b box hw x typed drawn output))));
        lies = lies_then f w m e b c d x r lo v [] fine inside end from fill room deep wide a s4.m' 28672 refl s4.at (λ q low ne lt. s4.keeps (heap_at + q) (λ z. (omega arith))) (tt, tt);
        others = λ q n38 n39 far. s4.keeps q (λ z. (let y = far (omega arith) in omega arith)) ∙ others_then f w m e b c d x r lo v [] fine inside end from fill room deep wide a q n38 n39 far;
        few = omega arith;
      }

  -- ---- a pair with others behind it

  more_pairs : (f w : ℕ) (m : M io) (e b c d x r lo : ℕ) (v u : Value) (vs : List Value) (fine : AreFormed captures (v ∷ u ∷ vs)) (inside : InArea io r (rows_of (v ∷ u ∷ vs))) (end : e ≡ at_cell (r + length (rows_of (v ∷ u ∷ vs)))) (from : m.cells 38 ≡ at_cell r) (fill : m.cells 39 ≡ lo + copy_cells (list_of (v ∷ u ∷ vs))) (room : lo + copy_cells (list_of (v ∷ u ∷ vs)) ≤ 10000) (deep : size v < f) (wide : 5 + 5 * size v ≤ w) → 1 ≤ size v → 1 ≤ length (words_of u) → (a : Half f w m e b c d x r lo v (u ∷ vs) fine inside end from fill room deep wide) →
      (let k = lo + all_copy_cells (More v (More (list_of (u ∷ vs)) NoMore)) in let tw = copy_word (lo + all_copy_cells NoMore) (list_of (u ∷ vs)) in
      let box = 49152 + k in
      (s4 : Did io (Store io 33442 (atoms.Var 3) (atoms.Var 4)) a.s3.m' (five io e b box tw x) (heap_at + (k + 2)) tw) → Listed f w s4.m' e b box tw x (r + length (words_of v)) lo (u ∷ vs) → Listed f w m e b c d x r lo (v ∷ u ∷ vs))
  unfolding behind_label
  more_pairs f w m e b c d x r lo v u vs fine inside end from fill room deep wide some some_u a s4 l =
      let k = lo + all_copy_cells (More v (More (list_of (u ∷ vs)) NoMore)) in
      let box = 49152 + k in
      let hw = copy_word (lo + all_copy_cells (More (list_of (u ∷ vs)) NoMore)) v in
      let tw = copy_word (lo + all_copy_cells NoMore) (list_of (u ∷ vs)) in
      let q4 = lo + all_copy_cells (More u (More (list_of vs) NoMore)) in
      let r' = r + length (words_of v) in
      let n' = length-append (words_of v) (rows_of (u ∷ vs)) in
      let n'' = length-append (words_of u) (rows_of vs) in
      let few = a.hd.few in
      let few' = l.few in
      let price = price_more v (u ∷ vs) in
      let none : lo + all_copy_cells NoMore ≡ lo = omega arith in
      record {
        m' = l.m';
        locals' = l.locals';
        count = suc (suc (suc (suc a.hd.count + suc (suc (suc (suc (suc l.count)))))));
        runs = to_tail f w m e b c d x r lo v (u ∷ vs) fine inside end from fill room deep wide a b (in_m io l.m' l.locals') (suc (suc (suc (suc l.count))))
            (passed (at_end a.s3.m' e b box hw x r' false (from_then f w m e b c d x r lo v (u ∷ vs) fine inside end from fill room deep wide a) (ne_eqb (at_cell r') e (λ (q : at_cell r' ≡ e). (omega arith))))
            (done (word_4 a.s3.m' e b box hw x (lo + all_copy_cells NoMore + all_copy_cells (More u (More (list_of vs) NoMore))) (fill_then f w m e b c d x r lo v (u ∷ vs) fine inside end from fill room deep wide a ∙ (omega arith)) (omega arith))
            (done s4.is
            (goes refl l.runs))));
        lies = lies_then f w m e b c d x r lo v (u ∷ vs) fine inside end from fill room deep wide a l.m' tw refl
            (l.others (heap_at + (k + 2)) (λ q. (omega arith)) (λ q. (omega arith)) (λ q. (omega arith)) ∙ s4.at)
            (λ q low ne lt. l.others (heap_at + q) (λ z. (omega arith)) (λ z. (omega arith)) (λ z. (omega arith)) ∙ s4.keeps (heap_at + q) (λ z. (omega arith)))
            (subst (λ (i : ℕ). Lies (λ j. l.m'.cells (heap_at + j)) i (list_of (u ∷ vs))) (sym none) l.lies);
        others = λ q n38 n39 far. l.others q n38 n39 (λ z. (let y = far z in omega arith)) ∙ s4.keeps q (λ z. (let y = far (omega arith) in omega arith)) ∙ others_then f w m e b c d x r lo v (u ∷ vs) fine inside end from fill room deep wide a q n38 n39 far;
        few = omega arith;
      }

  -- ---- all of it

  pub listed : (f w : ℕ) (vs : List Value) (v : Value) (m : M io) (e b c d x r lo : ℕ) → AreFormed captures (v ∷ vs) → InArea io r (rows_of (v ∷ vs)) → e ≡ at_cell (r + length (rows_of (v ∷ vs))) → m.cells 38 ≡ at_cell r → m.cells 39 ≡ lo + copy_cells (list_of (v ∷ vs)) → lo + copy_cells (list_of (v ∷ vs)) ≤ 10000 → length (rows_of (v ∷ vs)) < f → 5 + 5 * length (rows_of (v ∷ vs)) ≤ w → Listed f w m e b c d x r lo (v ∷ vs)
  listed f w [] v m e b c d x r lo fine inside end from fill room deep wide =
      let s = size_words captures v fine.0 in
      let n' = length-append (words_of v) [] in
      last_pair f w m e b c d x r lo v fine inside end from fill room (omega arith) (omega arith) (some_size v)
  listed f w (u ∷ vs) v m e b c d x r lo fine inside end from fill room deep wide =
      let s = size_words captures v fine.0 in
      let s' = size_words captures u fine.1.0 in
      let some_u = some_size u in
      let n' = length-append (words_of v) (rows_of (u ∷ vs)) in
      let k = lo + all_copy_cells (More v (More (list_of (u ∷ vs)) NoMore)) in
      let box = 49152 + k in
      let tw = copy_word (lo + all_copy_cells NoMore) (list_of (u ∷ vs)) in
      let deep' : size v < f = omega arith in
      let wide' : 5 + 5 * size v ≤ w = omega arith in
      let a = half f w m e b c d x r lo v (u ∷ vs) fine inside end from fill room deep' wide' in
      let s4 = did_store io a.s3.m' (five io e b box tw x) 33442 (atoms.Var 3) (atoms.Var 4) box (k + 2) tw (third p a.s3.m'.memory e b box tw x typed drawn output) (fourth p a.s3.m'.memory e b box tw x typed drawn output) (omega arith) (omega arith) (omega arith) in
      more_pairs f w m e b c d x r lo v u vs fine inside end from fill room deep' wide' (some_size v) (omega arith) a s4
      (listed f w vs u s4.m' e b box tw x (r + length (words_of v)) lo fine.1 (area_back io r (r + length (words_of v)) (words_of v) (rows_of (u ∷ vs)) refl inside) (end ∙ (omega arith)) (s4.keeps 38 (λ q. (omega arith)) ∙ from_then f w m e b c d x r lo v (u ∷ vs) fine inside end from fill room deep' wide' a) (s4.keeps 39 (λ q. (omega arith)) ∙ fill_then f w m e b c d x r lo v (u ∷ vs) fine inside end from fill room deep' wide' a ∙ (omega arith)) (omega arith) (omega arith) (omega arith))
