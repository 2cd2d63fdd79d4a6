-- What undoing gives back stays so under what grows and what is bound.
use Rattle.std.proofs.Common.{◌≡◌, ℕ, ◌+◌, ◌<◌, ◌≤◌, inl, inr, List, [], ◌∷◌, ◌++◌, length, refl, sym, ap, ◌∙◌, subst, arith, append_assoc, length-append}
use Rattle.std.specs.Prelude.{◌==◌, if◌then◌else◌}
use Rattle.std.proofs.lemmas.Bool.{eq-eqb, ne_eqb, cases_eq, cond-true, cond-false}
use Rattle.dg_rt.specs.Cells.{replaced}
use Rattle.dg_rt.specs.Areas.{heap_at, trail_at}
use Rattle.dg_rt.specs.Shapes.{Shape}
use Rattle.dg_rt.specs.Back.{at_place, Saved, undone, Grown, GivesBack, OnTrail}

pub grown_then : {a b c : Shape} → Grown a b → Grown b c → Grown a c
grown_then g h = record {
  top = let x = g.top in let y = h.top in omega arith;
  vars = let x = g.vars in let y = h.vars in omega arith;
  places = λ n lt. h.places n (let x = g.vars in omega arith) ∙ g.places n lt;
  others = λ k f. h.others k (g.others k f);
  fixed = λ k f. h.fixed k (g.others k f) ∙ g.fixed k f;
  boxes = λ k v e. h.boxes k v (g.boxes k v e);
  told = λ place. h.told place ∙ g.told place;
}

pub grown_none : (sh : Shape) → Grown sh sh
grown_none sh = record { top = omega arith; vars = omega arith; places = λ n lt. refl; others = λ k f. f; fixed = λ k f. refl; boxes = λ k v e. e; told = λ place. refl }

-- the words of a trail stay where they do
pub trail_stays : (cells cells' : ℕ → ℕ) (js : List ℕ) → ((i : ℕ) → i < length js → cells' (trail_at + i) ≡ cells (trail_at + i)) → OnTrail cells js → OnTrail cells' js
trail_stays cells cells' [] same h = tt
trail_stays cells cells' (j ∷ js) same h = ((same (length js) (omega arith) ∙ h.0.0, h.0.1), trail_stays cells cells' js (λ i lt. same i (omega arith)) h.1)

-- ## Undoing

pub undone_same : (js : List ℕ) (cells cells' : ℕ → ℕ) (k : ℕ) → cells' k ≡ cells k → undone js cells' k ≡ undone js cells k
undone_same [] cells cells' k e = e
undone_same (j ∷ js) cells cells' k e = ap (λ (x : ℕ). if k == heap_at + j then at_place j else x) (undone_same js cells cells' k e)

undone_append : (is js : List ℕ) (cells : ℕ → ℕ) (k : ℕ) → undone (is ++ js) cells k ≡ undone is (undone js cells) k
undone_append [] js cells k = refl
undone_append (i ∷ is) js cells k = ap (λ (x : ℕ). if k == heap_at + i then at_place i else x) (undone_append is js cells k)

-- an unbound variable may be undone twice
undone_unbound : (js : List ℕ) (cells : ℕ → ℕ) (j : ℕ) → cells (heap_at + j) ≡ at_place j → undone js cells (heap_at + j) ≡ at_place j
undone_unbound [] cells j e = e
undone_unbound (i ∷ js) cells j e = elim (cases_eq (heap_at + j) (heap_at + i)) [
  | inl same ↦ cond-true (heap_at + j == heap_at + i) (at_place i) (undone js cells (heap_at + j)) (eq-eqb (heap_at + j) (heap_at + i) same) ∙ (let q : i ≡ j = omega arith in ap at_place q)
  | inr ne ↦ cond-false (heap_at + j == heap_at + i) (at_place i) (undone js cells (heap_at + j)) (ne_eqb (heap_at + j) (heap_at + i) ne) ∙ undone_unbound js cells j e
]

-- Memory grows, and nothing is written below the mark.
pub back_grown : {sh sh' : Shape} {cells cells' : ℕ → ℕ} {trail : List ℕ} (w : Saved) → Grown sh sh' → ((k : ℕ) → k < w.sh.top → cells' (heap_at + k) ≡ cells (heap_at + k)) → GivesBack sh cells trail w → GivesBack sh' cells' trail w
back_grown {cells = cells} {cells' = cells'} w g same b = record {
  grown = grown_then b.grown g;
  newer = b.newer;
  trail_is = b.trail_is;
  words = λ k lt. undone_same b.newer cells cells' (heap_at + k) (same k lt) ∙ b.words k lt;
}

-- A variable below the mark is bound, and put on the trail.
pub back_bound : {sh : Shape} {cells : ℕ → ℕ} {trail : List ℕ} (w : Saved) (j x : ℕ) → cells (heap_at + j) ≡ at_place j → GivesBack sh cells trail w → GivesBack sh (replaced cells (heap_at + j) x) (j ∷ trail) w
back_bound {cells = cells} w j x free b = record {
  grown = b.grown;
  newer = j ∷ b.newer;
  trail_is = ap (λ (l : List ℕ). j ∷ l) b.trail_is;
  words = λ k lt. elim (cases_eq (heap_at + k) (heap_at + j)) [
    | inl same ↦
        let q : k ≡ j = omega arith in
        cond-true (heap_at + k == heap_at + j) (at_place j) (undone b.newer (replaced cells (heap_at + j) x) (heap_at + k)) (eq-eqb (heap_at + k) (heap_at + j) same)
        ∙ sym (subst (λ (i : ℕ). undone b.newer cells (heap_at + i) ≡ at_place j) (sym q) (undone_unbound b.newer cells j free)) ∙ b.words k lt
    | inr ne ↦
        cond-false (heap_at + k == heap_at + j) (at_place j) (undone b.newer (replaced cells (heap_at + j) x) (heap_at + k)) (ne_eqb (heap_at + k) (heap_at + j) ne)
        ∙ undone_same b.newer cells (replaced cells (heap_at + j) x) (heap_at + k) (cond-false (heap_at + k == heap_at + j) x (cells (heap_at + k)) (ne_eqb (heap_at + k) (heap_at + j) ne)) ∙ b.words k lt
  ];
}

-- A variable behind the mark is bound.
pub back_young : {sh : Shape} {cells : ℕ → ℕ} {trail : List ℕ} (w : Saved) (j x : ℕ) → w.sh.top ≤ j → GivesBack sh cells trail w → GivesBack sh (replaced cells (heap_at + j) x) trail w
back_young {cells = cells} w j x le b = record {
  grown = b.grown;
  newer = b.newer;
  trail_is = b.trail_is;
  words = λ k lt. undone_same b.newer cells (replaced cells (heap_at + j) x) (heap_at + k) (cond-false (heap_at + k == heap_at + j) x (cells (heap_at + k)) (ne_eqb (heap_at + k) (heap_at + j) (λ (e : heap_at + k ≡ heap_at + j). (omega arith)))) ∙ b.words k lt;
}

-- ## Undoing twice

pub one_first : (j : ℕ) (js : List ℕ) (cs ds : ℕ → ℕ) (k : ℕ) → ds k ≡ (if k == heap_at + j then at_place j else cs k) → undone js ds k ≡ (if k == heap_at + j then at_place j else undone js cs k)
one_first j [] cs ds k e = e
one_first j (i ∷ js) cs ds k e = elim (cases_eq k (heap_at + i)) [
  | inl same ↦ elim (cases_eq k (heap_at + j)) [
    | inl both ↦ cond-true (k == heap_at + i) (at_place i) (undone js ds k) (eq-eqb k (heap_at + i) same) ∙ (let q : i ≡ j = omega arith in ap at_place q) ∙ sym (cond-true (k == heap_at + j) (at_place j) (undone (i ∷ js) cs k) (eq-eqb k (heap_at + j) both))
    | inr ne ↦ cond-true (k == heap_at + i) (at_place i) (undone js ds k) (eq-eqb k (heap_at + i) same) ∙ sym (cond-true (k == heap_at + i) (at_place i) (undone js cs k) (eq-eqb k (heap_at + i) same)) ∙ sym (cond-false (k == heap_at + j) (at_place j) (undone (i ∷ js) cs k) (ne_eqb k (heap_at + j) ne))
  ]
  | inr other ↦ cond-false (k == heap_at + i) (at_place i) (undone js ds k) (ne_eqb k (heap_at + i) other) ∙ one_first j js cs ds k e ∙ ap (λ (x : ℕ). if k == heap_at + j then at_place j else x) (sym (cond-false (k == heap_at + i) (at_place i) (undone js cs k) (ne_eqb k (heap_at + i) other)))
]

swapped : (is js : List ℕ) (cs : ℕ → ℕ) (k : ℕ) → undone is (undone js cs) k ≡ undone js (undone is cs) k
swapped [] js cs k = undone_same js cs (undone [] cs) k refl
swapped (i ∷ is) js cs k = ap (λ (x : ℕ). if k == heap_at + i then at_place i else x) (swapped is js cs k) ∙ sym (one_first i js (undone is cs) (undone (i ∷ is) cs) k refl)

-- A choice is dropped: undoing gives back what undoing gives back of what it gives back.
pub back_then : {sh : Shape} {cells : ℕ → ℕ} {trail : List ℕ} (w u : Saved) → GivesBack sh cells trail w → GivesBack w.sh w.cells w.trail u → GivesBack sh cells trail u
back_then {cells = cells} w u b c = record {
  grown = grown_then c.grown b.grown;
  newer = b.newer ++ c.newer;
  trail_is = b.trail_is ∙ ap (λ (l : List ℕ). b.newer ++ l) c.trail_is ∙ sym (append_assoc b.newer c.newer u.trail);
  words = λ k lt. in_turn k lt;
}
  where
    in_turn : (k : ℕ) → k < u.sh.top → undone (b.newer ++ c.newer) cells (heap_at + k) ≡ u.cells (heap_at + k)
    in_turn k lt = let top = c.grown.top in undone_append b.newer c.newer cells (heap_at + k) ∙ swapped b.newer c.newer cells (heap_at + k) ∙ undone_same c.newer w.cells (undone b.newer cells) (heap_at + k) (b.words k (omega arith)) ∙ c.words k lt

-- Where two lists with different ends are one, the longer front goes on.
record Split (xs ys us vs : List ℕ) : Type 0 where
  between : List ℕ
  is : ys ≡ xs ++ between
  end : us ≡ between ++ vs

-- What undoing gives back of two is given back of the newer for the older: a stoppable part is gone back to, and these choices are left.
same_end : (xs ys us vs : List ℕ) → xs ++ us ≡ ys ++ vs → length xs ≤ length ys → Split xs ys us vs
same_end [] ys us vs e le = record { between = ys; is = refl; end = e }
same_end (x ∷ xs) [] us vs e le = absurd (omega arith)
same_end (x ∷ xs) (y ∷ ys) us vs e le =
    let e' : xs ++ us ≡ ys ++ vs = cc in
    let le' : length xs ≤ length ys = omega arith in
    let r = same_end xs ys us vs e' le' in
    let h : x ≡ y = cc in
    let q = r.is in
    record { between = r.between; is = ap (λ (l : List ℕ). y ∷ l) q ∙ ap (λ (i : ℕ). i ∷ (xs ++ r.between)) (sym h); end = r.end }

pub back_between : {sh : Shape} {cells : ℕ → ℕ} {trail : List ℕ} (s c : Saved) → Grown c.sh s.sh → length c.trail ≤ length s.trail → GivesBack sh cells trail s → GivesBack sh cells trail c → GivesBack s.sh s.cells s.trail c
back_between {cells = cells} s c g le b d =
    let total = length-append b.newer s.trail in
    let total' = length-append d.newer c.trail in
    let e : b.newer ++ s.trail ≡ d.newer ++ c.trail = sym b.trail_is ∙ d.trail_is in
    let sizes = ap (λ (l : List ℕ). length l) e in
    let x = same_end b.newer d.newer s.trail c.trail e (omega arith) in
    record {
      grown = g;
      newer = x.between;
      trail_is = x.end;
      words = λ k lt.
          let top = g.top in
          undone_same x.between (undone b.newer cells) s.cells (heap_at + k) (sym (b.words k (omega arith)))
          ∙ swapped x.between b.newer cells (heap_at + k)
          ∙ sym (undone_append b.newer x.between cells (heap_at + k))
          ∙ ap (λ (l : List ℕ). undone l cells (heap_at + k)) (sym x.is)
          ∙ d.words k lt;
    }
