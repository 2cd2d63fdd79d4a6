-- A copy that lies on top of the heap stands for its value in a grown shape.
use Rattle.std.proofs.Common.{◌≡◌, ℕ, suc, ◌+◌, ◌<◌, ◌≤◌, inl, inr, List, [], ◌∷◌, length, Option, Some, None, refl, sym, ap, ◌∙◌, subst, arith}
use Rattle.std.specs.Prelude.{◌==◌, nat_lt, if◌then◌else◌}
use Rattle.std.proofs.lemmas.Bool.{cond-true, cond-false, lt-ltb, le-ltb, eq-eqb, ne_eqb, cases_lt, cases_eq}
use Rattle.dg_meaning.specs.Values.{Label, Num, Word, Unknown, Object, Nil, Pair, Closure, Value, Var, Node, Values, NoMore, More, pair}
use Rattle.dg_meaning.specs.ValueCells.{count_of}
use Rattle.dg_meaning.specs.Copies.{vars_in, vars_in_all, copy_from, copies_from, label_weight, copy_cells, all_copy_cells}
use Rattle.dg_meaning.specs.Substitutions.{Substitution}
use Rattle.dg_meaning.specs.inside.Unifiers.{binding_of}
use Rattle.dg_rt.specs.Areas.{heap_at}
use Rattle.dg_rt.specs.Shapes.{Shape, IsShape, IsFixed, Cell, Letters, Shows, number, dict, object, nil, variable, boxed, Filled, pair_in, closure_in, word_in, AllShow, no_more, one_more, Stands}
use Rattle.dg_rt.specs.Back.{Grown}
use Rattle.dg_rt.specs.Laying.{FormedAs, Formed, AllFormed, label_word, copy_word, WordsLie, LettersLie, BoxLies, Lies, AllLie, place_in, places_in, boxed_as, box_in, boxes_in}
use Rattle.dg_rt.proofs.Grows.{grown_shows}

-- ---- places

older_place : (lo n : ℕ) (v : Value) (vs : Values) (x : ℕ) → x < n + vars_in_all vs → places_in lo n (More v vs) x ≡ places_in lo n vs x
older_place lo n v vs x lt = cond-true (nat_lt x (n + vars_in_all vs)) (places_in lo n vs x) (place_in (lo + all_copy_cells vs) (n + vars_in_all vs) v x) (lt-ltb x (n + vars_in_all vs) lt)

newer_place : (lo n : ℕ) (v : Value) (vs : Values) (x : ℕ) → n + vars_in_all vs ≤ x → places_in lo n (More v vs) x ≡ place_in (lo + all_copy_cells vs) (n + vars_in_all vs) v x
newer_place lo n v vs x le = cond-false (nat_lt x (n + vars_in_all vs)) (places_in lo n vs x) (place_in (lo + all_copy_cells vs) (n + vars_in_all vs) v x) (le-ltb x (n + vars_in_all vs) le)

record Between (lo hi k : ℕ) : Type 0 where
  from : lo ≤ k
  to : k < hi

mutual
  within : (lo n : ℕ) (v : Value) (x : ℕ) → n ≤ x → x < n + vars_in v → Between lo (lo + copy_cells v) (place_in lo n v x)
  within lo n (Var y) x le lt = record { from = omega arith; to = omega arith }
  within lo n (Node f vs) x le lt = let r = all_within lo n vs x le lt in let a = r.from in let b = r.to in record { from = a; to = omega arith }

  all_within : (lo n : ℕ) (vs : Values) (x : ℕ) → n ≤ x → x < n + vars_in_all vs → Between lo (lo + all_copy_cells vs) (places_in lo n vs x)
  all_within lo n NoMore x le lt = absurd (omega arith)
  all_within lo n (More v vs) x le lt =
      elim (cases_lt x (n + vars_in_all vs)) [
        | inl old ↦ (let r = all_within lo n vs x le old in let a = r.from in let b = r.to in let e = older_place lo n v vs x old in record { from = omega arith; to = omega arith })
        | inr new ↦ (let r = within (lo + all_copy_cells vs) (n + vars_in_all vs) v x new (omega arith) in let a = r.from in let b = r.to in let e = newer_place lo n v vs x new in record { from = omega arith; to = omega arith })
      ]

mutual
  ordered : (lo n : ℕ) (v : Value) (x y : ℕ) → n ≤ x → x < y → y < n + vars_in v → place_in lo n v x < place_in lo n v y
  ordered lo n (Var z) x y le lt few = absurd (omega arith)
  ordered lo n (Node f vs) x y le lt few = all_ordered lo n vs x y le lt few

  all_ordered : (lo n : ℕ) (vs : Values) (x y : ℕ) → n ≤ x → x < y → y < n + vars_in_all vs → places_in lo n vs x < places_in lo n vs y
  all_ordered lo n NoMore x y le lt few = absurd (omega arith)
  all_ordered lo n (More v vs) x y le lt few =
      elim (cases_lt y (n + vars_in_all vs)) [
        | inl old ↦ (let r = all_ordered lo n vs x y le lt old in let e = older_place lo n v vs y old in let e' = older_place lo n v vs x (omega arith) in omega arith)
        | inr new ↦ elim (cases_lt x (n + vars_in_all vs)) [
          | inl old ↦ (let a = (all_within lo n vs x le old).to in let b = (within (lo + all_copy_cells vs) (n + vars_in_all vs) v y new (omega arith)).from in let e = newer_place lo n v vs y new in let e' = older_place lo n v vs x old in omega arith)
          | inr new' ↦ (let r = ordered (lo + all_copy_cells vs) (n + vars_in_all vs) v x y new' lt (omega arith) in let e = newer_place lo n v vs y new in let e' = newer_place lo n v vs x new' in omega arith)
        ]
      ]

-- a variable's cell holds its own reference
mutual
  refers : (at : ℕ → ℕ) (lo n : ℕ) (v : Value) (x : ℕ) → n ≤ x → x < n + vars_in v → Lies at lo v → at (place_in lo n v x) ≡ 32768 + place_in lo n v x
  refers at lo n (Var y) x le lt l = l
  refers at lo n (Node f vs) x le lt l = all_refer at lo n vs x le lt l.1

  all_refer : (at : ℕ → ℕ) (lo n : ℕ) (vs : Values) (x : ℕ) → n ≤ x → x < n + vars_in_all vs → AllLie at lo vs → at (places_in lo n vs x) ≡ 32768 + places_in lo n vs x
  all_refer at lo n NoMore x le lt l = absurd (omega arith)
  all_refer at lo n (More v vs) x le lt l =
      elim (cases_lt x (n + vars_in_all vs)) [
        | inl old ↦ subst (λ (k : ℕ). at k ≡ 32768 + k) (sym (older_place lo n v vs x old)) (all_refer at lo n vs x le old l.1)
        | inr new ↦ subst (λ (k : ℕ). at k ≡ 32768 + k) (sym (newer_place lo n v vs x new)) (refers at (lo + all_copy_cells vs) (n + vars_in_all vs) v x new (omega arith) l.0)
      ]

-- ---- boxes

inner_box : (lo n : ℕ) (f : Label) (vs : Values) (k : ℕ) → k < lo + all_copy_cells vs → box_in lo n (Node f vs) k ≡ boxes_in lo n vs k
inner_box lo n f vs k lt = cond-true (nat_lt k (lo + all_copy_cells vs)) (boxes_in lo n vs k) (if k == lo + all_copy_cells vs then boxed_as f (Node f (copies_from n vs)) else None) (lt-ltb k (lo + all_copy_cells vs) lt)

own_box : (lo n : ℕ) (f : Label) (vs : Values) (k : ℕ) → k ≡ lo + all_copy_cells vs → box_in lo n (Node f vs) k ≡ boxed_as f (Node f (copies_from n vs))
own_box lo n f vs k e =
    cond-false (nat_lt k (lo + all_copy_cells vs)) (boxes_in lo n vs k) (if k == lo + all_copy_cells vs then boxed_as f (Node f (copies_from n vs)) else None) (le-ltb k (lo + all_copy_cells vs) (omega arith))
    ∙ cond-true (k == lo + all_copy_cells vs) (boxed_as f (Node f (copies_from n vs))) None (eq-eqb k (lo + all_copy_cells vs) e)

no_box : (lo n : ℕ) (f : Label) (vs : Values) (k : ℕ) → lo + all_copy_cells vs < k → box_in lo n (Node f vs) k ≡ None
no_box lo n f vs k lt =
    cond-false (nat_lt k (lo + all_copy_cells vs)) (boxes_in lo n vs k) (if k == lo + all_copy_cells vs then boxed_as f (Node f (copies_from n vs)) else None) (le-ltb k (lo + all_copy_cells vs) (omega arith))
    ∙ cond-false (k == lo + all_copy_cells vs) (boxed_as f (Node f (copies_from n vs))) None (ne_eqb k (lo + all_copy_cells vs) (λ (e : k ≡ lo + all_copy_cells vs). (omega arith)))

lower_box : (lo n : ℕ) (v : Value) (vs : Values) (k : ℕ) → k < lo + all_copy_cells vs → boxes_in lo n (More v vs) k ≡ boxes_in lo n vs k
lower_box lo n v vs k lt = cond-true (nat_lt k (lo + all_copy_cells vs)) (boxes_in lo n vs k) (box_in (lo + all_copy_cells vs) (n + vars_in_all vs) v k) (lt-ltb k (lo + all_copy_cells vs) lt)

upper_box : (lo n : ℕ) (v : Value) (vs : Values) (k : ℕ) → lo + all_copy_cells vs ≤ k → boxes_in lo n (More v vs) k ≡ box_in (lo + all_copy_cells vs) (n + vars_in_all vs) v k
upper_box lo n v vs k le = cond-false (nat_lt k (lo + all_copy_cells vs)) (boxes_in lo n vs k) (box_in (lo + all_copy_cells vs) (n + vars_in_all vs) v k) (le-ltb k (lo + all_copy_cells vs) le)

boxed_weight : (f : Label) (v w : Value) (parts : ℕ) → boxed_as f v ≡ Some w → 3 ≤ label_weight f parts
boxed_weight (Num i) v w parts e = absurd (cc e)
boxed_weight (Word i) v w parts e = absurd (cc e)
boxed_weight (Object i) v w parts e = absurd (cc e)
boxed_weight Nil v w parts e = absurd (cc e)
boxed_weight Pair v w parts e = omega arith
boxed_weight (Closure place) v w parts e = omega arith
boxed_weight (Unknown xs) v w parts e = omega arith

record Holds3 (lo hi k : ℕ) : Type 0 where
  from : lo ≤ k
  to : k + 3 ≤ hi

mutual
  box_within : (lo n : ℕ) (v : Value) (k : ℕ) (w : Value) → box_in lo n v k ≡ Some w → Holds3 lo (lo + copy_cells v) k
  box_within lo n (Var y) k w e = absurd (cc e)
  box_within lo n (Node f vs) k w e =
      elim (cases_lt k (lo + all_copy_cells vs)) [
        | inl inner ↦ (let r = boxes_within lo n vs k w (sym (inner_box lo n f vs k inner) ∙ e) in let a = r.from in let b = r.to in record { from = a; to = omega arith })
        | inr ge ↦ elim (cases_eq k (lo + all_copy_cells vs)) [
          | inl own ↦ (let a = boxed_weight f (Node f (copies_from n vs)) w (count_of vs) (sym (own_box lo n f vs k own) ∙ e) in record { from = omega arith; to = omega arith })
          | inr ne ↦ absurd (let no : None ≡ Some w = sym (no_box lo n f vs k (omega arith)) ∙ e in cc)
        ]
      ]

  boxes_within : (lo n : ℕ) (vs : Values) (k : ℕ) (w : Value) → boxes_in lo n vs k ≡ Some w → Holds3 lo (lo + all_copy_cells vs) k
  boxes_within lo n NoMore k w e = absurd (cc e)
  boxes_within lo n (More v vs) k w e =
      elim (cases_lt k (lo + all_copy_cells vs)) [
        | inl low ↦ (let r = boxes_within lo n vs k w (sym (lower_box lo n v vs k low) ∙ e) in let a = r.from in let b = r.to in record { from = a; to = omega arith })
        | inr ge ↦ (let r = box_within (lo + all_copy_cells vs) (n + vars_in_all vs) v k w (sym (upper_box lo n v vs k ge) ∙ e) in let a = r.from in let b = r.to in record { from = omega arith; to = omega arith })
      ]

mutual
  box_apart : (lo n : ℕ) (v : Value) (j k : ℕ) (u w : Value) → box_in lo n v j ≡ Some u → box_in lo n v k ≡ Some w → j < k → j + 3 ≤ k
  box_apart lo n (Var y) j k u w ej ek lt = absurd (cc ej)
  box_apart lo n (Node f vs) j k u w ej ek lt =
      elim (cases_lt k (lo + all_copy_cells vs)) [
        | inl inner ↦ boxes_apart lo n vs j k u w (sym (inner_box lo n f vs j (omega arith)) ∙ ej) (sym (inner_box lo n f vs k inner) ∙ ek) lt
        | inr ge ↦ elim (cases_lt j (lo + all_copy_cells vs)) [
          | inl inner ↦ (let r = (boxes_within lo n vs j u (sym (inner_box lo n f vs j inner) ∙ ej)).to in omega arith)
          | inr ge' ↦ absurd (let no : None ≡ Some w = sym (no_box lo n f vs k (omega arith)) ∙ ek in cc)
        ]
      ]

  boxes_apart : (lo n : ℕ) (vs : Values) (j k : ℕ) (u w : Value) → boxes_in lo n vs j ≡ Some u → boxes_in lo n vs k ≡ Some w → j < k → j + 3 ≤ k
  boxes_apart lo n NoMore j k u w ej ek lt = absurd (cc ej)
  boxes_apart lo n (More v vs) j k u w ej ek lt =
      elim (cases_lt k (lo + all_copy_cells vs)) [
        | inl low ↦ boxes_apart lo n vs j k u w (sym (lower_box lo n v vs j (omega arith)) ∙ ej) (sym (lower_box lo n v vs k low) ∙ ek) lt
        | inr ge ↦ elim (cases_lt j (lo + all_copy_cells vs)) [
          | inl low ↦ (let r = (boxes_within lo n vs j u (sym (lower_box lo n v vs j low) ∙ ej)).to in omega arith)
          | inr ge' ↦ box_apart (lo + all_copy_cells vs) (n + vars_in_all vs) v j k u w (sym (upper_box lo n v vs j ge') ∙ ej) (sym (upper_box lo n v vs k ge) ∙ ek) lt
        ]
      ]

count_copies : (n : ℕ) (vs : Values) → count_of (copies_from n vs) ≡ count_of vs
count_copies n NoMore = refl
count_copies n (More v vs) = ap (λ (k : ℕ). 1 + k) (count_copies n vs)

-- ---- the grown shape

module _ (sh : Shape) (is : IsShape sh) (low : (x : ℕ) → x < sh.vars → sh.place x < sh.top) (cells cells' : ℕ → ℕ) (S : Substitution) (st : Stands sh cells S) (known : (x : ℕ) → sh.vars ≤ x → binding_of x S ≡ None)
    (v : Value) (formed : Formed sh.captures v) (room : sh.top + copy_cells v ≤ 10000) (same : (k : ℕ) → k < sh.top → cells' (heap_at + k) ≡ cells (heap_at + k)) (lies : Lies (λ k. cells' (heap_at + k)) sh.top v) where
  abbrev now : ℕ → ℕ
  now k = cells' (heap_at + k)

  -- with the copy's cells, variables and boxes
  abbrev pub copied : Shape
  copied = record sh {
    top = sh.top + copy_cells v;
    vars = sh.vars + vars_in v;
    place = λ x. if nat_lt x sh.vars then sh.place x else place_in sh.top sh.vars v x;
    fixed = λ k. if nat_lt k sh.top then sh.fixed k else cells' (heap_at + k);
    box = λ k. if nat_lt k sh.top then sh.box k else box_in sh.top sh.vars v k;
  }

  old_place : (x : ℕ) → x < sh.vars → copied.place x ≡ sh.place x
  old_place x lt = cond-true (nat_lt x sh.vars) (sh.place x) (place_in sh.top sh.vars v x) (lt-ltb x sh.vars lt)

  new_place : (x : ℕ) → sh.vars ≤ x → copied.place x ≡ place_in sh.top sh.vars v x
  new_place x le = cond-false (nat_lt x sh.vars) (sh.place x) (place_in sh.top sh.vars v x) (le-ltb x sh.vars le)

  old_fixed : (k : ℕ) → k < sh.top → copied.fixed k ≡ sh.fixed k
  old_fixed k lt = cond-true (nat_lt k sh.top) (sh.fixed k) (cells' (heap_at + k)) (lt-ltb k sh.top lt)

  new_fixed : (k : ℕ) → sh.top ≤ k → copied.fixed k ≡ now k
  new_fixed k le = cond-false (nat_lt k sh.top) (sh.fixed k) (cells' (heap_at + k)) (le-ltb k sh.top le)

  pub old_box : (k : ℕ) → k < sh.top → copied.box k ≡ sh.box k
  old_box k lt = cond-true (nat_lt k sh.top) (sh.box k) (box_in sh.top sh.vars v k) (lt-ltb k sh.top lt)

  new_box : (k : ℕ) → sh.top ≤ k → copied.box k ≡ box_in sh.top sh.vars v k
  new_box k le = cond-false (nat_lt k sh.top) (sh.box k) (box_in sh.top sh.vars v k) (le-ltb k sh.top le)

  new_within : (x : ℕ) → sh.vars ≤ x → x < copied.vars → Between sh.top copied.top (copied.place x)
  new_within x le lt = let r = within sh.top sh.vars v x le lt in let a = r.from in let b = r.to in let e = new_place x le in record { from = omega arith; to = omega arith }

  fixed_still : (k : ℕ) → IsFixed sh k → IsFixed copied k
  fixed_still k f = (
    let lt = f.0 in omega arith,
    λ x lt e. elim (cases_lt x sh.vars) [
      | inl old ↦ f.1 x old (sym (old_place x old) ∙ e)
      | inr ge ↦ (let r = (new_within x ge lt).from in let l = f.0 in absurd (omega arith))
    ],
  )

  -- its variables and its boxes stand behind those that were there
  pub copied_places : (x : ℕ) → sh.vars ≤ x → x < copied.vars → sh.top ≤ copied.place x
  copied_places x le lt = (new_within x le lt).from

  pub copied_boxes : (k : ℕ) (w : Value) → copied.box k ≡ Some w → k < sh.top → sh.box k ≡ Some w
  copied_boxes k w e lt = sym (old_box k lt) ∙ e

  pub copied_grown : Grown sh copied
  copied_grown = record { top = omega arith; vars = omega arith; places = old_place; others = fixed_still; fixed = λ k f. old_fixed k f.0; boxes = λ k w e. let l = is.ends k w e in old_box k (omega arith) ∙ e; told = λ place. refl }

  pub copied_low : (x : ℕ) → x < copied.vars → copied.place x < copied.top
  copied_low x lt = elim (cases_lt x sh.vars) [
    | inl old ↦ (let p = old_place x old in let l = low x old in omega arith)
    | inr ge ↦ (new_within x ge lt).to
  ]

  pub copied_shape : IsShape copied
  copied_shape = record {
    within = λ x lt. let l = copied_low x lt in omega arith;
    order = λ x y lt lt'. elim (cases_lt y sh.vars) [
      | inl old ↦ (let p = old_place x (omega arith) in let q = old_place y old in let o = is.order x y lt old in omega arith)
      | inr ge ↦ elim (cases_lt x sh.vars) [
        | inl old ↦ (let p = old_place x old in let q = (new_within y ge lt').from in let l = low x old in omega arith)
        | inr ge' ↦ (let p = new_place x ge' in let q = new_place y ge in let o = ordered sh.top sh.vars v x y ge' lt lt' in omega arith)
      ]
    ];
    apart = λ j k u w ej ek lt. elim (cases_lt k sh.top) [
      | inl old ↦ is.apart j k u w (sym (old_box j (omega arith)) ∙ ej) (sym (old_box k old) ∙ ek) lt
      | inr ge ↦ elim (cases_lt j sh.top) [
        | inl old ↦ (let e = is.ends j u (sym (old_box j old) ∙ ej) in omega arith)
        | inr ge' ↦ box_apart sh.top sh.vars v j k u w (sym (new_box j ge') ∙ ej) (sym (new_box k ge) ∙ ek) lt
      ]
    ];
    ends = λ k w e. elim (cases_lt k sh.top) [
      | inl old ↦ (let l = is.ends k w (sym (old_box k old) ∙ e) in omega arith)
      | inr ge ↦ (box_within sh.top sh.vars v k w (sym (new_box k ge) ∙ e)).to
    ];
    room = room;
  }

  pub copied_stands : Stands copied cells' S
  copied_stands = record {
    sound = st.sound;
    fixed = λ k lt f. elim (cases_lt k sh.top) [
      | inl old ↦ same k old ∙ st.fixed k lt (old, λ x below e. f.1 x (omega arith) (old_place x below ∙ e)) ∙ sym (old_fixed k old)
      | inr ge ↦ sym (new_fixed k ge)
    ];
    unbound = λ x lt e. elim (cases_lt x sh.vars) [
      | inl old ↦ subst (λ (k : ℕ). cells' (heap_at + k) ≡ 32768 + k) (sym (old_place x old)) (same (sh.place x) (low x old) ∙ st.unbound x old e)
      | inr ge ↦ subst (λ (k : ℕ). cells' (heap_at + k) ≡ 32768 + k) (sym (new_place x ge)) (refers now sh.top sh.vars v x ge lt lies)
    ];
    bound = λ x w lt e. elim (cases_lt x sh.vars) [
      | inl old ↦ subst (λ (k : ℕ). Shows copied (cells' (heap_at + k)) w) (sym (old_place x old)) (subst (λ (z : ℕ). Shows copied z w) (sym (same (sh.place x) (low x old))) (grown_shows copied_grown (st.bound x w old e)))
      | inr ge ↦ absurd (let k : None ≡ Some w = sym (known x ge) ∙ e in cc)
    ];
  }

  -- ---- what its words stand for

  -- Part of the copy lies from a place on, its variables numbered from n on.
  record Part (lo hi n more : ℕ) (places : ℕ → ℕ) (boxes : ℕ → Option Value) : Type 0 where
    above : sh.top ≤ lo
    below : hi ≤ sh.top + copy_cells v
    numbers : n + more ≤ sh.vars + vars_in v
    places_are : (x : ℕ) → n ≤ x → x < n + more → copied.place x ≡ places x
    own : (x : ℕ) → x < sh.vars + vars_in v → lo ≤ copied.place x → copied.place x < hi → Between n (n + more) x
    boxes_are : (k : ℕ) → lo ≤ k → k < hi → copied.box k ≡ boxes k

  abbrev PartOf : ℕ → ℕ → Value → Type 0
  PartOf lo n u = Part lo (lo + copy_cells u) n (vars_in u) (place_in lo n u) (box_in lo n u)

  abbrev PartsOf : ℕ → ℕ → Values → Type 0
  PartsOf lo n us = Part lo (lo + all_copy_cells us) n (vars_in_all us) (places_in lo n us) (boxes_in lo n us)

  inner : (lo n : ℕ) (f : Label) (us : Values) → PartOf lo n (Node f us) → PartsOf lo n us
  inner lo n f us q = record {
    above = q.above;
    below = let b = q.below in omega arith;
    numbers = q.numbers;
    places_are = q.places_are;
    own = λ x lt from to. q.own x lt from (omega arith);
    boxes_are = λ k from to. q.boxes_are k from (omega arith) ∙ inner_box lo n f us k to;
  }

  rest_of : (lo n : ℕ) (u : Value) (us : Values) → PartsOf lo n (More u us) → PartsOf lo n us
  rest_of lo n u us q = record {
    above = q.above;
    below = let b = q.below in omega arith;
    numbers = let b = q.numbers in omega arith;
    places_are = λ x from to. q.places_are x from (omega arith) ∙ older_place lo n u us x to;
    own = λ x lt from to.
        let o = q.own x lt from (omega arith) in
        let o_from = o.from in
        let o_to = o.to in
        elim (cases_lt x (n + vars_in_all us)) [
          | inl old ↦ record { from = o_from; to = old }
          | inr new ↦ (let e = q.places_are x o_from o_to ∙ newer_place lo n u us x new in let r = (within (lo + all_copy_cells us) (n + vars_in_all us) u x new (omega arith)).from in absurd (omega arith))
        ];
    boxes_are = λ k from to. q.boxes_are k from (omega arith) ∙ lower_box lo n u us k to;
  }

  first_of : (lo n : ℕ) (u : Value) (us : Values) → PartsOf lo n (More u us) → PartOf (lo + all_copy_cells us) (n + vars_in_all us) u
  first_of lo n u us q = record {
    above = let b = q.above in omega arith;
    below = let b = q.below in omega arith;
    numbers = let b = q.numbers in omega arith;
    places_are = λ x from to. q.places_are x (omega arith) (omega arith) ∙ newer_place lo n u us x from;
    own = λ x lt from to.
        let o = q.own x lt (omega arith) (omega arith) in
        let o_from = o.from in
        let o_to = o.to in
        elim (cases_lt x (n + vars_in_all us)) [
          | inl old ↦ (let e = q.places_are x o_from o_to ∙ older_place lo n u us x old in let r = (all_within lo n us x o_from old).to in absurd (omega arith))
          | inr new ↦ record { from = new; to = omega arith }
        ];
    boxes_are = λ k from to. q.boxes_are k (omega arith) (omega arith) ∙ upper_box lo n u us k from;
  }

  -- a cell of a box is no variable's
  box_cell : (lo n : ℕ) (f : Label) (us : Values) → PartOf lo n (Node f us) → (k : ℕ) → lo + all_copy_cells us ≤ k → k < lo + copy_cells (Node f us) → Cell copied k (now k)
  box_cell lo n f us q k from to = record {
    fixed = (
      let b = q.below in omega arith,
      λ x lt e.
          let o = q.own x lt (omega arith) (omega arith) in
          let o_from = o.from in
          let o_to = o.to in
          let p = q.places_are x o_from o_to in
          let r = (all_within lo n us x o_from o_to).to in
          absurd (omega arith),
    );
    is = let a = q.above in new_fixed k (omega arith);
  }

  abbrev Cells : ℕ → ℕ → Type 0
  Cells i j = (k : ℕ) → i ≤ k → k < j → Cell copied k (now k)

  letters_show : (i : ℕ) (xs : List ℕ) → Cells i (i + length xs) → LettersLie now i xs → Letters copied i xs
  letters_show i [] c l = tt
  letters_show i (x ∷ xs) c l = (subst (Cell copied i) l.0 (c i (omega arith) (omega arith)), letters_show (suc i) xs (λ k from to. c k (omega arith) (omega arith)) l.1)

  pair_of_row : {k i : ℕ} {h t : Value} → i ≡ k + 1 → AllShow copied i (More h (More t NoMore)) → Filled copied k 0 (pair h t)
  pair_of_row {k} e (one_more i x c s (one_more _ y c' s' r)) = pair_in k x y (subst (λ (j : ℕ). Cell copied j x) e c) (subst (λ (j : ℕ). Cell copied j y) (let z : suc i ≡ k + 2 = omega arith in z) c') s s'

  -- a node, where its parts stand in rows wherever their words do
  node_shown : (f : Label) (us : Values) (lo n : ℕ) → PartOf lo n (Node f us) → FormedAs sh.captures f us → BoxLies now (lo + all_copy_cells us) lo f us → ((i : ℕ) → WordsLie now i lo us → Cells i (i + count_of us) → AllShow copied i (copies_from n us)) → Shows copied (label_word f (lo + all_copy_cells us)) (Node f (copies_from n us))
  node_shown (Num i) NoMore lo n q lt l rows = number i lt
  node_shown (Word i) NoMore lo n q lt l rows = dict i lt
  node_shown (Object i) NoMore lo n q lt l rows = object i lt
  node_shown Nil NoMore lo n q lt l rows = nil
  node_shown Pair (More h (More t NoMore)) lo n q lt l rows =
      let us = More h (More t NoMore) in
      let k = lo + all_copy_cells us in
      let b = q.below in
      boxed k 0 (omega arith) (q.boxes_are k (omega arith) (omega arith) ∙ own_box lo n Pair us k refl) (subst (Cell copied k) l.0 (box_cell lo n Pair us q k (omega arith) (omega arith)))
      (pair_of_row refl (rows (k + 1) l.1 (λ j from to. box_cell lo n Pair us q j (omega arith) (omega arith))))
  node_shown (Closure place) us lo n q lt l rows =
      let k = lo + all_copy_cells us in
      let b = q.below in
      let many = count_copies n us in
      boxed k (1 + place) (omega arith) (q.boxes_are k (omega arith) (omega arith) ∙ own_box lo n (Closure place) us k refl) (subst (Cell copied k) l.0 (box_cell lo n (Closure place) us q k (omega arith) (omega arith)))
      (closure_in k place lt.0 (many ∙ lt.1) lt.2 (subst (Cell copied (k + 1)) (l.1 ∙ sym many) (box_cell lo n (Closure place) us q (k + 1) (omega arith) (omega arith)))
      (rows (k + 3) l.2 (λ j from to. box_cell lo n (Closure place) us q j (omega arith) (omega arith))))
  node_shown (Unknown xs) NoMore lo n q lt l rows =
      let k = lo + all_copy_cells NoMore in
      let b = q.below in
      boxed k (32768 + length xs) (omega arith) (q.boxes_are k (omega arith) (omega arith) ∙ own_box lo n (Unknown xs) NoMore k refl) (subst (Cell copied k) l.0 (box_cell lo n (Unknown xs) NoMore q k (omega arith) (omega arith)))
      (word_in k lt (letters_show (k + 3) xs (λ j from to. box_cell lo n (Unknown xs) NoMore q j (omega arith) (omega arith)) l.1))
  node_shown f us lo n q lt l rows = absurd lt

  mutual
    shown : (u : Value) (lo n : ℕ) → PartOf lo n u → Formed sh.captures u → Lies now lo u → Shows copied (copy_word lo u) (copy_from n u)
    shown (Var y) lo n q fine l = let few = q.numbers in subst (λ (k : ℕ). Shows copied (32768 + k) (Var n)) (q.places_are n (omega arith) (omega arith)) (variable n (omega arith))
    shown (Node f us) lo n q fine l = node_shown f us lo n q fine.0 l.0 (λ i words cells_are. all_shown us lo n i (inner lo n f us q) fine.1 l.1 words cells_are)

    all_shown : (us : Values) (lo n i : ℕ) → PartsOf lo n us → AllFormed sh.captures us → AllLie now lo us → WordsLie now i lo us → Cells i (i + count_of us) → AllShow copied i (copies_from n us)
    all_shown NoMore lo n i q fine l words c = no_more i
    all_shown (More u us) lo n i q fine l words c =
        one_more i (copy_word (lo + all_copy_cells us) u) (subst (Cell copied i) words.0 (c i (omega arith) (omega arith))) (shown u (lo + all_copy_cells us) (n + vars_in_all us) (first_of lo n u us q) fine.0 l.0)
        (all_shown us lo n (suc i) (rest_of lo n u us q) fine.1 l.1 words.1 (λ k from to. c k (omega arith) (omega arith)))

  whole : PartOf sh.top sh.vars v
  whole = record {
    above = omega arith;
    below = omega arith;
    numbers = omega arith;
    places_are = λ x from to. new_place x from;
    own = λ x lt from to. elim (cases_lt x sh.vars) [
      | inl old ↦ (let p = old_place x old in let l = low x old in absurd (omega arith))
      | inr ge ↦ record { from = ge; to = lt }
    ];
    boxes_are = λ k from to. new_box k from;
  }

  -- The copy's word stands for it.
  pub copied_shows : Shows copied (copy_word sh.top v) (copy_from sh.vars v)
  copied_shows = shown v sh.top sh.vars whole formed lies
