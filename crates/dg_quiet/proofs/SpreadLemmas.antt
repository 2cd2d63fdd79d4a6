-- What is taken out of a set of predicates, and what follows for those that ask them.
use Rattle.std.proofs.Common.{◌≡◌, ℕ, zero, suc, ◌+◌, ◌<◌, ◌≤◌, ◌⊎◌, inl, inr, List, [], ◌∷◌, ◌++◌, Bool, true, false, Some, refl, sym, ap, ◌∙◌, subst, arith, length, take, drop, get_or}
use Rattle.std.specs.Prelude.{slice_get, slice_set, Contains, Vec}
use Rattle.std.specs.Global.{Global}
use Rattle.std.proofs.lemmas.List.{take-append-drop, take_more}
use Rattle.std.proofs.lemmas.Bool.{cases_eq}
use Rattle.std.proofs.lemmas.List.Elements.{Contains-append_left, Contains-push, Contains-push_cases, Contains-get_or}
use Rattle.dg_base.specs.declared.program.Pred.{Pred}
use Rattle.dg_meaning.specs.Sets.{is_in_set}
use Rattle.dg_meaning.specs.Quiet.{AreQuiet}
use Rattle.dg_quiet.specs.inside.Spread.{rows_of, row_at, Asks, IsNeverQuiet, IsKnown, TookOut, TookAllOut, AddedTo, SameButFor, IsSorted, IsSpread, one_if, count_in}

-- ## Sets

pub either : (b : Bool) → (b ≡ true) ⊎ (b ≡ false)
either true = inl refl
either false = inr refl

pub not_both : (b : Bool) → b ≡ true → b ≡ false → ⊥
not_both true h k = absurd (cc (k))
not_both false h k = absurd (cc (h))

pub in_range : (set : List Bool) (p : ℕ) → is_in_set set p ≡ true → p < length set
in_range [] p h = absurd (cc (h))
in_range (b ∷ set) zero h = omega arith
in_range (b ∷ set) (suc p) h = omega (arith, in_range set p h)

length_without : (set : List Bool) (p : ℕ) → length (slice_set set p false) ≡ length set
length_without [] p = refl
length_without (b ∷ set) zero = refl
length_without (b ∷ set) (suc p) = ap suc (length_without set p)

out_itself : (set : List Bool) (p : ℕ) → is_in_set (slice_set set p false) p ≡ false
out_itself [] p = refl
out_itself (b ∷ set) zero = refl
out_itself (b ∷ set) (suc p) = out_itself set p

others_stay : (set : List Bool) (p k : ℕ) → (p ≡ k → ⊥) → is_in_set (slice_set set k false) p ≡ is_in_set set p
others_stay [] p k ne = refl
others_stay (b ∷ set) zero zero ne = absurd (ne refl)
others_stay (b ∷ set) (suc p) zero ne = refl
others_stay (b ∷ set) zero (suc k) ne = refl
others_stay (b ∷ set) (suc p) (suc k) ne = others_stay set p k (λ e. ne (ap suc e))

one_fewer : (set : List Bool) (p : ℕ) → is_in_set set p ≡ true → count_in (slice_set set p false) + 1 ≡ count_in set
one_fewer [] p h = absurd (cc (h))
one_fewer (b ∷ set) zero h = let e = ap one_if h in omega (arith, e)
one_fewer (b ∷ set) (suc p) h = omega (arith, one_fewer set p h)

still_out : (set : List Bool) (p k : ℕ) → is_in_set set p ≡ false → is_in_set (slice_set set k false) p ≡ false
still_out set p k h = elim (cases_eq p k) [ inl e ↦ ap (is_in_set (slice_set set k false)) e ∙ out_itself set k | inr ne ↦ others_stay set p k ne ∙ h ]

-- ## One by one

pub none_out : (set : List Bool) (left : List ℕ) → TookAllOut set left [] set left
none_out set left = record {
  answers = refl;
  gone = λ p h. absurd (omega (arith, h.1));
  kept = λ p h. h;
  only = λ p h k. absurd (not_both (is_in_set set p) h k);
  waits = λ p h k. absurd (not_both (is_in_set set p) h k);
  waited = λ p h. h;
  from = λ p h. inr h;
  many = refl;
}

out_already : (set : List Bool) (left ps : List ℕ) (s : List Bool) (l : List ℕ) (p : ℕ) → TookAllOut set left ps s l → is_in_set s p ≡ false → TookAllOut set left (ps ++ p ∷ []) s l
out_already set left ps s l p t h = record {
  answers = t.answers;
  gone = λ x k. elim (Contains-push_cases ps p x k) [ inl old ↦ t.gone x old | inr e ↦ ap (is_in_set s) (sym e) ∙ h ];
  kept = t.kept;
  only = λ x a b. Contains-append_left ps (p ∷ []) x (t.only x a b);
  waits = t.waits;
  waited = t.waited;
  from = t.from;
  many = t.many;
}

out_now : (set : List Bool) (left ps : List ℕ) (s : List Bool) (l : List ℕ) (p : ℕ) → TookAllOut set left ps s l → is_in_set s p ≡ true → TookAllOut set left (ps ++ p ∷ []) (slice_set s p false) (l ++ p ∷ [])
out_now set left ps s l p t h = let s' = slice_set s p false in record {
  answers = length_without s p ∙ t.answers;
  gone = λ x k. elim (Contains-push_cases ps p x k) [ inl old ↦ still_out s x p (t.gone x old) | inr e ↦ ap (is_in_set s') (sym e) ∙ out_itself s p ];
  kept = λ x k. elim (cases_eq x p) [
    | inl e ↦ absurd (not_both (is_in_set s' x) k (ap (is_in_set s') e ∙ out_itself s p))
    | inr ne ↦ t.kept x (sym (others_stay s x p ne) ∙ k)
  ];
  only = λ x a b. elim (cases_eq x p) [
    | inl e ↦ subst (Contains (ps ++ p ∷ [])) (sym e) (Contains-push ps p)
    | inr ne ↦ Contains-append_left ps (p ∷ []) x (t.only x a (sym (others_stay s x p ne) ∙ b))
  ];
  waits = λ x a b. elim (cases_eq x p) [
    | inl e ↦ subst (Contains (l ++ p ∷ [])) (sym e) (Contains-push l p)
    | inr ne ↦ Contains-append_left l (p ∷ []) x (t.waits x a (sym (others_stay s x p ne) ∙ b))
  ];
  waited = λ x k. Contains-append_left l (p ∷ []) x (t.waited x k);
  from = λ x k. elim (Contains-push_cases l p x k) [
    | inl old ↦ elim (t.from x old) [ inl f ↦ inl (still_out s x p f) | inr o ↦ inr o ]
    | inr e ↦ inl (ap (is_in_set s') (sym e) ∙ out_itself s p)
  ];
  many = let n = length_push l p in omega (arith, n, one_fewer s p h, t.many);
}
  where
    length_push : (l : List ℕ) (p : ℕ) → length (l ++ p ∷ []) ≡ length l + 1
    length_push [] p = refl
    length_push (x ∷ l) p = omega (arith, length_push l p)

pub one_more : (set : List Bool) (left ps : List ℕ) (s : List Bool) (l : List ℕ) (p : ℕ) (s' : List Bool) (l' : List ℕ) → TookAllOut set left ps s l → TookOut s l p s' l' → TookAllOut set left (ps ++ p ∷ []) s' l'
one_more set left ps s l p s' l' t o = elim (either (is_in_set s p)) [
  | inl h ↦ let w = o.was h in
      subst (λ x. TookAllOut set left (ps ++ p ∷ []) x l') (sym w.0) (subst (λ y. TookAllOut set left (ps ++ p ∷ []) (slice_set s p false) y) (sym w.1) (out_now set left ps s l p t h))
  | inr h ↦ let w = o.was_out h in
      subst (λ x. TookAllOut set left (ps ++ p ∷ []) x l') (sym w.0) (subst (λ y. TookAllOut set left (ps ++ p ∷ []) s y) (sym w.1) (out_already set left ps s l p t h))
]

-- ## Those that ask what isn't quiet

-- of a predicate that is in no quiet set, neither is what asks it
asker_never : (preds : List Pred) (changing : ℕ → Bool) (rows : List (List ℕ)) (p q : ℕ) (pred : Pred) → slice_get preds p ≡ Some pred → IsKnown preds changing rows p pred → Asks rows p q → IsNeverQuiet preds changing q → IsNeverQuiet preds changing p
asker_never preds changing rows p q pred get known asks never set len closed = elim (either (is_in_set set p)) [
  | inl h ↦ absurd (not_both (is_in_set set q) (known.needs set len (closed p pred get h).1 q asks) (never set len closed))
  | inr h ↦ h
]

has_pred : (preds : List Pred) (p : ℕ) → p < length preds → (pred : Pred) × (slice_get preds p ≡ Some pred)
has_pred [] p lt = absurd (omega arith)
has_pred (x ∷ preds) zero lt = (x, refl)
has_pred (x ∷ preds) (suc p) lt = has_pred preds p (omega arith)

pub spread_step : (preds : List Pred) (changing : ℕ → Bool) (rows : List (List ℕ)) (set : List Bool) (l : List ℕ) (q : ℕ) (set' : List Bool) (l' : List ℕ) → IsSpread preds changing rows set (l ++ q ∷ []) → TookAllOut set l (row_at rows q) set' l' → IsSpread preds changing rows set' l'
spread_step preds changing rows set l q set' l' s t = record {
  answers = t.answers ∙ s.answers;
  out = λ p h. elim (either (is_in_set set p)) [
    | inr old ↦ s.out p old
    | inl was ↦
        let x = has_pred preds p (omega (arith, in_range set p was, s.answers)) in
        asker_never preds changing rows p q x.0 x.1 (s.known p x.0 x.1 was) (t.only p was h) (s.out q (s.lefts q (Contains-push l q)))
  ];
  lefts = λ p h. elim (t.from p h) [
    | inl f ↦ f
    | inr old ↦ elim (either (is_in_set set' p)) [ inr f ↦ f | inl k ↦ absurd (not_both (is_in_set set p) (t.kept p k) (s.lefts p (Contains-append_left l (q ∷ []) p old))) ]
  ];
  known = λ p pred get h. s.known p pred get (t.kept p h);
  spread = λ p x asks h. elim (s.spread p x asks (t.kept p h)) [
    | inl is ↦ elim (either (is_in_set set' x)) [ inl k ↦ inl k | inr k ↦ inr (t.waits x is k) ]
    | inr waits ↦ elim (Contains-push_cases l q x waits) [
      | inl old ↦ inr (t.waited x old)
      | inr e ↦ absurd (not_both (is_in_set set' p) h (t.gone p (subst (Asks rows p) (sym e) asks)))
    ]
  ];
}

-- where nothing waits, what is left is the greatest set of quiet predicates
pub spread_whole : (preds : List Pred) (changing : ℕ → Bool) (rows : List (List ℕ)) (set : List Bool) → IsSpread preds changing rows set [] → AreQuiet preds changing set
spread_whole preds changing rows set s = record {
  answers = s.answers;
  closed = λ p pred get h.
      let k = s.known p pred get h in
      (k.stays, k.enough set s.answers (λ q asks. elim (s.spread p q asks h) [ inl is ↦ is | inr waits ↦ absurd (omega (arith, waits.1)) ]));
  greatest = λ inner len closed p pred get h. elim (either (is_in_set set p)) [
    | inl is ↦ is
    | inr out ↦ absurd (not_both (is_in_set inner p) h (s.out p out inner len closed))
  ];
}

-- ## Rows

pub rows_set : (rows : List (Vec ℕ Global)) (k : ℕ) (v : Vec ℕ Global) → rows_of (slice_set rows k v) ≡ slice_set (rows_of rows) k v.items
rows_set [] k v = refl
rows_set (r ∷ rows) zero v = refl
rows_set (r ∷ rows) (suc k) v = ap (λ l. r.items ∷ l) (rows_set rows k v)

pub row_here : (rows : List (Vec ℕ Global)) (k : ℕ) (row : Vec ℕ Global) → row ≡ get_or rows k row → k < length rows → row_at (rows_of rows) k ≡ row.items
row_here [] k row e lt = absurd (omega arith)
row_here (r ∷ rows) zero row e lt = ap (λ (v : Vec ℕ Global). v.items) (sym e)
row_here (r ∷ rows) (suc k) row e lt = row_here rows k row e (omega arith)

pub row_behind : (rows : List (Vec ℕ Global)) (k : ℕ) → length rows ≤ k → row_at (rows_of rows) k ≡ []
row_behind [] k h = refl
row_behind (r ∷ rows) zero h = absurd (omega arith)
row_behind (r ∷ rows) (suc k) h = row_behind rows k (omega arith)

many_rows : (rows : List (Vec ℕ Global)) → length (rows_of rows) ≡ length rows
many_rows [] = refl
many_rows (r ∷ rows) = ap suc (many_rows rows)

set_length : (rows : List (List ℕ)) (k : ℕ) (r : List ℕ) → length (slice_set rows k r) ≡ length rows
set_length [] k r = refl
set_length (x ∷ rows) zero r = refl
set_length (x ∷ rows) (suc k) r = ap suc (set_length rows k r)

set_there : (rows : List (List ℕ)) (k : ℕ) (r : List ℕ) → k < length rows → row_at (slice_set rows k r) k ≡ r
set_there [] k r lt = absurd (omega arith)
set_there (x ∷ rows) zero r lt = refl
set_there (x ∷ rows) (suc k) r lt = set_there rows k r (omega arith)

set_elsewhere : (rows : List (List ℕ)) (k q : ℕ) (r : List ℕ) → (q ≡ k → ⊥) → row_at (slice_set rows k r) q ≡ row_at rows q
set_elsewhere [] k q r ne = refl
set_elsewhere (x ∷ rows) zero zero r ne = absurd (ne refl)
set_elsewhere (x ∷ rows) zero (suc q) r ne = refl
set_elsewhere (x ∷ rows) (suc k) zero r ne = refl
set_elsewhere (x ∷ rows) (suc k) (suc q) r ne = set_elsewhere rows k q r (λ e. ne (ap suc e))

pub nothing_in : (p : ℕ) → Contains {X = ℕ} [] p → ⊥
nothing_in p h = absurd (omega (arith, h.1))

-- ## Those that ask are noted

pub added_none : (rows : List (List ℕ)) (pred : ℕ) → AddedTo rows pred [] true rows
added_none rows pred = record {
  many = refl;
  others = λ p q ne. (λ h. h, λ h. h);
  added = λ e q h. absurd (nothing_in q h);
  only = λ q h. inl h;
  none = λ e. absurd (cc (e));
}

pub added_step : (rows : List (List ℕ)) (pred : ℕ) (asks : List ℕ) (rows' : List (List ℕ)) (at : ℕ) → AddedTo rows pred asks true rows' → at < length rows' → AddedTo rows pred (asks ++ at ∷ []) true (slice_set rows' at (row_at rows' at ++ pred ∷ []))
added_step rows pred asks rows' at a lt = let new = slice_set rows' at (row_at rows' at ++ pred ∷ []) in let here = set_there rows' at (row_at rows' at ++ pred ∷ []) lt in record {
  many = set_length rows' at _ ∙ a.many;
  others = λ p q ne. elim (cases_eq q at) [
    | inl e ↦
        let at' = ap (row_at new) e ∙ here in (
          λ h. subst (λ l. Contains l p) (sym at') (Contains-append_left (row_at rows' at) (pred ∷ []) p (subst (λ x. Contains (row_at rows' x) p) e ((a.others p q ne).0 h))),
          λ h. elim (Contains-push_cases (row_at rows' at) pred p (subst (λ l. Contains l p) at' h)) [
            | inl old ↦ (a.others p q ne).1 (subst (λ x. Contains (row_at rows' x) p) (sym e) old)
            | inr same ↦ absurd (ne (sym same))
          ],
        )
    | inr other ↦
        let same = set_elsewhere rows' at q (row_at rows' at ++ pred ∷ []) other in
        (λ h. subst (λ l. Contains l p) (sym same) ((a.others p q ne).0 h), λ h. (a.others p q ne).1 (subst (λ l. Contains l p) same h))
  ];
  added = λ e q h. elim (cases_eq q at) [
    | inl is ↦ subst (λ l. Contains l pred) (sym (ap (row_at new) is ∙ here)) (Contains-push (row_at rows' at) pred)
    | inr other ↦ subst (λ l. Contains l pred) (sym (set_elsewhere rows' at q _ other))
        (elim (Contains-push_cases asks at q h) [ inl old ↦ a.added refl q old | inr is ↦ absurd (other (sym is)) ])
  ];
  only = λ q h. elim (cases_eq q at) [
    | inl is ↦ inr (subst (Contains (asks ++ at ∷ [])) (sym is) (Contains-push asks at))
    | inr other ↦ elim (a.only q (subst (λ l. Contains l pred) (set_elsewhere rows' at q _ other) h)) [
      | inl old ↦ inl old
      | inr new ↦ inr (Contains-append_left asks (at ∷ []) q new)
    ]
  ];
  none = λ e. absurd (cc (e));
}

-- the row of the next one is written
pub added_next : (rows : List (List ℕ)) (pred : ℕ) (asks : List ℕ) (k : ℕ) (old : List (Vec ℕ Global)) (at : ℕ) (row new : Vec ℕ Global) → AddedTo rows pred (take k asks) true (rows_of old)
    → k < length asks → at ≡ get_or asks k 0 → at < length old → row ≡ get_or old at row → new.items ≡ row.items ++ pred ∷ [] → AddedTo rows pred (take (k + 1) asks) true (rows_of (slice_set old at new))
added_next rows pred asks k old at row new a lt is within here e =
    let step = added_step rows pred (take k asks) (rows_of old) at a (omega (arith, within, many_rows old)) in
    let written = rows_set old at new ∙ ap (slice_set (rows_of old) at) (e ∙ ap (λ (l : List ℕ). l ++ pred ∷ []) (sym (row_here old at row here within))) in
    let taken = take_more asks k 0 lt ∙ ap (λ x. take k asks ++ x ∷ []) (sym is) in
    subst (λ l. AddedTo rows pred l true (rows_of (slice_set old at new))) (sym taken) (subst (AddedTo rows pred (take k asks ++ at ∷ []) true) (sym written) step)

pub added_stop : (rows : List (List ℕ)) (pred : ℕ) (asks : List ℕ) (k : ℕ) (old : List (Vec ℕ Global)) (at : ℕ) → AddedTo rows pred (take k asks) true (rows_of old) → k < length asks → at ≡ get_or asks k 0 → length old ≤ at → AddedTo rows pred asks false (rows_of old)
added_stop rows pred asks k old at a lt is le = record {
  many = a.many;
  others = a.others;
  added = λ e. absurd (cc (e));
  only = λ q h. elim (a.only q h) [ inl old ↦ inl old | inr new ↦ inr (in_front asks k q new) ];
  none = λ e. (at, (subst (Contains asks) (sym is) (Contains-get_or asks k 0 lt), omega (arith, a.many, many_rows old, le)));
}
  where
    in_front : (xs : List ℕ) (k x : ℕ) → Contains (take k xs) x → Contains xs x
    in_front xs k x h = subst (λ l. Contains l x) (take-append-drop k xs) (Contains-append_left (take k xs) (drop k xs) x h)

-- ## One predicate more is looked at

known_still : (preds : List Pred) (changing : ℕ → Bool) (rows rows' : List (List ℕ)) (k p : ℕ) (pred : Pred) → (p ≡ k → ⊥) → SameButFor k rows rows' → IsKnown preds changing rows p pred → IsKnown preds changing rows' p pred
known_still preds changing rows rows' k p pred ne same known = record {
  stays = known.stays;
  enough = λ set len asks. known.enough set len (λ q h. asks q ((same p q ne).0 h));
  needs = λ set len quiet q h. known.needs set len quiet q ((same p q ne).1 h);
}

earlier_still : (rows rows' : List (List ℕ)) (k p q : ℕ) → SameButFor k rows rows' → ((p q : ℕ) → Asks rows p q → p < k) → Asks rows' p q → p < suc k
earlier_still rows rows' k p q same earlier h = elim (cases_eq p k) [ inl e ↦ omega (arith, e) | inr ne ↦ omega (arith, earlier p q ((same p q ne).1 h)) ]

-- it isn't quiet
pub sorted_out : (preds : List Pred) (changing : ℕ → Bool) (rows : List (List ℕ)) (set : List Bool) (left : List ℕ) (k : ℕ) (rows' : List (List ℕ)) (set' : List Bool) (left' : List ℕ) → IsSorted preds changing rows set left k → length rows' ≡ length rows → SameButFor k rows rows' → IsNeverQuiet preds changing k → TookOut set left k set' left' → IsSorted preds changing rows' set' left' (suc k)
sorted_out preds changing rows set left k rows' set' left' s len same never out =
    let t = one_more set left [] set left k set' left' (none_out set left) out in record {
      answers = t.answers ∙ s.answers;
      rowed = len ∙ s.rowed;
      out = λ p h. elim (either (is_in_set set p)) [
        | inr old ↦ s.out p old
        | inl was ↦ subst (IsNeverQuiet preds changing) (only_that k p (t.only p was h)) never
      ];
      waits = λ p lt h. elim (either (is_in_set set p)) [ inr old ↦ t.waited p (s.waits p lt old) | inl was ↦ t.waits p was h ];
      lefts = λ p h. elim (t.from p h) [
        | inl f ↦ f
        | inr old ↦ elim (either (is_in_set set' p)) [ inr f ↦ f | inl is ↦ absurd (not_both (is_in_set set p) (t.kept p is) (s.lefts p old)) ]
      ];
      known = λ p lt pred get h. elim (cases_eq p k) [
        | inl e ↦ absurd (not_both (is_in_set set' p) h (t.gone p (subst (Contains (k ∷ [])) (sym e) (Contains-push [] k))))
        | inr ne ↦ known_still preds changing rows rows' k p pred ne same (s.known p (omega (arith, lt, ne)) pred get (t.kept p h))
      ];
      earlier = λ p q h. earlier_still rows rows' k p q same s.earlier h;
    }
  where
    only_that : (k p : ℕ) → Contains (k ∷ []) p → k ≡ p
    only_that k p h = elim (Contains-push_cases [] k p h) [ inl none ↦ absurd (nothing_in p none) | inr e ↦ e ]

-- it is known what it asks
pub sorted_known : (preds : List Pred) (changing : ℕ → Bool) (rows : List (List ℕ)) (set : List Bool) (left : List ℕ) (k : ℕ) (pred : Pred) (rows' : List (List ℕ)) → slice_get preds k ≡ Some pred → IsSorted preds changing rows set left k → length rows' ≡ length rows → SameButFor k rows rows' → IsKnown preds changing rows' k pred → IsSorted preds changing rows' set left (suc k)
sorted_known preds changing rows set left k pred rows' at s len same known = record {
  answers = s.answers;
  rowed = len ∙ s.rowed;
  out = s.out;
  waits = s.waits;
  lefts = s.lefts;
  known = λ p lt other get h. elim (cases_eq p k) [
    | inl e ↦
        let both : Some other ≡ Some pred = sym get ∙ ap (slice_get preds) e ∙ at in
        let is : other ≡ pred = cc (both) in
        subst (λ x. IsKnown preds changing rows' x other) (sym e) (subst (IsKnown preds changing rows' k) (sym is) known)
    | inr ne ↦ known_still preds changing rows rows' k p other ne same (s.known p (omega (arith, lt, ne)) other get h)
  ];
  earlier = λ p q h. earlier_still rows rows' k p q same s.earlier h;
}
