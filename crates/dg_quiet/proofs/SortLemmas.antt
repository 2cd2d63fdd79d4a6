-- Each predicate is looked at in turn: it is taken out, or what it asks is noted.
use Rattle.std.proofs.Common.{◌≡◌, ℕ, zero, suc, ◌+◌, ◌<◌, ◌⊎◌, inl, inr, List, [], ◌∷◌, Bool, true, false, Some, refl, sym, ap, ◌∙◌, subst, arith, length, replicate, add-one}
use Rattle.std.specs.Prelude.{◌&&◌, slice_get, Contains}
use Rattle.std.proofs.lemmas.List.{length-replicate, get_or-replicate, get_or_past}
use Rattle.std.proofs.lemmas.List.Folds.{list_all_at}
use Rattle.std.proofs.lemmas.Option.{slice_get_within}
use Rattle.std.proofs.lemmas.Bool.{cases_lt}
use Rattle.dg_base.specs.declared.program.Pred.{Pred}
use Rattle.dg_base.specs.declared.program.Rule.{Rule}
use Rattle.dg_meaning.specs.Sets.{is_in_set}
use Rattle.dg_meaning.specs.Quiet.{have_quiet_bodies}
use Rattle.dg_quiet.specs.inside.Left.{asks_in}
use Rattle.dg_quiet.specs.inside.Spread.{row_at, Asks, IsNeverQuiet, IsKnown, TookOut, AddedTo, IsNoted, IsSorted, IsSpread}
use Rattle.dg_quiet.proofs.SpreadLemmas.{either, not_both, nothing_in, sorted_out, sorted_known}

-- ## All that is asked

both_true : {a b : Bool} → a ≡ true → b ≡ true → (a && b) ≡ true
both_true {b = b} e f = ap (λ x. x && b) e ∙ f

all_asked : (set : List Bool) (asks : List ℕ) → ((q : ℕ) → Contains asks q → is_in_set set q ≡ true) → asks_in set asks ≡ true
all_asked set [] h = refl
all_asked set (x ∷ asks) h = both_true (h x (0, omega arith, refl)) (all_asked set asks (λ q c. h q (suc c.0, omega (arith, c.1), c.2)))

one_out : (set : List Bool) (asks : List ℕ) (q : ℕ) → Contains asks q → is_in_set set q ≡ false → asks_in set asks ≡ false
one_out set asks q c h = list_all_at (is_in_set set) asks c.0 q c.1 (ap (is_in_set set) c.2 ∙ h)

asked_in : (set : List Bool) (asks : List ℕ) (q : ℕ) → asks_in set asks ≡ true → Contains asks q → is_in_set set q ≡ true
asked_in set asks q all c = elim (either (is_in_set set q)) [ inl h ↦ h | inr h ↦ absurd (not_both (asks_in set asks) all (one_out set asks q c h)) ]

-- ## What is noted of a predicate

pub noted_changes : (rules : List Rule) (changes : Bool) (rows : List (List ℕ)) (k : ℕ) → changes ≡ true → IsNoted rules changes rows k false rows
noted_changes rules changes rows k is = record {
  many = refl;
  others = λ p q ne. (λ h. h, λ h. h);
  stays = λ e. absurd (cc (e));
  enough = λ e. absurd (cc (e));
  needs = λ e. absurd (cc (e));
  never = λ e. inl is;
}

pub noted_loud : (rules : List Rule) (changes : Bool) (rows : List (List ℕ)) (k : ℕ) → ((set : List Bool) → have_quiet_bodies set rules ≡ false) → IsNoted rules changes rows k false rows
noted_loud rules changes rows k loud = record {
  many = refl;
  others = λ p q ne. (λ h. h, λ h. h);
  stays = λ e. absurd (cc (e));
  enough = λ e. absurd (cc (e));
  needs = λ e. absurd (cc (e));
  never = λ e. inr (λ set len. loud set);
}

pub noted_added : (rules : List Rule) (changes : Bool) (rows : List (List ℕ)) (k : ℕ) (asks : List ℕ) (fits : Bool) (rows' : List (List ℕ)) → changes ≡ false
    → ((set : List Bool) → have_quiet_bodies set rules ≡ asks_in set asks) → AddedTo rows k asks fits rows' → IsNoted rules changes rows k fits rows'
noted_added rules changes rows k asks fits rows' is by a = record {
  many = a.many;
  others = a.others;
  stays = λ e. is;
  enough = λ e set h. by set ∙ all_asked set asks (λ q c. h q (a.added e q c));
  needs = λ e set quiet q h. elim (a.only q h) [ inl old ↦ inl old | inr new ↦ inr (asked_in set asks q (sym (by set) ∙ quiet) new) ];
  never = λ e. let n = a.none e in inr (λ set len. by set ∙ one_out set asks n.0 n.1.0 (get_or_past set n.0 false (omega (arith, len, n.1.1))));
}

-- ## One predicate more is looked at

never_quiet : (preds : List Pred) (changing : ℕ → Bool) (k : ℕ) (pred : Pred) → slice_get preds k ≡ Some pred
    → (changing k ≡ true) ⊎ ((set : List Bool) → length set ≡ length preds → have_quiet_bodies set pred.rules ≡ false) → IsNeverQuiet preds changing k
never_quiet preds changing k pred at why set len closed = elim (either (is_in_set set k)) [
  | inr out ↦ out
  | inl is ↦ let c = closed k pred at is in elim why [ inl h ↦ absurd (not_both (changing k) h c.0) | inr loud ↦ absurd (not_both (have_quiet_bodies set pred.rules) c.1 (loud set len)) ]
]

pub looked_out : (preds : List Pred) (changing : ℕ → Bool) (k : ℕ) (pred : Pred) (rules : List Rule) (changes : Bool) (rows rows' : List (List ℕ)) (set : List Bool) (left : List ℕ) (set' : List Bool) (left' : List ℕ)
    → slice_get preds k ≡ Some pred → pred.rules ≡ rules → changing k ≡ changes → IsNoted rules changes rows k false rows' → TookOut set left k set' left' → IsSorted preds changing rows set left k
    → IsSorted preds changing rows' set' left' (k + 1)
looked_out preds changing k pred rules changes rows rows' set left set' left' at ruled is n out s =
    let why : (changing k ≡ true) ⊎ ((other : List Bool) → length other ≡ length preds → have_quiet_bodies other pred.rules ≡ false) =
    elim (n.never refl) [ inl c ↦ inl (is ∙ c) | inr loud ↦ inr (λ other len. ap (have_quiet_bodies other) ruled ∙ loud other (len ∙ sym s.rowed)) ] in
    subst (IsSorted preds changing rows' set' left') (sym (add-one k))
    (sorted_out preds changing rows set left k rows' set' left' s n.many n.others (never_quiet preds changing k pred at why) out)

not_yet : (k : ℕ) → k < k → ⊥
not_yet k lt = omega (arith, lt)

pub looked_in : (preds : List Pred) (changing : ℕ → Bool) (k : ℕ) (pred : Pred) (rules : List Rule) (changes : Bool) (rows rows' : List (List ℕ)) (set : List Bool) (left : List ℕ)
    → slice_get preds k ≡ Some pred → pred.rules ≡ rules → changing k ≡ changes → IsNoted rules changes rows k true rows' → IsSorted preds changing rows set left k
    → IsSorted preds changing rows' set left (k + 1)
looked_in preds changing k pred rules changes rows rows' set left at ruled is n s =
    let known : IsKnown preds changing rows' k pred = record {
      stays = is ∙ n.stays refl;
      enough = λ other len h. ap (have_quiet_bodies other) ruled ∙ n.enough refl other h;
      needs = λ other len quiet q h. elim (n.needs refl other (sym (ap (have_quiet_bodies other) ruled) ∙ quiet) q h) [
        | inl old ↦ absurd (not_yet k (s.earlier k q old))
        | inr new ↦ new
      ];
    } in
    subst (IsSorted preds changing rows' set left) (sym (add-one k)) (sorted_known preds changing rows set left k pred rows' at s n.many n.others known)

-- ## Before the first, and behind the last

bare_row : (n q : ℕ) → row_at (replicate n []) q ≡ []
bare_row zero q = refl
bare_row (suc n) zero = refl
bare_row (suc n) (suc q) = bare_row n q

pub sorted_none : (preds : List Pred) (changing : ℕ → Bool) (rows : List (List ℕ)) (set : List Bool) (left : List ℕ) → rows ≡ replicate (length preds) [] → set ≡ replicate (length preds) true → left ≡ []
    → IsSorted preds changing rows set left 0
sorted_none preds changing rows set left r s l =
    let many = length preds in
    let inside : (p : ℕ) → p < many → is_in_set set p ≡ true = λ p lt. ap (λ x. is_in_set x p) s ∙ get_or-replicate many p true false lt in record {
      answers = ap length s ∙ length-replicate many true;
      rowed = ap length r ∙ length-replicate many [];
      out = λ p h other len closed. get_or_past other p false (elim (cases_lt p many) [ inl lt ↦ absurd (not_both (is_in_set set p) (inside p lt) h) | inr le ↦ omega (arith, le, len) ]);
      waits = λ p lt h. absurd (not_both (is_in_set set p) (inside p lt) h);
      lefts = λ p h. absurd (nothing_in p (subst (λ x. Contains x p) l h));
      known = λ p lt pred get h. absurd (omega (arith, lt));
      earlier = λ p q h. absurd (nothing_in p (subst (λ x. Contains x p) (ap (λ x. row_at x q) r ∙ bare_row many q) h));
    }

row_in : (rows : List (List ℕ)) (p q : ℕ) → Asks rows p q → q < length rows
row_in [] p q h = absurd (nothing_in p h)
row_in (r ∷ rows) p zero h = omega arith
row_in (r ∷ rows) p (suc q) h = omega (arith, row_in rows p q h)

pub sorted_all : (preds : List Pred) (changing : ℕ → Bool) (rows : List (List ℕ)) (set : List Bool) (left : List ℕ) → IsSorted preds changing rows set left (length preds) → IsSpread preds changing rows set left
sorted_all preds changing rows set left s = record {
  answers = s.answers;
  out = s.out;
  lefts = s.lefts;
  known = λ p pred get h. s.known p (slice_get_within preds p pred get) pred get h;
  spread = λ p q asks h. elim (either (is_in_set set q)) [ inl is ↦ inl is | inr out ↦ inr (s.waits q (omega (arith, row_in rows p q asks, s.rowed)) out) ];
}
