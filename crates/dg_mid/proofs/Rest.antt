-- What is left to be done before a query is answered, and that it leaves no choice behind.
use Rattle.std.proofs.Common.{◌≡◌, ℕ, ◌+◌, ◌≤◌, ◌⊎◌, inl, inr, List, [], ◌∷◌, ◌++◌, Bool, true, false, refl, sym, ap, ◌∙◌, subst, arith}
use Rattle.std.specs.Prelude.{◌||◌, nat_lt}
use Rattle.std.proofs.lemmas.Bool.{cond_both, ltb-true, ltb-false}
use Rattle.dg_base.specs.declared.program.Goal.{Goal, Goal-F, out-Goal}
use Rattle.dg_base.specs.declared.program.Goal.TheOpen as form
use Rattle.dg_single.specs.Plain.{is_just, is_cut_goal, is_plain, has_just, has_cut, are_plain}
use Rattle.dg_single.proofs.SetLemmas.{and_left, and_right, or_cases}
use Rattle.dg_mid.specs.Codes.{End, Returns, Commits, Refuses, Backs, Leaves, Keeps, Finishes}
use Rattle.dg_mid.specs.Reads.{AreBelow}
use Rattle.dg_mid.specs.State.{Place, Choice, cut_choices}

-- a goal, whose (just) cuts to a tag; a cut to a tag; or nothing that goes on
pub data Next : Type 0 where
  Does : (goal : Goal) → (tag : ℕ) → Next
  CutsTo : (tag : ℕ) → Next
  Stuck : Next

-- some goals first
abbrev pub goals_next : ℕ → List Goal → List Next → List Next
goals_next t [] K = K
goals_next t (x ∷ gs) K = Does x t ∷ goals_next t gs K

-- what comes behind goals first, in these inner constructs
abbrev pub end_next : End → ℕ → List Place → List Next → List Next
end_next Returns t inner K = K
end_next (Commits gs end) t [] K = Stuck ∷ []
end_next (Commits gs end) t (p ∷ inner) K = CutsTo p.tag ∷ goals_next t gs (end_next end t inner K)
end_next Refuses t [] K = Stuck ∷ []
end_next Refuses t (p ∷ inner) K = CutsTo p.tag ∷ Stuck ∷ []
end_next Backs t inner K = Stuck ∷ []
end_next (Leaves gs end) t [] K = Stuck ∷ []
end_next (Leaves gs end) t (p ∷ inner) K = CutsTo p.tag ∷ goals_next t gs (end_next end t inner K)
end_next (Keeps term) t inner K = Stuck ∷ []
end_next Finishes t inner K = Stuck ∷ []

-- the answer of a rule first, which cuts where one answer is wanted
abbrev pub first_next : Bool → ℕ → List Next → List Next
first_next true t K = K
first_next false t K = CutsTo t ∷ K

pub next_append : (t : ℕ) (xs ys : List Goal) (K : List Next) → goals_next t (xs ++ ys) K ≡ goals_next t xs (goals_next t ys K)
next_append t [] ys K = refl
next_append t (x ∷ xs) ys K = ap (λ (l : List Next). Does x t ∷ l) (next_append t xs ys K)

-- ## Seals

-- a goal cuts to the tag c, or fails
abbrev pub seals : Goal-F Goal → ℕ → ℕ → Type 0
seals form.Just t c = c ≡ t
seals form.Fail t c = Unit {0}
seals x t c = ⊥

-- a cut to the tag c comes before the answer, or none comes
abbrev pub SealedBy : ℕ → List Next → Type 0
SealedBy c [] = ⊥
SealedBy c (Does x t ∷ K) = seals (out-Goal x) t c ⊎ SealedBy c K
SealedBy c (CutsTo t ∷ K) = (c ≡ t) ⊎ SealedBy c K
SealedBy c (Stuck ∷ K) = Unit {0}

seals_just : (x : Goal-F Goal) (t : ℕ) → is_just x ≡ true → seals x t t
seals_just form.Just t h = refl
seals_just _ t h = absurd (cc (h))

seals_cut : (x : Goal-F Goal) (t : ℕ) → is_cut_goal x ≡ true → seals x t t
seals_cut form.Just t h = refl
seals_cut form.Fail t h = tt
seals_cut _ t h = absurd (cc (h))

pub goals_sealed : (c t : ℕ) (gs : List Goal) (K : List Next) → SealedBy c K → SealedBy c (goals_next t gs K)
goals_sealed c t [] K h = h
goals_sealed c t (x ∷ gs) K h = inr (goals_sealed c t gs K h)

just_seals : (t : ℕ) (gs : List Goal) (K : List Next) → has_just gs ≡ true → SealedBy t (goals_next t gs K)
just_seals t [] K h = absurd (cc (h))
just_seals t (x ∷ gs) K h = elim (or_cases (is_just (out-Goal x)) (has_just gs) h) [ inl e ↦ inl (seals_just (out-Goal x) t e) | inr e ↦ inr (just_seals t gs K e) ]

pub cut_seals : (t : ℕ) (gs : List Goal) (K : List Next) → has_cut gs ≡ true → SealedBy t (goals_next t gs K)
cut_seals t [] K h = absurd (cc (h))
cut_seals t (x ∷ gs) K h = elim (or_cases (is_cut_goal (out-Goal x)) (has_cut gs) h) [ inl e ↦ inl (seals_cut (out-Goal x) t e) | inr e ↦ inr (cut_seals t gs K e) ]

-- ## Choices that are cut

-- each of these choices was opened where so many were, or since
abbrev pub From : ℕ → List Choice → Type 0
From c [] = Unit {0}
From c (x ∷ xs) = (c ≤ x.place.tag) × From c xs

-- a cut leaves what is older
pub cut_older : (t : ℕ) (p : Place) (cs : List Choice) → AreBelow t cs → t ≤ p.tag → cut_choices p cs ≡ cs
cut_older t p [] h le = refl
cut_older t p (c ∷ cs) h le = cond_both (nat_lt c.place.tag p.tag) (c ∷ cs) (cut_choices p cs) (λ l. l ≡ c ∷ cs) (λ e. refl) (λ e. let k = ltb-false c.place.tag p.tag e in absurd (omega (arith, h, le, k)))

-- a cut passes over what is newer
pub cut_newer : (p : Place) (c : Choice) (cs : List Choice) → p.tag ≤ c.place.tag → cut_choices p (c ∷ cs) ≡ cut_choices p cs
cut_newer p c cs le = cond_both (nat_lt c.place.tag p.tag) (c ∷ cs) (cut_choices p cs) (λ l. l ≡ cut_choices p cs) (λ e. let k = ltb-true c.place.tag p.tag e in absurd (omega (arith, le, k))) (λ e. refl)

-- the lower of two cuts is one
pub cut_lower : (p q : Place) (cs : List Choice) → p.tag ≤ q.tag → cut_choices p (cut_choices q cs) ≡ cut_choices p cs
cut_lower p q [] le = refl
cut_lower p q (c ∷ cs) le = cond_both (nat_lt c.place.tag q.tag) (c ∷ cs) (cut_choices q cs) (λ l. cut_choices p l ≡ cut_choices p (c ∷ cs)) (λ e. refl)
    (λ e. let k = ltb-false c.place.tag q.tag e in cut_lower p q cs le ∙ sym (cut_newer p c cs (omega (arith, k, le))))

-- the higher of two cuts leaves what the lower left
pub cut_higher : (p q : Place) (cs : List Choice) → p.tag ≤ q.tag → cut_choices q (cut_choices p cs) ≡ cut_choices p cs
cut_higher p q [] le = refl
cut_higher p q (c ∷ cs) le = cond_both (nat_lt c.place.tag p.tag) (c ∷ cs) (cut_choices p cs) (λ l. cut_choices q l ≡ l)
    (λ e. let k = ltb-true c.place.tag p.tag e in cut_older p.tag q (c ∷ cs) k le) (λ e. cut_higher p q cs le)

module _ (S : List Bool) (t0 : ℕ) (cs0 : List Choice) where
  -- ## What is ahead

  -- a cut to a tag that was given within the query comes before the answer, or none comes
  pub record Sealed (u : ℕ) (K : List Next) : Type 0 where
    pub tag : ℕ
    pub from : t0 ≤ tag
    pub to : tag ≤ u
    pub by : SealedBy tag K

  -- each goal before the answer is plain, or sealed by what comes behind it
  abbrev pub Ahead : ℕ → List Next → Type 0
  Ahead u [] = Unit {0}
  Ahead u (Does x t ∷ K) = (t0 ≤ t) × (t ≤ u) × ((is_plain S x ≡ true) ⊎ Sealed u K) × Ahead u K
  Ahead u (CutsTo t ∷ K) = (t0 ≤ t) × (t ≤ u) × Ahead u K
  Ahead u (Stuck ∷ K) = Unit {0}

  -- these choices are newer than those of the query, which are there
  pub record Over (c : ℕ) (cs : List Choice) : Type 0 where
    pub newer : List Choice
    pub is : cs ≡ newer ++ cs0
    pub from : From c newer

  -- a cut before the answer drops what is newer
  pub record Sealing (u : ℕ) (K : List Next) (cs : List Choice) : Type 0 where
    pub tag : ℕ
    pub from : t0 ≤ tag
    pub to : tag ≤ u
    pub by : SealedBy tag K
    pub over : Over tag cs

  -- there is no newer choice, or such a cut comes
  abbrev pub Left : ℕ → List Next → List Choice → Type 0
  Left u K cs = (cs ≡ cs0) ⊎ Sealing u K cs

  abbrev pub Good : ℕ → List Next → List Choice → Type 0
  Good u K cs = Ahead u K × Left u K cs

  -- ## More is opened

  pub sealed_up : (u v : ℕ) (K : List Next) → u ≤ v → Sealed u K → Sealed v K
  sealed_up u v K le h = let x = h.to in record { tag = h.tag; from = h.from; to = omega (arith, x, le); by = h.by }

  plain_up : (u v : ℕ) (x : Goal) (K : List Next) → u ≤ v → (is_plain S x ≡ true) ⊎ Sealed u K → (is_plain S x ≡ true) ⊎ Sealed v K
  plain_up u v x K le (inl h) = inl h
  plain_up u v x K le (inr h) = inr (sealed_up u v K le h)

  pub ahead_up : (u v : ℕ) (K : List Next) → u ≤ v → Ahead u K → Ahead v K
  ahead_up u v [] le h = tt
  ahead_up u v (Does x t ∷ K) le h = let y = h.1 in (h.0, omega (arith, y, le), plain_up u v x K le h.2, ahead_up u v K le h.3)
  ahead_up u v (CutsTo t ∷ K) le h = let y = h.1 in (h.0, omega (arith, y, le), ahead_up u v K le h.2)
  ahead_up u v (Stuck ∷ K) le h = tt

  -- what is left leads to other steps that are sealed as it is
  pub left_into : (u v : ℕ) (K J : List Next) (cs : List Choice) → u ≤ v → ((c : ℕ) → SealedBy c K → SealedBy c J) → Left u K cs → Left v J cs
  left_into u v K J cs le up (inl h) = inl h
  left_into u v K J cs le up (inr h) = let x = h.to in inr (record { tag = h.tag; from = h.from; to = omega (arith, x, le); by = up h.tag h.by; over = h.over })

  -- ## Goals

  pub sealed_goals : (u t : ℕ) (gs : List Goal) (K : List Next) → Sealed u K → Sealed u (goals_next t gs K)
  sealed_goals u t gs K h = record { tag = h.tag; from = h.from; to = h.to; by = goals_sealed h.tag t gs K h.by }

  -- goals in front that are plain, or sealed by what follows
  pub body_ahead : (u t : ℕ) (gs : List Goal) (K : List Next) → t0 ≤ t → t ≤ u → (are_plain S gs ≡ true) ⊎ Sealed u K → Ahead u K → Ahead u (goals_next t gs K)
  body_ahead u t [] K a b p k = k
  body_ahead u t (x ∷ gs) K a b (inl h) k = (
    a,
    b,
    elim (or_cases (has_just gs) (is_plain S x) (and_right (are_plain S gs) (has_just gs || is_plain S x) h)) [ inl e ↦ inr (record { tag = t; from = a; to = b; by = just_seals t gs K e }) | inr e ↦ inl e ],
    body_ahead u t gs K a b (inl (and_left (are_plain S gs) (has_just gs || is_plain S x) h)) k,
  )
  body_ahead u t (x ∷ gs) K a b (inr s) k = (a, b, inr (sealed_goals u t gs K s), body_ahead u t gs K a b (inr s) k)

  -- a goal that neither cuts nor fails is done
  pub left_skip : (u t : ℕ) (x : Goal) (K : List Next) (cs : List Choice) → ((c : ℕ) → seals (out-Goal x) t c → ⊥) → Left u (Does x t ∷ K) cs → Left u K cs
  left_skip u t x K cs quiet (inl h) = inl h
  left_skip u t x K cs quiet (inr h) = elim h.by [ inl s ↦ absurd (quiet h.tag s) | inr s ↦ inr (record { tag = h.tag; from = h.from; to = h.to; by = s; over = h.over }) ]

  -- ## Cuts

  module _ (below : AreBelow t0 cs0) where
    cut_over : (p : Place) (c : ℕ) (newer : List Choice) → t0 ≤ p.tag → From c newer → Over c (cut_choices p (newer ++ cs0))
    cut_over p c [] le h = record { newer = []; is = cut_older t0 p cs0 below le; from = tt }
    cut_over p c (n ∷ newer) le h = cond_both (nat_lt n.place.tag p.tag) (n ∷ (newer ++ cs0)) (cut_choices p (newer ++ cs0)) (Over c) (λ e. record { newer = n ∷ newer; is = refl; from = h }) (λ e. cut_over p c newer le h.1)

    cut_exact : (p : Place) (newer : List Choice) → t0 ≤ p.tag → From p.tag newer → cut_choices p (newer ++ cs0) ≡ cs0
    cut_exact p [] le h = cut_older t0 p cs0 below le
    cut_exact p (n ∷ newer) le h = cut_newer p n (newer ++ cs0) h.0 ∙ cut_exact p newer le h.1

    pub over_cut : (p : Place) (c : ℕ) (cs : List Choice) → t0 ≤ p.tag → Over c cs → Over c (cut_choices p cs)
    over_cut p c cs le h = subst (λ l. Over c (cut_choices p l)) (sym h.is) (cut_over p c h.newer le h.from)

    -- any cut within the query
    pub left_cut : (u : ℕ) (K : List Next) (cs : List Choice) (p : Place) → t0 ≤ p.tag → Left u K cs → Left u K (cut_choices p cs)
    left_cut u K cs p le (inl h) = inl (ap (cut_choices p) h ∙ cut_older t0 p cs0 below le)
    left_cut u K cs p le (inr h) = inr (record { tag = h.tag; from = h.from; to = h.to; by = h.by; over = over_cut p h.tag cs le h.over })

    -- the cut that comes next
    sealing_cut : (u : ℕ) (K J : List Next) (cs : List Choice) (p : Place) → t0 ≤ p.tag → (h : Sealing u J cs) → (h.tag ≡ p.tag) ⊎ SealedBy h.tag K → Left u K (cut_choices p cs)
    sealing_cut u K J cs p le h (inl e) = inl (ap (cut_choices p) h.over.is ∙ cut_exact p h.over.newer le (subst (λ c. From c h.over.newer) e h.over.from))
    sealing_cut u K J cs p le h (inr s) = inr (record { tag = h.tag; from = h.from; to = h.to; by = s; over = over_cut p h.tag cs le h.over })

    pub left_cut_to : (u : ℕ) (K : List Next) (cs : List Choice) (p : Place) → t0 ≤ p.tag → Left u (CutsTo p.tag ∷ K) cs → Left u K (cut_choices p cs)
    left_cut_to u K cs p le (inl h) = inl (ap (cut_choices p) h ∙ cut_older t0 p cs0 below le)
    left_cut_to u K cs p le (inr h) = sealing_cut u K (CutsTo p.tag ∷ K) cs p le h h.by

    pub left_just : (u : ℕ) (x : Goal) (K : List Next) (cs : List Choice) (p : Place) → out-Goal x ≡ form.Just → t0 ≤ p.tag → Left u (Does x p.tag ∷ K) cs → Left u K (cut_choices p cs)
    left_just u x K cs p is le (inl h) = inl (ap (cut_choices p) h ∙ cut_older t0 p cs0 below le)
    left_just u x K cs p is le (inr h) = sealing_cut u K (Does x p.tag ∷ K) cs p le h (subst (λ f. seals f p.tag h.tag ⊎ SealedBy h.tag K) is h.by)

  -- a choice opens, behind which a seal comes
  pub left_open : (u : ℕ) (K J : List Next) (n : Choice) (cs : List Choice) → n.place.tag ≡ u → ((c : ℕ) → SealedBy c K → SealedBy c J) → Sealed u J → Left u K cs → Left (u + 1) J (n ∷ cs)
  left_open u K J n cs e up s (inl h) = let y = s.to in inr (record { tag = s.tag; from = s.from; to = omega (arith, y); by = s.by; over = record { newer = n ∷ []; is = ap (λ (l : List Choice). n ∷ l) h; from = (omega (arith, y, e), tt) } })
  left_open u K J n cs e up s (inr h) = let y = h.to in inr (record { tag = h.tag; from = h.from; to = omega (arith, y); by = up h.tag h.by; over = record { newer = n ∷ h.over.newer; is = ap (λ (l : List Choice). n ∷ l) h.over.is; from = (omega (arith, y, e), h.over.from) } })
