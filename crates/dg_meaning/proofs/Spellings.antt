-- Words by their spellings unify as words by their numbers do.
use Rattle.std.proofs.Common.{◌≡◌, ℕ, zero, suc, ◌+◌, ◌<◌, List, [], ◌∷◌, ◌++◌, Bool, true, false, refl, sym, ap, ◌∙◌, subst, Option, Some, None, inl, inr, length}
use Rattle.std.specs.Prelude.{eqb, nat_lt, ◌&&◌, if◌then◌else◌}
use Rattle.std.proofs.lemmas.Bool.{cond_both, cases_eq, eq-eqb, ne_eqb}
use Rattle.dg_meaning.specs.Values.{Label, Num, Word, Unknown, Object, Nil, Pair, Closure, Value, Var, Node, Values, NoMore, More}
use Rattle.dg_meaning.specs.Substitutions.{Substitution, at_var, walk, links_at, links, replaced, all_replaced, resolved, contains, any_contains}
use Rattle.dg_meaning.specs.Unify.{same_spelling, same_label, Equations, as_many, side_by_side, Turn, Goes, Binds, Clashes, binds, ties, turn_of, turn, looked, all_looked, looks, looks_of, cost, Unified, charged, after_turn, turns, size, sizes, weight, top, tops, top_of_pairs, top_of_equations, enough, ended, solve}
use Rattle.dg_meaning.specs.inside.Spellings.{spelling_of, Differ, HaveLabel, Have, HaveAll, HavePairs, spelled_label, spelled, all_spelled, spelled_pairs, spelled_answer, SpellingsUnify}
use Rattle.dg_meaning.proofs.UnifyLaws.{spelling_same}

-- ## Labels

no_same : (xs ys : List ℕ) (b : Bool) → same_spelling xs ys ≡ b → (xs ≡ ys → ⊥) → same_spelling xs ys ≡ false
no_same xs ys true is ne = absurd (ne (spelling_same xs ys is))
no_same xs ys false is ne = is

spelling_refl : (xs : List ℕ) → same_spelling xs xs ≡ true
spelling_refl [] = refl
spelling_refl (x ∷ xs) = rw (eq-eqb x x refl) (spelling_refl xs)

spelling_differs : (xs ys : List ℕ) → (xs ≡ ys → ⊥) → same_spelling xs ys ≡ false
spelling_differs xs ys ne = no_same xs ys (same_spelling xs ys) refl ne

same_numbers : (words : List (List ℕ)) → Differ words → (m n : ℕ) → m < length words → n < length words → same_spelling (spelling_of words m) (spelling_of words n) ≡ eqb m n
same_numbers words differ m n hm hn =
    elim (cases_eq m n) [
      | inl e ↦ subst (λ (k : ℕ). same_spelling (spelling_of words m) (spelling_of words k) ≡ eqb m k) e (spelling_refl (spelling_of words m) ∙ sym (eq-eqb m m refl))
      | inr ne ↦ spelling_differs (spelling_of words m) (spelling_of words n) (λ e. ne (differ m n hm hn e)) ∙ sym (ne_eqb m n ne)
    ]

labels_same : (words : List (List ℕ)) → Differ words → (f g : Label) → HaveLabel words f → HaveLabel words g → same_label (spelled_label words f) (spelled_label words g) ≡ same_label f g
labels_same words differ (Num m) (Num n) ha hb = refl
labels_same words differ (Num m) (Word n) ha hb = refl
labels_same words differ (Num m) (Unknown n) ha hb = refl
labels_same words differ (Num m) (Object n) ha hb = refl
labels_same words differ (Num m) Nil ha hb = refl
labels_same words differ (Num m) Pair ha hb = refl
labels_same words differ (Num m) (Closure n) ha hb = refl
labels_same words differ (Word m) (Num n) ha hb = refl
labels_same words differ (Word m) (Word n) ha hb = same_numbers words differ m n ha hb
labels_same words differ (Word m) (Unknown n) ha hb = spelling_differs (spelling_of words m) n (hb m ha)
labels_same words differ (Word m) (Object n) ha hb = refl
labels_same words differ (Word m) Nil ha hb = refl
labels_same words differ (Word m) Pair ha hb = refl
labels_same words differ (Word m) (Closure n) ha hb = refl
labels_same words differ (Unknown m) (Num n) ha hb = refl
labels_same words differ (Unknown m) (Word n) ha hb = spelling_differs m (spelling_of words n) (λ e. ha n hb (sym e))
labels_same words differ (Unknown m) (Unknown n) ha hb = refl
labels_same words differ (Unknown m) (Object n) ha hb = refl
labels_same words differ (Unknown m) Nil ha hb = refl
labels_same words differ (Unknown m) Pair ha hb = refl
labels_same words differ (Unknown m) (Closure n) ha hb = refl
labels_same words differ (Object m) (Num n) ha hb = refl
labels_same words differ (Object m) (Word n) ha hb = refl
labels_same words differ (Object m) (Unknown n) ha hb = refl
labels_same words differ (Object m) (Object n) ha hb = refl
labels_same words differ (Object m) Nil ha hb = refl
labels_same words differ (Object m) Pair ha hb = refl
labels_same words differ (Object m) (Closure n) ha hb = refl
labels_same words differ Nil (Num n) ha hb = refl
labels_same words differ Nil (Word n) ha hb = refl
labels_same words differ Nil (Unknown n) ha hb = refl
labels_same words differ Nil (Object n) ha hb = refl
labels_same words differ Nil Nil ha hb = refl
labels_same words differ Nil Pair ha hb = refl
labels_same words differ Nil (Closure n) ha hb = refl
labels_same words differ Pair (Num n) ha hb = refl
labels_same words differ Pair (Word n) ha hb = refl
labels_same words differ Pair (Unknown n) ha hb = refl
labels_same words differ Pair (Object n) ha hb = refl
labels_same words differ Pair Nil ha hb = refl
labels_same words differ Pair Pair ha hb = refl
labels_same words differ Pair (Closure n) ha hb = refl
labels_same words differ (Closure m) (Num n) ha hb = refl
labels_same words differ (Closure m) (Word n) ha hb = refl
labels_same words differ (Closure m) (Unknown n) ha hb = refl
labels_same words differ (Closure m) (Object n) ha hb = refl
labels_same words differ (Closure m) Nil ha hb = refl
labels_same words differ (Closure m) Pair ha hb = refl
labels_same words differ (Closure m) (Closure n) ha hb = refl

-- ## Walking and resolving

module _ (words : List (List ℕ)) where
  abbrev sp : Value → Value
  sp v = spelled words v

  abbrev sps : Substitution → Substitution
  sps S = spelled_pairs words S

  at_spelled : (x : ℕ) (u w : Value) → at_var x (sp u) (sp w) ≡ sp (at_var x u w)
  at_spelled x u (Var y) = elim (eqb y x) as (λ t. (if t then sp u else Var y) ≡ sp (if t then u else Var y)) [ true ↦ refl | false ↦ refl ]
  at_spelled x u (Node f vs) = refl

  walk_spelled : (S : Substitution) (v : Value) → walk (sps S) (sp v) ≡ sp (walk S v)
  walk_spelled [] v = refl
  walk_spelled (p ∷ S) v = rw (walk_spelled S p.1, walk_spelled S v) (at_spelled p.0 (walk S p.1) (walk S v))

  links_at_spelled : (x k : ℕ) (w : Value) → links_at x k (sp w) ≡ links_at x k w
  links_at_spelled x k (Var y) = refl
  links_at_spelled x k (Node f vs) = refl

  links_spelled : (S : Substitution) (v : Value) → links (sps S) (sp v) ≡ links S v
  links_spelled [] v = refl
  links_spelled (p ∷ S) v = rw (links_spelled S v, links_spelled S p.1, walk_spelled S v, links_at_spelled p.0 (links S p.1) (walk S v)) refl

  mutual
    replaced_spelled : (x : ℕ) (u t : Value) → replaced x (sp u) (sp t) ≡ sp (replaced x u t)
    replaced_spelled x u (Var y) = elim (eqb y x) as (λ t. (if t then sp u else Var y) ≡ sp (if t then u else Var y)) [ true ↦ refl | false ↦ refl ]
    replaced_spelled x u (Node f vs) = ap (Node (spelled_label words f)) (all_replaced_spelled x u vs)

    all_replaced_spelled : (x : ℕ) (u : Value) (vs : Values) → all_replaced x (sp u) (all_spelled words vs) ≡ all_spelled words (all_replaced x u vs)
    all_replaced_spelled x u NoMore = refl
    all_replaced_spelled x u (More v vs) =
        let a = replaced_spelled x u v in
        let b = all_replaced_spelled x u vs in
        cc

  resolved_spelled : (S : Substitution) (v : Value) → resolved (sps S) (sp v) ≡ sp (resolved S v)
  resolved_spelled [] v = refl
  resolved_spelled (p ∷ S) v = rw (resolved_spelled S p.1, resolved_spelled S v) (replaced_spelled p.0 (resolved S p.1) (resolved S v))

  mutual
    contains_spelled : (x : ℕ) (t : Value) → contains x (sp t) ≡ contains x t
    contains_spelled x (Var y) = refl
    contains_spelled x (Node f vs) = any_contains_spelled x vs

    any_contains_spelled : (x : ℕ) (vs : Values) → any_contains x (all_spelled words vs) ≡ any_contains x vs
    any_contains_spelled x NoMore = refl
    any_contains_spelled x (More v vs) = rw (contains_spelled x v, any_contains_spelled x vs) refl

  mutual
    size_spelled : (t : Value) → size (sp t) ≡ size t
    size_spelled (Var y) = refl
    size_spelled (Node f vs) = ap (λ k. k + 1) (sizes_spelled vs)

    sizes_spelled : (vs : Values) → sizes (all_spelled words vs) ≡ sizes vs
    sizes_spelled NoMore = refl
    sizes_spelled (More v vs) = rw (size_spelled v, sizes_spelled vs) refl

  mutual
    top_spelled : (t : Value) → top (sp t) ≡ top t
    top_spelled (Var y) = refl
    top_spelled (Node f vs) = tops_spelled vs

    tops_spelled : (vs : Values) → tops (all_spelled words vs) ≡ tops vs
    tops_spelled NoMore = refl
    tops_spelled (More v vs) = rw (top_spelled v, tops_spelled vs) refl

  -- ## What an equation costs

  mutual
    looked_spelled : (t : Value) (S : Substitution) (x : ℕ) (v w : Value) → looked (sp t) (sps S) x (sp v) (sp w) ≡ looked t S x v w
    looked_spelled t S x v (Var y) = ap (λ k. (eqb y x, k + 1)) (links_spelled S v)
    looked_spelled (Node g ts) S x v (Node f vs) = rw (links_spelled S v, all_looked_spelled ts S x vs) refl
    looked_spelled (Var z) S x v (Node f vs) = refl

    all_looked_spelled : (ts : Values) (S : Substitution) (x : ℕ) (vs : Values) → all_looked (all_spelled words ts) (sps S) x (all_spelled words vs) ≡ all_looked ts S x vs
    all_looked_spelled NoMore S x vs = refl
    all_looked_spelled (More t ts) S x NoMore = refl
    all_looked_spelled (More t ts) S x (More v vs) = rw (walk_spelled S v, looked_spelled t S x v (walk S v), all_looked_spelled ts S x vs) refl

  looks_spelled : (S : Substitution) (x : ℕ) (v : Value) → looks (sps S) x (sp v) ≡ looks S x v
  looks_spelled S x v =
      ap (λ t. (looked t (sps S) x (sp v) (walk (sps S) (sp v))).1) (resolved_spelled S v) ∙ ap (λ w. (looked (sp (resolved S v)) (sps S) x (sp v) w).1) (walk_spelled S v) ∙ ap (λ (r : Bool × ℕ). r.1) (looked_spelled (resolved S v) S x v (walk S v))

  looks_of_spelled : (S : Substitution) (v u : Value) → looks_of (sps S) (sp v) (sp u) ≡ looks_of S v u
  looks_of_spelled S (Var x) (Var y) = refl
  looks_of_spelled S (Var x) (Node g us) = looks_spelled S x (Node g us)
  looks_of_spelled S (Node f vs) (Var y) = looks_spelled S y (Node f vs)
  looks_of_spelled S (Node f vs) (Node g us) = refl

  cost_spelled : (S : Substitution) (a b : Value) → cost (sps S) (sp a) (sp b) ≡ cost S a b
  cost_spelled S a b = rw (links_spelled S a, links_spelled S b, walk_spelled S a, walk_spelled S b, looks_of_spelled S (walk S a) (walk S b)) refl

  -- ## Which words are in it

  have_at : (x : ℕ) (u w : Value) → Have words u → Have words w → Have words (at_var x u w)
  have_at x u (Var y) hu hw = cond_both (eqb y x) u (Var y) (Have words) (λ e. hu) (λ e. tt)
  have_at x u (Node f vs) hu hw = hw

  have_walk : (S : Substitution) (v : Value) → HavePairs words S → Have words v → Have words (walk S v)
  have_walk [] v hS hv = hv
  have_walk (p ∷ S) v hS hv = have_at p.0 (walk S p.1) (walk S v) (have_walk S p.1 hS.1 hS.0) (have_walk S v hS.1 hv)

  abbrev HaveEquations : Equations → Type 0
  HaveEquations [] = Unit {0}
  HaveEquations (e ∷ es) = Have words e.0 × Have words e.1 × HaveEquations es

  have_sides : (vs us : Values) → HaveAll words vs → HaveAll words us → HaveEquations (side_by_side vs us)
  have_sides NoMore us hv hu = tt
  have_sides (More v vs) NoMore hv hu = tt
  have_sides (More v vs) (More u us) hv hu = (hv.0, hu.0, have_sides vs us hv.1 hu.1)

  have_append : (xs ys : Equations) → HaveEquations xs → HaveEquations ys → HaveEquations (xs ++ ys)
  have_append [] ys hx hy = hy
  have_append (x ∷ xs) ys hx hy = (hx.0, hx.1, have_append xs ys hx.2 hy)

  abbrev HaveTurn : Turn → Type 0
  HaveTurn (Goes parts) = HaveEquations parts
  HaveTurn (Binds x v) = Have words v
  HaveTurn Clashes = Unit {0}

  have_turn : (S : Substitution) (v u : Value) → Have words v → Have words u → HaveTurn (turn_of S v u)
  have_turn S (Var x) (Var y) hv hu =
      cond_both (eqb x y) (Goes []) (if nat_lt x y then Binds y (Var x) else Binds x (Var y)) HaveTurn (λ e. tt)
      (λ e. cond_both (nat_lt x y) (Binds y (Var x)) (Binds x (Var y)) HaveTurn (λ k. tt) (λ k. tt))
  have_turn S (Var x) (Node g us) hv hu = cond_both (contains x (resolved S (Node g us))) Clashes (Binds x (Node g us)) HaveTurn (λ e. tt) (λ e. hu)
  have_turn S (Node f vs) (Var y) hv hu = cond_both (contains y (resolved S (Node f vs))) Clashes (Binds y (Node f vs)) HaveTurn (λ e. tt) (λ e. hv)
  have_turn S (Node f vs) (Node g us) hv hu = cond_both (same_label f g && as_many vs us) (Goes (side_by_side vs us)) Clashes HaveTurn (λ e. have_sides vs us hv.1 hu.1) (λ e. tt)

  -- ## One turn

  abbrev spe : Equations → Equations
  spe [] = []
  spe (e ∷ es) = (sp e.0, sp e.1) ∷ spe es

  abbrev spt : Turn → Turn
  spt (Goes parts) = Goes (spe parts)
  spt (Binds x v) = Binds x (sp v)
  spt Clashes = Clashes

  spe_append : (xs ys : Equations) → spe (xs ++ ys) ≡ spe xs ++ spe ys
  spe_append [] ys = refl
  spe_append (x ∷ xs) ys = ap (λ es. (sp x.0, sp x.1) ∷ es) (spe_append xs ys)

  sides_spelled : (vs us : Values) → side_by_side (all_spelled words vs) (all_spelled words us) ≡ spe (side_by_side vs us)
  sides_spelled NoMore us = refl
  sides_spelled (More v vs) NoMore = refl
  sides_spelled (More v vs) (More u us) = ap (λ es. (sp v, sp u) ∷ es) (sides_spelled vs us)

  many_spelled : (vs us : Values) → as_many (all_spelled words vs) (all_spelled words us) ≡ as_many vs us
  many_spelled NoMore NoMore = refl
  many_spelled NoMore (More u us) = refl
  many_spelled (More v vs) NoMore = refl
  many_spelled (More v vs) (More u us) = many_spelled vs us

  if_spelled : (b : Bool) (t u : Turn) → (if b then spt t else spt u) ≡ spt (if b then t else u)
  if_spelled true t u = refl
  if_spelled false t u = refl

  ties_spelled : (x y : ℕ) → ties x y ≡ spt (ties x y)
  ties_spelled x y = cond_both (eqb x y) (Goes []) (if nat_lt x y then Binds y (Var x) else Binds x (Var y)) (λ t. t ≡ spt t) (λ e. refl)
      (λ e. cond_both (nat_lt x y) (Binds y (Var x)) (Binds x (Var y)) (λ t. t ≡ spt t) (λ k. refl) (λ k. refl))

  binds_spelled : (S : Substitution) (x : ℕ) (v : Value) → binds (sps S) x (sp v) ≡ spt (binds S x v)
  binds_spelled S x v = rw (resolved_spelled S v, contains_spelled x (resolved S v)) (if_spelled (contains x (resolved S v)) Clashes (Binds x v))

  turn_of_spelled : Differ words → (S : Substitution) (v u : Value) → Have words v → Have words u → turn_of (sps S) (sp v) (sp u) ≡ spt (turn_of S v u)
  turn_of_spelled differ S (Var x) (Var y) hv hu = ties_spelled x y
  turn_of_spelled differ S (Var x) (Node g us) hv hu = binds_spelled S x (Node g us)
  turn_of_spelled differ S (Node f vs) (Var y) hv hu = binds_spelled S y (Node f vs)
  turn_of_spelled differ S (Node f vs) (Node g us) hv hu =
      rw (labels_same words differ f g hv.0 hu.0, many_spelled vs us, sides_spelled vs us) (if_spelled (same_label f g && as_many vs us) (Goes (side_by_side vs us)) Clashes)

  -- ## All turns

  abbrev spo : Option Unified → Option Unified
  spo None = None
  spo (Some u) = Some (spelled_answer words u)

  charged_spelled : (c : ℕ) (r : Option Unified) → charged c (spo r) ≡ spo (charged c r)
  charged_spelled c None = refl
  charged_spelled c (Some u) = refl

  abbrev Agrees : (Substitution → Equations → Option Unified) → Type 0
  Agrees go = (S : Substitution) (es : Equations) → HavePairs words S → HaveEquations es → go (sps S) (spe es) ≡ spo (go S es)

  after_spelled : (go : Substitution → Equations → Option Unified) → Agrees go → (S : Substitution) (es : Equations) (t : Turn) → HavePairs words S → HaveEquations es → HaveTurn t → after_turn go (sps S) (spe es) (spt t) ≡ spo (after_turn go S es t)
  after_spelled go ih S es (Goes parts) hS hes ht = ap (go (sps S)) (sym (spe_append parts es)) ∙ ih S (parts ++ es) hS (have_append parts es ht hes)
  after_spelled go ih S es (Binds x v) hS hes ht = ih ((x, v) ∷ S) es (ht, hS) hes
  after_spelled go ih S es Clashes hS hes ht = refl

  turns_spelled : Differ words → (n : ℕ) → Agrees (turns n)
  turns_spelled differ zero S es hS hes = refl
  turns_spelled differ (suc n) S [] hS hes = refl
  turns_spelled differ (suc n) S (e ∷ es) hS hes =
      let ha = have_walk S e.0 hS hes.0 in
      let hb = have_walk S e.1 hS hes.1 in
      let t : turn (sps S) (sp e.0) (sp e.1) ≡ spt (turn S e.0 e.1) = rw (walk_spelled S e.0, walk_spelled S e.1) (turn_of_spelled differ S (walk S e.0) (walk S e.1) ha hb) in
      let rest = after_spelled (turns n) (turns_spelled differ n) S es (turn S e.0 e.1) hS hes.2 (have_turn S (walk S e.0) (walk S e.1) ha hb) in
      rw (cost_spelled S e.0 e.1, t, rest) (charged_spelled (cost S e.0 e.1) (after_turn (turns n) S es (turn S e.0 e.1)))

  -- ## As many turns are enough

  weight_spelled : (S : Substitution) (es : Equations) → weight (sps S) (spe es) ≡ weight S es
  weight_spelled S [] = refl
  weight_spelled S (e ∷ es) = rw (resolved_spelled S e.0, resolved_spelled S e.1, size_spelled (resolved S e.0), size_spelled (resolved S e.1), weight_spelled S es) refl

  top_pairs_spelled : (S : Substitution) → top_of_pairs (sps S) ≡ top_of_pairs S
  top_pairs_spelled [] = refl
  top_pairs_spelled (p ∷ S) = rw (top_spelled p.1, top_pairs_spelled S) refl

  top_equations_spelled : (es : Equations) → top_of_equations (spe es) ≡ top_of_equations es
  top_equations_spelled [] = refl
  top_equations_spelled (e ∷ es) = rw (top_spelled e.0, top_spelled e.1, top_equations_spelled es) refl

  enough_spelled : (S : Substitution) (es : Equations) → enough (sps S) (spe es) ≡ enough S es
  enough_spelled S es = rw (top_pairs_spelled S, top_equations_spelled es, weight_spelled S es) refl

  ended_spelled : (S : Substitution) (r : Option Unified) → ended (sps S) (spo r) ≡ spelled_answer words (ended S r)
  ended_spelled S None = refl
  ended_spelled S (Some u) = refl

  solve_spelled : Differ words → (S : Substitution) (es : Equations) → HavePairs words S → HaveEquations es → solve (sps S) (spe es) ≡ spelled_answer words (solve S es)
  unfolding solve
  solve_spelled differ S es hS hes = rw (enough_spelled S es, turns_spelled differ (enough S es) S es hS hes) (ended_spelled S (turns (enough S es) S es))

pub spellings_unify : SpellingsUnify
spellings_unify words differ S a b s hS ha hb = solve_spelled words differ S ((a, b) ∷ []) hS (ha, hb, tt)
