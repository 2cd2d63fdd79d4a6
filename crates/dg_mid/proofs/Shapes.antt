-- A part is stopped only where all that is pending at it is pending.
use Rattle.std.proofs.Common.{◌≡◌, ℕ, ◌+◌, ◌<◌, ◌≤◌, List, [], ◌∷◌, Bool, true, false, Option, Some, None, refl, sym, ap, subst, arith}
use Rattle.std.specs.Prelude.{nat_lt, eqb, if◌then◌else◌}
use Rattle.std.proofs.lemmas.Bool.{cond_both, ltb-true, ltb-false, eqb-true, ne_eqb}
use Rattle.dg_mid.specs.declared.code.Code.{Code}
use Rattle.dg_mid.specs.State.{Place, Stop, Choice, Mid, cut_choices, stop_to}
use Rattle.dg_mid.specs.Potential.{one_from, pending, Lower, ChoicesFine}
use Rattle.dg_mid.specs.inside.Shapes.{StopOlder, head_of, StopCovers, StopFine, ActiveAt, Active, StopsBelow, AllTrails, StopsTrail, ChoicesShaped}
use Rattle.dg_mid.proofs.Pending.{one_there, pending_falls, Fewer, choices_fewer, cut_fine}
use Rattle.dg_mid.proofs.Law.{Unwinds}

-- ## Tags and trails

pub older_up : (u v : ℕ) (S : Option ℕ) → u ≤ v → StopOlder u S → StopOlder v S
older_up u v None le h = tt
older_up u v (Some t) le h = omega (arith, le, h)

pub below_up : (u v : ℕ) (ss : List Stop) → u ≤ v → StopsBelow u ss → StopsBelow v ss
below_up u v [] le h = tt
below_up u v (s ∷ ss) le h = (omega (arith, le, h.0), h.1)

pub trails_up : (k k' : ℕ) (cs : List Choice) (ss : List Stop) → k ≤ k' → StopsTrail k cs ss → StopsTrail k' cs ss
trails_up k k' cs [] le h = tt
trails_up k k' cs (s ∷ ss) le h = (omega (arith, le, h.0), h.1, h.2)

all_trails_cut : (u k : ℕ) (p : Place) (cs : List Choice) → AllTrails u k cs → AllTrails u k (cut_choices p cs)
all_trails_cut u k p [] h = tt
all_trails_cut u k p (c ∷ cs) h = cond_both (nat_lt c.place.tag p.tag) (c ∷ cs) (cut_choices p cs) (AllTrails u k) (λ e. h) (λ e. all_trails_cut u k p cs h.1)

pub trails_cut : (k : ℕ) (p : Place) (cs : List Choice) (ss : List Stop) → StopsTrail k cs ss → StopsTrail k (cut_choices p cs) ss
trails_cut k p cs [] h = tt
trails_cut k p cs (s ∷ ss) h = (h.0, all_trails_cut s.place.tag s.state.trail p cs h.1, trails_cut s.state.trail p cs ss h.2)

pub trails_push : (k : ℕ) (c : Choice) (cs : List Choice) (ss : List Stop) → StopsBelow c.place.tag ss → StopsTrail k cs ss → StopsTrail k (c ∷ cs) ss
trails_push k c cs [] b h = tt
trails_push k c cs (s ∷ ss) b h =
    let lt = b.0 in
    (h.0, (λ x. absurd (omega (arith, lt, x)), h.1), trails_push s.state.trail c cs ss (below_up s.place.tag c.place.tag ss (omega (arith, lt)) b.1) h.2)

pub shaped_cut : (code : Code) (p : Place) (cs : List Choice) → ChoicesShaped code cs → ChoicesShaped code (cut_choices p cs)
shaped_cut code p [] h = tt
shaped_cut code p (c ∷ cs) h = cond_both (nat_lt c.place.tag p.tag) (c ∷ cs) (cut_choices p cs) (ChoicesShaped code) (λ e. h) (λ e. shaped_cut code p cs h.1)

-- ## What is covered

pub covers_more : (N N' : ℕ → ℕ) (s : Stop) → ((u v : ℕ) → u ≤ v → N u + N' v ≤ N' u + N v) → StopCovers N s → StopCovers N' s
covers_more N N' s more h = λ u v a b. let x = h u v a b in let y = more u v a in omega (arith, x, y)

-- a place that isn't older than the part goes
pub covers_less : (N N' : ℕ → ℕ) (p : Place) (s : Stop) → ((u : ℕ) → N u ≡ one_from u p + N' u) → s.place.tag ≤ p.tag → StopCovers N s → StopCovers N' s
covers_less N N' p s is le h = λ u v a b.
    let x = h u v a b in let i = is u in let j = is v in
    let k = one_there u p (omega (arith, a, b, le)) in let l = one_there v p (omega (arith, b, le)) in omega (arith, x, i, j, k, l)

at_moves : (code : Code) (N N' : ℕ → ℕ) (t : ℕ) (chain : List ℕ) (s : Stop) (ss : List Stop) (b : Bool) → eqb s.place.tag t ≡ b → ((s : Stop) → s.place.tag ≡ t → StopCovers N s → StopCovers N' s) → (Active code N (t ∷ chain) ss → Active code N' (t ∷ chain) ss) → ActiveAt code N t chain s ss b → ActiveAt code N' t chain s ss b
at_moves code N N' t chain s ss true e conv on h = (record { covers = conv s (eqb-true s.place.tag t e) h.0.covers; newest = h.0.newest; r = h.0.r; block = h.0.block; frames = h.0.frames; tidy = h.0.tidy; outer = h.0.outer; older = h.0.older }, h.1)
at_moves code N N' t chain s ss false e conv on h = on h

active_at : (code : Code) (N N' : ℕ → ℕ) (t : ℕ) (chain : List ℕ) (ss : List Stop) → ((s : Stop) → s.place.tag ≡ t → StopCovers N s → StopCovers N' s) → Active code N (t ∷ chain) ss → Active code N' (t ∷ chain) ss
active_at code N N' t chain [] conv h = absurd h
active_at code N N' t chain (s ∷ ss) conv h = at_moves code N N' t chain s ss (eqb s.place.tag t) refl conv (active_at code N N' t chain ss conv) h

pub active_moves : (code : Code) (N N' : ℕ → ℕ) (chain : List ℕ) (ss : List Stop) → ((s : Stop) → head_of chain ≡ Some s.place.tag → StopCovers N s → StopCovers N' s) → Active code N chain ss → Active code N' chain ss
active_moves code N N' [] ss conv h = tt
active_moves code N N' (t ∷ chain) ss conv h = active_at code N N' t chain ss (λ s e. conv s (ap Some (sym e))) h

-- ## A part is left

below_at : (code : Code) (N : ℕ → ℕ) (t u : ℕ) (chain : List ℕ) (s : Stop) (ss : List Stop) (b : Bool) → eqb s.place.tag t ≡ b → s.place.tag < u → (Active code N (t ∷ chain) ss → t < s.place.tag) → ActiveAt code N t chain s ss b → t < u
below_at code N t u chain s ss true e lt on h = let x = eqb-true s.place.tag t e in omega (arith, lt, x)
below_at code N t u chain s ss false e lt on h = let x = on h in omega (arith, lt, x)

pub active_below : (code : Code) (N : ℕ → ℕ) (t u : ℕ) (chain : List ℕ) (ss : List Stop) → StopsBelow u ss → Active code N (t ∷ chain) ss → t < u
active_below code N t u chain [] b h = absurd h
active_below code N t u chain (s ∷ ss) b h = below_at code N t u chain s ss (eqb s.place.tag t) refl b.0 (active_below code N t s.place.tag chain ss b.1) h

-- a part that isn't the one is passed
active_passes : (code : Code) (N : ℕ → ℕ) (chain : List ℕ) (s : Stop) (ss : List Stop) → StopOlder s.place.tag (head_of chain) → Active code N chain ss → Active code N chain (s ∷ ss)
active_passes code N [] s ss older h = tt
active_passes code N (t ∷ chain) s ss older h = subst (ActiveAt code N t chain s ss) (sym (ne_eqb s.place.tag t (λ (e : s.place.tag ≡ t). (omega (arith, e, older))))) h

leave_at : (code : Code) (N N' : ℕ → ℕ) (p : Place) (t u : ℕ) (chain : List ℕ) (s : Stop) (ss : List Stop) (b : Bool) → eqb s.place.tag t ≡ b → p.tag ≡ t → ((u : ℕ) → N u ≡ one_from u p + N' u) → StopsBelow s.place.tag ss → StopOlder t (head_of chain) → (Active code N (t ∷ chain) ss → Active code N' chain ss) → ActiveAt code N t chain s ss b → Active code N' chain (s ∷ ss)
leave_at code N N' p t u chain s ss true e same is below older on h =
    let x = eqb-true s.place.tag t e in
    let here : StopCovers N' s = covers_less N N' p s is (omega (arith, x, same)) h.0.covers in
    active_passes code N' chain s ss h.0.older
    (active_moves code (pending s.frames s.inner) N' chain ss (λ o at c. λ u v a b.
    let y = c u v a b in
    let lt : o.place.tag < s.place.tag = subst (StopOlder s.place.tag) at h.0.older in
    let z = here u v a (omega (arith, b, lt)) in omega (arith, y, z)) h.1)
leave_at code N N' p t u chain s ss false e same is below older on h =
    let lt = active_below code N t s.place.tag chain ss below h in
    active_passes code N' chain s ss (older_up t s.place.tag (head_of chain) (omega (arith, lt)) older) (on h)

pub active_left : (code : Code) (N N' : ℕ → ℕ) (p : Place) (t u : ℕ) (chain : List ℕ) (ss : List Stop) → p.tag ≡ t → ((u : ℕ) → N u ≡ one_from u p + N' u) → StopsBelow u ss → StopOlder t (head_of chain) → Active code N (t ∷ chain) ss → Active code N' chain ss
active_left code N N' p t u chain [] same is below older h = absurd h
active_left code N N' p t u chain (s ∷ ss) same is below older h =
    leave_at code N N' p t u chain s ss (eqb s.place.tag t) refl same is below.1 older (active_left code N N' p t s.place.tag chain ss same is below.1 older) h

-- ## A part is stopped

pub record Found (code : Code) (N : ℕ → ℕ) (t k : ℕ) (cs : List Choice) (chain : List ℕ) (s : Stop) (ss : List Stop) : Type 0 where
  pub tag : s.place.tag ≡ t
  pub fine : StopFine code N chain s
  pub active : Active code (pending s.frames s.inner) chain ss
  pub below : StopsBelow s.place.tag ss
  pub trail : s.state.trail ≤ k
  pub all : AllTrails s.place.tag s.state.trail cs
  pub trails : StopsTrail s.state.trail cs ss

some_same : {A : Type 0} (x y : A) → Some x ≡ Some y → x ≡ y
some_same x y e = cc

found_at : (code : Code) (N : ℕ → ℕ) (t k : ℕ) (cs : List Choice) (chain : List ℕ) (x : Stop) (xs : List Stop) (s : Stop) (ss : List Stop) (b : Bool) → eqb x.place.tag t ≡ b → (x.state.trail ≤ k) × AllTrails x.place.tag x.state.trail cs × StopsTrail x.state.trail cs xs → StopsBelow x.place.tag xs → ActiveAt code N t chain x xs b → (if b then Some (x, xs) else stop_to t xs) ≡ Some (s, ss) →
    (Active code N (t ∷ chain) xs → stop_to t xs ≡ Some (s, ss) → Found code N t x.state.trail cs chain s ss) → Found code N t k cs chain s ss
found_at code N t k cs chain x xs s ss true e tr b h is on =
    let both = some_same {A = Stop × List Stop} (x, xs) (s, ss) is in
    let first : x ≡ s = ap (λ (p : Stop × List Stop). p.0) both in
    let rest : xs ≡ ss = ap (λ (p : Stop × List Stop). p.1) both in
    subst (λ y. Found code N t k cs chain y ss) first (subst (Found code N t k cs chain x) rest
    (record { tag = eqb-true x.place.tag t e; fine = h.0; active = h.1; below = b; trail = tr.0; all = tr.1; trails = tr.2 }))
found_at code N t k cs chain x xs s ss false e tr b h is on =
    let f = on h is in
    record { tag = f.tag; fine = f.fine; active = f.active; below = f.below; trail = let a = f.trail in let c = tr.0 in omega (arith, a, c); all = f.all; trails = f.trails }

pub found : (code : Code) (N : ℕ → ℕ) (t k u : ℕ) (cs : List Choice) (chain : List ℕ) (xs : List Stop) (s : Stop) (ss : List Stop) → StopsTrail k cs xs → StopsBelow u xs → Active code N (t ∷ chain) xs → stop_to t xs ≡ Some (s, ss) → Found code N t k cs chain s ss
found code N t k u cs chain [] s ss tr b h is = absurd h
found code N t k u cs chain (x ∷ xs) s ss tr b h is = found_at code N t k cs chain x xs s ss (eqb x.place.tag t) refl tr b.1 h is (found code N t x.state.trail x.place.tag cs chain xs s ss tr.2 b.1)

-- ## So the stop is paid

trail_down : (code : Code) (N : ℕ → ℕ) (k k' : ℕ) (p : Place) (cs : List Choice) → AllTrails p.tag k' cs → ChoicesFine code N k (cut_choices p cs) → ChoicesFine code N k' (cut_choices p cs)
trail_down code N k k' p [] all h = tt
trail_down code N k k' p (c ∷ cs) all h =
    by (trail_down code N k k' p cs all.1) (nat_lt c.place.tag p.tag) refl h where
      by : (ChoicesFine code N k (cut_choices p cs) → ChoicesFine code N k' (cut_choices p cs)) → (b : Bool) → nat_lt c.place.tag p.tag ≡ b → ChoicesFine code N k (if b then c ∷ cs else cut_choices p cs) → ChoicesFine code N k' (if b then c ∷ cs else cut_choices p cs)
      by on true e h = (record { covers = h.0.covers; newest = h.0.newest; trail_is = all.0 (ltb-true c.place.tag p.tag e); way = h.0.way; frames = h.0.frames; lower = h.0.lower }, h.1)
      by on false e h = on h

cut_is_lower : (p : Place) (cs : List Choice) → Lower (p.tag + 1) (cut_choices p cs)
cut_is_lower p [] = tt
cut_is_lower p (c ∷ cs) = cond_both (nat_lt c.place.tag p.tag) (c ∷ cs) (cut_choices p cs) (Lower (p.tag + 1)) (λ e. let x = ltb-true c.place.tag p.tag e in omega (arith, x)) (λ e. cut_is_lower p cs)

covered_fewer : (N : ℕ → ℕ) (s : Stop) → ((u v : ℕ) → u ≤ v → N v ≤ N u) → StopCovers N s → pending s.frames s.inner s.place.tag ≡ 0 → Fewer (pending s.frames s.inner) N
covered_fewer N s falls h z = record { less = λ u. less u (nat_lt s.place.tag u) refl; gone = λ u v a. gone u v a (nat_lt s.place.tag v) (nat_lt s.place.tag u) refl refl } where
  t : ℕ
  t = s.place.tag

  old : ℕ → ℕ
  old u = pending s.frames s.inner u

  later : (u : ℕ) → s.place.tag < u → pending s.frames s.inner u ≡ 0
  later u lt = let x = pending_falls s.place.tag u s.frames s.inner (omega (arith, lt)) in omega (arith, x, z)

  less : (u : ℕ) (b : Bool) → nat_lt s.place.tag u ≡ b → pending s.frames s.inner u ≤ N u
  less u true e = let x = later u (ltb-true s.place.tag u e) in omega (arith, x)
  less u false e = let x = h u s.place.tag (ltb-false s.place.tag u e) (omega arith) in omega (arith, x, z)

  gone : (u v : ℕ) → u ≤ v → (b c : Bool) → nat_lt s.place.tag v ≡ b → nat_lt s.place.tag u ≡ c → pending s.frames s.inner u + N v ≤ N u + pending s.frames s.inner v
  gone u v a false c e e' = h u v a (ltb-false s.place.tag v e)
  gone u v a true true e e' = let x = later u (ltb-true s.place.tag u e') in let y = falls u v a in omega (arith, x, y)
  gone u v a true false e e' =
      let x = h u s.place.tag (ltb-false s.place.tag u e') (omega arith) in
      let y = falls s.place.tag v (let lt = ltb-true s.place.tag v e in omega (arith, lt)) in omega (arith, x, y, z)

pub unwinds : (code : Code) (m : Mid) (t u : ℕ) (chain : List ℕ) (s : Stop) (ss : List Stop) → Found code (pending m.frames m.inner) t m.state.trail m.choices chain s ss → ChoicesFine code (pending m.frames m.inner) m.state.trail m.choices → Unwinds code m s
unwinds code m t u chain s ss f h =
    let fewer = covered_fewer (pending m.frames m.inner) s (λ u v a. pending_falls u v m.frames m.inner a) f.fine.covers f.fine.newest in
    record {
      fewer = fewer;
      trail = f.trail;
      fine = record {
        newest = let x = pending_falls s.place.tag (s.place.tag + 1) s.frames s.inner (omega arith) in let z = f.fine.newest in omega (arith, x, z);
        lower = cut_is_lower s.place m.choices;
        frames_are = f.fine.tidy;
        choices_are = trail_down code (pending s.frames s.inner) m.state.trail s.state.trail s.place m.choices f.all
            (choices_fewer code (pending s.frames s.inner) (pending m.frames m.inner) m.state.trail (cut_choices s.place m.choices) fewer (cut_fine code (pending m.frames m.inner) m.state.trail s.place m.choices h));
      };
    }
