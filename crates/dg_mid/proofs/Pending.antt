-- What is pending, and how cuts, returns and choices change it.
use Rattle.std.proofs.Common.{◌≡◌, ℕ, suc, ◌+◌, ◌<◌, ◌≤◌, List, [], ◌∷◌, Bool, true, false, refl, ap, arith, length}
use Rattle.std.specs.Prelude.{nat_lt, if◌then◌else◌}
use Rattle.std.proofs.lemmas.Bool.{cond_both, ltb-true, lt-ltb, le-ltb}
use Rattle.dg_mid.specs.declared.code.Code.{Code}
use Rattle.dg_mid.specs.State.{Place, Frame, Choice, cut_choices}
use Rattle.dg_mid.specs.Units.{dropped}
use Rattle.dg_mid.specs.Potential.{one_from, places_from, cut_from, frames_from, pending, all_pending, nothing, Lower, ChoicesFine}

-- ## Counts

pub one_few : (u : ℕ) (p : Place) → one_from u p ≤ 1
one_few u p = cond_both (nat_lt p.tag u) 0 1 (λ k. k ≤ 1) (λ e. omega arith) (λ e. omega arith)

pub one_there : (u : ℕ) (p : Place) → u ≤ p.tag → one_from u p ≡ 1
one_there u p le = ap (λ b. if b then 0 else 1) (le-ltb p.tag u le)

pub one_gone : (u : ℕ) (p : Place) → p.tag < u → one_from u p ≡ 0
one_gone u p lt = ap (λ b. if b then 0 else 1) (lt-ltb p.tag u lt)

pub one_falls : (u v : ℕ) (p : Place) → u ≤ v → one_from v p ≤ one_from u p
one_falls u v p le =
    cond_both (nat_lt p.tag u) 0 1 (λ k. one_from v p ≤ k)
    (λ e. let lt = ltb-true p.tag u e in let z = one_gone v p (omega (arith, lt, le)) in omega (arith, z))
    (λ e. one_few v p)

places_fall : (u v : ℕ) (ps : List Place) → u ≤ v → places_from v ps ≤ places_from u ps
places_fall u v [] le = omega arith
places_fall u v (p ∷ ps) le = let a = one_falls u v p le in let b = places_fall u v ps le in omega (arith, a, b)

pub cut_falls : (u v : ℕ) (many : Bool) (p : Place) → u ≤ v → cut_from v many p ≤ cut_from u many p
cut_falls u v true p le = omega arith
cut_falls u v false p le = one_falls u v p le

frames_fall : (u v : ℕ) (fs : List Frame) → u ≤ v → frames_from v fs ≤ frames_from u fs
frames_fall u v [] le = omega arith
frames_fall u v (f ∷ fs) le =
    let a = cut_falls u v f.many f.cut le in let b = places_fall u v f.inner le in let c = frames_fall u v fs le in omega (arith, a, b, c)

pub pending_falls : (u v : ℕ) (frames : List Frame) (inner : List Place) → u ≤ v → pending frames inner v ≤ pending frames inner u
pending_falls u v frames inner le = let a = places_fall u v inner le in let b = frames_fall u v frames le in omega (arith, a, b)

-- ## Fewer are pending

-- N' is what is left of N where some are taken away
pub record Fewer (N' N : ℕ → ℕ) : Type 0 where
  pub less : (u : ℕ) → N' u ≤ N u
  pub gone : (u v : ℕ) → u ≤ v → N' u + N v ≤ N u + N' v

pub all_fewer : (N' N : ℕ → ℕ) (cs : List Choice) → Fewer N' N → all_pending N' cs ≤ all_pending N cs
all_fewer N' N [] f = f.less 0
all_fewer N' N (c ∷ cs) f = let a = f.less c.place.tag in omega (arith, a)

pub choices_fewer : (code : Code) (N' N : ℕ → ℕ) (trail : ℕ) (cs : List Choice) → Fewer N' N → ChoicesFine code N trail cs → ChoicesFine code N' trail cs
choices_fewer code N' N trail [] f h = tt
choices_fewer code N' N trail (c ∷ cs) f h =
    (record { covers = λ u v a b. let x = h.0.covers u v a b in let y = f.gone u v a in omega (arith, x, y); newest = h.0.newest; trail_is = h.0.trail_is; way = h.0.way; frames = h.0.frames; lower = h.0.lower }, h.1)

pub nothing_fewer : (N : ℕ → ℕ) → ((u v : ℕ) → u ≤ v → N v ≤ N u) → Fewer nothing N
nothing_fewer N falls = record { less = λ u. omega arith; gone = λ u v le. let a = falls u v le in omega (arith, a) }

-- ## More is on the trail

pub choices_trail : (code : Code) (N : ℕ → ℕ) (t t' : ℕ) (cs : List Choice) → t ≤ t' → ChoicesFine code N t cs → ChoicesFine code N t' cs
choices_trail code N t t' [] le h = tt
choices_trail code N t t' (c ∷ cs) le h = (record { covers = h.0.covers; newest = h.0.newest; trail_is = omega (arith, h.0.trail_is, le); way = h.0.way; frames = h.0.frames; lower = h.0.lower }, h.1)

-- ## The newest choice is dropped

pub drop_fine : (code : Code) (N : ℕ → ℕ) (t : ℕ) (c : Choice) (cs : List Choice) → ChoicesFine code N t (c ∷ cs) → ChoicesFine code N t cs
drop_fine code N t c [] h = tt
drop_fine code N t c (d ∷ cs) h = (
  record {
    covers = λ u v a b. let le = h.0.lower in let x = h.0.covers u v a (omega (arith, b, le)) in let y = h.1.0.covers u v a b in omega (arith, x, y);
    newest = h.1.0.newest;
    trail_is = omega (arith, h.1.0.trail_is, h.0.trail_is);
    way = h.1.0.way;
    frames = h.1.0.frames;
    lower = h.1.0.lower;
  },
  h.1.1,
)

pub drop_pending : (code : Code) (N : ℕ → ℕ) (t : ℕ) (c : Choice) (cs : List Choice) → ChoicesFine code N t (c ∷ cs) → all_pending N cs ≤ all_pending N (c ∷ cs)
drop_pending code N t c [] h = let x = h.0.covers 0 c.place.tag (omega arith) (omega arith) in omega (arith, x)
drop_pending code N t c (d ∷ cs) h = let le = h.0.lower in let x = h.0.covers d.place.tag c.place.tag (omega (arith, le)) (omega arith) in omega (arith, x)

-- ## Choices are cut

pub cut_fine : (code : Code) (N : ℕ → ℕ) (t : ℕ) (p : Place) (cs : List Choice) → ChoicesFine code N t cs → ChoicesFine code N t (cut_choices p cs)
cut_fine code N t p [] h = tt
cut_fine code N t p (c ∷ cs) h = cond_both (nat_lt c.place.tag p.tag) (c ∷ cs) (cut_choices p cs) (ChoicesFine code N t) (λ e. h) (λ e. cut_fine code N t p cs (drop_fine code N t c cs h))

pub cut_pending : (code : Code) (N : ℕ → ℕ) (t : ℕ) (p : Place) (cs : List Choice) → ChoicesFine code N t cs → all_pending N (cut_choices p cs) ≤ all_pending N cs
cut_pending code N t p [] h = omega arith
cut_pending code N t p (c ∷ cs) h =
    cond_both (nat_lt c.place.tag p.tag) (c ∷ cs) (cut_choices p cs) (λ l. all_pending N l ≤ all_pending N (c ∷ cs)) (λ e. omega arith)
    (λ e. let a = cut_pending code N t p cs (drop_fine code N t c cs h) in let b = drop_pending code N t c cs h in omega (arith, a, b))

pub cut_lower : (u t : ℕ) (code : Code) (N : ℕ → ℕ) (p : Place) (cs : List Choice) → ChoicesFine code N t cs → Lower u cs → Lower u (cut_choices p cs)
cut_lower u t code N p [] h l = tt
cut_lower u t code N p (c ∷ cs) h l =
    cond_both (nat_lt c.place.tag p.tag) (c ∷ cs) (cut_choices p cs) (Lower u) (λ e. l) (λ e. cut_lower u t code N p cs (drop_fine code N t c cs h) (down cs h.0.lower)) where
      down : (ds : List Choice) → Lower c.place.tag ds → Lower u ds
      down [] x = tt
      down (d ∷ ds) x = omega (arith, x, l)

-- what is dropped is gone
length_either : (b : Bool) (n : ℕ) (c : Choice) (cs ds : List Choice) → n + length ds ≡ length cs → (if b then 0 else 1 + n) + length (if b then c ∷ cs else ds) ≡ length (c ∷ cs)
length_either true n c cs ds h = omega arith
length_either false n c cs ds h = omega (arith, h)

pub cut_length : (p : Place) (cs : List Choice) → dropped p cs + length (cut_choices p cs) ≡ length cs
cut_length p [] = refl
cut_length p (c ∷ cs) = length_either (nat_lt c.place.tag p.tag) (dropped p cs) c cs (cut_choices p cs) (cut_length p cs)

-- ## A place is executed

-- N is what is left and the place
pub record WithPlace (N N' : ℕ → ℕ) (p : Place) : Type 0 where
  pub is : (u : ℕ) → N u ≡ one_from u p + N' u

pub with_fewer : (N N' : ℕ → ℕ) (p : Place) → WithPlace N N' p → Fewer N' N
with_fewer N N' p w = record { less = λ u. let a = w.is u in omega (arith, a); gone = λ u v le. let a = w.is u in let b = w.is v in let c = one_falls u v p le in omega (arith, a, b, c) }

one_left : (N N' : ℕ → ℕ) (p : Place) (cs : List Choice) → WithPlace N N' p → suc (all_pending N' (cut_choices p cs)) ≤ all_pending N (cut_choices p cs)
one_left N N' p [] w = let a = w.is 0 in let b = one_there 0 p (omega arith) in omega (arith, a, b)
one_left N N' p (c ∷ cs) w =
    cond_both (nat_lt c.place.tag p.tag) (c ∷ cs) (cut_choices p cs) (λ l. suc (all_pending N' l) ≤ all_pending N l)
    (λ e. let lt = ltb-true c.place.tag p.tag e in let a = w.is c.place.tag in let b = one_there c.place.tag p (omega (arith, lt)) in omega (arith, a, b))
    (λ e. one_left N N' p cs w)

pub executed : (code : Code) (N N' : ℕ → ℕ) (t : ℕ) (p : Place) (cs : List Choice) → WithPlace N N' p → ChoicesFine code N t cs → suc (all_pending N' (cut_choices p cs)) ≤ all_pending N cs
executed code N N' t p cs w h = let a = one_left N N' p cs w in let b = cut_pending code N t p cs h in omega (arith, a, b)

-- ## A place is opened

pub opened : (N N' : ℕ → ℕ) (p : Place) (cs : List Choice) → WithPlace N' N p → all_pending N' cs ≤ suc (all_pending N cs)
opened N N' p [] w = let a = w.is 0 in let b = one_few 0 p in omega (arith, a, b)
opened N N' p (c ∷ cs) w = let a = w.is c.place.tag in let b = one_few c.place.tag p in omega (arith, a, b)

pub opened_fine : (code : Code) (N N' : ℕ → ℕ) (t : ℕ) (p : Place) (c : Choice) (cs : List Choice) → WithPlace N' N p → c.place.tag ≤ p.tag → ChoicesFine code N t (c ∷ cs) → ChoicesFine code N' t (c ∷ cs)
opened_fine code N N' t p c cs w le h = (
  record {
    covers = λ u v a b. let x = h.0.covers u v a b in let i = w.is u in let j = w.is v in let k = one_there u p (omega (arith, a, b, le)) in let l = one_there v p (omega (arith, b, le)) in omega (arith, x, i, j, k, l);
    newest = h.0.newest;
    trail_is = h.0.trail_is;
    way = h.0.way;
    frames = h.0.frames;
    lower = h.0.lower;
  },
  h.1,
)
