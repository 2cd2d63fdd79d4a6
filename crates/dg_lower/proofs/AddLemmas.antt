-- What starts is added object by object.
use Rattle.std.proofs.Common.{◌≡◌, ◌+◌, ◌-◌, ◌<◌, ℕ, zero, suc, List, [], ◌∷◌, ◌++◌, true, false, Option, Some, None, Result, Ok, Err, refl, sym, ◌∙◌, ap, subst, append_assoc, arith, Fits, w16}
use Rattle.std.specs.Prelude.{slice_get}
use Rattle.std.proofs.lemmas.List.{append-nil}
use Rattle.std.proofs.lemmas.Option.{slice_get_within}
use Rattle.dg_base.specs.Goals.{has_rule}
use Rattle.dg_base.specs.Sound.{IsSound}
use Rattle.dg_base.specs.declared.program.CoreProgram.{CoreProgram as Core}
use Rattle.dg_base.specs.declared.program.PlaceKind.{PlaceKind}
use Rattle.dg_base.specs.declared.program.Pred.{Pred}
use Rattle.dg_base.specs.declared.refusal.Kind.{Kind}
use Rattle.dg_meaning.specs.Initial.{Initial}
use Rattle.dg_meaning.specs.Moves.{rules_of}
use Rattle.dg_lower.specs.Lowered.{or_nothing}
use Rattle.dg_lower.specs.Outcome.{outcome_of}
use Rattle.dg_lower.specs.Starts.{Starts, start_by, question, and_starts, starts_from}
use Rattle.dg_lower.specs.inside.Adding.{Adds}
use Rattle.dg_lower.proofs.RulelessLemmas.{ruleless_unset}

abbrev none : Option Kind
none = None

pub add_then : (a b : Result Starts Kind) (old mid new : Starts) (fault : Option Kind) → Adds a old None mid → Adds b mid fault new → Adds (and_starts a b) old fault new
add_then (Err k) b old mid new fault h j = let no : none ≡ Some k = h in cc
add_then (Ok xs) (Err k) old mid new fault h j = j
add_then (Ok xs) (Ok ys) old mid new fault h j = (j.0, j.1 ∙ ap (λ (l : Starts). l ++ ys) h.1 ∙ append_assoc old xs ys)

pub add_stop : (a b : Result Starts Kind) (old mid new : Starts) (k : Kind) → Adds a old (Some k) mid → Adds (and_starts a b) old (Some k) new
add_stop (Err j) b old mid new k h = h
add_stop (Ok xs) b old mid new k h = let no : none ≡ Some k = sym h.0 in cc

pub add_none : (old : Starts) → Adds (Ok []) old None old
add_none old = (refl, sym (append-nil old))

-- what was added to nothing is all that starts
pub all_added : (r : Result Starts Kind) (new : Starts) → Adds r [] None new → new ≡ or_nothing r
all_added (Ok xs) new h = h.1
all_added (Err k) new h = let no : none ≡ Some k = h in cc

-- ---- object by object

abbrev pub one : Core → PlaceKind → ℕ → ℕ → Result Starts Kind
one p kind pred o = start_by p kind o (outcome_of p (question kind pred o))

parted : (p : Core) (kind : PlaceKind) (pred o n : ℕ) → o < n → starts_from p kind pred o (n - o) ≡ and_starts (one p kind pred o) (starts_from p kind pred (o + 1) (n - (o + 1)))
parted p kind pred o n h = let more : n - o ≡ suc (n - (o + 1)) = omega (arith, h) in ap (starts_from p kind pred o) more

pub next_added : (p : Core) (kind : PlaceKind) (pred o n : ℕ) (old mid new : Starts) (fault : Option Kind) → o < n → Adds (one p kind pred o) old None mid → Adds (starts_from p kind pred (o + 1) (n - (o + 1))) mid fault new → Adds (starts_from p kind pred o (n - o)) old fault new
next_added p kind pred o n old mid new fault below h j =
    subst (λ (r : Result Starts Kind). Adds r old fault new) (sym (parted p kind pred o n below)) (add_then (one p kind pred o) (starts_from p kind pred (o + 1) (n - (o + 1))) old mid new fault h j)

pub next_stops : (p : Core) (kind : PlaceKind) (pred o n : ℕ) (old mid : Starts) (k : Kind) → o < n → Adds (one p kind pred o) old (Some k) mid → Adds (starts_from p kind pred o (n - o)) old (Some k) mid
next_stops p kind pred o n old mid k below h =
    subst (λ (r : Result Starts Kind). Adds r old (Some k) mid) (sym (parted p kind pred o n below)) (add_stop (one p kind pred o) (starts_from p kind pred (o + 1) (n - (o + 1))) old mid mid k h)

pub last_added : (p : Core) (kind : PlaceKind) (pred o n : ℕ) (old : Starts) → o ≡ n → Adds (starts_from p kind pred o (n - o)) old None old
last_added p kind pred o n old e =
    let nothing : 0 ≡ n - o = omega (arith, e) in
    subst (λ (k : ℕ). Adds (starts_from p kind pred o k) old None old) nothing (add_none old)

-- ---- a predicate without rules

pub ruleless_starts : (p : Core) (kind : PlaceKind) (pred o n : ℕ) → has_rule (rules_of (slice_get p.preds pred)) ≡ false → starts_from p kind pred o n ≡ Ok []
ruleless_starts p kind pred o zero e = refl
ruleless_starts p kind pred o (suc n) e =
    ap (λ (x : Initial). and_starts (start_by p kind o x) (starts_from p kind pred (o + 1) n)) (ruleless_unset p (question kind pred o) e)
    ∙ ap (and_starts (Ok [])) (ruleless_starts p kind pred (o + 1) n e)

-- a predicate with rules has a number of 16 bits
pub ruled_below : (p : Core) (pred : ℕ) → IsSound p → has_rule (rules_of (slice_get p.preds pred)) ≡ true → Fits w16 pred
ruled_below p pred sound e = at (slice_get p.preds pred) refl e
  where
    at : (o : Option Pred) → slice_get p.preds pred ≡ o → has_rule (rules_of o) ≡ true → Fits w16 pred
    at None is k = cc
    at (Some q) is k = let within = slice_get_within p.preds pred q is in omega (arith, within, sound.few_preds)
