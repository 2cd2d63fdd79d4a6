-- Any number of instructions shows a boundary.
use Rattle.std.proofs.Common.{◌≡◌, ℕ, zero, suc, ◌+◌, ◌-◌, ◌<◌, ◌≤◌, ◌⊎◌, inl, inr, ⊎_elim, List, [], refl, sym, ap, ◌∙◌, subst, arith}
use Rattle.std.proofs.lemmas.Bool.{cases_lt}
use Rattle.std.proofs.lemmas.List.{append-nil}
use Rattle.z_model.specs.declared.end.ZEnd.{ZEnd}
use Rattle.z_model.specs.declared.end.ZEnd.TheVariants as ends
use Rattle.dg_base.specs.Begins.{Begins}
use Rattle.z_model.specs.Laws.{then_more}
use Rattle.z_model.proofs.Runs.{run_laws}
use Rattle.z_model.specs.Run.{ZGiven, ZState, ZRun, zrun}
use Rattle.z_lang.specs.Leads.{Leads, Ends}
use Rattle.z_lang.proofs.Stretches.{leads_none, leads_then}
use Rattle.z_lang.specs.Turns.{Turn, To, Over, Turning, Reaches, here, on, printed_by}
use Rattle.z_lang.specs.WholeRuns.{Within, IsOver, Shown, Does, IsTurn, AreTurns, WholeRuns}

-- ---- before the end of a stretch

-- the steps were used up, or the run is over already
abbrev Before : ZRun → ZRun → Type 0
Before r whole = (r.end ≡ ends.StepLimit) ⊎ (r ≡ whole)

abbrev run_at : ZEnd → ZState → ZRun
run_at end z = record { end = end; state = z }

before : (more : ZState → ZRun) (end : ZEnd) (z : ZState) (whole : ZRun) → then_more more (run_at end z) ≡ whole → Before (run_at end z) whole
before more ends.StepLimit z whole e = inl refl
before more ends.Quit z whole e = inr e
before more ends.InputEnded z whole e = inr e
before more (ends.Broken fault at) z whole e = inr e

none_over : (w : ZGiven) (k : ℕ) (z : ZState) (end : ZEnd) (last : ZState) → zrun w k z ≡ run_at end last → zrun w (k + 0) z ≡ run_at end last
none_over w k z end last e = let q : k + 0 ≡ k = omega arith in ap (λ (n : ℕ). zrun w n z) q ∙ e

-- a run of fewer steps is a piece of one of more
piece : (w : ZGiven) (k n : ℕ) (z : ZState) → k ≤ n → then_more (zrun w (n - k)) (zrun w k z) ≡ zrun w n z
piece w k n z le = let q : k + (n - k) ≡ n = omega arith in sym ((run_laws w z).sum k (n - k)) ∙ ap (λ (i : ℕ). zrun w i z) q

-- its output is a front of the longer one's
record Midway (z : ZState) (r whole : ZRun) : Type 0 where
  least : Begins z.output r.state.output
  most : Begins r.state.output whole.state.output

same_begins : (xs ys : List ℕ) → xs ≡ ys → Begins xs ys
same_begins xs ys e = record { behind = []; is = sym e ∙ sym (append-nil xs) }

begins_on : (more : ZState → ZRun) (end : ZEnd) (z : ZState) → ((s : ZState) → Begins s.output (more s).state.output) → Begins z.output (then_more more (run_at end z)).state.output
begins_on more ends.StepLimit z grows = grows z
begins_on more ends.Quit z grows = same_begins z.output z.output refl
begins_on more ends.InputEnded z grows = same_begins z.output z.output refl
begins_on more (ends.Broken fault at) z grows = same_begins z.output z.output refl

midway : (w : ZGiven) (k n : ℕ) (z : ZState) → k ≤ n → Midway z (zrun w k z) (zrun w n z)
midway w k n z le = record {
  least = (run_laws w z).grows k;
  most = subst (λ (r : ZRun). Begins (zrun w k z).state.output r.state.output) (piece w k n z le) (begins_on (zrun w (n - k)) (zrun w k z).end (zrun w k z).state (λ s. (run_laws w s).grows (n - k)));
}

midway_before : (w : ZGiven) (k n : ℕ) (z : ZState) → k ≤ n → Before (zrun w k z) (zrun w n z)
midway_before w k n z le = before (zrun w (n - k)) (zrun w k z).end (zrun w k z).state (zrun w n z) (piece w k n z le)

-- ---- stretches

whole_leads : (w : ZGiven) (n : ℕ) (z z' : ZState) → Leads w n z z' → zrun w n z ≡ run_at ends.StepLimit z'
unfolding zrun
whole_leads w n z z' l = let q : n + 0 ≡ n = omega arith in ap (λ (i : ℕ). zrun w i z) (sym q) ∙ l.by 0

whole_ends : (w : ZGiven) (n : ℕ) (z : ZState) (r : ZRun) → Ends w n z r → zrun w n z ≡ r
whole_ends w n z r e = let q : n + 0 ≡ n = omega arith in ap (λ (i : ℕ). zrun w i z) (sym q) ∙ e.by 0

module _ {E A : Type 0} (w : ZGiven) (ended : E → ZEnd) (t : Turning E A) (Rep : A → ZState → Type 0) (turns : (a : A) (z : ZState) → Rep a z → IsTurn w ended t Rep a z) where
  -- within a turn that leads on
  within_leads : (a b : A) (k n : ℕ) (z z' : ZState) → t.next a ≡ To b → z.output ≡ t.out a → z'.output ≡ t.out b → Leads w n z z' → k ≤ n → Within t a (zrun w k z)
  within_leads a b k n z z' next out out' l le =
      let m = midway w k n z le in
      let whole = whole_leads w n z z' l in
      record {
        end = ⊎_elim (λ e. e) (λ e. ap (λ (r : ZRun). r.end) (e ∙ whole)) (midway_before w k n z le);
        least = subst (λ (xs : List ℕ). Begins xs (zrun w k z).state.output) out m.least;
        most = subst (λ (x : Turn E A). Begins (zrun w k z).state.output (printed_by t x)) (sym next) (subst (λ (xs : List ℕ). Begins (zrun w k z).state.output xs) (ap (λ (r : ZRun). r.state.output) whole ∙ out') m.most);
      }

  -- within a turn that ends the run, or over
  within_ends : (a : A) (end : E) (bytes : List ℕ) (k n : ℕ) (z last : ZState) → t.next a ≡ Over end bytes → z.output ≡ t.out a → last.output ≡ bytes → Ends w n z (run_at (ended end) last) → k ≤ n → Within t a (zrun w k z) ⊎ IsOver ended t a (zrun w k z)
  within_ends a end bytes k n z last next out out' l le = ⊎_elim limited over (midway_before w k n z le)
    where
      m : Midway z (zrun w k z) (zrun w n z)
      m = midway w k n z le

      whole : zrun w n z ≡ run_at (ended end) last
      whole = whole_ends w n z (run_at (ended end) last) l

      limited : (zrun w k z).end ≡ ends.StepLimit → Within t a (zrun w k z) ⊎ IsOver ended t a (zrun w k z)
      limited e = inl (record {
        end = e;
        least = subst (λ (xs : List ℕ). Begins xs (zrun w k z).state.output) out m.least;
        most = subst (λ (x : Turn E A). Begins (zrun w k z).state.output (printed_by t x)) (sym next) (subst (λ (xs : List ℕ). Begins (zrun w k z).state.output xs) (ap (λ (r : ZRun). r.state.output) whole ∙ out') m.most);
      })

      over : zrun w k z ≡ zrun w n z → Within t a (zrun w k z) ⊎ IsOver ended t a (zrun w k z)
      over e = inr (record { end = end; bytes = bytes; next = next; end_is = ap (λ (r : ZRun). r.end) (e ∙ whole); output = ap (λ (r : ZRun). r.state.output) (e ∙ whole) ∙ out' })

  -- a boundary further on is one that is reached from here
  shown_on : (a b : A) (r : ZRun) → t.next a ≡ To b → Shown ended t b r → Shown ended t a r
  shown_on a b r e s = record { b = s.b; spent = t.cost a + s.spent; reached = on e s.reached; is = s.is }

  -- from what fewer instructions show
  shown_by : (k : ℕ) → ((i : ℕ) → i < k → (b : A) (z : ZState) → Rep b z → Shown ended t b (zrun w i z)) → (a : A) (z : ZState) → Rep a z → Shown ended t a (zrun w k z)
  shown_by k fewer a z rep = by_turn (t.next a) refl (turns a z rep).does
    where
      turn : IsTurn w ended t Rep a z
      turn = turns a z rep

      by_turn : (x : Turn E A) → t.next a ≡ x → Does w ended Rep x turn.count z → Shown ended t a (zrun w k z)
      by_turn (To b) q d = ⊎_elim (λ lt. record { b = a; spent = 0; reached = here; is = inl (within_leads a b k turn.count z d.0 q turn.printed (turns b d.0 d.1).printed d.2 (omega arith)) }) further (cases_lt k turn.count)
        where
          further : turn.count ≤ k → Shown ended t a (zrun w k z)
          further le =
              let some = turn.some in
              let e : turn.count + (k - turn.count) ≡ k = omega arith in
              let same : zrun w k z ≡ zrun w (k - turn.count) d.0 = ap (λ (n : ℕ). zrun w n z) (sym e) ∙ d.2.by (k - turn.count) in
              subst (λ (r : ZRun). Shown ended t a r) (sym same) (shown_on a b (zrun w (k - turn.count) d.0) q (fewer (k - turn.count) (omega arith) b d.0 d.1))
      by_turn (Over end bytes) q d = ⊎_elim (λ lt. record { b = a; spent = 0; reached = here; is = within_ends a end bytes k turn.count z d.0 q turn.printed d.1 d.2 (omega arith) }) over (cases_lt k turn.count)
        where
          over : turn.count ≤ k → Shown ended t a (zrun w k z)
          over le =
              let e : turn.count + (k - turn.count) ≡ k = omega arith in
              let same : zrun w k z ≡ run_at (ended end) d.0 = ap (λ (n : ℕ). zrun w n z) (sym e) ∙ d.2.by (k - turn.count) in
              record { b = a; spent = 0; reached = here; is = inr (record { end = end; bytes = bytes; next = q; end_is = ap (λ (r : ZRun). r.end) same; output = ap (λ (r : ZRun). r.state.output) same ∙ d.1 }) }

  shows_to : (fuel k : ℕ) → k ≤ fuel → (a : A) (z : ZState) → Rep a z → Shown ended t a (zrun w k z)
  shows_to zero k le = shown_by k (λ i lt b z rep. absurd (omega arith))
  shows_to (suc fuel) k le = shown_by k (λ i lt b z rep. shows_to fuel i (omega arith) b z rep)

  -- What any number of instructions shows.
  pub shows : (k : ℕ) (a : A) (z : ZState) → Rep a z → Shown ended t a (zrun w k z)
  shows k a z rep = shows_to k k (omega arith) a z rep

  -- ---- what so many instructions suffice for

  record Comes (n : ℕ) (b : A) (z : ZState) : Type 0 where
    count : ℕ
    most : count ≤ n
    there : ZState
    rep : Rep b there
    leads : Leads w count z there

  comes_on : (a b : A) (n : ℕ) (c : A) (z : ZState) (rep : Rep a z) → Does w ended Rep (To b) (turns a z rep).count z → ((z' : ZState) → Rep b z' → Comes n c z') → Comes (t.cost a + n) c z
  comes_on a b n c z rep d later =
      let turn = turns a z rep in
      let l = later d.0 d.1 in
      let most = l.most in
      let most' = turn.most in
      record { count = turn.count + l.count; most = omega arith; there = l.there; rep = l.rep; leads = leads_then w turn.count l.count z d.0 l.there d.2 l.leads }

  comes_to : {a b : A} {n : ℕ} (z : ZState) → Rep a z → Reaches t a n b → Comes n b z
  comes_to z rep here = record { count = 0; most = omega arith; there = z; rep = rep; leads = leads_none w z }
  comes_to z rep (on {a = a} {b = b} {c = c} {n = n} e r) = comes_on a b n c z rep (subst (λ (x : Turn E A). Does w ended Rep x (turns a z rep).count z) e (turns a z rep).does) (λ z' rep'. comes_to z' rep' r)

  -- A boundary's output is printed by as many instructions as it costs to reach it.
  pub suffices : (k : ℕ) {a b : A} {n : ℕ} (z : ZState) → Rep a z → Reaches t a n b → n ≤ k → Begins (t.out b) (zrun w k z).state.output
  suffices k {b = b} {n = n} z rep r le =
      let c = comes_to z rep r in
      let most = c.most in
      let e : c.count + (k - c.count) ≡ k = omega arith in
      let same : zrun w k z ≡ zrun w (k - c.count) c.there = ap (λ (i : ℕ). zrun w i z) (sym e) ∙ c.leads.by (k - c.count) in
      let printed = (turns b c.there c.rep).printed in
      subst (λ (x : ZRun). Begins (t.out b) x.state.output) (sym same) (subst (λ (xs : List ℕ). Begins xs (zrun w (k - c.count) c.there).state.output) printed ((run_laws w c.there).grows (k - c.count)))

  -- With its last turn's instructions as well, the run is over.
  pub ends_by : (k : ℕ) {a b : A} {n : ℕ} (end : E) (bytes : List ℕ) (z : ZState) → Rep a z → Reaches t a n b → t.next b ≡ Over end bytes → n + t.cost b ≤ k → ((zrun w k z).end ≡ ended end) × ((zrun w k z).state.output ≡ bytes)
  ends_by k {b = b} {n = n} end bytes z rep r next le =
      let c = comes_to z rep r in
      let turn = turns b c.there c.rep in
      let d = subst (λ (x : Turn E A). Does w ended Rep x turn.count c.there) next turn.does in
      let most = c.most in
      let most' = turn.most in
      let e : c.count + (k - c.count) ≡ k = omega arith in
      let e' : turn.count + (k - c.count - turn.count) ≡ k - c.count = omega arith in
      let same : zrun w k z ≡ run_at (ended end) d.0 = ap (λ (i : ℕ). zrun w i z) (sym e) ∙ c.leads.by (k - c.count) ∙ ap (λ (i : ℕ). zrun w i c.there) (sym e') ∙ d.2.by (k - c.count - turn.count) in
      (ap (λ (x : ZRun). x.end) same, ap (λ (x : ZRun). x.state.output) same ∙ d.1)

-- ---- numbered boundaries

pub numbered : (w : ZGiven) (t : Turning ZEnd ℕ) (at : ℕ → ZState) → AreTurns w t at → WholeRuns w t at
numbered w t at turns = record {
  shows = λ k a. shows w (λ end. end) t (λ b z. z ≡ at b) turn k a (at a) refl;
  suffices = λ k a b n r le. suffices w (λ end. end) t (λ b z. z ≡ at b) turn k {a = a} {b = b} {n = n} (at a) refl r le;
  ends_by = λ k a b n end bytes r next le. ends_by w (λ end. end) t (λ b z. z ≡ at b) turn k {a = a} {b = b} {n = n} end bytes (at a) refl r next le;
}
  where
    turn : (a : ℕ) (z : ZState) → z ≡ at a → IsTurn w (λ end. end) t (λ b z. z ≡ at b) a z
    turn a z e = subst (λ (x : ZState). IsTurn w (λ end. end) t (λ b y. y ≡ at b) a x) (sym e) (turns a)
