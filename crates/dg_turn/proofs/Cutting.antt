-- Choices are dropped: memory stands for what is left of them.
use Rattle.std.proofs.Common.{◌≡◌, ◌≢◌, ℕ, ◌+◌, ◌≤◌, inl, inr, List, [], ◌∷◌, refl, sym, ap, ◌∙◌, subst, arith}
use Rattle.std.specs.Prelude.{nat_lt}
use Rattle.std.proofs.lemmas.Bool.{lt-ltb, le-ltb, cond-true, cond-false, cases_lt}
use Rattle.dg_mid.specs.State.{Place, Choice, Mid, cut_choices}
use Rattle.dg_mid.specs.Step.{cut_to}
use Rattle.dg_mid.specs.Units.{dropped}
use Rattle.dg_mid.specs.Heights.{AgreeAll}
use Rattle.dg_rt.specs.Areas.{heap_at, trail_at}
use Rattle.dg_rt.specs.Shapes.{Shape, Cell}
use Rattle.dg_rt.specs.Choices.{Chain, left_of, dropped_of}
use Rattle.dg_rt.proofs.Backs.{grown_none, back_grown, trail_stays}
use Rattle.dg_turn.specs.Told.{Telling}
use Rattle.dg_turn.specs.Lies.{StopNamed, FramesIn, InnersIn, ChoicesIn, NewestUnder, MidIn}
use Rattle.dg_turn.specs.Rest.{gather_words}
use Rattle.dg_turn.proofs.Resting.{rest_stays}
use Rattle.dg_turn.proofs.Growing.{ChoicesThere, apart_cut, stops_at, choices_at, choices_drop, stands_same}

-- The places of choices.
abbrev pub places_of : List Choice → List ℕ
places_of [] = []
places_of (c ∷ cs) = c.place.height ∷ places_of cs

-- The choices of a machine are a chain in memory.
pub chained : (t : Telling) (sh : Shape) (cells : ℕ → ℕ) (trail opens : List ℕ) (hb : ℕ) → sh.top ≤ 10000 → ((k x : ℕ) → Cell sh k x → cells (heap_at + k) ≡ x) → (word : ℕ) (cs : List Choice) → (h : ChoicesIn t sh cells trail opens word cs) → NewestUnder t sh cells trail opens word hb cs h → Chain cells word (places_of cs)
chained t sh cells trail opens hb few at word [] h u = h
chained t sh cells trail opens hb few at word (c ∷ cs) h u =
    let first = h.cells_are.0 in
    let low = first.fixed.0 in
    let rest = choices_drop t opens word hb c cs h u in
    (h.word_is, omega arith, subst (λ (y : ℕ). Chain cells y (places_of cs)) (sym (at c.place.height h.behind first)) (chained t sh cells trail opens hb few at h.behind cs rest.choices_are rest.under))

-- What is left of the chain is what is left of the choices.
pub left_in : (t : Telling) (sh : Shape) (cells cells' : ℕ → ℕ) (trail opens : List ℕ) (hb : ℕ) → ((k : ℕ) → cells' (heap_at + k) ≡ cells (heap_at + k)) → (place : Place) (word word' : ℕ) (cs : List Choice) → AgreeAll cs place → (h : ChoicesIn t sh cells trail opens word cs) → NewestUnder t sh cells trail opens word hb cs h → Chain cells' word' (left_of place.height (places_of cs)) → ChoicesThere t sh cells' trail opens word' hb (cut_choices place cs)
left_in t sh cells cells' trail opens hb same place word word' [] agrees h u chain = record { choices_are = chain; under = tt }
left_in t sh cells cells' trail opens hb same place word word' (c ∷ cs) agrees h u chain = elim (cases_lt c.place.tag place.tag) [
  | inl lt ↦
      let lower = agrees.0.older lt in
      let stays : cut_choices place (c ∷ cs) ≡ c ∷ cs = cond-true (nat_lt c.place.tag place.tag) (c ∷ cs) (cut_choices place cs) (lt-ltb c.place.tag place.tag lt) in
      let all : left_of place.height (places_of (c ∷ cs)) ≡ places_of (c ∷ cs) = cond-true (nat_lt c.place.height place.height) (places_of (c ∷ cs)) (left_of place.height (places_of cs)) (lt-ltb c.place.height place.height lower) in
      let there : Chain cells' word' (places_of (c ∷ cs)) = subst (λ (l : List ℕ). Chain cells' word' l) all chain in
      subst (λ (l : List Choice). ChoicesThere t sh cells' trail opens word' hb l) (sym stays)
      (choices_at t (grown_none sh) opens word word' hb (c ∷ cs) (there.0 ∙ sym h.word_is) (λ w le b. back_grown w (grown_none sh) (λ k low. same k) b) h u)
  | inr ge ↦
      let higher = agrees.0.newer ge in
      let falls : cut_choices place (c ∷ cs) ≡ cut_choices place cs = cond-false (nat_lt c.place.tag place.tag) (c ∷ cs) (cut_choices place cs) (le-ltb c.place.tag place.tag ge) in
      let less : left_of place.height (places_of (c ∷ cs)) ≡ left_of place.height (places_of cs) = cond-false (nat_lt c.place.height place.height) (places_of (c ∷ cs)) (left_of place.height (places_of cs)) (le-ltb c.place.height place.height higher) in
      let rest = choices_drop t opens word hb c cs h u in
      subst (λ (l : List Choice). ChoicesThere t sh cells' trail opens word' hb l) (sym falls)
      (left_in t sh cells cells' trail opens hb same place h.behind word' cs agrees.1 rest.choices_are rest.under (subst (λ (l : List ℕ). Chain cells' word' l) less chain))
]

-- As many fall.
pub fallen_is : (place : Place) (cs : List Choice) → AgreeAll cs place → dropped_of place.height (places_of cs) ≡ dropped place cs
fallen_is place [] agrees = refl
fallen_is place (c ∷ cs) agrees = elim (cases_lt c.place.tag place.tag) [
  | inl lt ↦
      cond-true (nat_lt c.place.height place.height) 0 (1 + dropped_of place.height (places_of cs)) (lt-ltb c.place.height place.height (agrees.0.older lt))
      ∙ sym (cond-true (nat_lt c.place.tag place.tag) 0 (1 + dropped place cs) (lt-ltb c.place.tag place.tag lt))
  | inr ge ↦
      cond-false (nat_lt c.place.height place.height) 0 (1 + dropped_of place.height (places_of cs)) (le-ltb c.place.height place.height (agrees.0.newer ge))
      ∙ ap (λ (n : ℕ). 1 + n) (fallen_is place cs agrees.1) ∙ sym (cond-false (nat_lt c.place.tag place.tag) 0 (1 + dropped place cs) (le-ltb c.place.tag place.tag ge))
]

-- Memory stands for the machine without the choices that fell.
pub cut_in : (t : Telling) {outer : ℕ → ℕ} (sh : Shape) (cells cells' : ℕ → ℕ) (trail : List ℕ) (m : Mid) (place : Place) → AgreeAll m.choices place → ((k : ℕ) → k ≢ 5 → cells' k ≡ cells k) → MidIn t outer sh cells trail m → Chain cells' (cells' 5) (left_of place.height (places_of m.choices)) → MidIn t outer sh cells' trail (cut_to place m)
cut_in t sh cells cells' trail m place agrees same mid chain =
    let s = mid.state in
    let heap_same : (k : ℕ) → cells' (heap_at + k) ≡ cells (heap_at + k) = λ k. same (heap_at + k) (λ e. (omega arith)) in
    let opens = gather_words m.gathered in
    let parts = stops_at t (grown_none sh) opens mid.hb m.stops (λ w le b. back_grown w (grown_none sh) (λ k lt. heap_same k) b) (λ w le b. b) mid.stops mid.stops_under in
    let there = left_in t sh cells cells' trail opens mid.hb heap_same place (cells 5) (cells' 5) m.choices agrees mid.choices mid.under chain in
    record {
      heap = same 3 (λ e. (omega arith)) ∙ mid.heap;
      height = same 1 (λ e. (omega arith)) ∙ mid.height;
      state = record { shape = s.shape; low = s.low; stands = stands_same sh cells cells' m.state.subst s.low (λ k lt. heap_same k) s.stands; known = s.known; heap = s.heap; vars = s.vars; trail_len = s.trail_len; few = s.few; few_trail = s.few_trail; told = s.told };
      on_trail = trail_stays cells cells' trail (λ i lt. same (trail_at + i) (λ e. (omega arith))) mid.on_trail;
      frames = subst (λ (x : ℕ). FramesIn t sh m.stops x m.frames) (sym (same 4 (λ e. (omega arith)))) mid.frames;
      choices = there.choices_are;
      hb = mid.hb;
      mark = same 2 (λ e. (omega arith)) ∙ mid.mark;
      marked = mid.marked;
      under = there.under;
      inner = subst (λ (x : ℕ). InnersIn sh m.stops x m.inner) (sym (same 6 (λ e. (omega arith)))) mid.inner;
      stop = subst (λ (x : ℕ). StopNamed x m.stop m.stops) (sym (same 7 (λ e. (omega arith)))) mid.stop;
      stops = parts.stops_are;
      stops_under = parts.under;
      apart = apart_cut place m.stops m.choices mid.apart;
      rest = rest_stays t cells cells' m.gathered (λ k lt far. same k (λ e. (omega arith))) mid.rest;
    }
