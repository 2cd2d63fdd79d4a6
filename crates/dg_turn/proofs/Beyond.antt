-- A machine stands in memory where words beyond the heap's end have changed.
use Rattle.std.proofs.Common.{◌≡◌, ◌≢◌, ℕ, ◌+◌, ◌<◌, ◌≤◌, List, sym, ◌∙◌, subst, arith}
use Rattle.dg_mid.specs.State.{Mid}
use Rattle.dg_rt.specs.Areas.{heap_at, trail_at}
use Rattle.dg_rt.specs.Shapes.{Shape}
use Rattle.dg_rt.proofs.Backs.{grown_none, back_grown, trail_stays}
use Rattle.dg_turn.specs.Told.{Telling}
use Rattle.dg_turn.specs.Rest.{gather_words}
use Rattle.dg_turn.specs.Lies.{StopNamed, FramesIn, InnersIn, MidIn}
use Rattle.dg_turn.proofs.Resting.{rest_stays}
use Rattle.dg_turn.proofs.Growing.{stops_at, choices_at, stands_same}
use Rattle.dg_turn.proofs.Staying.{IsKept, low_kept, high_kept, rest_kept}

-- Words that differ in registers that may be written, and in cells that aren't taken, at most.
abbrev pub SameTaken : ℕ → (ℕ → ℕ) → (ℕ → ℕ) → Type 0
SameTaken top cells cells' = (k : ℕ) → k ≢ 0 → IsKept k → (heap_at + top ≤ k → trail_at ≤ k) → cells' k ≡ cells k

pub mid_beyond : (t : Telling) {outer : ℕ → ℕ} (sh : Shape) (cells cells' : ℕ → ℕ) (trail : List ℕ) (m : Mid) → SameTaken sh.top cells cells' → MidIn t outer sh cells trail m → MidIn t outer sh cells' trail m
mid_beyond t sh cells cells' trail m same h =
    let s = h.state in
    let few = s.few in
    let heap = s.heap in
    let heap_same : (k : ℕ) → k < sh.top → cells' (heap_at + k) ≡ cells (heap_at + k) = λ k lt. same (heap_at + k) (λ e. (omega arith)) (high_kept (heap_at + k) (omega arith)) (λ q. (omega arith)) in
    let low : (k : ℕ) → k ≢ 0 → k ≤ 7 → cells' k ≡ cells k = λ k n0 le. same k n0 (low_kept k le) (λ q. (omega arith)) in
    let opens = gather_words m.gathered in
    let high = h.marked.high in
    let there = choices_at t (grown_none sh) opens (cells 5) (cells' 5) h.hb m.choices (low 5 (λ e. (omega arith)) (omega arith)) (λ w le b. (let below = b.grown.top in back_grown w (grown_none sh) (λ k lt. heap_same k (omega arith)) b)) h.choices h.under in
    let parts = stops_at t (grown_none sh) opens h.hb m.stops (λ w le b. (let below = b.grown.top in back_grown w (grown_none sh) (λ k lt. heap_same k (omega arith)) b)) (λ w le b. b) h.stops h.stops_under in
    record {
      heap = low 3 (λ e. (omega arith)) (omega arith) ∙ h.heap;
      height = low 1 (λ e. (omega arith)) (omega arith) ∙ h.height;
      state = record { shape = s.shape; low = s.low; stands = stands_same sh cells cells' m.state.subst s.low (λ k lt. heap_same k lt) s.stands; known = s.known; heap = s.heap; vars = s.vars; trail_len = s.trail_len; few = s.few; few_trail = s.few_trail; told = s.told };
      on_trail = trail_stays cells cells' trail (λ i lt. same (trail_at + i) (λ e. (omega arith)) (high_kept (trail_at + i) (omega arith)) (λ q. (omega arith))) h.on_trail;
      frames = subst (λ (x : ℕ). FramesIn t sh m.stops x m.frames) (sym (low 4 (λ e. (omega arith)) (omega arith))) h.frames;
      choices = there.choices_are;
      hb = h.hb;
      mark = low 2 (λ e. (omega arith)) (omega arith) ∙ h.mark;
      marked = h.marked;
      under = there.under;
      inner = subst (λ (x : ℕ). InnersIn sh m.stops x m.inner) (sym (low 6 (λ e. (omega arith)) (omega arith))) h.inner;
      stop = subst (λ (x : ℕ). StopNamed x m.stop m.stops) (sym (low 7 (λ e. (omega arith)) (omega arith))) h.stop;
      stops = parts.stops_are;
      stops_under = parts.under;
      apart = h.apart;
      rest = rest_stays t cells cells' m.gathered (λ k lt far. same k (λ e. (omega arith)) (rest_kept k lt (λ q. (let y = far q in omega arith))) (λ q. (let y = far (omega arith) in omega arith))) h.rest;
    }
