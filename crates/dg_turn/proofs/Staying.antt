-- A machine stands in memory whose registers have changed.
use Rattle.std.proofs.Common.{◌≡◌, ◌≢◌, ℕ, ◌+◌, ◌<◌, ◌≤◌, List, Option, sym, ◌∙◌, subst, arith}
use Rattle.dg_mid.specs.declared.code.Op.{Op}
use Rattle.dg_mid.specs.State.{Place, Frame, Lasting, Mid}
use Rattle.dg_rt.specs.Areas.{heap_at, trail_at}
use Rattle.dg_rt.specs.Shapes.{Shape}
use Rattle.dg_rt.proofs.Backs.{grown_none, back_grown, trail_stays}
use Rattle.dg_turn.specs.Told.{Telling}
use Rattle.dg_turn.specs.Rest.{gather_words, RestIn}
use Rattle.dg_turn.specs.Lies.{StopNamed, FramesIn, InnersIn, MidIn}
use Rattle.dg_turn.proofs.Resting.{rest_stays}
use Rattle.dg_turn.proofs.Growing.{stops_at, choices_at, stands_same}

-- A register of a machine, one that is nobody's here, or a word behind all registers.
abbrev pub IsKept : ℕ → Type 0
IsKept k = (7 < k → 27 < k) × (35 < k → 302 < k)

pub low_kept : (k : ℕ) → k ≤ 7 → IsKept k
low_kept k le = ((λ q. (omega arith)), (λ q. (omega arith)))

pub high_kept : (k : ℕ) → 302 < k → IsKept k
high_kept k lt = ((λ q. (omega arith)), (λ q. lt))

pub rest_kept : (k : ℕ) → 27 < k → (35 < k → 302 < k) → IsKept k
rest_kept k lt far = ((λ q. lt), far)

-- Words that differ in registers that may be written, and in those of the newest frame, inner construct and stoppable part, at most.
abbrev pub SameRest : (ℕ → ℕ) → (ℕ → ℕ) → Type 0
SameRest cells cells' = (k : ℕ) → k ≢ 0 → k ≢ 4 → k ≢ 6 → k ≢ 7 → IsKept k → cells' k ≡ cells k

-- Words that differ in registers, but for those of the machine's other parts, and behind the heap and the trail, at most.
abbrev pub SameParts : (ℕ → ℕ) → (ℕ → ℕ) → Type 0
SameParts cells cells' = (k : ℕ) → k ≢ 0 → k ≢ 4 → k ≢ 6 → k ≢ 7 → (7 < k → 302 < k) → cells' k ≡ cells k

-- Memory stands for the machine with another newest frame, another newest inner construct, another innermost stoppable part that is open, and other
-- words outside.
pub mid_outside : (t : Telling) {outer outer' : ℕ → ℕ} (sh : Shape) (cells cells' : ℕ → ℕ) (trail : List ℕ) (m : Mid) (fs : List Frame) (ps : List Place) (stop : Option ℕ) → SameParts cells cells' → FramesIn t sh m.stops (cells' 4) fs → InnersIn sh m.stops (cells' 6) ps → StopNamed (cells' 7) stop m.stops → RestIn t outer' cells' m.gathered → MidIn t outer sh cells trail m →
    MidIn t outer' sh cells' trail (record m { frames = fs; inner = ps; stop = stop })
mid_outside t sh cells cells' trail m fs ps stop same frames inner stop_is rest h =
    let heap_same : (k : ℕ) → cells' (heap_at + k) ≡ cells (heap_at + k) = λ k. same (heap_at + k) (λ e. (omega arith)) (λ e. (omega arith)) (λ e. (omega arith)) (λ e. (omega arith)) (λ q. (omega arith)) in
    let low : (k : ℕ) → k ≢ 0 → k ≢ 4 → k ≢ 6 → k < 7 → cells' k ≡ cells k = λ k n0 n4 n6 lt. same k n0 n4 n6 (λ e. (omega arith)) (λ q. (omega arith)) in
    let s = h.state in
    let opens = gather_words m.gathered in
    let there = choices_at t (grown_none sh) opens (cells 5) (cells' 5) h.hb m.choices (low 5 (λ e. (omega arith)) (λ e. (omega arith)) (λ e. (omega arith)) (omega arith)) (λ w le b. back_grown w (grown_none sh) (λ k lt. heap_same k) b) h.choices h.under in
    let parts = stops_at t (grown_none sh) opens h.hb m.stops (λ w le b. back_grown w (grown_none sh) (λ k lt. heap_same k) b) (λ w le b. b) h.stops h.stops_under in
    record {
      heap = low 3 (λ e. (omega arith)) (λ e. (omega arith)) (λ e. (omega arith)) (omega arith) ∙ h.heap;
      height = low 1 (λ e. (omega arith)) (λ e. (omega arith)) (λ e. (omega arith)) (omega arith) ∙ h.height;
      state = record { shape = s.shape; low = s.low; stands = stands_same sh cells cells' m.state.subst s.low (λ k lt. heap_same k) s.stands; known = s.known; heap = s.heap; vars = s.vars; trail_len = s.trail_len; few = s.few; few_trail = s.few_trail; told = s.told };
      on_trail = trail_stays cells cells' trail (λ i lt. same (trail_at + i) (λ e. (omega arith)) (λ e. (omega arith)) (λ e. (omega arith)) (λ e. (omega arith)) (λ q. (omega arith))) h.on_trail;
      frames = frames;
      choices = there.choices_are;
      hb = h.hb;
      mark = low 2 (λ e. (omega arith)) (λ e. (omega arith)) (λ e. (omega arith)) (omega arith) ∙ h.mark;
      marked = h.marked;
      under = there.under;
      inner = inner;
      stop = stop_is;
      stops = parts.stops_are;
      stops_under = parts.under;
      apart = h.apart;
      rest = rest;
    }

-- Memory stands for the machine with another newest frame, another newest inner construct, and another innermost stoppable part that is open.
pub mid_parts : (t : Telling) {outer : ℕ → ℕ} (sh : Shape) (cells cells' : ℕ → ℕ) (trail : List ℕ) (m : Mid) (fs : List Frame) (ps : List Place) (stop : Option ℕ) → SameRest cells cells' → FramesIn t sh m.stops (cells' 4) fs → InnersIn sh m.stops (cells' 6) ps → StopNamed (cells' 7) stop m.stops → MidIn t outer sh cells trail m →
    MidIn t outer sh cells' trail (record m { frames = fs; inner = ps; stop = stop })
mid_parts t sh cells cells' trail m fs ps stop same frames inner stop_is h =
    mid_outside t sh cells cells' trail m fs ps stop (λ k n0 n4 n6 n7 far. same k n0 n4 n6 n7 ((λ q. (let y = far q in omega arith)), (λ q. far (omega arith)))) frames inner stop_is
    (rest_stays t cells cells' m.gathered (λ k lt far. same k (λ e. (omega arith)) (λ e. (omega arith)) (λ e. (omega arith)) (λ e. (omega arith)) (rest_kept k lt (λ q. (let y = far q in omega arith)))) h.rest)
    h

-- Memory stands for the machine with another newest frame and another newest inner construct.
pub mid_with : (t : Telling) {outer : ℕ → ℕ} (sh : Shape) (cells cells' : ℕ → ℕ) (trail : List ℕ) (m : Mid) (fs : List Frame) (ps : List Place) → ((k : ℕ) → k ≢ 0 → k ≢ 4 → k ≢ 6 → IsKept k → cells' k ≡ cells k) → FramesIn t sh m.stops (cells' 4) fs → InnersIn sh m.stops (cells' 6) ps → MidIn t outer sh cells trail m → MidIn t outer sh cells' trail (record m { frames = fs; inner = ps })
mid_with t sh cells cells' trail m fs ps same frames inner h =
    mid_parts t sh cells cells' trail m fs ps m.stop (λ k n0 n4 n6 n7 far. same k n0 n4 n6 far) frames inner
    (subst (λ (x : ℕ). StopNamed x m.stop m.stops) (sym (same 7 (λ e. (omega arith)) (λ e. (omega arith)) (λ e. (omega arith)) (low_kept 7 (omega arith)))) h.stop)
    h

-- Words that differ in registers that may be written at most.
abbrev pub SameMachine : (ℕ → ℕ) → (ℕ → ℕ) → Type 0
SameMachine cells cells' = (k : ℕ) → k ≢ 0 → IsKept k → cells' k ≡ cells k

-- Memory stands for the same machine.
pub mid_same : (t : Telling) {outer : ℕ → ℕ} (sh : Shape) (cells cells' : ℕ → ℕ) (trail : List ℕ) (m : Mid) → SameMachine cells cells' → MidIn t outer sh cells trail m → MidIn t outer sh cells' trail m
mid_same t sh cells cells' trail m same h =
    let low : (k : ℕ) → k ≢ 0 → k ≤ 7 → cells' k ≡ cells k = λ k ne le. same k ne (low_kept k le) in
    mid_with t sh cells cells' trail m m.frames m.inner (λ k n0 n4 n6 far. same k n0 far)
    (subst (λ (x : ℕ). FramesIn t sh m.stops x m.frames) (sym (low 4 (λ e. (omega arith)) (omega arith))) h.frames)
    (subst (λ (x : ℕ). InnersIn sh m.stops x m.inner) (sym (low 6 (λ e. (omega arith)) (omega arith))) h.inner)
    h

-- Memory stands for a machine with other code, and with other parts that it has no words for.
pub mid_alike : (t : Telling) {outer : ℕ → ℕ} (sh : Shape) (cells : ℕ → ℕ) (trail : List ℕ) (m : Mid) (ops : List Op) (tag : ℕ) (lasting : Lasting) → MidIn t outer sh cells trail m → MidIn t outer sh cells trail (record m { ops = ops; next_tag = tag; lasting = lasting })
mid_alike t sh cells trail m ops tag lasting h = record {
  heap = h.heap;
  height = h.height;
  state = h.state;
  on_trail = h.on_trail;
  frames = h.frames;
  choices = h.choices;
  hb = h.hb;
  mark = h.mark;
  marked = h.marked;
  under = h.under;
  inner = h.inner;
  stop = h.stop;
  stops = h.stops;
  stops_under = h.stops_under;
  apart = h.apart;
  rest = h.rest;
}
