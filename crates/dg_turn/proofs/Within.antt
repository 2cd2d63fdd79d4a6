-- Memory stands for a machine whose areas behind what is gathered have changed.
use Rattle.std.proofs.Common.{◌≡◌, ◌≢◌, ℕ, suc, ◌+◌, ◌<◌, ◌≤◌, List, [], ◌∷◌, length, refl, sym, ◌∙◌, subst, arith, length-append}
use Rattle.std.proofs.lemmas.List.{length-map}
use Rattle.std.proofs.lemmas.List.Sums.{sum_by-cons}
use Rattle.std.specs.List.{sum_by}
use Rattle.dg_meaning.specs.Values.{Value}
use Rattle.dg_meaning.specs.ValueCells.{cells_of}
use Rattle.dg_meaning.specs.World.{Gathering, gathered_size}
use Rattle.dg_mid.specs.State.{Mid}
use Rattle.dg_rt.specs.Areas.{heap_at, trail_at}
use Rattle.dg_rt.specs.Shapes.{Shape}
use Rattle.dg_rt.specs.Copies.{cell_word, words_of, Row}
use Rattle.dg_rt.specs.Gatherings.{rows_of}
use Rattle.dg_rt.proofs.Backs.{grown_none, back_grown, trail_stays}
use Rattle.dg_turn.specs.Told.{Telling}
use Rattle.dg_turn.specs.Rest.{aux_at, aux_end, gather_words, GatheringsIn}
use Rattle.dg_turn.specs.Lies.{StopNamed, FramesIn, InnersIn, MidIn}
use Rattle.dg_turn.proofs.Staying.{IsKept, low_kept, high_kept, rest_kept}
use Rattle.dg_turn.proofs.Growing.{stops_at, choices_at, stands_same}

-- ## What is gathered

pub rows_length : (vs : List Value) → length (rows_of vs) ≡ sum_by (λ v. length (cells_of v)) vs
rows_length [] = refl
rows_length (v ∷ vs) = length-append (words_of v) (rows_of vs) ∙ (let a = length-map (cells_of v) cell_word in let b = rows_length vs in let c = sum_by-cons (λ (u : Value). length (cells_of u)) v vs in omega arith)

pub row_within : (cells cells' : ℕ → ℕ) (j end : ℕ) (xs : List ℕ) → j + length xs ≤ end → ((k : ℕ) → j ≤ k → k < end → cells' k ≡ cells k) → Row cells j xs → Row cells' j xs
row_within cells cells' j end [] le same h = tt
row_within cells cells' j end (x ∷ xs) le same h = (same j (omega arith) (omega arith) ∙ h.0, row_within cells cells' (suc j) end xs (omega arith) (λ k low lt. same k (omega arith) lt) h.1)

gatherings_within : (t : Telling) (cells cells' : ℕ → ℕ) (gs : List Gathering) → ((k : ℕ) → aux_at ≤ k → k < aux_end → cells' k ≡ cells k) → GatheringsIn t cells gs → GatheringsIn t cells' gs
gatherings_within t cells cells' [] same h = tt
gatherings_within t cells cells' (x ∷ xs) same h =
    let a = h.0 in
    let room = a.room in
    let size = rows_length x.values in
    let sum = sum_by-cons (λ (g : Gathering). 2 + sum_by (λ v. length (cells_of v)) g.values) x xs in (
      record {
        before = same (aux_at + gathered_size xs) (omega arith) (omega arith) ∙ a.before;
        end = same (aux_at + gathered_size xs + 1) (omega arith) (omega arith) ∙ a.end;
        values = row_within cells cells' (aux_at + gathered_size xs + 2) aux_end (rows_of x.values) (omega arith) (λ k le lt. same k (omega arith) lt) a.values;
        formed = a.formed;
        room = a.room;
      },
      gatherings_within t cells cells' xs same h.1,
    )

-- ## The machine

-- Words that differ in registers that may be written, and behind what is gathered, at most.
abbrev pub SameInside : (ℕ → ℕ) → (ℕ → ℕ) → Type 0
SameInside cells cells' = (k : ℕ) → k ≢ 0 → IsKept k → k < aux_end → cells' k ≡ cells k

-- Memory stands for the same machine, with other words outside.
pub mid_world : (t : Telling) {outer : ℕ → ℕ} (sh : Shape) (cells cells' : ℕ → ℕ) (trail : List ℕ) (m : Mid) (outer' : ℕ → ℕ) → SameInside cells cells' → ((k : ℕ) → k < aux_end → outer' k ≡ outer k) → ((k : ℕ) → aux_end ≤ k → cells' k ≡ outer' k) → MidIn t outer sh cells trail m → MidIn t outer' sh cells' trail m
mid_world t {outer} sh cells cells' trail m outer' same text areas h =
    let room = h.state.shape.room in
    let long = h.state.trail_len in
    let few = h.state.few_trail in
    let heap_same : (k : ℕ) → k < 10000 → cells' (heap_at + k) ≡ cells (heap_at + k) = λ k lt. same (heap_at + k) (λ e. (omega arith)) (high_kept (heap_at + k) (omega arith)) (omega arith) in
    let low : (k : ℕ) → k ≢ 0 → k ≤ 7 → cells' k ≡ cells k = λ k ne le. same k ne (low_kept k le) (omega arith) in
    let rest : (k : ℕ) → 27 < k → k < 36 → cells' k ≡ cells k = λ k lt le. same k (λ e. (omega arith)) (rest_kept k lt (λ q. (omega arith))) (omega arith) in
    let s = h.state in
    let opens = gather_words m.gathered in
    let there = choices_at t (grown_none sh) opens (cells 5) (cells' 5) h.hb m.choices (low 5 (λ e. (omega arith)) (omega arith)) (λ w le b. back_grown w (grown_none sh) (λ k lt. (let top = b.grown.top in heap_same k (omega arith))) b) h.choices h.under in
    let parts = stops_at t (grown_none sh) opens h.hb m.stops (λ w le b. back_grown w (grown_none sh) (λ k lt. (let top = b.grown.top in heap_same k (omega arith))) b) (λ w le b. b) h.stops h.stops_under in
    let o = h.rest.outside in
    record {
      heap = low 3 (λ e. (omega arith)) (omega arith) ∙ h.heap;
      height = low 1 (λ e. (omega arith)) (omega arith) ∙ h.height;
      state = record { shape = s.shape; low = s.low; stands = stands_same sh cells cells' m.state.subst s.low (λ k lt. heap_same k (omega arith)) s.stands; known = s.known; heap = s.heap; vars = s.vars; trail_len = s.trail_len; few = s.few; few_trail = s.few_trail; told = s.told };
      on_trail = trail_stays cells cells' trail (λ i lt. same (trail_at + i) (λ e. (omega arith)) (high_kept (trail_at + i) (omega arith)) (omega arith)) h.on_trail;
      frames = subst (λ (x : ℕ). FramesIn t sh m.stops x m.frames) (sym (low 4 (λ e. (omega arith)) (omega arith))) h.frames;
      choices = there.choices_are;
      hb = h.hb;
      mark = low 2 (λ e. (omega arith)) (omega arith) ∙ h.mark;
      marked = h.marked;
      under = there.under;
      inner = subst (λ (x : ℕ). InnersIn sh m.stops x m.inner) (sym (low 6 (λ e. (omega arith)) (omega arith))) h.inner;
      stop = subst (λ (x : ℕ). StopNamed x m.stop m.stops) (sym (low 7 (λ e. (omega arith)) (omega arith))) h.stop;
      stops = parts.stops_are;
      stops_under = parts.under;
      apart = h.apart;
      rest = record {
        gather = rest 29 (omega arith) (omega arith) ∙ h.rest.gather;
        gatherings = gatherings_within t cells cells' m.gathered (λ k le lt. same k (λ e. (omega arith)) (high_kept k (omega arith)) lt) h.rest.gatherings;
        outside = record {
          registers = λ k lt le n29. rest k lt le ∙ o.registers k lt le n29 ∙ sym (text k (omega arith));
          areas = areas;
        };
      };
    }
