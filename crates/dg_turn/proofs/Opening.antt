-- A choice is opened: memory with its block stands for the machine inside it.
use Rattle.std.proofs.Common.{◌≡◌, ◌≢◌, ℕ, suc, ◌+◌, ◌<◌, ◌≤◌, List, [], ◌∷◌, length, refl, sym, ap, ◌∙◌, subst, arith}
use Rattle.std.proofs.lemmas.Bool.{lt-ltb}
use Rattle.dg_mid.specs.State.{Way, Stop, Mid}
use Rattle.dg_mid.specs.Step.{inside, new_choice}
use Rattle.dg_rt.proofs.Backs.{back_grown, trail_stays}
use Rattle.dg_rt.specs.Areas.{heap_at, trail_at}
use Rattle.dg_rt.specs.Back.{at_place, Saved, Grown, GivesBack}
use Rattle.dg_rt.specs.Frames.{RowIs}
use Rattle.dg_rt.specs.Moments.{IsMark}
use Rattle.dg_rt.specs.Shapes.{Shape}
use Rattle.dg_turn.proofs.Resting.{open_all, length_words, rest_stays}
use Rattle.dg_turn.proofs.Staying.{IsKept, low_kept, high_kept, rest_kept}
use Rattle.dg_turn.proofs.Growing.{grown_frames, grown_inner, apart_new, boxes_stay, StopsThere, stops_at}
use Rattle.dg_turn.proofs.Grows.{grown_mark}
use Rattle.dg_turn.proofs.Making.{made, made_grown, made_shape, made_stands, made_low, made_known, block_cell}
use Rattle.dg_turn.specs.Rest.{gather_words, newest, open_to}
use Rattle.dg_turn.specs.Lies.{StopNamed, FramesIn, InnersIn, CellsAre, WayIn, arguments_of, BoxesStay, TakesLast, StopsIn, StopsUnder, ChoiceIn, ChoicesIn, MidIn}
use Rattle.dg_turn.specs.Told.{Telling}

-- The machine inside stands in memory.
pub record Opened (t : Telling) (outer : ℕ → ℕ) (sh : Shape) (c : ℕ → ℕ) (trail : List ℕ) (way : Way) (n many : ℕ) (m : Mid) : Type 0 where
  pub sh' : Shape
  pub grown : Grown sh sh'
  pub mid : MidIn t outer sh' c trail (inside way n m)
  pub boxes : BoxesStay sh' mid.choices.saved
  pub many_is : mid.choices.many ≡ many

-- a newest mark
new_mark : (sh : Shape) → ((n : ℕ) → n < sh.vars → sh.place n < sh.top) → sh.top ≤ 10000 → IsMark sh sh.vars sh.top
new_mark sh low few = record { low = few; high = omega arith; old = omega arith; older = λ n lt. lt-ltb n sh.vars lt ∙ sym (lt-ltb (sh.place n) sh.top (low n lt)) }

-- words in a row of a new block are its cells
row_cells : (sh' : Shape) (top : ℕ) (c : ℕ → ℕ) (block i : ℕ) (xs : List ℕ) → ((j : ℕ) → j < block → CellsAre sh' (top + j) (c (heap_at + (top + j)) ∷ [])) → i + length xs ≤ block → RowIs c (top + i) xs → CellsAre sh' (top + i) xs
row_cells sh' top c block i [] cells le row = tt
row_cells sh' top c block i (x ∷ xs) cells le row =
    let one = (cells i (omega arith)).0 in
    let next : suc (top + i) ≡ top + suc i = omega arith in
    (record { fixed = one.fixed; is = one.is ∙ row.0 }, subst (λ (k : ℕ). CellsAre sh' k xs) (sym next) (row_cells sh' top c block (suc i) xs cells (omega arith) (subst (λ (k : ℕ). RowIs c k xs) next row.1)))

-- what is under a mark is under a newer one
stops_lower : (t : Telling) (sh : Shape) (cells : ℕ → ℕ) (trail opens : List ℕ) (hb hb' : ℕ) → hb ≤ hb' → (ss : List Stop) → (h : StopsThere t sh cells trail opens hb ss) → StopsUnder t sh cells trail opens hb' ss h.stops_are
stops_lower t sh cells trail opens hb hb' le [] h = tt
stops_lower t sh cells trail opens hb hb' le (s ∷ ss) h = let u = h.under in omega arith

pub opened_in : (t : Telling) {outer : ℕ → ℕ} (sh : Shape) (c c' : ℕ → ℕ) (trail : List ℕ) (m : Mid) (way : Way) (n routine next many key : ℕ) (args : List ℕ) → MidIn t outer sh c trail m → m.state.heap + (10 + n) ≤ 10000 → length args ≡ n → arguments_of way ≡ n →
    WayIn t sh routine args next (at_place m.state.heap) many key m.state.subst way → TakesLast way (length m.gathered) m.choices m.stops → c' 3 ≡ sh.top + 10 + n → c' 5 ≡ at_place sh.top → c' 2 ≡ at_place sh.top →
    RowIs c' (sh.top + 0) (c 5 ∷ routine ∷ c 4 ∷ c 6 ∷ c 7 ∷ c 1 ∷ c 29 ∷ next ∷ many ∷ key ∷ args) →
    ((k : ℕ) → k ≢ 0 → k ≢ 2 → k ≢ 3 → k ≢ 5 → IsKept k → (heap_at + sh.top ≤ k → trail_at ≤ k) → c' k ≡ c k) → Opened t outer sh c' trail way n many m
opened_in t sh c c' trail m way n routine next many key args mid room size as_many way_is last heap choice mark row others =
    let s = mid.state in
    let top = s.heap in
    let vars_are = s.vars in
    let fits : sh.top + (10 + n) + 0 ≤ 10000 = omega arith in
    let same : (k : ℕ) → k < sh.top → c' (heap_at + k) ≡ c (heap_at + k) = λ k lt. others (heap_at + k) (λ e. (omega arith)) (λ e. (omega arith)) (λ e. (omega arith)) (λ e. (omega arith)) (high_kept (heap_at + k) (omega arith)) (λ q. (omega arith)) in
    let free : (j : ℕ) → j < 0 → c' (heap_at + (sh.top + (10 + n) + j)) ≡ at_place (sh.top + (10 + n) + j) = λ j lt. absurd (omega arith) in
    let s1 = made sh c c' m.state.subst s.shape s.low s.stands s.known (10 + n) 0 fits same free in
    let g = made_grown sh c c' m.state.subst s.shape s.low s.stands s.known (10 + n) 0 fits same free in
    let low : (k : ℕ) → k ≢ 0 → k ≢ 2 → k ≢ 3 → k ≢ 5 → k ≤ 7 → c' k ≡ c k = λ k n0 n2 n3 n5 le. others k n0 n2 n3 n5 (low_kept k le) (λ q. (omega arith)) in
    let words = c 5 ∷ routine ∷ c 4 ∷ c 6 ∷ c 7 ∷ c 1 ∷ c 29 ∷ next ∷ many ∷ key ∷ args in
    let few : sh.top ≤ 10000 = omega arith in
    let mark_here : IsMark sh m.state.vars sh.top = subst (λ (v : ℕ). IsMark sh v sh.top) s.vars (new_mark sh s.low few) in
    let cells_are : CellsAre s1 (sh.top + 0) words = row_cells s1 sh.top c' (10 + n) 0 words (λ j lt. (block_cell sh c c' m.state.subst s.shape s.low s.stands s.known (10 + n) 0 fits same free j lt, tt)) (omega arith) row in
    let zero_at : sh.top + 0 ≡ m.state.heap = omega arith in
    let saved : Saved = record { sh = sh; cells = c; trail = trail } in
    let opens = gather_words m.gathered in
    let names = length_words m.gathered in
    let same_open : open_to (length m.gathered) opens ≡ opens = ap (λ (i : ℕ). open_to i opens) (sym names) ∙ open_all opens in
    let backs : (w : Saved) → w.sh.top ≤ mid.hb → GivesBack sh c trail w → GivesBack s1 c' trail w = λ w le b. (let below = b.grown.top in back_grown w g (λ k lt. same k (omega arith)) b) in
    let high = mid.marked.high in
    let parts = stops_at t g opens mid.hb m.stops backs (boxes_stay sh s1 mid.hb high (λ k v e lt. e)) mid.stops mid.stops_under in
    let first : ChoiceIn (λ w b. ChoicesIn t w.sh w.cells w.trail (open_to (length m.gathered) opens) b m.choices) t s1 c' trail opens (c' 5) (new_choice way m) m.choices = record {
      word_is = choice ∙ ap at_place top;
      behind = c 5;
      routine = routine;
      e = c 4;
      l = c 6;
      stop = c 7;
      gather = c 29;
      next = next;
      many = many;
      key = key;
      args = args;
      cells_are = subst (λ (x : ℕ). CellsAre s1 m.state.heap (c 5 ∷ routine ∷ c 4 ∷ c 6 ∷ c 7 ∷ x ∷ c 29 ∷ next ∷ many ∷ key ∷ args)) mid.height (subst (λ (k : ℕ). CellsAre s1 k words) zero_at cells_are);
      size = size ∙ sym as_many;
      saved = saved;
      back = record { grown = g; newer = []; trail_is = refl; words = λ k lt. same k lt };
      state = record { shape = s.shape; low = s.low; stands = s.stands; known = s.known; heap = s.heap; vars = s.vars; trail_len = s.trail_len; few = s.few; few_trail = s.few_trail; told = s.told };
      marked = mark_here;
      way = way_is;
      frames = mid.frames;
      inner = mid.inner;
      stop_is = mid.stop;
      few_open = omega arith;
      gather_is = mid.rest.gather ∙ ap newest (sym same_open);
      stops = subst (λ (l : List ℕ). StopsIn t sh c trail l m.stops) (sym same_open) mid.stops;
      apart = mid.apart;
      fewer = last;
      older_are = subst (λ (l : List ℕ). ChoicesIn t sh c trail l (c 5) m.choices) (sym same_open) mid.choices;
    } in
    record {
      sh' = s1;
      grown = g;
      mid = record {
        heap = heap ∙ omega arith;
        height = low 1 (λ e. (omega arith)) (λ e. (omega arith)) (λ e. (omega arith)) (λ e. (omega arith)) (omega arith) ∙ mid.height;
        state = record {
          shape = made_shape sh c c' m.state.subst s.shape s.low s.stands s.known (10 + n) 0 fits same free;
          low = made_low sh c c' m.state.subst s.shape s.low s.stands s.known (10 + n) 0 fits same free;
          stands = made_stands sh c c' m.state.subst s.shape s.low s.stands s.known (10 + n) 0 fits same free;
          known = made_known sh c c' m.state.subst s.shape s.low s.stands s.known (10 + n) 0 fits same free;
          heap = omega arith;
          vars = omega arith;
          trail_len = s.trail_len;
          few = room;
          few_trail = s.few_trail;
          told = s.told;
        };
        on_trail = trail_stays c c' trail (λ i lt. others (trail_at + i) (λ e. (omega arith)) (λ e. (omega arith)) (λ e. (omega arith)) (λ e. (omega arith)) (high_kept (trail_at + i) (omega arith)) (λ q. (omega arith))) mid.on_trail;
        frames = subst (λ (x : ℕ). FramesIn t s1 m.stops x m.frames) (sym (low 4 (λ e. (omega arith)) (λ e. (omega arith)) (λ e. (omega arith)) (λ e. (omega arith)) (omega arith))) (grown_frames t g m.stops (c 4) m.frames mid.frames);
        choices = first;
        hb = sh.top;
        mark = mark;
        marked = grown_mark sh s1 m.state.vars sh.top g (λ k old young. absurd (omega arith)) mark_here;
        under = omega arith;
        inner = subst (λ (x : ℕ). InnersIn s1 m.stops x m.inner) (sym (low 6 (λ e. (omega arith)) (λ e. (omega arith)) (λ e. (omega arith)) (λ e. (omega arith)) (omega arith))) (grown_inner g m.stops (c 6) m.inner mid.inner);
        stop = subst (λ (x : ℕ). StopNamed x m.stop m.stops) (sym (low 7 (λ e. (omega arith)) (λ e. (omega arith)) (λ e. (omega arith)) (λ e. (omega arith)) (omega arith))) mid.stop;
        stops = parts.stops_are;
        stops_under = stops_lower t s1 c' trail opens mid.hb sh.top high m.stops parts;
        apart = apart_new t sh c trail opens m.stops mid.stops (new_choice way m) m.choices (omega arith) mid.apart;
        rest = rest_stays t c c' m.gathered (λ k lt far. others k (λ e. (omega arith)) (λ e. (omega arith)) (λ e. (omega arith)) (λ e. (omega arith)) (rest_kept k lt (λ q. (let y = far q in omega arith))) (λ q. (let y = far (omega arith) in omega arith))) mid.rest;
      };
      boxes = λ k v e lt. e;
      many_is = refl;
    }
