-- Memory stands for a machine whose gatherings have changed.
use Rattle.std.proofs.Common.{◌≡◌, ◌≢◌, ℕ, suc, ◌+◌, ◌-◌, ◌<◌, ◌≤◌, List, [], ◌∷◌, ◌++◌, length, drop, refl, sym, ap, ◌∙◌, subst, arith, length-append, append-nil, append_assoc}
use Rattle.std.proofs.lemmas.List.Sums.{sum_by-cons}
use Rattle.std.specs.List.{sum_by}
use Rattle.dg_meaning.specs.Values.{Label, Num, Word, Unknown, Object, Nil, Pair, Closure, Value, Var, Node, Values, NoMore, More}
use Rattle.dg_meaning.specs.ValueCells.{cells_of}
use Rattle.dg_meaning.specs.World.{Gathering, gathered_size}
use Rattle.dg_mid.specs.State.{Stop, Choice, Mid}
use Rattle.dg_mid.specs.Step.{with_gathering, newest_with}
use Rattle.dg_rt.specs.Areas.{heap_at, trail_at}
use Rattle.dg_rt.specs.Cells.{at_cell}
use Rattle.dg_rt.specs.Shapes.{Shape}
use Rattle.dg_rt.specs.Copies.{words_of, Row}
use Rattle.dg_rt.specs.Laying.{FormedAs, Formed, AllFormed}
use Rattle.dg_rt.specs.Gatherings.{rows_of, AreFormed, GatheredAt, NextAt, at_first, at_end}
use Rattle.dg_rt.proofs.Backs.{grown_none, back_grown, trail_stays}
use Rattle.dg_turn.specs.Told.{Telling, told_count}
use Rattle.dg_turn.specs.Rest.{aux_at, aux_end, gather_words, newest, open_to, GatheringsIn, OuterAre, RestIn}
use Rattle.dg_turn.specs.Lies.{StopNamed, FramesIn, InnersIn, OpensFewer, StopsFewer, StopsIn, ChoicesIn, MidIn}
use Rattle.dg_turn.proofs.Staying.{IsKept, low_kept, high_kept}
use Rattle.dg_turn.proofs.Growing.{StopsThere, ChoicesThere, stops_at, choices_at, stands_same}
use Rattle.dg_turn.proofs.Within.{rows_length, row_within}

-- ## Values of a program

formed_as_told : (c c' : ℕ → ℕ) → ((place : ℕ) → c place ≡ c' place) → (f : Label) (vs : Values) → FormedAs c f vs → FormedAs c' f vs
formed_as_told c c' same (Num n) NoMore fine = fine
formed_as_told c c' same (Word n) NoMore fine = fine
formed_as_told c c' same (Object n) NoMore fine = fine
formed_as_told c c' same Nil NoMore fine = fine
formed_as_told c c' same (Unknown xs) NoMore fine = fine
formed_as_told c c' same Pair (More h (More t NoMore)) fine = tt
formed_as_told c c' same (Closure place) vs fine = let s = same place in (fine.0, fine.1 ∙ s, subst (λ (n : ℕ). n < 256) s fine.2)
formed_as_told c c' same f vs fine = absurd fine

mutual
  -- What a value is formed as is told by how many values closures capture.
  pub formed_told : (c c' : ℕ → ℕ) → ((place : ℕ) → c place ≡ c' place) → (v : Value) → Formed c v → Formed c' v
  formed_told c c' same (Var x) fine = tt
  formed_told c c' same (Node f vs) fine = (formed_as_told c c' same f vs fine.0, all_told c c' same vs fine.1)

  all_told : (c c' : ℕ → ℕ) → ((place : ℕ) → c place ≡ c' place) → (vs : Values) → AllFormed c vs → AllFormed c' vs
  all_told c c' same NoMore fine = tt
  all_told c c' same (More v vs) fine = (formed_told c c' same v fine.0, all_told c c' same vs fine.1)

pub are_told : (c c' : ℕ → ℕ) → ((place : ℕ) → c place ≡ c' place) → (vs : List Value) → AreFormed c vs → AreFormed c' vs
are_told c c' same [] fine = tt
are_told c c' same (v ∷ vs) fine = (formed_told c c' same v fine.0, are_told c c' same vs fine.1)

-- ## Names that are opened and closed

-- The oldest of some names, so many, are those of others.
abbrev pub Reopened : List ℕ → List ℕ → ℕ → Type 0
Reopened opens opens' n = (n ≤ length opens') × (open_to n opens' ≡ open_to n opens)

abbrev pub ChoicesReopened : List ℕ → List ℕ → List Choice → Type 0
ChoicesReopened opens opens' [] = Unit {0}
ChoicesReopened opens opens' (c ∷ cs) = Reopened opens opens' c.height

abbrev pub StopsReopened : List ℕ → List ℕ → List Stop → Type 0
StopsReopened opens opens' [] = Unit {0}
StopsReopened opens opens' (s ∷ ss) = Reopened opens opens' s.height

same_open : (y : ℕ) (opens : List ℕ) (n : ℕ) → n ≤ length opens → open_to n (y ∷ opens) ≡ open_to n opens
same_open y opens n le = let e : suc (length opens) - n ≡ suc (length opens - n) = omega arith in ap (λ (i : ℕ). drop i (y ∷ opens)) e

same_names : (opens : List ℕ) (n : ℕ) → n ≤ length opens → Reopened opens opens n
same_names opens n le = (le, refl)

pub choices_more : (t : Telling) (sh : Shape) (cells : ℕ → ℕ) (trail : List ℕ) (y : ℕ) (opens : List ℕ) (word : ℕ) (cs : List Choice) → ChoicesIn t sh cells trail opens word cs → ChoicesReopened opens (y ∷ opens) cs
choices_more t sh cells trail y opens word [] h = tt
choices_more t sh cells trail y opens word (c ∷ cs) h = let few = h.few_open in ((omega arith), same_open y opens c.height few)

pub stops_more : (t : Telling) (sh : Shape) (cells : ℕ → ℕ) (trail : List ℕ) (y : ℕ) (opens : List ℕ) (ss : List Stop) → StopsIn t sh cells trail opens ss → StopsReopened opens (y ∷ opens) ss
stops_more t sh cells trail y opens [] h = tt
stops_more t sh cells trail y opens (s ∷ ss) h = let few = h.few_open in ((omega arith), same_open y opens s.height few)

pub choices_same : (t : Telling) (sh : Shape) (cells : ℕ → ℕ) (trail opens : List ℕ) (word : ℕ) (cs : List Choice) → ChoicesIn t sh cells trail opens word cs → ChoicesReopened opens opens cs
choices_same t sh cells trail opens word [] h = tt
choices_same t sh cells trail opens word (c ∷ cs) h = same_names opens c.height h.few_open

pub stops_same : (t : Telling) (sh : Shape) (cells : ℕ → ℕ) (trail opens : List ℕ) (ss : List Stop) → StopsIn t sh cells trail opens ss → StopsReopened opens opens ss
stops_same t sh cells trail opens [] h = tt
stops_same t sh cells trail opens (s ∷ ss) h = same_names opens s.height h.few_open

pub choices_fewer : (y : ℕ) (opens : List ℕ) (cs : List Choice) → OpensFewer (suc (length opens)) cs → ChoicesReopened (y ∷ opens) opens cs
choices_fewer y opens [] h = tt
choices_fewer y opens (c ∷ cs) h = ((omega arith), sym (same_open y opens c.height (omega arith)))

pub stops_fewer : (y : ℕ) (opens : List ℕ) (ss : List Stop) → StopsFewer (suc (length opens)) ss → StopsReopened (y ∷ opens) opens ss
stops_fewer y opens [] h = tt
stops_fewer y opens (s ∷ ss) h = ((omega arith), sym (same_open y opens s.height (omega arith)))

choices_reopened : (t : Telling) {sh : Shape} {cells : ℕ → ℕ} {trail : List ℕ} (opens opens' : List ℕ) (word hb : ℕ) (cs : List Choice) → ChoicesReopened opens opens' cs → ChoicesThere t sh cells trail opens word hb cs → ChoicesThere t sh cells trail opens' word hb cs
choices_reopened t opens opens' word hb [] e k = record { choices_are = k.choices_are; under = tt }
choices_reopened t opens opens' word hb (c ∷ cs) e k =
    let h = k.choices_are in
    record {
      choices_are = record {
        word_is = h.word_is;
        behind = h.behind;
        routine = h.routine;
        e = h.e;
        l = h.l;
        stop = h.stop;
        gather = h.gather;
        next = h.next;
        many = h.many;
        key = h.key;
        args = h.args;
        cells_are = h.cells_are;
        size = h.size;
        saved = h.saved;
        back = h.back;
        state = h.state;
        marked = h.marked;
        way = h.way;
        frames = h.frames;
        inner = h.inner;
        stop_is = h.stop_is;
        few_open = e.0;
        gather_is = h.gather_is ∙ ap newest (sym e.1);
        stops = subst (λ (l : List ℕ). StopsIn t h.saved.sh h.saved.cells h.saved.trail l c.stops) (sym e.1) h.stops;
        apart = h.apart;
        fewer = h.fewer;
        older_are = subst (λ (l : List ℕ). ChoicesIn t h.saved.sh h.saved.cells h.saved.trail l h.behind cs) (sym e.1) h.older_are;
      };
      under = k.under;
    }

stops_reopened : (t : Telling) {sh : Shape} {cells : ℕ → ℕ} {trail : List ℕ} (opens opens' : List ℕ) (hb : ℕ) (ss : List Stop) → StopsReopened opens opens' ss → StopsThere t sh cells trail opens hb ss → StopsThere t sh cells trail opens' hb ss
stops_reopened t opens opens' hb [] e k = record { stops_are = tt; under = tt }
stops_reopened t opens opens' hb (s ∷ ss) e k =
    let h = k.stops_are in
    record {
      stops_are = record {
        routine = h.routine;
        e = h.e;
        l = h.l;
        stop = h.stop;
        gather = h.gather;
        cells_are = h.cells_are;
        below = h.below;
        block = h.block;
        outer_is = h.outer_is;
        few_open = e.0;
        gather_is = h.gather_is ∙ ap newest (sym e.1);
        saved = h.saved;
        back = h.back;
        boxes = h.boxes;
        state = h.state;
        marked = h.marked;
        frames = h.frames;
        inner = h.inner;
        older_are = subst (λ (l : List ℕ). StopsIn t h.saved.sh h.saved.cells h.saved.trail l ss) (sym e.1) h.older_are;
      };
      under = k.under;
    }

-- ## The machine

-- Words that differ in registers that may be written, in the one that names a gathering, and in what is gathered, at most.
abbrev pub SameOutside : (ℕ → ℕ) → (ℕ → ℕ) → Type 0
SameOutside cells cells' = (k : ℕ) → k ≢ 0 → k ≢ 29 → IsKept k → k < aux_at → cells' k ≡ cells k

-- Memory stands for the machine with other gatherings.
pub mid_gathered : (t : Telling) {outer : ℕ → ℕ} (sh : Shape) (cells cells' : ℕ → ℕ) (trail : List ℕ) (m : Mid) (gs : List Gathering) → SameOutside cells cells' → ChoicesReopened (gather_words m.gathered) (gather_words gs) m.choices → StopsReopened (gather_words m.gathered) (gather_words gs) m.stops → RestIn t outer cells' gs → MidIn t outer sh cells trail m → MidIn t outer sh cells' trail (record m { gathered = gs })
mid_gathered t sh cells cells' trail m gs same re_choices re_stops rest h =
    let room = h.state.shape.room in
    let long = h.state.trail_len in
    let few = h.state.few_trail in
    let heap_same : (k : ℕ) → k < 10000 → cells' (heap_at + k) ≡ cells (heap_at + k) = λ k lt. same (heap_at + k) (λ e. (omega arith)) (λ e. (omega arith)) (high_kept (heap_at + k) (omega arith)) (omega arith) in
    let low : (k : ℕ) → k ≢ 0 → k ≤ 7 → cells' k ≡ cells k = λ k ne le. same k ne (λ e. (omega arith)) (low_kept k le) (omega arith) in
    let s = h.state in
    let opens = gather_words m.gathered in
    let opens' = gather_words gs in
    let there = choices_reopened t opens opens' (cells' 5) h.hb m.choices re_choices (choices_at t (grown_none sh) opens (cells 5) (cells' 5) h.hb m.choices (low 5 (λ e. (omega arith)) (omega arith)) (λ w le b. back_grown w (grown_none sh) (λ k lt. (let top = b.grown.top in heap_same k (omega arith))) b) h.choices h.under) in
    let parts = stops_reopened t opens opens' h.hb m.stops re_stops (stops_at t (grown_none sh) opens h.hb m.stops (λ w le b. back_grown w (grown_none sh) (λ k lt. (let top = b.grown.top in heap_same k (omega arith))) b) (λ w le b. b) h.stops h.stops_under) in
    record {
      heap = low 3 (λ e. (omega arith)) (omega arith) ∙ h.heap;
      height = low 1 (λ e. (omega arith)) (omega arith) ∙ h.height;
      state = record { shape = s.shape; low = s.low; stands = stands_same sh cells cells' m.state.subst s.low (λ k lt. heap_same k (omega arith)) s.stands; known = s.known; heap = s.heap; vars = s.vars; trail_len = s.trail_len; few = s.few; few_trail = s.few_trail; told = s.told };
      on_trail = trail_stays cells cells' trail (λ i lt. same (trail_at + i) (λ e. (omega arith)) (λ e. (omega arith)) (high_kept (trail_at + i) (omega arith)) (omega arith)) h.on_trail;
      frames = subst (λ (x : ℕ). FramesIn t sh m.stops x m.frames) (sym (low 4 (λ e. (omega arith)) (omega arith))) h.frames;
      choices = there.choices_are;
      hb = h.hb;
      mark = low 2 (λ e. (omega arith)) (omega arith) ∙ h.mark;
      marked = h.marked;
      under = there.under;
      inner = subst (λ (x : ℕ). InnersIn sh m.stops x m.inner) (sym (low 6 (λ e. (omega arith)) (omega arith))) h.inner;
      stop = subst (λ (x : ℕ). StopNamed x m.stop m.stops) (sym (low 7 (λ e. (omega arith)) (omega arith))) h.stop;
      stops = parts.stops_are;
      stops_under = parts.under;
      apart = h.apart;
      rest = rest;
    }

-- ## What is gathered

-- a gathering has two words and those of its values
pub size_more : (x : Gathering) (xs : List Gathering) → gathered_size (x ∷ xs) ≡ 2 + length (rows_of x.values) + gathered_size xs
size_more x xs =
    let size = rows_length x.values in
    let sum = sum_by-cons (λ (g : Gathering). 2 + sum_by (λ v. length (cells_of v)) g.values) x xs in
    omega arith

-- The newest gathering lies where its register says.
pub gathered_at : (t : Telling) {outer : ℕ → ℕ} (cells : ℕ → ℕ) (x : Gathering) (xs : List Gathering) → RestIn t outer cells (x ∷ xs) → GatheredAt cells (aux_at + gathered_size xs) (newest (gather_words xs)) x.values
gathered_at t cells x xs h =
    let a = h.gatherings.0 in
    let room = a.room in
    let size = size_more x xs in
    record {
      low = omega arith;
      high = omega arith;
      named = h.gather;
      before = a.before;
      end = a.end ∙ (omega arith);
      values = a.values;
    }

-- The next one lies behind all of them.
pub next_at : (t : Telling) {outer : ℕ → ℕ} (cells : ℕ → ℕ) (gs : List Gathering) → RestIn t outer cells gs → NextAt cells (aux_at + gathered_size gs)
next_at t cells [] h = at_first h.gather (omega arith)
next_at t cells (x ∷ xs) h = let size = size_more x xs in at_end (aux_at + gathered_size xs) (newest (gather_words xs)) x.values (gathered_at t cells x xs h) (omega arith)

-- all of them are within their area
pub within_area : (t : Telling) (cells : ℕ → ℕ) (gs : List Gathering) → GatheringsIn t cells gs → gathered_size gs ≤ 2000
within_area t cells [] h = omega arith
within_area t cells (x ∷ xs) h = h.0.room

-- What lies in front of a place stays where nothing in front of it is written.
pub gatherings_below : (t : Telling) (cells cells' : ℕ → ℕ) (gs : List Gathering) (end : ℕ) → aux_at + gathered_size gs ≤ end → ((k : ℕ) → aux_at ≤ k → k < end → cells' k ≡ cells k) → GatheringsIn t cells gs → GatheringsIn t cells' gs
gatherings_below t cells cells' [] end le same h = tt
gatherings_below t cells cells' (x ∷ xs) end le same h =
    let a = h.0 in
    let size = size_more x xs in (
      record {
        before = same (aux_at + gathered_size xs) (omega arith) (omega arith) ∙ a.before;
        end = same (aux_at + gathered_size xs + 1) (omega arith) (omega arith) ∙ a.end;
        values = row_within cells cells' (aux_at + gathered_size xs + 2) end (rows_of x.values) (omega arith) (λ k le' lt. same k (omega arith) lt) a.values;
        formed = a.formed;
        room = a.room;
      },
      gatherings_below t cells cells' xs end (omega arith) same h.1,
    )

-- words outside stay
outside_same : {outer : ℕ → ℕ} (cells cells' : ℕ → ℕ) → ((k : ℕ) → 27 < k → k < 36 → k ≢ 29 → cells' k ≡ cells k) → ((k : ℕ) → aux_end ≤ k → cells' k ≡ cells k) → OuterAre outer cells → OuterAre outer cells'
outside_same cells cells' text areas o = record { registers = λ k low lt ne. text k low lt ne ∙ o.registers k low lt ne; areas = λ k le. areas k le ∙ o.areas k le }

-- A gathering of nothing was opened behind the others.
pub rest_opened : (t : Telling) {outer : ℕ → ℕ} (cells cells' : ℕ → ℕ) (m : Mid) → gathered_size ((with_gathering m).gathered) ≤ 2000 → cells' 29 ≡ at_cell (aux_at + gathered_size m.gathered) → cells' (aux_at + gathered_size m.gathered) ≡ cells 29 → cells' (aux_at + gathered_size m.gathered + 1) ≡ at_cell (aux_at + gathered_size m.gathered + 2) →
    ((k : ℕ) → k ≢ 29 → k ≢ aux_at + gathered_size m.gathered → k ≢ aux_at + gathered_size m.gathered + 1 → cells' k ≡ cells k) → RestIn t outer cells m.gathered → RestIn t outer cells' ((with_gathering m).gathered)
rest_opened t cells cells' m fits named before end others h =
    let new : Gathering = record { tag = m.next_tag; values = [] } in
    let size = size_more new m.gathered in
    record {
      gather = named;
      gatherings = (
        record {
          before = before ∙ h.gather;
          end = end ∙ (omega arith);
          values = tt;
          formed = tt;
          room = fits;
        },
        gatherings_below t cells cells' m.gathered (aux_at + gathered_size m.gathered) (omega arith) (λ k le lt. others k (λ e. (omega arith)) (λ e. (omega arith)) (λ e. (omega arith))) h.gatherings,
      );
      outside = outside_same cells cells' (λ k low lt ne. others k ne (λ e. (omega arith)) (λ e. (omega arith))) (λ k le. others k (λ e. (omega arith)) (λ e. (omega arith)) (λ e. (omega arith))) h.outside;
    }

-- ---- a value more

rows_on : (vs : List Value) (v : Value) → rows_of (vs ++ v ∷ []) ≡ rows_of vs ++ words_of v
rows_on [] v = append-nil (words_of v)
rows_on (u ∷ vs) v = ap (λ (l : List ℕ). words_of u ++ l) (rows_on vs v) ∙ sym (append_assoc (words_of u) (rows_of vs) (words_of v))

row_join : (c : ℕ → ℕ) (j i : ℕ) (xs ys : List ℕ) → i ≡ j + length xs → Row c j xs → Row c i ys → Row c j (xs ++ ys)
row_join c j i [] ys e a b = let same : i ≡ j = omega arith in subst (λ (k : ℕ). Row c k ys) same b
row_join c j i (x ∷ xs) ys e a b = (a.0, row_join c (suc j) i xs ys (omega arith) a.1 b)

formed_on : (captures : ℕ → ℕ) (vs : List Value) (v : Value) → AreFormed captures vs → Formed captures v → AreFormed captures (vs ++ v ∷ [])
formed_on captures [] v all one = (one, tt)
formed_on captures (u ∷ vs) v all one = (all.0, formed_on captures vs v all.1 one)

-- the newest gathering with a value more
pub size_with : (v : Value) (x : Gathering) (xs : List Gathering) → gathered_size (newest_with v (x ∷ xs)) ≡ gathered_size (x ∷ xs) + length (words_of v)
size_with v x xs =
    let x' : Gathering = record x { values = x.values ++ v ∷ [] } in
    let one = size_more x xs in
    let two = size_more x' xs in
    let rows = ap (λ (l : List ℕ). length l) (rows_on x.values v) in
    let both = length-append (rows_of x.values) (words_of v) in
    omega arith

pub rest_kept_on : (t : Telling) {outer : ℕ → ℕ} (cells cells' : ℕ → ℕ) (x : Gathering) (xs : List Gathering) (v : Value) → gathered_size (newest_with v (x ∷ xs)) ≤ 2000 → Formed (told_count t.program) v → (let j = aux_at + gathered_size xs in let k = aux_at + gathered_size xs + 2 + length (rows_of x.values) in cells' (j + 1) ≡ at_cell (k + length (words_of v)) → Row cells' k (words_of v) →
    ((i : ℕ) → i ≢ j + 1 → (k ≤ i → aux_end ≤ i) → cells' i ≡ cells i) → RestIn t outer cells (x ∷ xs) → RestIn t outer cells' (newest_with v (x ∷ xs)))
rest_kept_on t cells cells' x xs v fits fine end row others h =
    let a = h.gatherings.0 in
    let j = aux_at + gathered_size xs in
    let x' : Gathering = record x { values = x.values ++ v ∷ [] } in
    let size = size_more x xs in
    let size' = size_more x' xs in
    let more = size_with v x xs in
    record {
      gather = others 29 (λ e. (omega arith)) (λ q. (omega arith)) ∙ h.gather;
      gatherings = (
        record {
          before = others j (λ e. (omega arith)) (λ q. (omega arith)) ∙ a.before;
          end = end ∙ (omega arith);
          values = subst (Row cells' (j + 2)) (sym (rows_on x.values v)) (row_join cells' (j + 2) (j + 2 + length (rows_of x.values)) (rows_of x.values) (words_of v) refl (row_within cells cells' (j + 2) (j + 2 + length (rows_of x.values)) (rows_of x.values) (omega arith) (λ k le lt. others k (λ e. (omega arith)) (λ q. (omega arith))) a.values) row);
          formed = formed_on (told_count t.program) x.values v a.formed fine;
          room = fits;
        },
        gatherings_below t cells cells' xs j (omega arith) (λ k le lt. others k (λ e. (omega arith)) (λ q. (omega arith))) h.gatherings.1,
      );
      outside = outside_same cells cells' (λ k low lt ne. others k (λ e. (omega arith)) (λ q. (omega arith))) (λ k le. others k (λ e. (omega arith)) (λ q. le)) h.outside;
    }

-- ---- a gathering less

pub rest_taken : (t : Telling) {outer : ℕ → ℕ} (cells cells' : ℕ → ℕ) (x : Gathering) (xs : List Gathering) → cells' 29 ≡ newest (gather_words xs) → ((k : ℕ) → 27 < k → k ≢ 29 → (35 < k → aux_at ≤ k) → cells' k ≡ cells k) → RestIn t outer cells (x ∷ xs) → RestIn t outer cells' xs
rest_taken t cells cells' x xs named others h = record {
  gather = named;
  gatherings = gatherings_below t cells cells' xs (aux_at + gathered_size xs) (omega arith) (λ k le lt. others k (omega arith) (λ e. (omega arith)) (λ q. le)) h.gatherings.1;
  outside = outside_same cells cells' (λ k low lt ne. others k low ne (λ q. (omega arith))) (λ k le. others k (omega arith) (λ e. (omega arith)) (λ q. (omega arith))) h.outside;
}
