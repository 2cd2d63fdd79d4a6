-- What stands for frames, inner constructs and choices stands for them in a grown shape.
use Rattle.std.proofs.Common.{◌≡◌, ℕ, zero, suc, ◌+◌, ◌<◌, ◌≤◌, Bool, true, false, List, [], ◌∷◌, length, Option, Some, None, sym, ap, ◌∙◌, subst, arith}
use Rattle.std.specs.Prelude.{nat_lt, if◌then◌else◌}
use Rattle.dg_meaning.specs.Substitutions.{Substitution}
use Rattle.dg_meaning.specs.Values.{Value}
use Rattle.dg_mid.specs.State.{Place, Frame, Stop, Choice, cut_choices}
use Rattle.dg_rt.proofs.Backs.{back_then}
use Rattle.dg_rt.proofs.Grows.{grown_cell, grown_shows}
use Rattle.dg_rt.specs.Areas.{heap_at}
use Rattle.dg_rt.specs.Back.{Saved, Grown, GivesBack}
use Rattle.dg_rt.specs.Frames.{InRow, InCells, Captured}
use Rattle.dg_rt.specs.Shapes.{Shape, Shows, Stands}
use Rattle.dg_turn.specs.Lies.{StopNamed, GathersIn, InnersIn, FramesIn, CellsAre, BoxesStay, StopsIn, StopsUnder, ChoicesIn, NewestUnder, EndsBefore, AreApart}
use Rattle.dg_turn.specs.Rest.{newest, open_to}
use Rattle.dg_turn.specs.Told.{Telling}
use Rattle.dg_turn.proofs.Resting.{length_open, open_in}

-- ## Growing

pub grown_row : {sh sh' : Shape} → Grown sh sh' → (k : ℕ) (vs : List Value) → InRow sh k vs → InRow sh' k vs
grown_row g k [] h = tt
grown_row g k (v ∷ vs) h = (grown_shows g h.0, grown_row g (suc k) vs h.1)

grown_cells : {sh sh' : Shape} → Grown sh sh' → (k : ℕ) (vs : List Value) → InCells sh k vs → InCells sh' k vs
grown_cells g k [] h = tt
grown_cells {sh} {sh'} g k (v ∷ vs) h = (g.others k h.0, subst (λ (x : ℕ). Shows sh' x v) (sym (g.fixed k h.0)) (grown_shows g h.1), grown_cells g (suc k) vs h.2)

pub grown_captured : {sh sh' : Shape} → Grown sh sh' → (c : ℕ) (vs : List Value) → Captured sh c vs → Captured sh' c vs
grown_captured g zero vs h = h
grown_captured g (suc n) vs h = record { at = h.at; word_is = h.word_is; within = h.within; count = grown_cell g h.count; values = grown_cells g (h.at + 3) vs h.values }

grown_gathers : {sh sh' : Shape} → Grown sh sh' → (word : ℕ) (v : Option Value) → GathersIn sh word v → GathersIn sh' word v
grown_gathers g word None h = h
grown_gathers g word (Some v) h = grown_shows g h

pub grown_inner : {sh sh' : Shape} → Grown sh sh' → (ss : List Stop) (word : ℕ) (ps : List Place) → InnersIn sh ss word ps → InnersIn sh' ss word ps
grown_inner g ss word [] h = h
grown_inner g ss word (p ∷ ps) h = let top = g.top in let below = h.below in record {
  word_is = h.word_is;
  below = omega arith;
  l = h.l;
  l_is = grown_cell g h.l_is;
  stop = h.stop;
  stop_is = grown_cell g h.stop_is;
  outer_is = h.outer_is;
  value = h.value;
  value_is = grown_cell g h.value_is;
  gathers_is = grown_gathers g h.value p.gathers h.gathers_is;
  around_is = grown_inner g ss h.l ps h.around_is;
}

pub grown_frames : (t : Telling) {sh sh' : Shape} → Grown sh sh' → (ss : List Stop) (word : ℕ) (fs : List Frame) → FramesIn t sh ss word fs → FramesIn t sh' ss word fs
grown_frames t g ss word [] h = h
grown_frames t g ss word (f ∷ fs) h =
    let top = g.top in
    let below = h.below in
    record {
      at = h.at;
      word_is = h.word_is;
      captured = h.captured;
      own = h.own;
      vars = h.vars;
      below = omega arith;
      e = h.e;
      e_is = grown_cell g h.e_is;
      next = grown_cell g h.next;
      cut = grown_cell g h.cut;
      l = h.l;
      l_is = grown_cell g h.l_is;
      many = grown_cell g h.many;
      c = h.c;
      c_is = grown_cell g h.c_is;
      closure = grown_captured g h.c h.captured h.closure;
      row = grown_row g (h.at + 6) h.own h.row;
      inner = grown_inner g ss h.l f.inner h.inner;
      behind_is = grown_frames t g ss h.e fs h.behind_is;
    }

grown_cells_are : {sh sh' : Shape} → Grown sh sh' → (k : ℕ) (xs : List ℕ) → CellsAre sh k xs → CellsAre sh' k xs
grown_cells_are g k [] h = tt
grown_cells_are g k (x ∷ xs) h = (grown_cell g h.0, grown_cells_are g (suc k) xs h.1)

-- ## One more stoppable part

pub pushed_stop : (s : Stop) (ss : List Stop) (word : ℕ) (o : Option ℕ) → StopNamed word o ss → StopNamed word o (s ∷ ss)
pushed_stop s ss word None h = h
pushed_stop s ss word (Some tag) h = record { within = s ∷ h.within; part = h.part; around = h.around; is = ap (λ (l : List Stop). s ∷ l) h.is; tag_is = h.tag_is; word_is = h.word_is }

pub pushed_inner : (sh : Shape) (s : Stop) (ss : List Stop) (word : ℕ) (ps : List Place) → InnersIn sh ss word ps → InnersIn sh (s ∷ ss) word ps
pushed_inner sh s ss word [] h = h
pushed_inner sh s ss word (p ∷ ps) h = record {
  word_is = h.word_is;
  below = h.below;
  l = h.l;
  l_is = h.l_is;
  stop = h.stop;
  stop_is = h.stop_is;
  outer_is = pushed_stop s ss h.stop p.outer h.outer_is;
  value = h.value;
  value_is = h.value_is;
  gathers_is = h.gathers_is;
  around_is = pushed_inner sh s ss h.l ps h.around_is;
}

pub pushed_frames : (t : Telling) (sh : Shape) (s : Stop) (ss : List Stop) (word : ℕ) (fs : List Frame) → FramesIn t sh ss word fs → FramesIn t sh (s ∷ ss) word fs
pushed_frames t sh s ss word [] h = h
pushed_frames t sh s ss word (f ∷ fs) h = record {
  at = h.at;
  word_is = h.word_is;
  captured = h.captured;
  own = h.own;
  vars = h.vars;
  below = h.below;
  e = h.e;
  e_is = h.e_is;
  next = h.next;
  cut = h.cut;
  l = h.l;
  l_is = h.l_is;
  many = h.many;
  c = h.c;
  c_is = h.c_is;
  closure = h.closure;
  row = h.row;
  inner = pushed_inner sh s ss h.l f.inner h.inner;
  behind_is = pushed_frames t sh s ss h.e fs h.behind_is;
}

-- ## Stoppable parts

-- The boxes of a grown shape in front of the top of the first are the first's.
abbrev pub BoxesNew : Shape → Shape → Type 0
BoxesNew sh sh' = (k : ℕ) (v : Value) → sh'.box k ≡ Some v → k < sh.top → sh.box k ≡ Some v

-- so what undoing gives back knows them
pub boxes_stay : (sh sh' : Shape) (hb : ℕ) → hb ≤ sh.top → BoxesNew sh sh' → (w : Saved) → w.sh.top ≤ hb → BoxesStay sh w → BoxesStay sh' w
boxes_stay sh sh' hb high new w le stay k v e lt = stay k v (new k v e (omega arith)) lt

-- Stoppable parts lie there, and the innermost is under a mark.
pub record StopsThere (t : Telling) (sh : Shape) (cells : ℕ → ℕ) (trail opens : List ℕ) (hb : ℕ) (ss : List Stop) : Type 0 where
  pub stops_are : StopsIn t sh cells trail opens ss
  pub under : StopsUnder t sh cells trail opens hb ss stops_are

-- they stay where undoing gives back the same of what was saved at a mark
pub stops_at : (t : Telling) {sh sh' : Shape} {cells cells' : ℕ → ℕ} {trail trail' : List ℕ} → Grown sh sh' → (opens : List ℕ) (hb : ℕ) (ss : List Stop) → ((w : Saved) → w.sh.top ≤ hb → GivesBack sh cells trail w → GivesBack sh' cells' trail' w) →
    ((w : Saved) → w.sh.top ≤ hb → BoxesStay sh w → BoxesStay sh' w) → (h : StopsIn t sh cells trail opens ss) → StopsUnder t sh cells trail opens hb ss h → StopsThere t sh' cells' trail' opens hb ss
stops_at t g opens hb [] backs boxes h u = record { stops_are = tt; under = tt }
stops_at t g opens hb (s ∷ ss) backs boxes h u = record {
  stops_are = record {
    routine = h.routine;
    e = h.e;
    l = h.l;
    stop = h.stop;
    gather = h.gather;
    cells_are = grown_cells_are g (suc s.place.height) (h.routine ∷ h.e ∷ h.l ∷ h.stop ∷ s.state.trail ∷ h.gather ∷ []) h.cells_are;
    below = let top = g.top in let below = h.below in omega arith;
    block = h.block;
    outer_is = h.outer_is;
    few_open = h.few_open;
    gather_is = h.gather_is;
    saved = h.saved;
    back = backs h.saved u h.back;
    boxes = boxes h.saved u h.boxes;
    state = h.state;
    marked = h.marked;
    frames = h.frames;
    inner = h.inner;
    older_are = h.older_are;
  };
  under = u;
}

-- the innermost is left
pub stops_drop : (t : Telling) {sh : Shape} {cells : ℕ → ℕ} {trail : List ℕ} (opens : List ℕ) (hb : ℕ) (s : Stop) (ss : List Stop) → (h : StopsIn t sh cells trail opens (s ∷ ss)) → h.saved.sh.top ≤ hb → StopsThere t sh cells trail opens hb ss
stops_drop t opens hb s [] h le = record { stops_are = tt; under = tt }
stops_drop t opens hb s (d ∷ ss) h le =
    let o = h.older_are in
    let size = length_open s.height opens h.few_open in
    let few = o.few_open in
    let few' = h.few_open in
    let fewer = open_in d.height s.height opens (omega arith) h.few_open in
    let top = o.back.grown.top in
    record {
      stops_are = record {
        routine = o.routine;
        e = o.e;
        l = o.l;
        stop = o.stop;
        gather = o.gather;
        cells_are = grown_cells_are h.back.grown (suc d.place.height) (o.routine ∷ o.e ∷ o.l ∷ o.stop ∷ d.state.trail ∷ o.gather ∷ []) o.cells_are;
        below = let all = h.back.grown.top in let below = o.below in omega arith;
        block = o.block;
        outer_is = o.outer_is;
        few_open = omega arith;
        gather_is = o.gather_is ∙ ap newest fewer;
        saved = o.saved;
        back = back_then h.saved o.saved h.back o.back;
        boxes = λ k v e lt. o.boxes k v (h.boxes k v e (omega arith)) lt;
        state = o.state;
        marked = o.marked;
        frames = o.frames;
        inner = o.inner;
        older_are = subst (λ (l : List ℕ). StopsIn t o.saved.sh o.saved.cells o.saved.trail l ss) fewer o.older_are;
      };
      under = omega arith;
    }

-- ## Choices

-- Choices lie there, and the newest is under a mark.
pub record ChoicesThere (t : Telling) (sh : Shape) (cells : ℕ → ℕ) (trail opens : List ℕ) (word hb : ℕ) (cs : List Choice) : Type 0 where
  pub choices_are : ChoicesIn t sh cells trail opens word cs
  pub under : NewestUnder t sh cells trail opens word hb cs choices_are

-- choices stay where undoing gives back the same of what was saved at a mark
pub choices_at : (t : Telling) {sh sh' : Shape} {cells cells' : ℕ → ℕ} {trail trail' : List ℕ} → Grown sh sh' → (opens : List ℕ) (word word' hb : ℕ) (cs : List Choice) → word' ≡ word →
    ((w : Saved) → w.sh.top ≤ hb → GivesBack sh cells trail w → GivesBack sh' cells' trail' w) → (h : ChoicesIn t sh cells trail opens word cs) → NewestUnder t sh cells trail opens word hb cs h → ChoicesThere t sh' cells' trail' opens word' hb cs
choices_at t g opens word word' hb [] e backs h u = record { choices_are = e ∙ h; under = tt }
choices_at t g opens word word' hb (c ∷ cs) e backs h u = record {
  choices_are = record {
    word_is = e ∙ h.word_is;
    behind = h.behind;
    routine = h.routine;
    e = h.e;
    l = h.l;
    stop = h.stop;
    gather = h.gather;
    next = h.next;
    many = h.many;
    key = h.key;
    args = h.args;
    cells_are = grown_cells_are g c.place.height (h.behind ∷ h.routine ∷ h.e ∷ h.l ∷ h.stop ∷ c.state.trail ∷ h.gather ∷ h.next ∷ h.many ∷ h.key ∷ h.args) h.cells_are;
    size = h.size;
    saved = h.saved;
    back = backs h.saved u h.back;
    state = h.state;
    marked = h.marked;
    way = h.way;
    frames = h.frames;
    inner = h.inner;
    stop_is = h.stop_is;
    few_open = h.few_open;
    gather_is = h.gather_is;
    stops = h.stops;
    apart = h.apart;
    fewer = h.fewer;
    older_are = h.older_are;
  };
  under = u;
}

-- the newest choice is dropped
pub choices_drop : (t : Telling) {sh : Shape} {cells : ℕ → ℕ} {trail : List ℕ} (opens : List ℕ) (word hb : ℕ) (c : Choice) (cs : List Choice) → (h : ChoicesIn t sh cells trail opens word (c ∷ cs)) → h.saved.sh.top ≤ hb → ChoicesThere t sh cells trail opens h.behind hb cs
choices_drop t opens word hb c [] h le = record { choices_are = h.older_are; under = tt }
choices_drop t opens word hb c (d ∷ cs) h le =
    let o = h.older_are in
    let size = length_open c.height opens h.few_open in
    let few = o.few_open in
    let few' = h.few_open in
    let fewer = open_in d.height c.height opens (omega arith) h.few_open in
    record {
      choices_are = record {
        word_is = o.word_is;
        behind = o.behind;
        routine = o.routine;
        e = o.e;
        l = o.l;
        stop = o.stop;
        gather = o.gather;
        next = o.next;
        many = o.many;
        key = o.key;
        args = o.args;
        cells_are = grown_cells_are h.back.grown d.place.height (o.behind ∷ o.routine ∷ o.e ∷ o.l ∷ o.stop ∷ d.state.trail ∷ o.gather ∷ o.next ∷ o.many ∷ o.key ∷ o.args) o.cells_are;
        size = o.size;
        saved = o.saved;
        back = back_then h.saved o.saved h.back o.back;
        state = o.state;
        marked = o.marked;
        way = o.way;
        frames = o.frames;
        inner = o.inner;
        stop_is = o.stop_is;
        few_open = omega arith;
        gather_is = o.gather_is ∙ ap newest fewer;
        stops = subst (λ (l : List ℕ). StopsIn t o.saved.sh o.saved.cells o.saved.trail l d.stops) fewer o.stops;
        apart = o.apart;
        fewer = o.fewer;
        older_are = subst (λ (l : List ℕ). ChoicesIn t o.saved.sh o.saved.cells o.saved.trail l o.behind cs) fewer o.older_are;
      };
      under = let top = o.back.grown.top in omega arith;
    }

-- Both, by the names of the gatherings that are open.
pub record BothThere (t : Telling) (sh : Shape) (cells : ℕ → ℕ) (trail opens : List ℕ) (word hb : ℕ) (cs : List Choice) (ss : List Stop) : Type 0 where
  pub choices_are : ChoicesIn t sh cells trail opens word cs
  pub under : NewestUnder t sh cells trail opens word hb cs choices_are
  pub stops_are : StopsIn t sh cells trail opens ss
  pub stops_under : StopsUnder t sh cells trail opens hb ss stops_are

pub both_there : (t : Telling) (sh : Shape) (cells : ℕ → ℕ) (trail opens opens' : List ℕ) (word hb : ℕ) (cs : List Choice) (ss : List Stop) → opens ≡ opens' → ChoicesThere t sh cells trail opens word hb cs → StopsThere t sh cells trail opens hb ss → BothThere t sh cells trail opens' word hb cs ss
both_there t sh cells trail opens opens' word hb cs ss e a b = subst (λ (l : List ℕ). BothThere t sh cells trail l word hb cs ss) e (record { choices_are = a.choices_are; under = a.under; stops_are = b.stops_are; stops_under = b.under })

-- ## Choices beside stoppable parts

ends_cut : (at few : ℕ) (p : Place) (cs : List Choice) → EndsBefore at few cs → EndsBefore at few (cut_choices p cs)
ends_cut at few p [] h = tt
ends_cut at few p (c ∷ cs) h = by_age (ends_cut at few p cs h.1) (nat_lt c.place.tag p.tag)
  where
    by_age : EndsBefore at few (cut_choices p cs) → (b : Bool) → EndsBefore at few (if b then c ∷ cs else cut_choices p cs)
    by_age rest true = h
    by_age rest false = rest

pub apart_cut : (p : Place) (ss : List Stop) (cs : List Choice) → AreApart ss cs → AreApart ss (cut_choices p cs)
apart_cut p [] cs h = tt
apart_cut p (s ∷ ss) cs h = (ends_cut s.place.height s.height p cs h.0, apart_cut p ss cs h.1)

-- a choice on top is behind all stoppable parts
pub apart_new : (t : Telling) (sh : Shape) (cells : ℕ → ℕ) (trail opens : List ℕ) (ss : List Stop) → StopsIn t sh cells trail opens ss → (c : Choice) (cs : List Choice) → sh.top ≤ c.place.height → AreApart ss cs → AreApart ss (c ∷ cs)
apart_new t sh cells trail opens [] h c cs le apart = tt
apart_new t sh cells trail opens (s ∷ ss) h c cs le apart =
    let low = h.cells_are.0.fixed.0 in
    let top = h.back.grown.top in
    (((λ lt. absurd (omega arith)), apart.0), apart_new t h.saved.sh h.saved.cells h.saved.trail (open_to s.height opens) ss h.older_are c cs (omega arith) apart.1)

-- the last of some cells is taken
last_in : (sh : Shape) (k x : ℕ) (xs : List ℕ) → CellsAre sh k (x ∷ xs) → k + length xs < sh.top
last_in sh k x [] h = let low = h.0.fixed.0 in omega arith
last_in sh k x (y ∷ ys) h = let low = last_in sh (suc k) y ys h.1 in omega arith

-- all choices end in front of the top
pub ends_below : (t : Telling) (sh : Shape) (cells : ℕ → ℕ) (trail opens : List ℕ) (word : ℕ) (cs : List Choice) (at few : ℕ) → ChoicesIn t sh cells trail opens word cs → sh.top ≤ at → length opens ≤ few → EndsBefore at few cs
ends_below t sh cells trail opens word [] at few h le names = tt
ends_below t sh cells trail opens word (c ∷ cs) at few h le names =
    let top = h.back.grown.top in
    let size = h.size in
    let low = last_in sh (suc (suc (suc (suc (suc (suc (suc (suc (suc c.place.height))))))))) h.key h.args h.cells_are.1.1.1.1.1.1.1.1.1 in
    let named = h.few_open in
    let fewer = length_open c.height opens h.few_open in
    ((λ lt. ((omega arith), (omega arith))), ends_below t h.saved.sh h.saved.cells h.saved.trail (open_to c.height opens) h.behind cs at few h.older_are (omega arith) (omega arith))

-- ## Going back

-- words that are the same below the top stand for the same
pub stands_same : (sh : Shape) (cells cells' : ℕ → ℕ) (S : Substitution) → ((n : ℕ) → n < sh.vars → sh.place n < sh.top) → ((k : ℕ) → k < sh.top → cells' (heap_at + k) ≡ cells (heap_at + k)) → Stands sh cells S → Stands sh cells' S
stands_same sh cells cells' S low same st = record {
  sound = st.sound;
  fixed = λ k lt f. same k f.0 ∙ st.fixed k lt f;
  unbound = λ n lt e. same (sh.place n) (low n lt) ∙ st.unbound n lt e;
  bound = λ n v lt e. subst (λ (x : ℕ). Shows sh x v) (sym (same (sh.place n) (low n lt))) (st.bound n v lt e);
}
