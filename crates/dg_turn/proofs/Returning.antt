-- Going back to what was saved, by the newest choice or by a stoppable part: memory then stands for what it restores.
use Rattle.std.proofs.Common.{◌≡◌, ◌≢◌, ℕ, ◌+◌, ◌<◌, ◌≤◌, List, [], ◌∷◌, ◌++◌, length, Option, sym, ◌∙◌, subst, arith}
use Rattle.dg_unify.specs.Store.{State}
use Rattle.dg_mid.specs.State.{Place, Frame, Stop, Choice, Mid}
use Rattle.dg_mid.specs.Step.{gathered_to, back_at}
use Rattle.dg_rt.proofs.Backs.{grown_none, back_grown, trail_stays}
use Rattle.dg_rt.specs.Areas.{heap_at, trail_at}
use Rattle.dg_rt.specs.Back.{Saved, GivesBack, undone, OnTrail}
use Rattle.dg_rt.specs.Moments.{IsMark}
use Rattle.dg_rt.specs.Shapes.{Shape}
use Rattle.dg_turn.proofs.Resting.{words_to, rest_back}
use Rattle.dg_turn.proofs.Growing.{stops_at, choices_at, both_there, stands_same}
use Rattle.dg_turn.proofs.Staying.{mid_alike}
use Rattle.dg_turn.specs.Rest.{aux_at, gather_words, newest, open_to}
use Rattle.dg_turn.specs.Lies.{StateIn, StopNamed, FramesIn, InnersIn, StopsIn, StopsUnder, AreApart, ChoicesIn, NewestUnder, MidIn}
use Rattle.dg_turn.specs.Told.{Telling}

trail_behind : (cells : ℕ → ℕ) (xs ys : List ℕ) → OnTrail cells (xs ++ ys) → OnTrail cells ys
trail_behind cells [] ys h = h
trail_behind cells (x ∷ xs) ys h = trail_behind cells xs ys h.1

-- what an older choice or stoppable part saved is no more than what it is found in
under_top : (t : Telling) (sh : Shape) (cells : ℕ → ℕ) (trail opens : List ℕ) (word : ℕ) (cs : List Choice) (h : ChoicesIn t sh cells trail opens word cs) → NewestUnder t sh cells trail opens word sh.top cs h
under_top t sh cells trail opens word [] h = tt
under_top t sh cells trail opens word (c ∷ cs) h = h.back.grown.top

stops_under_top : (t : Telling) (sh : Shape) (cells : ℕ → ℕ) (trail opens : List ℕ) (ss : List Stop) (h : StopsIn t sh cells trail opens ss) → StopsUnder t sh cells trail opens sh.top ss h
stops_under_top t sh cells trail opens [] h = tt
stops_under_top t sh cells trail opens (s ∷ ss) h = h.back.grown.top

-- ## What was saved

module _ (t : Telling) {outer : ℕ → ℕ} (sh : Shape) (cells cells' : ℕ → ℕ) (trail : List ℕ) (m : Mid) (mid : MidIn t outer sh cells trail m) (w : Saved) (back : GivesBack sh cells trail w)
    (words : (k : ℕ) → k < w.sh.top → cells' (heap_at + k) ≡ undone back.newer cells (heap_at + k)) (old : (i : ℕ) → i < length w.trail → cells' (trail_at + i) ≡ cells (trail_at + i))
    (n : ℕ) (gather : cells' 29 ≡ newest (open_to n (gather_words m.gathered))) (others : (k : ℕ) → 27 < k → k ≢ 29 → (35 < k → aux_at ≤ k) → cells' k ≡ cells k) where
  abbrev opens : List ℕ
  opens = open_to n (gather_words m.gathered)

  same : (k : ℕ) → k < w.sh.top → cells' (heap_at + k) ≡ w.cells (heap_at + k)
  same k lt = words k lt ∙ back.words k lt

  -- Undoing has given it back, and the registers name what was kept with it.
  pub back_in : (s : State) (fs : List Frame) (ps : List Place) (ss : List Stop) (stop : Option ℕ) (cs : List Choice) → StateIn t w.sh w.cells w.trail s → IsMark w.sh s.since w.sh.top → FramesIn t w.sh ss (cells' 4) fs → InnersIn w.sh ss (cells' 6) ps → StopNamed (cells' 7) stop ss → StopsIn t w.sh w.cells w.trail opens ss →
      (word : ℕ) → cells' 5 ≡ word → ChoicesIn t w.sh w.cells w.trail opens word cs → AreApart ss cs → cells' 3 ≡ s.heap → cells' 1 ≡ s.trail → cells' 2 ≡ 32768 + w.sh.top → MidIn t outer w.sh cells' w.trail (record m { frames = fs; inner = ps; choices = cs; stops = ss; stop = stop; gathered = gathered_to n m.gathered; state = s })
  back_in s fs ps ss stop cs state marked frames inner stop_is stops word choice choices apart top height mark =
      let backs : (u : Saved) → u.sh.top ≤ w.sh.top → GivesBack w.sh w.cells w.trail u → GivesBack w.sh cells' w.trail u = λ u le b. back_grown u (grown_none w.sh) (λ k lt. same k (omega arith)) b in
      let there = choices_at t (grown_none w.sh) opens word (cells' 5) w.sh.top cs choice backs choices (under_top t w.sh w.cells w.trail opens word cs choices) in
      let parts = stops_at t (grown_none w.sh) opens w.sh.top ss backs (λ u le b. b) stops (stops_under_top t w.sh w.cells w.trail opens ss stops) in
      let all = both_there t w.sh cells' w.trail opens (gather_words (gathered_to n m.gathered)) (cells' 5) w.sh.top cs ss (sym (words_to n m.gathered)) there parts in
      record {
        heap = top;
        height = height;
        state = record { shape = state.shape; low = state.low; stands = stands_same w.sh w.cells cells' s.subst state.low same state.stands; known = state.known; heap = state.heap; vars = state.vars; trail_len = state.trail_len; few = state.few; few_trail = state.few_trail; told = state.told };
        on_trail = trail_stays cells cells' w.trail old (trail_behind cells back.newer w.trail (subst (OnTrail cells) back.trail_is mid.on_trail));
        frames = frames;
        choices = all.choices_are;
        hb = w.sh.top;
        mark = mark;
        marked = marked;
        under = all.under;
        inner = inner;
        stop = stop_is;
        stops = all.stops_are;
        stops_under = all.stops_under;
        apart = apart;
        rest = rest_back t cells cells' m.gathered n others gather mid.rest;
      }

-- ## The newest choice

module _ (t : Telling) {outer : ℕ → ℕ} (sh : Shape) (cells cells' : ℕ → ℕ) (trail : List ℕ) (m : Mid) (c : Choice) (cs : List Choice) (mid : MidIn t outer sh cells trail m) (h : ChoicesIn t sh cells trail (gather_words m.gathered) (cells 5) (c ∷ cs))
    (words : (k : ℕ) → k < h.saved.sh.top → cells' (heap_at + k) ≡ undone h.back.newer cells (heap_at + k)) (old : (i : ℕ) → i < length h.saved.trail → cells' (trail_at + i) ≡ cells (trail_at + i))
    (top : cells' 3 ≡ c.state.heap) (height : cells' 1 ≡ c.state.trail) (mark : cells' 2 ≡ 32768 + h.saved.sh.top) (frame : cells' 4 ≡ h.e) (choice : cells' 5 ≡ h.behind) (inner : cells' 6 ≡ h.l) (stop : cells' 7 ≡ h.stop) (gather : cells' 29 ≡ h.gather)
    (others : (k : ℕ) → 27 < k → k ≢ 29 → (35 < k → aux_at ≤ k) → cells' k ≡ cells k) where
  -- Undoing has given back the words, and the registers are restored.
  pub goes_back_in : MidIn t outer h.saved.sh cells' h.saved.trail (back_at c cs m)
  goes_back_in =
      let w = h.saved in
      let frames_in = subst (λ (x : ℕ). FramesIn t w.sh c.stops x c.frames) (sym frame) h.frames in
      let inner_in = subst (λ (x : ℕ). InnersIn w.sh c.stops x c.inner) (sym inner) h.inner in
      let stop_in = subst (λ (x : ℕ). StopNamed x c.stop c.stops) (sym stop) h.stop_is in
      let all = back_in t sh cells cells' trail m mid w h.back words old c.height (gather ∙ h.gather_is) others c.state c.frames c.inner c.stops c.stop cs h.state h.marked frames_in inner_in stop_in h.stops h.behind choice h.older_are h.apart top height mark in
      mid_alike t w.sh cells' w.trail (record m { frames = c.frames; inner = c.inner; choices = cs; stops = c.stops; stop = c.stop; gathered = gathered_to c.height m.gathered; state = c.state }) m.ops c.place.tag m.lasting all
