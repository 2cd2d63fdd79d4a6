-- A stoppable part is stopped, or without one the run: one turn of the story.
use Rattle.std.proofs.Common.{◌≡◌, ℕ, suc, ◌+◌, ◌-◌, ◌*◌, ◌<◌, ◌≤◌, inl, inr, List, [], ◌∷◌, ◌++◌, length, Option, Some, None, refl, sym, ap, ◌∙◌, subst, arith, length-append}
use Rattle.std.specs.Prelude.{nat_lt, eqb}
use Rattle.std.proofs.lemmas.Bool.{eq-eqb, ne_eqb, lt-ltb, le-ltb, cond-true, cond-false, cases_lt}
use Rattle.dg_base.specs.declared.run.Ending.TheVariants.{Done, Stopped}
use Rattle.dg_mid.specs.Code.{block_at}
use Rattle.dg_mid.specs.State.{Place, Stop, Choice, Mid, cut_choices, stop_to}
use Rattle.dg_mid.specs.Step.{Setting, gathered_to, stopped}
use Rattle.dg_mid.specs.Units.{dropped, unwound, unwound_to}
use Rattle.dg_mid.specs.Heights.{AgreeAll, StopsNamed, ChoicesNamed, MidOrdered}
use Rattle.dg_mid.specs.Trails.{TrailsAgreeAll, StopsTrailed, MidTrailed}
use Rattle.z_model.specs.Run.{ZState}
use Rattle.z_lang.specs.Runs.{ActsRun, Returns}
use Rattle.dg_rt.specs.declared.numbers.TheConstants.{DONE, STOPPED, UNSTOP, FAIL, LEAVE}
use Rattle.dg_rt.specs.declared.choices.TheConstants.{UNSTOP_ACTS}
use Rattle.dg_rt.specs.declared.closings.TheConstants.{DONE_ACTS, STOPPED_ACTS}
use Rattle.dg_rt.specs.declared.queries.TheConstants.{LEAVE_ACTS}
use Rattle.dg_rt.specs.Areas.{heap_at, trail_at, state}
use Rattle.dg_rt.specs.Shapes.{Shape, Cell}
use Rattle.dg_rt.specs.Back.{OnTrail, at_place}
use Rattle.dg_rt.specs.RunTime.{routine_of}
use Rattle.dg_rt.specs.Choices.{Unstops}
use Rattle.dg_rt.proofs.Stopping.{unstop_works}
use Rattle.dg_rt.proofs.Leaving.{leave_works}
use Rattle.dg_rt.proofs.Closing.{closings_work}
use Rattle.dg_turn.specs.Told.{Telling}
use Rattle.dg_turn.specs.Lies.{NamesStop, StopNamed, FramesIn, InnersIn, StopsIn, StopsUnder, AreApart, ChoicesIn, MidIn}
use Rattle.dg_turn.specs.Rest.{gather_words, open_to}
use Rattle.dg_turn.specs.Plays.{Playing, Outside, Represented, Comes}
use Rattle.dg_turn.specs.Stopping.{StopTurns, DoneTurns, NoRuleTurns}
use Rattle.dg_turn.proofs.Standing.{leave_at, unstop_at, stopped_at, done_at}
use Rattle.dg_turn.proofs.Staying.{mid_alike}
use Rattle.dg_turn.proofs.Growing.{StopsThere, stops_drop, apart_cut, ChoicesThere}
use Rattle.dg_turn.proofs.Between.{choices_left}
use Rattle.dg_turn.proofs.Cutting.{places_of, chained, left_in, fallen_is}
use Rattle.dg_turn.proofs.Returning.{back_in}
use Rattle.dg_turn.proofs.Moving.{moves, moved, closes_within, closes_then}
use Rattle.dg_turn.proofs.OnceTurn.{goto_turns}

-- ## Which part it is

-- the part of a tag is found, since those within it have greater tags
tag_less : (t h : ℕ) (cs : List Choice) (within : List Stop) (s : Stop) (around : List Stop) → StopsNamed t h cs (within ++ s ∷ around) → s.place.tag < t
tag_less t h cs [] s around n = n.1
tag_less t h cs (x ∷ within) s around n = let lt = tag_less x.place.tag x.place.height cs within s around n.5 in omega (arith, lt, n.1)

pub stop_found : (t h : ℕ) (cs : List Choice) (within : List Stop) (s : Stop) (around : List Stop) → StopsNamed t h cs (within ++ s ∷ around) → stop_to s.place.tag (within ++ s ∷ around) ≡ Some (s, around)
stop_found t h cs [] s around n = cond-true (eqb s.place.tag s.place.tag) (Some (s, around)) (stop_to s.place.tag around) (eq-eqb s.place.tag s.place.tag refl)
stop_found t h cs (x ∷ within) s around n =
    let lt = tag_less x.place.tag x.place.height cs within s around n.5 in
    cond-false (eqb x.place.tag s.place.tag) (Some (x, within ++ s ∷ around)) (stop_to s.place.tag (within ++ s ∷ around)) (ne_eqb x.place.tag s.place.tag (λ e. omega (arith, lt, e)))
    ∙ stop_found x.place.tag x.place.height cs within s around n.5

agrees_with : (t h : ℕ) (cs : List Choice) (within : List Stop) (s : Stop) (around : List Stop) → StopsNamed t h cs (within ++ s ∷ around) → AgreeAll cs s.place
agrees_with t h cs [] s around n = n.0.agrees
agrees_with t h cs (x ∷ within) s around n = agrees_with x.place.tag x.place.height cs within s around n.5

high_as : (t h : ℕ) (cs : List Choice) (within : List Stop) (s : Stop) (around : List Stop) → StopsNamed t h cs (within ++ s ∷ around) → s.state.heap ≡ s.place.height
high_as t h cs [] s around n = n.2
high_as t h cs (x ∷ within) s around n = high_as x.place.tag x.place.height cs within s around n.5

trailed_with : (t r : ℕ) (cs : List Choice) (within : List Stop) (s : Stop) (around : List Stop) → StopsTrailed t r cs (within ++ s ∷ around) → TrailsAgreeAll cs s.place.tag s.state.trail
trailed_with t r cs [] s around n = n.2
trailed_with t r cs (x ∷ within) s around n = trailed_with x.place.tag x.state.trail cs within s around n.3

-- those within it are left
stops_behind : (t : Telling) {sh : Shape} {cells : ℕ → ℕ} {trail : List ℕ} (opens : List ℕ) (hb : ℕ) (within : List Stop) (ss : List Stop) → (h : StopsIn t sh cells trail opens (within ++ ss)) → StopsUnder t sh cells trail opens hb (within ++ ss) h → StopsThere t sh cells trail opens hb ss
stops_behind t opens hb [] ss h u = record { stops_are = h; under = u }
stops_behind t opens hb (x ∷ within) ss h u = let d = stops_drop t opens hb x (within ++ ss) h u in stops_behind t opens hb within ss d.stops_are d.under

apart_behind : (within : List Stop) (s : Stop) (around : List Stop) (cs : List Choice) → AreApart (within ++ s ∷ around) cs → AreApart (s ∷ around) cs
apart_behind [] s around cs h = h
apart_behind (x ∷ within) s around cs h = apart_behind within s around cs h.1

-- what is left of choices is older
record Older (p : Place) (r : ℕ) (c : Choice) : Type 0 where
  lower : c.place.height < p.height
  high : c.state.heap ≡ c.place.height
  shorter : c.state.trail ≤ r

left_older : (p : Place) (r u v : ℕ) (cs : List Choice) → ChoicesNamed u v cs → AgreeAll cs p → TrailsAgreeAll cs p.tag r → (c : Choice) (ds : List Choice) → cut_choices p cs ≡ c ∷ ds → Older p r c
left_older p r u v [] n a b c ds e = absurd (cc)
left_older p r u v (x ∷ xs) n a b c ds e = elim (cases_lt x.place.tag p.tag) [
  | inl lt ↦
      let stays : cut_choices p (x ∷ xs) ≡ x ∷ xs = cond-true (nat_lt x.place.tag p.tag) (x ∷ xs) (cut_choices p xs) (lt-ltb x.place.tag p.tag lt) in
      let both : x ∷ xs ≡ c ∷ ds = sym stays ∙ e in
      let same : x ≡ c = cc in
      subst (Older p r) same (record { lower = a.0.older lt; high = n.2; shorter = b.0.older lt })
  | inr ge ↦
      let falls : cut_choices p (x ∷ xs) ≡ cut_choices p xs = cond-false (nat_lt x.place.tag p.tag) (x ∷ xs) (cut_choices p xs) (le-ltb x.place.tag p.tag ge) in
      left_older p r x.place.tag x.place.height xs n.5 a.1 b.1 c ds (sym falls ∙ e)
]

-- ## The turn

module _ (g : Setting) (t : Telling) (plays : Playing t) (out : Outside) (m : Mid) (within : List Stop) (part : Stop) (around : List Stop) (z : ZState) (is : m.stops ≡ within ++ part ∷ around) (ordered : MidOrdered m) (trails : MidTrailed m)
    (r : Represented t out (t.p.names.routine UNSTOP) m z) (word_is : r.cells 7 ≡ at_place part.place.height) where
  abbrev c : ℕ → ℕ
  c = r.cells

  abbrev at : ℕ
  at = part.place.height

  abbrev opens : List ℕ
  opens = gather_words m.gathered

  abbrev ks : List ℕ
  ks = places_of m.choices

  abbrev left : List Choice
  left = cut_choices part.place m.choices

  named : StopsNamed m.next_tag m.state.heap m.choices (within ++ part ∷ around)
  named = subst (StopsNamed m.next_tag m.state.heap m.choices) is ordered.named.stops_are

  agrees : AgreeAll m.choices part.place
  agrees = agrees_with m.next_tag m.state.heap m.choices within part around named

  shorter : TrailsAgreeAll m.choices part.place.tag part.state.trail
  shorter = trailed_with m.next_tag m.state.trail m.choices within part around (subst (StopsTrailed m.next_tag m.state.trail m.choices) is trails.0)

  -- the part lies in memory as it is
  there : StopsThere t r.sh c r.trail opens r.mid.hb (part ∷ around)
  there = by_list m.stops is r.mid.stops r.mid.stops_under
    where
      by_list : (ss : List Stop) → ss ≡ within ++ part ∷ around → (h : StopsIn t r.sh c r.trail opens ss) → StopsUnder t r.sh c r.trail opens r.mid.hb ss h → StopsThere t r.sh c r.trail opens r.mid.hb (part ∷ around)
      by_list ss e h u =
          let s : StopsThere t r.sh c r.trail opens r.mid.hb (within ++ part ∷ around) = subst (StopsThere t r.sh c r.trail opens r.mid.hb) e (record { stops_are = h; under = u }) in
          stops_behind t opens r.mid.hb within (part ∷ around) s.stops_are s.under

  abbrev h : StopsIn t r.sh c r.trail opens (part ∷ around)
  h = there.stops_are

  cell_word : (k y : ℕ) → Cell r.sh k y → c (heap_at + k) ≡ y
  cell_word k y cell = let low = cell.fixed.0 in let top = r.mid.state.heap in let fits = r.mid.state.few in r.mid.state.stands.fixed k (omega arith) cell.fixed ∙ cell.is

  field : (i k y : ℕ) → k ≡ at + i → Cell r.sh k y → c (heap_at + (at + i)) ≡ y
  field i k y e cell = ap (λ (j : ℕ). c (heap_at + j)) (sym e) ∙ cell_word k y cell

  gone : Unstops t.p 3500 19000 r.memory out.typed out.output out.drawn at c ks h.saved.trail h.back.newer
  gone =
      let s = r.mid.state in
      let top = s.heap in
      let few_cells = s.few in
      let below = h.below in
      let chain = chained t r.sh c r.trail opens r.mid.hb (omega arith) cell_word (c 5) m.choices r.mid.choices r.mid.under in
      let on = subst (OnTrail c) h.back.trail_is r.mid.on_trail in
      let all : c 1 ≡ length (h.back.newer ++ h.saved.trail) = r.mid.height ∙ sym s.trail_len ∙ ap length h.back.trail_is in
      let few_trail = s.few_trail in
      let height = r.mid.height in
      unstop_works.goes t.p plays.has 3500 19000 (omega arith) (omega arith) r.memory out.typed out.output out.drawn at c ks h.saved.trail h.back.newer r.holds word_is (omega arith) chain
      (field 5 (suc (suc (suc (suc (suc at))))) part.state.trail (omega arith) h.cells_are.1.1.1.1.0 ∙ sym h.state.trail_len) all (omega arith) on

  -- the choices that are left
  choices : ChoicesIn t h.saved.sh h.saved.cells h.saved.trail (open_to part.height opens) (gone.cells' 5) left
  choices =
      let s = h.state in
      let heap = s.heap in
      let long = s.trail_len in
      let high = high_as m.next_tag m.state.heap m.choices within part around named in
      let a : ChoicesThere t r.sh c r.trail opens (gone.cells' 5) r.mid.hb left = left_in t r.sh c c r.trail opens r.mid.hb (λ k. refl) part.place (c 5) (gone.cells' 5) m.choices agrees r.mid.choices r.mid.under gone.chain in
      let apart = apart_behind within part around m.choices (subst (λ (l : List Stop). AreApart l m.choices) is r.mid.apart) in
      let ends = apart_cut part.place (part ∷ around) m.choices apart in
      choices_left t r.mid.state.shape opens h.saved at part.height h.back h.boxes (omega arith) h.few_open (gone.cells' 5) left ends.0 a.choices_are
      (λ x ds e. (let o = left_older part.place part.state.trail m.next_tag m.state.heap m.choices ordered.choices agrees shorter x ds e in let lower = o.lower in let same = o.high in let fewer = o.shorter in ((omega arith), (omega arith), (omega arith))))

  -- memory stands for the machine behind it
  mid_there : MidIn t out.words h.saved.sh gone.cells' h.saved.trail (stopped g part around m)
  mid_there =
      let cs = h.cells_are in
      let s = h.state in
      let top = r.mid.state.heap in
      let few_cells = r.mid.state.few in
      let grown = h.back.grown.top in
      let heap = s.heap in
      let total = ap length h.back.trail_is in
      let long = length-append h.back.newer h.saved.trail in
      let trail_few = r.mid.state.few_trail in
      let trail_is = r.mid.state.trail_len in
      let high = high_as m.next_tag m.state.heap m.choices within part around named in
      let apart = apart_behind within part around m.choices (subst (λ (l : List Stop). AreApart l m.choices) is r.mid.apart) in
      let ends = apart_cut part.place (part ∷ around) m.choices apart in
      let e_is = gone.frame ∙ field 2 (suc (suc at)) h.e (omega arith) cs.1.0 in
      let l_is = gone.inner ∙ field 3 (suc (suc (suc at))) h.l (omega arith) cs.1.1.0 in
      let stop_is = gone.stop ∙ field 4 (suc (suc (suc (suc at)))) h.stop (omega arith) cs.1.1.1.0 in
      let gather_is = gone.gather ∙ field 6 (suc (suc (suc (suc (suc (suc at)))))) h.gather (omega arith) cs.1.1.1.1.1.0 in
      let frames = subst (λ (x : ℕ). FramesIn t h.saved.sh around x part.frames) (sym e_is) h.frames in
      let inner = subst (λ (x : ℕ). InnersIn h.saved.sh around x part.inner) (sym l_is) h.inner in
      let stop = subst (λ (x : ℕ). StopNamed x part.place.outer around) (sym stop_is) h.outer_is in
      let all = back_in t r.sh c gone.cells' r.trail m r.mid h.saved h.back (λ k lt. gone.words k (omega arith)) (λ i lt. gone.others (trail_at + i) (λ e. (omega arith)) (λ e. (omega arith)) (λ e. (omega arith)) (λ e. (omega arith)) (λ e. (omega arith)) (λ e. (omega arith)) (λ e. (omega arith)) (λ e. (omega arith)) (λ q. (omega arith)))
      part.height (gather_is ∙ h.gather_is) (λ k low n29 far. gone.others k (λ e. (omega arith)) (λ e. (omega arith)) (λ e. (omega arith)) (λ e. (omega arith)) (λ e. (omega arith)) (λ e. (omega arith)) (λ e. (omega arith)) n29 (λ q. (let y = far (omega arith) in omega arith)))
      part.state part.frames part.inner around part.place.outer left h.state h.marked frames inner stop h.older_are (gone.cells' 5) refl choices ends.1
      (gone.heap ∙ sym high) (gone.trail ∙ s.trail_len) (gone.mark ∙ (let e : at ≡ h.saved.sh.top = omega arith in ap at_place e)) in
      mid_alike t h.saved.sh gone.cells' h.saved.trail (record m { frames = part.frames; inner = part.inner; choices = left; stops = around; stop = part.place.outer; gathered = gathered_to part.height m.gathered; state = part.state }) (block_at g.code part.block) (part.place.tag + 1) m.lasting all

  turn : Comes t out (t.at_block part.block) (stopped g part around m) (4 * dropped part.place m.choices + 6 * (m.state.trail - part.state.trail) + 20) z
  turn =
      let routine_is : c (heap_at + (at + 1)) ≡ t.at_block part.block = field 1 (suc at) h.routine (omega arith) h.cells_are.0 ∙ h.block in
      let small : t.at_block part.block < 65536 = subst (λ (y : ℕ). y < 65536) routine_is (r.holds.words (heap_at + (at + 1))) in
      let few = gone.few in
      let fallen = fallen_is part.place m.choices agrees in
      let total = ap length h.back.trail_is in
      let long = length-append h.back.newer h.saved.trail in
      let trail_is = r.mid.state.trail_len in
      let left_is = h.state.trail_len in
      let runs = subst (λ (i : ℕ). ActsRun t.p 3500 19000 UNSTOP_ACTS UNSTOP_ACTS (state r.memory (0 ∷ 0 ∷ 0 ∷ 0 ∷ []) out.typed out.drawn out.output) (Returns i) (state gone.memory' gone.locals' out.typed out.drawn out.output) gone.count) routine_is gone.runs in
      moves t plays out (t.p.names.routine UNSTOP) m z r (routine_of 4 UNSTOP_ACTS) (unstop_at t.p plays.has) (omega arith) (t.at_block part.block) gone.count (4 * dropped part.place m.choices + 6 * (m.state.trail - part.state.trail) + 20) gone.memory' gone.locals' gone.cells' h.saved.sh h.saved.trail (stopped g part around m) runs gone.holds small mid_there (omega arith)

-- a part that is found is one
part_of : Stop → Option (Stop × List Stop) → Stop
part_of s None = s
part_of s (Some found) = found.0

around_of : Option (Stop × List Stop) → List Stop
around_of None = []
around_of (Some found) = found.1

same_part : (o : Option (Stop × List Stop)) (a b : Stop) (us vs : List Stop) → o ≡ Some (a, us) → o ≡ Some (b, vs) → a ≡ b
unfolding part_of
same_part o a b us vs e f = ap (part_of a) (sym e ∙ f)

same_around : (o : Option (Stop × List Stop)) (a b : Stop) (us vs : List Stop) → o ≡ Some (a, us) → o ≡ Some (b, vs) → us ≡ vs
unfolding around_of
same_around o a b us vs e f = ap around_of (sym e ∙ f)

-- the part that the register names
stops_to : (g : Setting) (t : Telling) (plays : Playing t) (out : Outside) (m : Mid) (tag : ℕ) (part : Stop) (around : List Stop) (z : ZState) → stop_to tag m.stops ≡ Some (part, around) → MidOrdered m → MidTrailed m → (r : Represented t out (t.p.names.routine UNSTOP) m z) → NamesStop (r.cells 7) tag m.stops → Comes t out (t.at_block part.block) (stopped g part around m) (6 * unwound (Some tag) m + 20) z
stops_to g t plays out m tag part around z found ordered trails r n =
    let named : StopsNamed m.next_tag m.state.heap m.choices (n.within ++ n.part ∷ n.around) = subst (StopsNamed m.next_tag m.state.heap m.choices) n.is ordered.named.stops_are in
    let other : stop_to tag m.stops ≡ Some (n.part, n.around) = ap (λ (i : ℕ). stop_to i m.stops) n.tag_is ∙ ap (stop_to n.part.place.tag) n.is ∙ stop_found m.next_tag m.state.heap m.choices n.within n.part n.around named in
    let one = same_part (stop_to tag m.stops) n.part part n.around around other found in
    let rest = same_around (stop_to tag m.stops) n.part part n.around around other found in
    let unwinds : unwound (Some tag) m ≡ dropped part.place m.choices + (m.state.trail - part.state.trail) = ap (λ (o : Option (Stop × List Stop)). unwound_to o m) found in
    let k = turn g t plays out m n.within n.part n.around z n.is ordered trails r n.word_is in
    let k' : Comes t out (t.at_block part.block) (stopped g part around m) (4 * dropped part.place m.choices + 6 * (m.state.trail - part.state.trail) + 20) z = subst (λ (s : Stop). Comes t out (t.at_block s.block) (stopped g s around m) (4 * dropped s.place m.choices + 6 * (m.state.trail - s.state.trail) + 20) z) one (subst (λ (ss : List Stop). Comes t out (t.at_block n.part.block) (stopped g n.part ss m) (4 * dropped n.part.place m.choices + 6 * (m.state.trail - n.part.state.trail) + 20) z) rest k) in
    let few = k'.few in
    record { there = k'.there; count = k'.count; some = k'.some; few = omega arith; leads = k'.leads; rep = k'.rep }

pub stop_turns : StopTurns
stop_turns = record {
  stops = λ g t plays out m tag part around z e found ordered trails r.
      let n : StopNamed (r.cells 7) (Some tag) m.stops = subst (λ (o : Option ℕ). StopNamed (r.cells 7) o m.stops) e r.mid.stop in
      subst (λ (o : Option ℕ). Comes t out (t.at_block part.block) (stopped g part around m) (6 * unwound o m + 20) z) (sym e) (stops_to g t plays out m tag part around z found ordered trails r n);
  ends = λ t plays out m z none r.
      let p = t.p in
      let empty : r.cells 7 ≡ 0 = subst (λ (o : Option ℕ). StopNamed (r.cells 7) o m.stops) none r.mid.stop in
      let runs = unstop_works.has_none p plays.has.mapped 3500 19000 r.memory out.typed out.output out.drawn r.cells r.holds empty in
      let go = moved t plays out (p.names.routine UNSTOP) m z r (routine_of 4 UNSTOP_ACTS) (unstop_at p plays.has) (omega arith) (p.names.routine STOPPED) 2 r.memory (0 ∷ 0 ∷ 0 ∷ 0 ∷ []) r.cells r.sh r.trail m runs r.holds (plays.words STOPPED) r.mid in
      let k = closings_work.stopped p plays.has go.rep.memory out.typed out.output out.drawn go.rep.cells go.rep.holds in
      let few = k.few in
      let over = closes_within t plays out (p.names.routine STOPPED) m go.there go.rep (routine_of 0 STOPPED_ACTS) (stopped_at p plays.has) (omega arith) 1 0 (omega arith) (omega arith) k.count 25 Stopped go.rep.memory [] k.runs (omega arith) in
      closes_then t out Stopped 4 4 25 30 z go.there (omega arith) (omega arith) go.leads over;
}

-- ## Ends

pub done_turns : DoneTurns
done_turns t plays out x m z there r =
    let p = t.p in
    let go = goto_turns t plays out x DONE m z there r in
    let k = closings_work.done p plays.has go.rep.memory out.typed out.output out.drawn go.rep.cells go.rep.holds in
    let few = k.few in
    let few' = go.few in
    let over = closes_within t plays out (p.names.routine DONE) m go.there go.rep (routine_of 0 DONE_ACTS) (done_at p plays.has) (omega arith) 1 0 (omega arith) (omega arith) k.count 25 Done go.rep.memory [] k.runs (omega arith) in
    closes_then t out Done go.count 3 25 30 z go.there (omega arith) (omega arith) go.leads over

pub no_rule_turns : NoRuleTurns
no_rule_turns t plays out m z none r =
    let p = t.p in
    let empty : r.cells 4 ≡ 0 = subst (FramesIn t r.sh m.stops (r.cells 4)) none r.mid.frames in
    let runs = leave_works.has_none p plays.has.mapped 3500 19000 r.memory out.typed out.output out.drawn r.cells r.holds empty in
    moves t plays out (p.names.routine LEAVE) m z r (routine_of 4 LEAVE_ACTS) (leave_at p plays.has) (omega arith) (p.names.routine FAIL) 2 4 r.memory (0 ∷ 0 ∷ 0 ∷ 0 ∷ []) r.cells r.sh r.trail m runs r.holds (plays.words FAIL) r.mid (omega arith)
