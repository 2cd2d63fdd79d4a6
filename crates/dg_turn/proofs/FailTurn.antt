-- A failure goes back to a choice of further rules, or ends the run: one turn of the story.
use Rattle.std.proofs.Common.{◌≡◌, ◌≢◌, ℕ, suc, ◌+◌, ◌-◌, ◌*◌, ◌<◌, ◌≤◌, inl, inr, List, [], ◌∷◌, ◌++◌, length, refl, sym, ap, ◌∙◌, subst, arith, length-append}
use Rattle.std.proofs.lemmas.Bool.{cases_lt}
use Rattle.std.proofs.lemmas.List.{length-drop}
use Rattle.dg_base.specs.declared.run.Ending.TheVariants.{Failed}
use Rattle.dg_meaning.specs.Values.{Value}
use Rattle.dg_mid.specs.declared.code.RuleCode.{RuleCode}
use Rattle.dg_mid.specs.State.{Call, Way, Choice, Mid}
use Rattle.dg_mid.specs.Step.{first_of, gathered_to, back_at}
use Rattle.dg_mid.specs.Units.{undone}
use Rattle.dg_mid.specs.Heights.{ChoicesNamed}
use Rattle.z_model.specs.Run.{ZState}
use Rattle.z_lang.specs.Runs.{ActsRun, Returns}
use Rattle.dg_rt.specs.declared.numbers.TheConstants.{FAIL, FAILED}
use Rattle.dg_rt.specs.declared.choices.TheConstants.{FAIL_ACTS}
use Rattle.dg_rt.specs.declared.closings.TheConstants.{FAILED_ACTS}
use Rattle.dg_rt.specs.Areas.{heap_at, trail_at, state}
use Rattle.dg_rt.specs.Shapes.{Shape, Cell, Shows}
use Rattle.dg_rt.specs.Back.{OnTrail, at_place}
use Rattle.dg_rt.specs.RunTime.{routine_of}
use Rattle.dg_rt.specs.Choices.{GoesBack}
use Rattle.dg_rt.proofs.Failing.{fail_works}
use Rattle.dg_rt.proofs.Closing.{closings_work}
use Rattle.dg_turn.specs.Told.{Telling}
use Rattle.dg_turn.specs.Lies.{OpensFewer, StopsFewer, TakesLast, CellsAre, CallsIn, WayIn, ChoicesIn, MidIn}
use Rattle.dg_turn.specs.Rest.{aux_at, gather_words}
use Rattle.dg_turn.specs.Plays.{Playing, Outside, Represented, registers, CallAt, Comes}
use Rattle.dg_turn.specs.Queries.{GoneBack, FailTurns, FailEnds}
use Rattle.dg_turn.specs.Choices.{TakesAt, BackTurns}
use Rattle.dg_turn.proofs.Standing.{fail_at, failed_at}
use Rattle.dg_turn.proofs.Rows.{words_length, registers_same}
use Rattle.dg_turn.proofs.Resting.{length_words}
use Rattle.dg_turn.proofs.Returning.{goes_back_in}
use Rattle.dg_turn.proofs.Moving.{Moved, moved, closes_within, closes_then}

-- arguments that are put back
pub args_back : (sh : Shape) (c c' : ℕ → ℕ) → ((k y : ℕ) → Cell sh k y → c (heap_at + k) ≡ y) → (v at : ℕ) (xs : List ℕ) → ((i : ℕ) → i < length xs → c' (v + i) ≡ c (heap_at + (at + i))) → CellsAre sh at xs → registers c' v (length xs) ≡ xs
args_back sh c c' word v at [] same cells = refl
args_back sh c c' word v at (x ∷ xs) same cells =
    let v0 : v + 0 ≡ v = omega arith in
    let at0 : at + 0 ≡ at = omega arith in
    let here : c' v ≡ x = ap c' (sym v0) ∙ same 0 (omega arith) ∙ ap (λ (i : ℕ). c (heap_at + i)) at0 ∙ word at x cells.0 in
    let rest = args_back sh c c' word (suc v) (suc at) xs (λ i lt. (let a : suc v + i ≡ v + suc i = omega arith in let b : at + suc i ≡ suc at + i = omega arith in ap c' a ∙ same (suc i) (omega arith) ∙ ap (λ (j : ℕ). c (heap_at + j)) b)) cells.1 in
    ap (λ (y : ℕ). y ∷ registers c' (suc v) (length xs)) here ∙ ap (λ (l : List ℕ). x ∷ l) rest

-- registers behind the arguments and areas behind the trail stay
rest_of : (c' c : ℕ → ℕ) → ((k : ℕ) → 28 ≤ k → k < heap_at → k ≢ 29 → c' k ≡ c k) → ((k : ℕ) → trail_at ≤ k → c' k ≡ c k) → (k : ℕ) → 27 < k → k ≢ 29 → (35 < k → aux_at ≤ k) → c' k ≡ c k
rest_of c' c rest others k low n29 far = elim (cases_lt 35 k) [
  | inl lt ↦ (let y = far lt in others k (omega arith))
  | inr le ↦ rest k (omega arith) (omega arith) n29
]

module _ (t : Telling) (plays : Playing t) (out : Outside) (m : Mid) (x : Choice) (xs : List Choice) (z : ZState)
    (named : x.state.heap ≡ x.place.height) (r : Represented t out (t.p.names.routine FAIL) m z) (h : ChoicesIn t r.sh r.cells r.trail (gather_words m.gathered) (r.cells 5) (x ∷ xs)) where
  abbrev at : ℕ
  at = x.place.height

  pub cell_word : (k y : ℕ) → Cell r.sh k y → r.cells (heap_at + k) ≡ y
  cell_word k y cell = let low = cell.fixed.0 in let top = r.mid.state.heap in let fits = r.mid.state.few in r.mid.state.stands.fixed k (omega arith) cell.fixed ∙ cell.is

  pub field : (i k y : ℕ) → k ≡ at + i → Cell r.sh k y → r.cells (heap_at + (at + i)) ≡ y
  field i k y e cell = ap (λ (j : ℕ). r.cells (heap_at + j)) (sym e) ∙ cell_word k y cell

  pub gone : GoesBack t.p 3500 19000 r.memory out.typed out.output out.drawn at r.cells h.saved.trail h.back.newer
  gone =
      let s = r.mid.state in
      let top = s.heap in
      let few_cells = s.few in
      let last = h.cells_are.1.1.1.1.1.1.1.1.1.0 in
      let low = last.fixed.0 in
      let on = subst (OnTrail r.cells) h.back.trail_is r.mid.on_trail in
      let all : r.cells 1 ≡ length (h.back.newer ++ h.saved.trail) = r.mid.height ∙ sym s.trail_len ∙ ap length h.back.trail_is in
      let few_trail = s.few_trail in
      let height = r.mid.height in
      fail_works.goes t.p plays.has 3500 19000 (omega arith) (omega arith) r.memory out.typed out.output out.drawn at r.cells h.saved.trail h.back.newer r.holds h.word_is (omega arith)
      (field 5 (suc (suc (suc (suc (suc at))))) x.state.trail (omega arith) h.cells_are.1.1.1.1.1.0 ∙ sym h.state.trail_len) all (omega arith) on

  -- memory stands for the machine there
  mid_there : MidIn t out.words h.saved.sh gone.cells' h.saved.trail (back_at x xs m)
  mid_there =
      let cs = h.cells_are in
      let s = h.state in
      let top = r.mid.state.heap in
      let few_cells = r.mid.state.few in
      let grown = h.back.grown.top in
      let heap = s.heap in
      let low = h.back.trail_is in
      let total = ap length low in
      let long = length-append h.back.newer h.saved.trail in
      let trail_few = r.mid.state.few_trail in
      let trail_is = r.mid.state.trail_len in
      goes_back_in t r.sh r.cells gone.cells' r.trail m x xs r.mid h (λ k lt. gone.words k (omega arith)) (λ i lt. gone.others (trail_at + i) (omega arith))
      (gone.heap ∙ sym named) (gone.trail ∙ s.trail_len) (gone.mark ∙ (let e : at ≡ h.saved.sh.top = omega arith in ap at_place e))
      (gone.frame ∙ field 2 (suc (suc at)) h.e (omega arith) cs.1.1.0) (gone.choice ∙ field 0 at h.behind (omega arith) cs.0) (gone.inner ∙ field 3 (suc (suc (suc at))) h.l (omega arith) cs.1.1.1.0)
      (gone.stop ∙ field 4 (suc (suc (suc (suc at)))) h.stop (omega arith) cs.1.1.1.1.0) (gone.gather ∙ field 6 (suc (suc (suc (suc (suc (suc at)))))) h.gather (omega arith) cs.1.1.1.1.1.1.0)
      (λ k low n29 far. rest_of gone.cells' r.cells (λ k' le lt ne. gone.rest k' le lt ne) (λ k' le. gone.others k' le) k low n29 far)

  -- the routine that is answered comes next
  pub to_next : (y : ℕ) → h.routine ≡ y → y < 65536 → Moved t out y gone.cells' h.saved.sh (back_at x xs m) gone.count z
  to_next y e small =
      let to : r.cells (heap_at + (at + 1)) ≡ y = field 1 (suc at) h.routine (omega arith) h.cells_are.1.0 ∙ e in
      let runs = subst (λ (i : ℕ). ActsRun t.p 3500 19000 FAIL_ACTS FAIL_ACTS (state r.memory (0 ∷ 0 ∷ 0 ∷ 0 ∷ []) out.typed out.drawn out.output) (Returns i) (state gone.memory' gone.locals' out.typed out.drawn out.output) gone.count) to gone.runs in
      moved t plays out (t.p.names.routine FAIL) m z r (routine_of 4 FAIL_ACTS) (fail_at t.p plays.has) (omega arith) y gone.count gone.memory' gone.locals' gone.cells' h.saved.sh h.saved.trail (back_at x xs m) runs gone.holds small mid_there

  -- the word of its routine, and what it costs
  pub word_small : h.routine < 65536
  word_small = subst (λ (y : ℕ). y < 65536) (field 1 (suc at) h.routine (omega arith) h.cells_are.1.0) (r.holds.words (heap_at + (at + 1)))

  pub few_in_all : gone.count + 2 ≤ 6 * (m.state.trail - x.state.trail) + 34
  few_in_all =
      let few' = gone.few in
      let total = ap length h.back.trail_is in
      let long = length-append h.back.newer h.saved.trail in
      let trail_is = r.mid.state.trail_len in
      let left_is = h.state.trail_len in
      omega arith

  -- to a block
  to_block : (block : ℕ) → h.routine ≡ t.at_block block → Comes t out (t.at_block block) (back_at x xs m) (6 * (m.state.trail - x.state.trail) + 34) z
  to_block block e =
      let go = to_next (t.at_block block) e (subst (λ (y : ℕ). y < 65536) e word_small) in
      record { there = go.there; count = gone.count + 2; some = omega arith; few = few_in_all; leads = go.leads; rep = go.rep }

  -- to a block that takes a gathering out
  to_taking : (block : ℕ) (into : Value) → h.routine ≡ t.at_block block → Shows h.saved.sh h.next into → OpensFewer x.height xs × StopsFewer x.height x.stops → TakesAt t out block into (back_at x xs m) (6 * (m.state.trail - x.state.trail) + 34) z
  to_taking block into e shows fewer =
      let few = h.few_open in
      let names = length_words m.gathered in
      let count : length (gathered_to x.height m.gathered) ≡ x.height = length-drop (length m.gathered - x.height) m.gathered ∙ (omega arith) in
      let go = to_next (t.at_block block) e (subst (λ (y : ℕ). y < 65536) e word_small) in
      let back : go.rep.cells 8 ≡ h.next = go.cells_are 8 (λ q. (omega arith)) ∙ gone.back ∙ field 7 (suc (suc (suc (suc (suc (suc (suc at))))))) h.next (omega arith) h.cells_are.1.1.1.1.1.1.1.0 in
      record {
        comes = record { there = go.there; count = gone.count + 2; some = omega arith; few = few_in_all; leads = go.leads; rep = go.rep };
        into_is = subst (λ (s : Shape). Shows s (go.rep.cells 8) into) (sym go.shape_is) (subst (λ (y : ℕ). Shows h.saved.sh y into) (sym back) shows);
        fewer = subst (λ (i : ℕ). OpensFewer i xs × StopsFewer i x.stops) (sym count) fewer;
      }

  module _ (call : Call) (rules : List RuleCode) (few : length call.args ≤ 12) (w : CallsIn t h.saved.sh h.routine h.args h.next (at_place x.place.height) h.many h.key x.state.subst call rules) where
    -- the call in registers
    call_there : (c' : ℕ → ℕ) → ((k : ℕ) → k ≢ 0 → c' k ≡ gone.cells' k) → CallAt t h.saved.sh c' call
    call_there c' same =
        let cs = h.cells_are in
        let i = w.call_is in
        let size : length h.args ≡ length call.args = words_length h.saved.sh h.args call.args i.args_are in
        let ten : suc (suc (suc (suc (suc (suc (suc (suc (suc (suc at))))))))) ≡ at + 10 = omega arith in
        let row = subst (λ (k : ℕ). CellsAre r.sh k h.args) ten cs.1.1.1.1.1.1.1.1.1.1 in
        let words : registers gone.cells' 16 (length h.args) ≡ h.args = args_back r.sh r.cells gone.cells' cell_word 16 (at + 10) h.args (λ j lt. gone.args j (omega arith) ∙ (let q : at + (10 + j) ≡ at + 10 + j = omega arith in ap (λ (k : ℕ). r.cells (heap_at + k)) q)) row in
        let there : registers c' 16 (length call.args) ≡ h.args = registers_same gone.cells' c' 16 (length call.args) (λ j low lt. same j (λ e. (omega arith))) ∙ ap (λ (n : ℕ). registers gone.cells' 16 n) (sym size) ∙ words in
        let back : c' 8 ≡ h.next = same 8 (λ e. (omega arith)) ∙ gone.back ∙ field 7 (suc (suc (suc (suc (suc (suc (suc at))))))) h.next (omega arith) cs.1.1.1.1.1.1.1.0 in
        let cut : c' 9 ≡ at_place at = same 9 (λ e. (omega arith)) ∙ gone.cut in
        let many : c' 10 ≡ h.many = same 10 (λ e. (omega arith)) ∙ gone.many ∙ field 8 (suc (suc (suc (suc (suc (suc (suc (suc at)))))))) h.many (omega arith) cs.1.1.1.1.1.1.1.1.0 in
        rw (there, back, cut, many) i

    turn : GoneBack t out rules call (first_of x.state.subst call) (back_at x xs m) (6 * (m.state.trail - x.state.trail) + 34) z
    turn =
        let y = t.p.names.routine w.number in
        let cs = h.cells_are in
        let go = to_next y w.routine_is (plays.words w.number) in
        record {
          number = w.number;
          rules_are = w.rules_are;
          key = h.key;
          key_is = w.key_is;
          cut = let q = w.call_is.cut_is in omega (arith, named);
          there = go.there;
          count = gone.count + 2;
          some = omega arith;
          few = few_in_all;
          leads = go.leads;
          looks = record {
            rep = go.rep;
            call_is = subst (λ (s : Shape). CallAt t s go.rep.cells call) (sym go.shape_is) (call_there go.rep.cells go.cells_are);
            key_is = go.cells_are 11 (λ e. (omega arith)) ∙ gone.key ∙ field 9 (suc (suc (suc (suc (suc (suc (suc (suc (suc at))))))))) h.key (omega arith) cs.1.1.1.1.1.1.1.1.1.0;
            found_is = go.cells_are 12 (λ e. (omega arith)) ∙ gone.begin;
          };
        }

pub fail_turns : FailTurns
fail_turns t plays out m x xs call rules z e way ordered few r =
    let h : ChoicesIn t r.sh r.cells r.trail (gather_words m.gathered) (r.cells 5) (x ∷ xs) = subst (ChoicesIn t r.sh r.cells r.trail (gather_words m.gathered) (r.cells 5)) e r.mid.choices in
    let names : ChoicesNamed m.next_tag m.state.heap (x ∷ xs) = subst (ChoicesNamed m.next_tag m.state.heap) e ordered in
    let w : CallsIn t h.saved.sh h.routine h.args h.next (at_place x.place.height) h.many h.key x.state.subst call rules = subst (WayIn t h.saved.sh h.routine h.args h.next (at_place x.place.height) h.many h.key x.state.subst) way h.way in
    let back : m.state.trail - x.state.trail ≡ undone m.choices m = sym (ap (λ (l : List Choice). undone l m) e) in
    subst (λ (n : ℕ). GoneBack t out rules call (first_of x.state.subst call) (back_at x xs m) (6 * n + 34) z) back (turn t plays out m x xs z names.2 r h call rules few w)

-- ## Blocks

pub back_turns : BackTurns
back_turns = record {
  goes = λ t plays out m x xs block z e way ordered r.
      let h : ChoicesIn t r.sh r.cells r.trail (gather_words m.gathered) (r.cells 5) (x ∷ xs) = subst (ChoicesIn t r.sh r.cells r.trail (gather_words m.gathered) (r.cells 5)) e r.mid.choices in
      let names : ChoicesNamed m.next_tag m.state.heap (x ∷ xs) = subst (ChoicesNamed m.next_tag m.state.heap) e ordered in
      let w : h.routine ≡ t.at_block block = subst (WayIn t h.saved.sh h.routine h.args h.next (at_place x.place.height) h.many h.key x.state.subst) way h.way in
      let back : m.state.trail - x.state.trail ≡ undone m.choices m = sym (ap (λ (l : List Choice). undone l m) e) in
      subst (λ (n : ℕ). Comes t out (t.at_block block) (back_at x xs m) (6 * n + 34) z) back (to_block t plays out m x xs z names.2 r h block w);
  takes = λ t plays out m x xs block into z e way ordered r.
      let h : ChoicesIn t r.sh r.cells r.trail (gather_words m.gathered) (r.cells 5) (x ∷ xs) = subst (ChoicesIn t r.sh r.cells r.trail (gather_words m.gathered) (r.cells 5)) e r.mid.choices in
      let names : ChoicesNamed m.next_tag m.state.heap (x ∷ xs) = subst (ChoicesNamed m.next_tag m.state.heap) e ordered in
      let w : (h.routine ≡ t.at_block block) × Shows h.saved.sh h.next into = subst (WayIn t h.saved.sh h.routine h.args h.next (at_place x.place.height) h.many h.key x.state.subst) way h.way in
      let last : OpensFewer x.height xs × StopsFewer x.height x.stops = subst (λ (y : Way). TakesLast y x.height xs x.stops) way h.fewer in
      let back : m.state.trail - x.state.trail ≡ undone m.choices m = sym (ap (λ (l : List Choice). undone l m) e) in
      subst (λ (n : ℕ). TakesAt t out block into (back_at x xs m) (6 * n + 34) z) back (to_taking t plays out m x xs z names.2 r h block into w.0 w.1 last);
}

-- ## Without a choice

pub fail_ends : FailEnds
fail_ends t plays out m z none r =
    let p = t.p in
    let empty : r.cells 5 ≡ 0 = subst (ChoicesIn t r.sh r.cells r.trail (gather_words m.gathered) (r.cells 5)) none r.mid.choices in
    let runs = fail_works.has_none p plays.has.mapped 3500 19000 r.memory out.typed out.output out.drawn r.cells r.holds empty in
    let go = moved t plays out (p.names.routine FAIL) m z r (routine_of 4 FAIL_ACTS) (fail_at p plays.has) (omega arith) (p.names.routine FAILED) 2 r.memory (0 ∷ 0 ∷ 0 ∷ 0 ∷ []) r.cells r.sh r.trail m runs r.holds (plays.words FAILED) r.mid in
    let k = closings_work.failed p plays.has go.rep.memory out.typed out.output out.drawn go.rep.cells go.rep.holds in
    let few = k.few in
    let over = closes_within t plays out (p.names.routine FAILED) m go.there go.rep (routine_of 0 FAILED_ACTS) (failed_at p plays.has) (omega arith) 1 0 (omega arith) (omega arith) k.count 25 Failed go.rep.memory [] k.runs (omega arith) in
    closes_then t out Failed 4 4 25 30 z go.there (omega arith) (omega arith) go.leads over
