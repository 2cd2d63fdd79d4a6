-- A rule cuts, or is answered: turns of the story.
use Rattle.std.proofs.Common.{◌≡◌, ◌≢◌, ℕ, ◌+◌, ◌*◌, ◌<◌, ◌≤◌, Bool, true, false, List, [], ◌∷◌, drop, length, Some, inl, inr, refl, sym, ap, ◌∙◌, subst, arith}
use Rattle.std.specs.Prelude.{if◌then◌else◌}
use Rattle.std.proofs.lemmas.Bool.{cases_eq}
use Rattle.dg_mid.specs.Code.{block_at}
use Rattle.dg_mid.specs.State.{Frame, Mid}
use Rattle.dg_mid.specs.Step.{Setting, cut_to, returned}
use Rattle.dg_mid.specs.Units.{dropped, dropped_once}
use Rattle.dg_mid.specs.Heights.{IsNamed}
use Rattle.z_model.specs.Run.{ZState}
use Rattle.z_lang.specs.State.{State}
use Rattle.z_lang.specs.Runs.{ActsRun, Returns, returns}
use Rattle.dg_rt.specs.declared.numbers.TheConstants.{LEAVE}
use Rattle.dg_rt.specs.declared.queries.TheConstants.{LEAVE_ACTS}
use Rattle.dg_rt.specs.Cells.{replaced, bit}
use Rattle.dg_rt.specs.Areas.{heap_at, state}
use Rattle.dg_rt.specs.Shapes.{Cell}
use Rattle.dg_rt.specs.Back.{at_place}
use Rattle.dg_rt.specs.RunTime.{routine_of}
use Rattle.dg_rt.specs.Choices.{Chain}
use Rattle.dg_rt.specs.Queries.{Leaves}
use Rattle.dg_rt.proofs.Leaving.{leave_works}
use Rattle.dg_rt.proofs.Cells.{other_cell, same_cell}
use Rattle.dg_turn.specs.Told.{Telling}
use Rattle.dg_turn.specs.Lies.{bit_of, FramesIn, InnersIn, MidIn}
use Rattle.dg_turn.specs.Rest.{gather_words}
use Rattle.dg_turn.specs.Plays.{Playing, Outside, Represented, Comes}
use Rattle.dg_turn.specs.Leaving.{just_routine, JustTurns, ReturnTurns}
use Rattle.dg_turn.proofs.Standing.{leave_at}
use Rattle.dg_turn.proofs.Staying.{mid_with, mid_same, mid_alike}
use Rattle.dg_turn.proofs.Cutting.{places_of, chained, fallen_is, cut_in}
use Rattle.dg_turn.proofs.AtFrame.{Framed, cuts}
use Rattle.dg_turn.proofs.Moving.{moves}

module _ (t : Telling) (plays : Playing t) (out : Outside) (x : ℕ) (m : Mid) (f : Frame) (fs : List Frame) (z : ZState) (r : Represented t out x m z) (h : FramesIn t r.sh m.stops (r.cells 4) (f ∷ fs)) where
  abbrev now : List ℕ → State
  now memory = state memory [] out.typed out.drawn out.output

  abbrev At : List ℕ → (ℕ → ℕ) → Type 0
  At = Framed t plays.has 3500 19000 out.typed out.output out.drawn r.sh r.cells r.trail m r.mid f fs h

  first : At r.memory r.cells
  first = record { holds = r.holds; frame = h.word_is; heap = λ k. refl }

  just : (behind : ℕ) → t.p.routine_at x ≡ Some (just_routine behind) → IsNamed m.next_tag m.state.heap m.choices f.cut → Comes t out (t.p.names.routine behind) (cut_to f.cut m) (4 * dropped f.cut m.choices + 10) z
  just behind there is_named =
      let body = (just_routine behind).body in
      let k = cuts t plays.has 3500 19000 out.typed out.output out.drawn r.sh r.cells r.trail m r.mid f fs h (omega arith) (omega arith) body (drop 2 body) r.memory r.cells first r.mid is_named in
      let few = k.few in
      moves t plays out x m z r (just_routine behind) there (omega arith) (t.p.names.routine behind) (k.count + 1) (4 * dropped f.cut m.choices + 10) k.memory' [] k.cells' r.sh r.trail (cut_to f.cut m)
      (k.runs (Returns (t.p.names.routine behind)) (now k.memory') 1 (returns refl)) k.framed.holds (plays.words behind) k.mid (omega arith)

pub just_turns : JustTurns
just_turns t plays out x behind m f fs z there e is_named r = just t plays out x m f fs z r (subst (FramesIn t r.sh m.stops (r.cells 4)) e r.mid.frames) behind there is_named

-- ## Answers

bit_is : (b : Bool) → bit_of b ≡ bit b
bit_is true = refl
bit_is false = refl

-- the newest of the same choices is the same
same_newest : (c c' : ℕ → ℕ) (word word' : ℕ) (ks : List ℕ) → Chain c word ks → Chain c' word' ks → word' ≡ word
same_newest c c' word word' [] h h' = h' ∙ sym h
same_newest c c' word word' (k ∷ ks) h h' = h'.0 ∙ sym h.0

-- words that differ in three registers at most, by these
agree_six : (c c' : ℕ → ℕ) (e l : ℕ) → c' 6 ≡ l → ((j : ℕ) → j ≢ 4 → j ≢ 5 → j ≢ 6 → c' j ≡ c j) → (j : ℕ) → j ≢ 4 → j ≢ 5 → c' j ≡ replaced (replaced c 6 l) 4 e j
agree_six c c' e l six others j n4 n5 = elim (cases_eq j 6) [
  | inl q ↦ subst (λ (i : ℕ). c' i ≡ replaced (replaced c 6 l) 4 e i) (sym q) (six ∙ sym (same_cell c 6 l) ∙ sym (other_cell (replaced c 6 l) 4 e 6 (λ q'. (omega arith))))
  | inr n6 ↦ others j n4 n5 n6 ∙ sym (other_cell c 6 l j n6) ∙ sym (other_cell (replaced c 6 l) 4 e j n4)
]

agree_four : (c c' : ℕ → ℕ) (e l : ℕ) → c' 4 ≡ e → c' 6 ≡ l → ((j : ℕ) → j ≢ 4 → j ≢ 5 → j ≢ 6 → c' j ≡ c j) → (j : ℕ) → j ≢ 5 → c' j ≡ replaced (replaced c 6 l) 4 e j
agree_four c c' e l four six others j n5 = elim (cases_eq j 4) [
  | inl q ↦ subst (λ (i : ℕ). c' i ≡ replaced (replaced c 6 l) 4 e i) (sym q) (four ∙ sym (same_cell (replaced c 6 l) 4 e))
  | inr n4 ↦ agree_six c c' e l six others j n4 n5
]

agree_five : (c c' : ℕ → ℕ) (e l : ℕ) → c' 5 ≡ c 5 → ((j : ℕ) → j ≢ 5 → c' j ≡ replaced (replaced c 6 l) 4 e j) → (j : ℕ) → c' j ≡ replaced (replaced c 6 l) 4 e j
agree_five c c' e l five others j = elim (cases_eq j 5) [
  | inl q ↦ subst (λ (i : ℕ). c' i ≡ replaced (replaced c 6 l) 4 e i) (sym q) (five ∙ sym (other_cell c 6 l 5 (λ q'. (omega arith))) ∙ sym (other_cell (replaced c 6 l) 4 e 5 (λ q'. (omega arith))))
  | inr n5 ↦ others j n5
]

module _ (g : Setting) (t : Telling) (plays : Playing t) (out : Outside) (m : Mid) (f : Frame) (fs : List Frame) (z : ZState) (is_named : IsNamed m.next_tag m.state.heap m.choices f.cut) (r : Represented t out (t.p.names.routine LEAVE) m z) (h : FramesIn t r.sh m.stops (r.cells 4) (f ∷ fs)) where
  abbrev c : ℕ → ℕ
  c = r.cells

  abbrev ks : List ℕ
  ks = places_of m.choices

  at_cell : (k y : ℕ) → Cell r.sh k y → c (heap_at + k) ≡ y
  at_cell k y cell = let low = cell.fixed.0 in let top = r.mid.state.heap in let fits = r.mid.state.few in r.mid.state.stands.fixed k (omega arith) cell.fixed ∙ cell.is

  chain : Chain c (c 5) ks
  chain = let top = r.mid.state.heap in let fits = r.mid.state.few in chained t r.sh c r.trail (gather_words m.gathered) r.mid.hb (omega arith) at_cell (c 5) m.choices r.mid.choices r.mid.under

  left : (b : Bool) → f.many ≡ b → Leaves t.p 3500 19000 r.memory out.typed out.output out.drawn h.at f.cut.height b c ks
  left b e =
      let below = h.below in
      let top = r.mid.state.heap in
      let fits = r.mid.state.few in
      let low = is_named.height in
      let n = length h.own in
      let size : c (heap_at + (h.at + 4)) ≡ 2 * n + bit b = at_cell (h.at + 4) (2 * n + bit_of f.many) h.many ∙ ap (λ (i : ℕ). 2 * n + i) (ap bit_of e ∙ bit_is b) in
      leave_works.leaves t.p plays.has 3500 19000 (omega arith) (omega arith) r.memory out.typed out.output out.drawn h.at f.cut.height n b c r.holds h.word_is (omega arith) (at_cell (h.at + 2) (at_place f.cut.height) h.cut) (omega arith) size (omega arith) ks chain

  abbrev behind : Mid
  behind = record m { frames = fs; inner = f.inner }

  -- the frame behind is the newest, with the inner constructs there
  abbrev c1 : ℕ → ℕ
  c1 = replaced (replaced c 6 h.l) 4 h.e

  mid1 : MidIn t out.words r.sh c1 r.trail behind
  mid1 =
      let a = replaced c 6 h.l in
      mid_with t r.sh c c1 r.trail m fs f.inner (λ j n0 n4 n6 far. other_cell a 4 h.e j n4 ∙ other_cell c 6 h.l j n6)
      (subst (λ (w : ℕ). FramesIn t r.sh m.stops w fs) (sym (same_cell a 4 h.e)) h.behind_is)
      (subst (λ (w : ℕ). InnersIn r.sh m.stops w f.inner) (sym (other_cell a 4 h.e 6 (λ e. (omega arith)) ∙ same_cell c 6 h.l)) h.inner)
      r.mid

  agrees : (b : Bool) (k : Leaves t.p 3500 19000 r.memory out.typed out.output out.drawn h.at f.cut.height b c ks) (j : ℕ) → j ≢ 5 → k.cells' j ≡ c1 j
  agrees b k = agree_four c k.cells' h.e h.l (k.frame ∙ at_cell (h.at + 0) h.e h.e_is) (k.inner ∙ at_cell (h.at + 3) h.l h.l_is) (λ j n4 n5 n6. k.others j n4 n5 n6)

  comes : (b : Bool) (k : Leaves t.p 3500 19000 r.memory out.typed out.output out.drawn h.at f.cut.height b c ks) (m' : Mid) (most : ℕ) → MidIn t out.words r.sh k.cells' r.trail m' → k.count + 2 ≤ most → Comes t out (t.at_block f.next) m' most z
  comes b k m' most mid le =
      let to : c (heap_at + (h.at + 1)) ≡ t.at_block f.next = at_cell (h.at + 1) (t.at_block f.next) h.next in
      let small : t.at_block f.next < 65536 = subst (λ (n : ℕ). n < 65536) to (r.holds.words (heap_at + (h.at + 1))) in
      let runs = subst (λ (i : ℕ). ActsRun t.p 3500 19000 LEAVE_ACTS LEAVE_ACTS (state r.memory (0 ∷ 0 ∷ 0 ∷ 0 ∷ []) out.typed out.drawn out.output) (Returns i) (state k.memory' k.locals' out.typed out.drawn out.output) k.count) to k.runs in
      moves t plays out (t.p.names.routine LEAVE) m z r (routine_of 4 LEAVE_ACTS) (leave_at t.p plays.has) (omega arith) (t.at_block f.next) k.count most k.memory' k.locals' k.cells' r.sh r.trail m' runs k.holds small mid le

  by_many : (b : Bool) → f.many ≡ b → Comes t out (t.at_block f.next) (returned g b f fs m) (4 * (if b then 0 else dropped f.cut m.choices) + 20) z
  by_many true e =
      let k = left true e in
      let few = k.few in
      let all = agree_five c k.cells' h.e h.l (same_newest c k.cells' (c 5) (k.cells' 5) ks chain k.chain) (agrees true k) in
      comes true k (returned g true f fs m) 20 (mid_alike t r.sh k.cells' r.trail behind (block_at g.code f.next) m.next_tag m.lasting (mid_same t r.sh c1 k.cells' r.trail behind (λ j ne far. all j) mid1)) (omega arith)
  by_many false e =
      let k = left false e in
      let few = k.few in
      let fallen = fallen_is f.cut m.choices is_named.agrees in
      comes false k (returned g false f fs m) (4 * dropped f.cut m.choices + 20) (mid_alike t r.sh k.cells' r.trail (cut_to f.cut behind) (block_at g.code f.next) m.next_tag m.lasting (cut_in t r.sh c1 k.cells' r.trail behind f.cut is_named.agrees (agrees false k) mid1 k.chain)) (omega arith)

pub return_turns : ReturnTurns
return_turns g t plays out m f fs z e is_named r =
    let all : (if f.many then 0 else dropped f.cut m.choices) ≡ dropped_once m.frames m.choices = sym (ap (λ (l : List Frame). dropped_once l m.choices) e) in
    subst (λ (n : ℕ). Comes t out (t.at_block f.next) (returned g f.many f fs m) (4 * n + 20) z) all
    (by_many g t plays out m f fs z is_named r (subst (FramesIn t r.sh m.stops (r.cells 4)) e r.mid.frames) f.many refl)
