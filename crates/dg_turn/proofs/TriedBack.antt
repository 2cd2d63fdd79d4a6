-- A failure goes back to a choice of further objects: one turn of the story.
use Rattle.std.proofs.Common.{◌≡◌, ℕ, suc, ◌+◌, ◌-◌, ◌*◌, List, ◌∷◌, length, refl, sym, ap, ◌∙◌, subst, arith}
use Rattle.dg_mid.specs.Heights.{ChoicesNamed}
use Rattle.dg_mid.specs.State.{Find, Choice, Mid}
use Rattle.dg_mid.specs.Step.{back_at}
use Rattle.dg_mid.specs.Units.{undone}
use Rattle.z_model.specs.Run.{ZState}
use Rattle.dg_rt.specs.declared.numbers.TheConstants.{FAIL}
use Rattle.dg_rt.specs.Areas.{heap_at}
use Rattle.dg_rt.specs.Back.{at_place}
use Rattle.dg_rt.specs.Shapes.{Shape}
use Rattle.dg_turn.specs.Told.{Telling}
use Rattle.dg_turn.specs.Lies.{CellsAre, TriesIn, WayIn, ChoicesIn}
use Rattle.dg_turn.specs.Rest.{gather_words}
use Rattle.dg_turn.specs.Plays.{Playing, Outside, Represented, registers}
use Rattle.dg_turn.specs.Seeking.{BackTrying, BackTryingTurns}
use Rattle.dg_turn.proofs.FailTurn.{args_back, gone, field, cell_word, to_next, word_small, few_in_all}
use Rattle.dg_turn.proofs.Rows.{words_length, registers_same}
use Rattle.dg_turn.proofs.TryTurn.{few_terms}

module _ (t : Telling) (plays : Playing t) (out : Outside) (m : Mid) (x : Choice) (xs : List Choice) (z : ZState)
    (named : x.state.heap ≡ x.place.height) (r : Represented t out (t.p.names.routine FAIL) m z) (h : ChoicesIn t r.sh r.cells r.trail (gather_words m.gathered) (r.cells 5) (x ∷ xs)) (f : Find) (objects : List ℕ) (w : TriesIn t h.saved.sh h.routine h.args h.key f objects) where
  back : BackTrying t out f objects (back_at x xs m) (6 * (m.state.trail - x.state.trail) + 34) z
  back =
      let at = x.place.height in
      let few2 = few_terms w.sought in
      let count = w.count in
      let k = gone t plays out m x xs z named r h in
      let cs = h.cells_are in
      let size : length h.args ≡ length f.args = words_length h.saved.sh h.args f.args w.args_are in
      let ten : suc (suc (suc (suc (suc (suc (suc (suc (suc (suc at))))))))) ≡ at + 10 = omega arith in
      let row = subst (λ (i : ℕ). CellsAre r.sh i h.args) ten cs.1.1.1.1.1.1.1.1.1.1 in
      let go = to_next t plays out m x xs z named r h h.routine refl (word_small t plays out m x xs z named r h) in
      let words : registers k.cells' 16 (length h.args) ≡ h.args = args_back r.sh r.cells k.cells' (cell_word t plays out m x xs z named r h) 16 (at + 10) h.args (λ j lt. k.args j (omega arith) ∙ (let q : at + (10 + j) ≡ at + 10 + j = omega arith in ap (λ (i : ℕ). r.cells (heap_at + i)) q)) row in
      let there : registers go.rep.cells 16 (length f.args) ≡ h.args = registers_same k.cells' go.rep.cells 16 (length f.args) (λ j low lt. go.cells_are j (λ e. (omega arith))) ∙ ap (λ (i : ℕ). registers k.cells' 16 i) (sym size) ∙ words in
      let key : go.rep.cells 11 ≡ h.key = go.cells_are 11 (λ e. (omega arith)) ∙ k.key ∙ field t plays out m x xs z named r h 9 (suc (suc (suc (suc (suc (suc (suc (suc (suc at))))))))) h.key (omega arith) cs.1.1.1.1.1.1.1.1.1.0 in
      let tries : TriesIn t h.saved.sh h.routine (registers go.rep.cells 16 (length f.args)) (go.rep.cells 11) f objects = rw (there, key) w in
      record {
        there = go.there;
        count = k.count + 2;
        some = omega arith;
        few = few_in_all t plays out m x xs z named r h;
        leads = go.leads;
        at = record { x = h.routine; rep = go.rep; tries = subst (λ (s : Shape). TriesIn t s h.routine (registers go.rep.cells 16 (length f.args)) (go.rep.cells 11) f objects) (sym go.shape_is) tries };
      }

pub back_trying_turns : BackTryingTurns
back_trying_turns t plays out m x xs f objects z e way ordered r =
    let h : ChoicesIn t r.sh r.cells r.trail (gather_words m.gathered) (r.cells 5) (x ∷ xs) = subst (ChoicesIn t r.sh r.cells r.trail (gather_words m.gathered) (r.cells 5)) e r.mid.choices in
    let names : ChoicesNamed m.next_tag m.state.heap (x ∷ xs) = subst (ChoicesNamed m.next_tag m.state.heap) e ordered in
    let w : TriesIn t h.saved.sh h.routine h.args h.key f objects = subst (WayIn t h.saved.sh h.routine h.args h.next (at_place x.place.height) h.many h.key x.state.subst) way h.way in
    let undo : m.state.trail - x.state.trail ≡ undone m.choices m = sym (ap (λ (l : List Choice). undone l m) e) in
    subst (λ (i : ℕ). BackTrying t out f objects (back_at x xs m) (6 * i + 34) z) undo (back t plays out m x xs z names.2 r h f objects w)
