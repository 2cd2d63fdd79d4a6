-- The cell of an unbound variable that is no older than the newest mark is written: it is bound, and the trail stays.
use Rattle.std.proofs.Common.{◌≡◌, ◌≢◌, ℕ, ◌+◌, ◌<◌, ◌≤◌, false, List, [], ◌∷◌, Some, None, refl, sym, ap, ◌∙◌, arith}
use Rattle.std.specs.Prelude.{eqb, nat_lt}
use Rattle.std.proofs.lemmas.Bool.{ne_eqb, cond-false, ltb-false, le-ltb}
use Rattle.z_lang.specs.declared.act.Atom.TheVariants as atoms
use Rattle.z_lang.specs.declared.act.Width.TheVariants as widths
use Rattle.z_lang.specs.declared.act.Act.TheVariants as acts
use Rattle.z_lang.specs.Acts.{does}
use Rattle.dg_meaning.specs.Values.{Value}
use Rattle.dg_meaning.specs.Substitutions.{Substitution}
use Rattle.dg_meaning.specs.inside.Substitutions.{FitsFront}
use Rattle.dg_meaning.specs.inside.Unifiers.{binding_of}
use Rattle.dg_rt.specs.Cells.{at_cell, with_cell, replaced, Holds}
use Rattle.dg_rt.specs.Areas.{heap_at, trail_at}
use Rattle.dg_rt.specs.Shapes.{Shape, Shows, Stands}
use Rattle.dg_rt.specs.Moments.{trail_for, trail_of, IsAt, Setting, Moment, in_state}
use Rattle.dg_rt.proofs.Following.{some_state, writes}
use Rattle.dg_rt.proofs.Locals.{get_1, get_2}
use Rattle.dg_rt.proofs.Cells.{holds_with, other_cell, same_cell, writes_cell}
use Rattle.dg_rt.proofs.Showing.{word_small}
use Rattle.dg_rt.proofs.Backs.{trail_stays, back_young}
use Rattle.dg_rt.proofs.Binding.{stands_bound, entries_stay}

module _ (g : Setting) (S : Substitution) (m : Moment g S) (n y : ℕ) (v : Value) (old : n < g.sh.vars) (young : g.since ≤ n) (fits : FitsFront n v S) (shows : Shows g.sh y v) where
  abbrev pub place : ℕ
  place = heap_at + g.sh.place n

  abbrev pub written : List ℕ
  written = with_cell m.memory place y

  abbrev pub cells' : ℕ → ℕ
  cells' = replaced m.cells place y

  pub no_trail : nat_lt n g.since ≡ false
  no_trail = le-ltb n g.since young

  pub free : trail_for g.since n ≡ 0
  free = rw no_trail refl

  pub holds : Holds g.p.world.layout written cells'
  holds =
      let room = g.has.mapped.room in
      let within = g.is.within n old in
      holds_with g.p.world.layout m.memory m.cells place y m.at.holds (omega arith) (word_small g.is shows)

  -- a word that isn't the variable's cell
  pub elsewhere : (k : ℕ) → k ≢ place → cells' k ≡ m.cells k
  elsewhere k ne = other_cell m.cells place y k ne

  pub on_trail : (i : ℕ) → cells' (trail_at + i) ≡ m.cells (trail_at + i)
  on_trail i = let within = g.is.within n old in elsewhere (trail_at + i) (λ (e : trail_at + i ≡ place). (omega arith))

  pub stands : Stands g.sh cells' ((n, v) ∷ S)
  stands = stands_bound g.is m.cells cells' S n v y m.at.stands old fits shows (λ k lt ne. elsewhere (heap_at + k) (λ (e : heap_at + k ≡ place). ne (omega arith))) (same_cell m.cells place y)

  pub is_at : IsAt g.p.world.layout g.sh g.since g.hb g.S0 g.left g.begun written cells' ((n, v) ∷ S)
  is_at =
      let within = g.is.within n old in
      let height = elsewhere 1 (λ (e : 1 ≡ place). (omega arith)) in
      record {
        holds = holds;
        stands = stands;
        mark = elsewhere 2 (λ (e : 2 ≡ place). (omega arith)) ∙ m.at.mark;
        made = (n, v) ∷ m.at.made;
        made_is = ap (λ (s : Substitution). (n, v) ∷ s) m.at.made_is;
        height = height ∙ m.at.height ∙ (let t = free in omega arith);
        trail = m.at.trail;
        on_trail = trail_stays m.cells cells' m.at.trail (λ i lt. on_trail i) m.at.on_trail;
        tall = m.at.tall ∙ sym height;
        known = λ x le. cond-false (eqb x n) (Some v) (binding_of x S) (ne_eqb x n (λ (e : x ≡ n). (omega arith))) ∙ m.at.known x le;
        others = λ k ne far. elsewhere k (λ (e : k ≡ place). (let z : 12315 ≤ k = far (omega arith) in omega arith)) ∙ m.at.others k ne far;
        backs = λ w le b. back_young w (g.sh.place n) y (let z = ltb-false (g.sh.place n) g.hb (sym (g.marked.older n old) ∙ no_trail) in omega arith) (m.at.backs w le b);
        entries = (λ e. absurd (let q = no_trail in cc), entries_stay g.sh m.cells cells' g.since g.left (g.left + trail_of g.since m.at.made) m.at.made (λ i lt. on_trail i) (omega arith) m.at.entries);
      }

  -- the moment behind it
  abbrev pub stored : Moment g ((n, v) ∷ S)
  stored = record { memory = written; cells = cells'; at = is_at; room = let t = free in let r = m.room in omega arith }

  -- the write
  pub stores : (c d : ℕ) → does g.p (acts.Write widths.Word (atoms.Num 670) (atoms.Var 2) (atoms.Var 1)) (in_state g m.memory (y ∷ (32768 + g.sh.place n) ∷ c ∷ d ∷ [])) ≡ some_state (in_state g written (y ∷ (32768 + g.sh.place n) ∷ c ∷ d ∷ []))
  stores c d =
      let room = g.has.mapped.room in
      let within = g.is.within n old in
      writes g.p (in_state g m.memory (y ∷ (32768 + g.sh.place n) ∷ c ∷ d ∷ [])) widths.Word (atoms.Num 670) (atoms.Var 2) (atoms.Var 1) (at_cell heap_at) (32768 + g.sh.place n) y written refl
      (get_2 g.p m.memory y (32768 + g.sh.place n) c d g.typed g.drawn g.output) (get_1 g.p m.memory y (32768 + g.sh.place n) c d g.typed g.drawn g.output)
      (writes_cell g.p.world.layout m.memory m.cells (at_cell heap_at) (32768 + g.sh.place n) y place m.at.holds (omega arith) (omega arith))
