-- Cells become boxes.
use Rattle.std.proofs.Common.{◌≡◌, ℕ, ◌+◌, ◌<◌, ◌≤◌, inl, inr, Option, Some, refl, sym, ◌∙◌, arith}
use Rattle.std.specs.Prelude.{nat_lt, if◌then◌else◌}
use Rattle.std.proofs.lemmas.Bool.{lt-ltb, le-ltb, cond-true, cond-false, cases_lt}
use Rattle.dg_meaning.specs.Substitutions.{Substitution}
use Rattle.dg_meaning.specs.Values.{Value}
use Rattle.dg_rt.proofs.Grows.{grown_shows}
use Rattle.dg_rt.specs.Back.{Grown}
use Rattle.dg_rt.specs.Shapes.{Shape, IsShape, Stands}

-- ## Boxes

-- New boxes stand from a place on, below the top, apart.
pub record AreNew (sh : Shape) (from : ℕ) (new : ℕ → Option Value) : Type 0 where
  pub within : (k : ℕ) (v : Value) → new k ≡ Some v → (from ≤ k) × (k + 3 ≤ sh.top)
  pub apart : (j k : ℕ) (v w : Value) → new j ≡ Some v → new k ≡ Some w → j < k → j + 3 ≤ k
  pub older : (k : ℕ) (v : Value) → sh.box k ≡ Some v → k + 3 ≤ from

module _ (sh : Shape) (is : IsShape sh) (from : ℕ) (new : ℕ → Option Value) (are : AreNew sh from new) where
  abbrev pub with_boxes : Shape
  with_boxes = record sh { box = λ k. if nat_lt k from then sh.box k else new k }

  pub old_box : (k : ℕ) → k < from → with_boxes.box k ≡ sh.box k
  old_box k lt = cond-true (nat_lt k from) (sh.box k) (new k) (lt-ltb k from lt)

  pub new_box : (k : ℕ) → from ≤ k → with_boxes.box k ≡ new k
  new_box k le = cond-false (nat_lt k from) (sh.box k) (new k) (le-ltb k from le)

  pub boxes_grown : Grown sh with_boxes
  boxes_grown = record { top = omega arith; vars = omega arith; places = λ n lt. refl; others = λ k f. f; fixed = λ k f. refl; boxes = λ k v e. old_box k (let o = are.older k v e in omega arith) ∙ e; told = λ place. refl }

  pub boxes_shape : IsShape with_boxes
  boxes_shape = record {
    within = is.within;
    order = is.order;
    apart = λ j k v w ej ek lt. elim (cases_lt k from) [
      | inl old ↦ is.apart j k v w (sym (old_box j (omega arith)) ∙ ej) (sym (old_box k old) ∙ ek) lt
      | inr ge ↦ elim (cases_lt j from) [
        | inl old ↦ (let o = are.older j v (sym (old_box j old) ∙ ej) in omega arith)
        | inr ge' ↦ are.apart j k v w (sym (new_box j ge') ∙ ej) (sym (new_box k ge) ∙ ek) lt
      ]
    ];
    ends = λ k v e. elim (cases_lt k from) [
      | inl old ↦ is.ends k v (sym (old_box k old) ∙ e)
      | inr ge ↦ (are.within k v (sym (new_box k ge) ∙ e)).1
    ];
    room = is.room;
  }

  pub boxes_stand : (cells : ℕ → ℕ) (S : Substitution) → Stands sh cells S → Stands with_boxes cells S
  boxes_stand cells S st = record { sound = st.sound; fixed = st.fixed; unbound = st.unbound; bound = λ n v lt e. grown_shows boxes_grown (st.bound n v lt e) }

  pub is_new : (k : ℕ) (v : Value) → new k ≡ Some v → with_boxes.box k ≡ Some v
  is_new k v e = new_box k (are.within k v e).0 ∙ e
