-- A frame is made: six cells, and variables of its own behind them.
use Rattle.std.proofs.Common.{◌≡◌, ℕ, zero, suc, ◌+◌, ◌-◌, ◌<◌, ◌≤◌, inl, inr, Some, None, refl, sym, ap, ◌∙◌, subst, arith}
use Rattle.std.specs.Prelude.{nat_lt, if◌then◌else◌}
use Rattle.std.proofs.lemmas.Bool.{lt-ltb, le-ltb, cond-true, cond-false, cases_lt}
use Rattle.dg_meaning.specs.Moves.{new_vars}
use Rattle.dg_meaning.specs.Substitutions.{Substitution}
use Rattle.dg_meaning.specs.Values.{Var}
use Rattle.dg_meaning.specs.inside.Unifiers.{binding_of}
use Rattle.dg_rt.proofs.Grows.{grown_shows}
use Rattle.dg_rt.specs.Areas.{heap_at}
use Rattle.dg_rt.specs.Back.{at_place, Grown}
use Rattle.dg_rt.specs.Frames.{InRow}
use Rattle.dg_rt.specs.Shapes.{Shape, IsShape, IsFixed, Shows, variable, Stands, Cell}

module _ (sh : Shape) (cells cells' : ℕ → ℕ) (S : Substitution) (is : IsShape sh) (low : (n : ℕ) → n < sh.vars → sh.place n < sh.top) (st : Stands sh cells S) (known : (n : ℕ) → sh.vars ≤ n → binding_of n S ≡ None)
    (block n : ℕ) (room : sh.top + block + n ≤ 10000) (same : (k : ℕ) → k < sh.top → cells' (heap_at + k) ≡ cells (heap_at + k)) (free : (j : ℕ) → j < n → cells' (heap_at + (sh.top + block + j)) ≡ at_place (sh.top + block + j)) where
  -- with a block of cells, and so many variables behind it
  abbrev pub made : Shape
  made = record sh {
    top = sh.top + block + n;
    vars = sh.vars + n;
    place = λ x. if nat_lt x sh.vars then sh.place x else sh.top + block + (x - sh.vars);
    fixed = λ k. if nat_lt k sh.top then sh.fixed k else cells' (heap_at + k);
  }

  old_place : (x : ℕ) → x < sh.vars → made.place x ≡ sh.place x
  old_place x lt = cond-true (nat_lt x sh.vars) (sh.place x) (sh.top + block + (x - sh.vars)) (lt-ltb x sh.vars lt)

  pub new_place : (x : ℕ) → sh.vars ≤ x → made.place x ≡ sh.top + block + (x - sh.vars)
  new_place x le = cond-false (nat_lt x sh.vars) (sh.place x) (sh.top + block + (x - sh.vars)) (le-ltb x sh.vars le)

  old_fixed : (k : ℕ) → k < sh.top → made.fixed k ≡ sh.fixed k
  old_fixed k lt = cond-true (nat_lt k sh.top) (sh.fixed k) (cells' (heap_at + k)) (lt-ltb k sh.top lt)

  new_fixed : (k : ℕ) → sh.top ≤ k → made.fixed k ≡ cells' (heap_at + k)
  new_fixed k le = cond-false (nat_lt k sh.top) (sh.fixed k) (cells' (heap_at + k)) (le-ltb k sh.top le)

  fixed_still : (k : ℕ) → IsFixed sh k → IsFixed made k
  fixed_still k f = (
    let lt = f.0 in omega arith,
    λ x lt e. elim (cases_lt x sh.vars) [
      | inl old ↦ f.1 x old (sym (old_place x old) ∙ e)
      | inr ge ↦ (let p = new_place x ge in let l = f.0 in absurd (omega arith))
    ],
  )

  pub made_grown : Grown sh made
  made_grown = record { top = omega arith; vars = omega arith; places = old_place; others = fixed_still; fixed = λ k f. old_fixed k f.0; boxes = λ k v e. e; told = λ place. refl }

  -- a cell of the block
  pub block_cell : (i : ℕ) → i < block → Cell made (sh.top + i) (cells' (heap_at + (sh.top + i)))
  block_cell i lt = record {
    fixed = (
      omega arith,
      λ x lt' e. elim (cases_lt x sh.vars) [
        | inl old ↦ (let p = old_place x old in let l = low x old in absurd (omega arith))
        | inr ge ↦ (let p = new_place x ge in absurd (omega arith))
      ],
    );
    is = new_fixed (sh.top + i) (omega arith);
  }

  -- its variables
  row_from : (j left : ℕ) → j + left ≡ n → InRow made (sh.top + block + j) (new_vars left (sh.vars + j))
  row_from j zero e = tt
  row_from j (suc left) e =
      let p : made.place (sh.vars + j) ≡ sh.top + block + j = new_place (sh.vars + j) (omega arith) ∙ (let z : sh.vars + j - sh.vars ≡ j = omega arith in ap (λ (i : ℕ). sh.top + block + i) z) in
      let next : suc (sh.top + block + j) ≡ sh.top + block + suc j = omega arith in
      let next' : suc (sh.vars + j) ≡ sh.vars + suc j = omega arith in (
        subst (λ (k : ℕ). Shows made (at_place k) (Var (sh.vars + j))) p (variable (sh.vars + j) (omega arith)),
        subst (λ (k : ℕ). InRow made k (new_vars left (suc (sh.vars + j)))) (sym next) (subst (λ (i : ℕ). InRow made (sh.top + block + suc j) (new_vars left i)) (sym next') (row_from (suc j) left (omega arith))),
      )

  pub made_row : InRow made (sh.top + block) (new_vars n sh.vars)
  made_row = let a : sh.top + block + 0 ≡ sh.top + block = omega arith in let b : sh.vars + 0 ≡ sh.vars = omega arith in subst (λ (k : ℕ). InRow made k (new_vars n sh.vars)) a (subst (λ (i : ℕ). InRow made (sh.top + block + 0) (new_vars n i)) b (row_from 0 n (omega arith)))

  pub made_low : (x : ℕ) → x < made.vars → made.place x < made.top
  made_low x lt = elim (cases_lt x sh.vars) [
    | inl old ↦ (let p = old_place x old in let l = low x old in omega arith)
    | inr ge ↦ (let p = new_place x ge in omega arith)
  ]

  pub made_shape : IsShape made
  made_shape = record {
    within = λ x lt. let l = made_low x lt in omega arith;
    order = λ x y lt lt'. elim (cases_lt y sh.vars) [
      | inl old ↦ (let p = old_place x (omega arith) in let q = old_place y old in let o = is.order x y lt old in omega arith)
      | inr ge ↦ elim (cases_lt x sh.vars) [
        | inl old ↦ (let p = old_place x old in let q = new_place y ge in let l = low x old in omega arith)
        | inr ge' ↦ (let p = new_place x ge' in let q = new_place y ge in omega arith)
      ]
    ];
    apart = is.apart;
    ends = λ k v e. let l = is.ends k v e in omega arith;
    room = omega arith;
  }

  pub made_stands : Stands made cells' S
  made_stands = record {
    sound = st.sound;
    fixed = λ k lt f. elim (cases_lt k sh.top) [
      | inl old ↦ same k old ∙ st.fixed k lt (old, λ x below e. f.1 x (omega arith) (old_place x below ∙ e)) ∙ sym (old_fixed k old)
      | inr ge ↦ sym (new_fixed k ge)
    ];
    unbound = λ x lt e. elim (cases_lt x sh.vars) [
      | inl old ↦ subst (λ (k : ℕ). cells' (heap_at + k) ≡ at_place k) (sym (old_place x old)) (same (sh.place x) (low x old) ∙ st.unbound x old e)
      | inr ge ↦ subst (λ (k : ℕ). cells' (heap_at + k) ≡ at_place k) (sym (new_place x ge)) (free (x - sh.vars) (omega arith))
    ];
    bound = λ x v lt e. elim (cases_lt x sh.vars) [
      | inl old ↦ subst (λ (k : ℕ). Shows made (cells' (heap_at + k)) v) (sym (old_place x old)) (subst (λ (w : ℕ). Shows made w v) (sym (same (sh.place x) (low x old))) (grown_shows made_grown (st.bound x v old e)))
      | inr ge ↦ absurd (let k : None ≡ Some v = sym (known x ge) ∙ e in cc)
    ];
  }

  pub made_known : (x : ℕ) → made.vars ≤ x → binding_of x S ≡ None
  made_known x le = known x (omega arith)
