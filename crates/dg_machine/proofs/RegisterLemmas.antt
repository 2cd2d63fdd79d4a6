-- Values of terms one after the other.
use Rattle.std.proofs.Common.{◌≡◌, ℕ, ◌+◌, ◌<◌, ◌≤◌, List, [], ◌∷◌, ◌++◌, refl, sym, ap, ◌∙◌, subst, arith, length, map, take, drop, get_or, MatchResult}
use Rattle.std.specs.Prelude.{Result, Ok, Err}
use Rattle.std.specs.List.{flat_map, sum_by}
use Rattle.std.proofs.lemmas.List.{take_more, take_all, take-append-drop, map_more}
use Rattle.std.proofs.lemmas.List.Sums.{sum_by-append}
use Rattle.std.proofs.lemmas.Grind.{flat_map-append}
use Rattle.dg_base.specs.declared.program.Term.{Term, out-Term}
use Rattle.dg_base.specs.declared.program.CoreProgram.{CoreProgram}
use Rattle.dg_base.specs.Terms.{nodes}
use Rattle.dg_meaning.specs.Values.{Value, value_of}
use Rattle.dg_meaning.specs.Cells.{node_cells, cells}
use Rattle.dg_unify.specs.Store.{Store, Kept, Made}
use Rattle.dg_unify.specs.declared.bindings.Ref.{Ref}
use Rattle.dg_unify.specs.declared.bindings.Full.{Full}
use Rattle.dg_machine.specs.Refs.{RefsAt, Puts}
use Rattle.dg_machine.specs.inside.Writing.{Overflows, SpareFits}
use Rattle.dg_machine.proofs.Kept.{refs_kept}
use Rattle.dg_machine.proofs.TermLemmas.{refs_end}
use Rattle.dg_machine.proofs.WriteSteps.{charged_none, charged_both, overflows_behind}

-- ## Cells

pub cells_append : (p : CoreProgram) (xs ys : List Term) → cells p (xs ++ ys) ≡ cells p xs + cells p ys
cells_append p xs ys =
    let f = λ (x : Term). node_cells p (out-Term x) in
    ap (sum_by f) (flat_map-append nodes xs ys) ∙ sum_by-append f (flat_map nodes xs) (flat_map nodes ys)

cells_taken : (p : CoreProgram) (terms : List Term) (i : ℕ) (x : Term) → x ≡ get_or terms i x → i < length terms → cells p (take (i + 1) terms) ≡ cells p (take i terms) + cells p (x ∷ [])
cells_taken p terms i x is lt =
    ap (cells p) (take_more terms i x lt) ∙ cells_append p (take i terms) (get_or terms i x ∷ []) ∙ ap (λ y. cells p (take i terms) + cells p (y ∷ [])) (sym is)

cells_front : (p : CoreProgram) (terms : List Term) (i : ℕ) → cells p (take i terms) ≤ cells p terms
cells_front p terms i = let e = ap (cells p) (take-append-drop i terms) in omega (arith, e, cells_append p (take i terms) (drop i terms))

-- ## One value more

-- there is room still for what is kept behind others
pub spare_on : (s t : Store) (xs ys : List Ref) (room room' : ℕ) → Kept s t → s.state.heap ≤ t.state.heap → ys ≡ xs → room' ≡ room → SpareFits s room xs → SpareFits t room' ys
spare_on s t xs ys room room' kept le same e h = record { fits = omega (arith, h.fits, e, kept.heap_limit); few = omega (arith, h.few, ap length same, le) }

pub puts_none : (s : Store) (refs : List Ref) → s.state.heap ≤ s.heap_limit → refs ≡ [] → Puts 0 [] s s refs
puts_none s refs le none = record { charged = charged_none s s le refl; refs_are = subst (λ rs. RefsAt s rs []) (sym none) tt }

pub next_put : (n : ℕ) (us : List Value) (v : Value) (s t : Store) (refs more : List Ref) (r : Ref) → Kept s t → RefsAt s refs us → Made n s t r v → more ≡ refs ++ r ∷ [] → Puts n (us ++ v ∷ []) s t more
next_put n us v s t refs more r kept h made pushed = record {
  charged = made.charged;
  refs_are = subst (λ rs. RefsAt t rs (us ++ v ∷ [])) (sym pushed) (refs_end t refs us r v (refs_kept s t refs us kept h) made.value);
}

-- what is put behind other values is put with them
pub put_behind : {A : Type 0} (m n k : ℕ) (us ws : List Value) (s t u : Store) (refs more : List Ref) (result : Result A Full) → k ≡ m + n → Kept s t → Puts m us s t refs → MatchResult result (λ _. Puts n ws t u more) (λ _. Overflows n t) → MatchResult result (λ _. Puts k ws s u more) (λ _. Overflows k s)
put_behind m n k us ws s t u refs more (Ok x) e kept a b = record { charged = charged_both m n k s t u e kept a.charged b.charged; refs_are = b.refs_are }
put_behind m n k us ws s t u refs more (Err x) e kept a b = overflows_behind m n k s t (omega (arith, e)) kept a.charged b

pub cells_two : (p : CoreProgram) (a b : Term) → cells p (a ∷ b ∷ []) ≡ cells p (a ∷ []) + cells p (b ∷ [])
cells_two p a b = cells_append p (a ∷ []) (b ∷ [])

pub cells_three : (p : CoreProgram) (a b c : Term) → cells p (a ∷ b ∷ c ∷ []) ≡ cells p (a ∷ b ∷ []) + cells p (c ∷ [])
cells_three p a b c = cells_append p (a ∷ b ∷ []) (c ∷ [])

-- ## Several terms

module _ (p : CoreProgram) (vs : List Value) (terms : List Term) (i : ℕ) (x : Term) (is : x ≡ get_or terms i x) (lt : i < length terms) (s t u : Store) (kept : Kept s t) (refs more : List Ref) (a : Puts (cells p (take i terms)) (map (value_of p vs) (take i terms)) s t refs) where
  pub terms_on : Puts (cells p (x ∷ [])) (map (value_of p vs) (take i terms) ++ value_of p vs x ∷ []) t u more → Puts (cells p (take (i + 1) terms)) (map (value_of p vs) (take (i + 1) terms)) s u more
  terms_on b =
      let f = value_of p vs in
      let values : map f (take (i + 1) terms) ≡ map f (take i terms) ++ f x ∷ [] = map_more f terms i x lt ∙ ap (λ y. map f (take i terms) ++ f y ∷ []) (sym is) in
      record {
        charged = charged_both (cells p (take i terms)) (cells p (x ∷ [])) (cells p (take (i + 1) terms)) s t u (cells_taken p terms i x is lt) kept a.charged b.charged;
        refs_are = subst (RefsAt u more) (sym values) b.refs_are;
      }

  pub terms_full : Overflows (cells p (x ∷ [])) t → Overflows (cells p terms) s
  terms_full over =
      overflows_behind (cells p (take i terms)) (cells p (x ∷ [])) (cells p terms) s t (omega (arith, cells_taken p terms i x is lt, cells_front p terms (i + 1))) kept a.charged over

pub terms_put : (p : CoreProgram) (vs : List Value) (terms : List Term) (i : ℕ) (s t : Store) (refs : List Ref) → length terms ≤ i → Puts (cells p (take i terms)) (map (value_of p vs) (take i terms)) s t refs → Puts (cells p terms) (map (value_of p vs) terms) s t refs
terms_put p vs terms i s t refs le h = subst (λ ts. Puts (cells p ts) (map (value_of p vs) ts) s t refs) (take_all i terms le) h
