-- Closures, by what they capture.
use Rattle.std.proofs.Common.{◌≡◌, ℕ, ◌+◌, ◌-◌, ◌<◌, ◌≤◌, List, [], ◌∷◌, ◌++◌, Option, Some, None, refl, sym, ap, ◌∙◌, subst, arith, length, length-drop, map, take, drop, get_or}
use Rattle.std.specs.Prelude.{slice_get, option_map}
use Rattle.dg_base.specs.declared.program.Place.{Place}
use Rattle.dg_base.specs.declared.program.PlaceKind.{PlaceKind}
use Rattle.std.proofs.lemmas.Option.{slice_get-map}
use Rattle.std.specs.List.{All}
use Rattle.std.proofs.lemmas.List.{take_all, drop_all, map_more, drop-append-le, take-append-le}
use Rattle.std.proofs.lemmas.List.Elements.{All-cons}
use Rattle.dg_base.specs.declared.program.Term.{Term, out-Term, roll-Term, roll-out-Term}
use Rattle.dg_base.specs.declared.program.Term.TheOpen as term
use Rattle.dg_base.specs.declared.program.Term.TheVariants.{Pair as Pair-Term, Closure as Closure-Term, outs-Closure, rolls-Pair, rolls-Closure}
use Rattle.dg_base.specs.declared.program.ClosureBody.{ClosureBody}
use Rattle.dg_base.specs.declared.program.CoreProgram.{CoreProgram}
use Rattle.dg_meaning.specs.Values.{Value, Closure, Node, node_parts, value_of, value_of_var, captured_values}
use Rattle.dg_meaning.specs.Cells.{captured_count, node_cells, cells}
use Rattle.dg_unify.specs.Store.{State, Store, Kept, Charged, Made, told, told_parts, Holds}
use Rattle.dg_unify.specs.declared.bindings.Ref.{Ref}
use Rattle.dg_unify.proofs.StoreLemmas.{told_is, holds_some}
use Rattle.dg_machine.specs.declared.tables.Tables.{Tables}
use Rattle.dg_machine.specs.Built.{IsNoPair}
use Rattle.dg_mid.specs.Heads.{IsPlain}
use Rattle.dg_machine.specs.Refs.{RefsAt}
use Rattle.dg_machine.specs.Tables.{IsOf, items_in, captured_at}
use Rattle.dg_machine.specs.inside.Writing.{cells_of}
use Rattle.dg_machine.proofs.Kept.{refs_kept}
use Rattle.dg_machine.proofs.TermLemmas.{refs_end}

-- ## The lists of a table

abbrev pub captured_in : Option ClosureBody → List ℕ
captured_in None = []
captured_in (Some c) = c.captured

same_items : (o : Option (List ℕ)) (q : Option ClosureBody) → o ≡ option_map (λ (c : ClosureBody). c.captured) q → items_in o ≡ captured_in q
same_items None None e = refl
same_items (Some v) None e = absurd (cc)
same_items None (Some c) e = absurd (cc)
same_items (Some v) (Some c) e = let same : v ≡ c.captured = cc in same

-- the table has what the program's closure captures
pub captured_is : (p : CoreProgram) (t : Tables) (place : ℕ) → IsOf p t → captured_at t place ≡ captured_in (slice_get p.closures place)
captured_is p t place is =
    same_items (slice_get t.captured place) (slice_get p.closures place)
    (ap (λ (l : List (List ℕ)). slice_get l place) is.captured ∙ slice_get-map (λ (c : ClosureBody). c.captured) p.closures place)

captured_parts : (vs : List Value) (o : Option ClosureBody) → captured_values vs o ≡ node_parts (map (value_of_var vs) (captured_in o))
captured_parts vs None = refl
captured_parts vs (Some c) = refl

captured_many : (o : Option ClosureBody) → captured_count o ≡ length (captured_in o)
captured_many None = refl
captured_many (Some c) = refl

value_closure : (p : CoreProgram) (vs : List Value) (place : ℕ) → value_of p vs (Closure-Term place) ≡ Node (Closure place) (node_parts (map (value_of_var vs) (captured_in (slice_get p.closures place))))
unfolding out-Term denote.Hole.Carrier.out
value_closure p vs place = ap (Node (Closure place)) (captured_parts vs (slice_get p.closures place))

cells_closure : (p : CoreProgram) (place : ℕ) → cells_of p (Closure-Term place) ≡ 3 + length (captured_in (slice_get p.closures place))
cells_closure p place =
    let top = ap (node_cells p) (outs-Closure place) in
    let alone : cells p (Closure-Term place ∷ []) ≡ 0 + node_cells p (out-Term (Closure-Term place)) = refl in
    omega (arith, top, alone, captured_many (slice_get p.closures place))

-- ## Refs of what is captured

told_all : (s : Store) (rs : List Ref) (vs : List Value) → RefsAt s rs vs → map (told s) rs ≡ vs
told_all s [] [] h = refl
told_all s (r ∷ rs) (v ∷ vs) h = ap (λ x. x ∷ map (told s) rs) (told_is s r v h.0) ∙ ap (λ l. v ∷ l) (told_all s rs vs h.1)
told_all s [] (v ∷ vs) h = absurd h
told_all s (r ∷ rs) [] h = absurd h

pub all_hold : (s : Store) (rs : List Ref) (vs : List Value) → RefsAt s rs vs → All (Holds s) rs
all_hold s [] [] h = λ k d le. absurd (omega (arith, le))
all_hold s (r ∷ rs) (v ∷ vs) h = All-cons (Holds s) r rs (holds_some s r v h.0) (all_hold s rs vs h.1)
all_hold s [] (v ∷ vs) h = absurd h
all_hold s (r ∷ rs) [] h = absurd h

refs_drop : (s : Store) (rs : List Ref) → RefsAt s (drop (length rs) rs) []
refs_drop s rs = subst (λ l. RefsAt s l []) (sym (drop_all (length rs) rs (omega arith))) tt

pub vars_none : (s : Store) (rs : List Ref) (vs : List Value) (vars : List ℕ) → RefsAt s (drop (length rs) rs) (map (value_of_var vs) (take 0 vars))
vars_none s rs vs [] = refs_drop s rs
vars_none s rs vs (x ∷ vars) = refs_drop s rs

-- one more variable was put behind
pub vars_on : (vs : List Value) (vars : List ℕ) (i : ℕ) (s u : Store) (n : ℕ) (rs qs : List Ref) (r : Ref) → i < length vars → n ≤ length rs → Kept s u → qs ≡ rs ++ r ∷ [] → RefsAt s (drop n rs) (map (value_of_var vs) (take i vars)) → u.value r ≡ Some (value_of_var vs (get_or vars i 0)) → RefsAt u (drop n qs) (map (value_of_var vs) (take (i + 1) vars))
vars_on vs vars i s u n rs qs r lt le kept pushed h value =
    let f = value_of_var vs in
    let values : map f (take (i + 1) vars) ≡ map f (take i vars) ++ f (get_or vars i 0) ∷ [] = map_more f vars i 0 lt in
    let refs : drop n qs ≡ drop n rs ++ r ∷ [] = ap (drop n) pushed ∙ drop-append-le n rs (r ∷ []) le in
    subst (λ l. RefsAt u l (map f (take (i + 1) vars))) (sym refs) (subst (RefsAt u (drop n rs ++ r ∷ [])) (sym values) (refs_end u (drop n rs) (map f (take i vars)) r (f (get_or vars i 0)) (refs_kept s u (drop n rs) (map f (take i vars)) kept h) value))

pub vars_before : (n : ℕ) (rs qs : List Ref) (r : Ref) → n ≤ length rs → qs ≡ rs ++ r ∷ [] → take n qs ≡ take n rs
vars_before n rs qs r le pushed = ap (take n) pushed ∙ take-append-le n rs (r ∷ []) le

pub vars_all : (s : Store) (vs : List Value) (vars : List ℕ) (i : ℕ) (rs : List Ref) → length vars ≤ i → RefsAt s rs (map (value_of_var vs) (take i vars)) → RefsAt s rs (map (value_of_var vs) vars)
vars_all s vs vars i rs le h = subst (λ l. RefsAt s rs (map (value_of_var vs) l)) (take_all i vars le) h

module _ (p : CoreProgram) (t : Tables) (vs : List Value) (place : ℕ) (is : IsOf p t) where
  pub closure_cells : cells_of p (Closure-Term place) ≡ 3 + length (captured_at t place)
  closure_cells = cells_closure p place ∙ ap (λ l. 3 + length l) (sym (captured_is p t place is))

  pub closure_made : (s u v : Store) (refs : List Ref) (r : Ref) → Kept s u → u.state ≡ s.state → RefsAt u refs (map (value_of_var vs) (captured_at t place)) → length refs ≡ length (captured_at t place) → Made (3 + length refs) u v r (Node (Closure place) (told_parts u refs)) → Made (cells_of p (Closure-Term place)) s v r (value_of p vs (Closure-Term place))
  closure_made s u v refs r kept same h count m =
      let n : 3 + length refs ≡ cells_of p (Closure-Term place) = ap (λ k. 3 + k) count ∙ sym closure_cells in
      let parts : told_parts u refs ≡ node_parts (map (value_of_var vs) (captured_in (slice_get p.closures place))) = ap node_parts (told_all u refs (map (value_of_var vs) (captured_at t place)) h) ∙ ap (λ l. node_parts (map (value_of_var vs) l)) (captured_is p t place is) in
      let c = m.charged in
      record {
        charged = subst (λ k. Charged k s v) n (record { fits = subst (λ (x : State). x.heap + (3 + length refs) ≤ s.heap_limit) same (subst (λ k. u.state.heap + (3 + length refs) ≤ k) kept.heap_limit c.fits); state = subst (λ (x : State). v.state ≡ record x { heap = x.heap + (3 + length refs) }) same c.state });
        value = m.value ∙ ap (λ x. Some (Node (Closure place) x)) parts ∙ ap Some (sym (value_closure p vs place));
      }

  pub closure_over : (s : Store) (n : ℕ) → n ≡ length (captured_at t place) → s.heap_limit < s.state.heap + (3 + n) → s.heap_limit < s.state.heap + cells_of p (Closure-Term place)
  closure_over s n e over = omega (arith, over, e, closure_cells)

-- what stands behind a height
pub slice_is : (ys ds : List Ref) (h n : ℕ) → ds ≡ ys → h ≡ n → take (length ds - h) (drop h ds) ≡ drop n ys
slice_is ys ds h n is e = take_all (length ds - h) (drop h ds) (omega (arith, length-drop h ds)) ∙ ap (λ k. drop k ds) e ∙ ap (drop n) is

pub slice_length : (ys ds : List Ref) (h n k : ℕ) → ds ≡ ys → h ≡ n → length ys ≡ n + k → length (take (length ds - h) (drop h ds)) ≡ k
slice_length ys ds h n k is e count = ap length (slice_is ys ds h n is e) ∙ length-drop n ys ∙ (let left : length ys - n ≡ k = omega (arith, count) in left)

-- ## A program with these tables

pub a_program : Tables → CoreProgram
a_program t = record { preds = []; closures = map (λ (v : List ℕ). record { captured = v; own = 0; body = [] }) t.captured; places = map (λ (k : PlaceKind). record { kind = k; start = [] }) t.kinds.items; objects = t.objects; words = t.words; sites = 0; entry = 0 }

map_both : (vs : List (List ℕ)) → vs ≡ map (λ (c : ClosureBody). c.captured) (map (λ (v : List ℕ). record { captured = v; own = 0; body = [] }) vs)
map_both [] = refl
map_both (v ∷ vs) = ap (λ l. v ∷ l) (map_both vs)

kinds_both : (ks : List PlaceKind) → ks ≡ map (λ (place : Place). place.kind) (map (λ (k : PlaceKind). record { kind = k; start = [] }) ks)
kinds_both [] = refl
kinds_both (k ∷ ks) = ap (λ l. k ∷ l) (kinds_both ks)

pub a_program_is : (t : Tables) → IsOf (a_program t) t
unfolding a_program
a_program_is t = record { kinds = kinds_both t.kinds.items; words = refl; objects = refl; captured = map_both t.captured }

-- ## Terms that are no pair

leaf_top : (x : Term) (o : term.Term-F Term) → out-Term x ≡ o → IsNoPair o → ((c : ℕ) → x ≡ Closure-Term c → ⊥) → IsPlain o
leaf_top x (term.Pair h t) e leaf other = leaf
leaf_top x (term.Closure c) e leaf other = other c (sym (roll-out-Term x) ∙ ap roll-Term e ∙ rolls-Closure c)
leaf_top x o e leaf other = tt

pub leaf_plain : (x : Term) → IsNoPair (out-Term x) → ((c : ℕ) → x ≡ Closure-Term c → ⊥) → IsPlain (out-Term x)
leaf_plain x leaf other = leaf_top x (out-Term x) refl leaf other

no_pair_top : (x : Term) (o : term.Term-F Term) → out-Term x ≡ o → ((h t : Term) → x ≡ Pair-Term h t → ⊥) → IsNoPair o
no_pair_top x (term.Pair h t) e other = other h t (sym (roll-out-Term x) ∙ ap roll-Term e ∙ rolls-Pair h t)
no_pair_top x o e other = tt

pub no_pair : (x : Term) → ((h t : Term) → x ≡ Pair-Term h t → ⊥) → IsNoPair (out-Term x)
no_pair x other = no_pair_top x (out-Term x) refl other
