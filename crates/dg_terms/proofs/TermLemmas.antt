-- What a store takes while terms are written to it.
use Rattle.std.proofs.Common.{◌≡◌, ℕ, zero, suc, ◌+◌, ◌*◌, ◌<◌, ◌≤◌, List, [], ◌∷◌, ◌++◌, refl, sym, ap, ◌∙◌, arith, subst, length, append_assoc, append-nil, Option, Some, None}
use Rattle.std.specs.Prelude.{map, MatchResult, OnOk, Result, Ok, Err, take, drop, get_or, slice_get, ◌-◌}
use Rattle.std.specs.List.{All, flat_map, sum_by}
use Rattle.std.proofs.Math.Seq.{drop-append_seam, take-append_seam}
use Rattle.std.proofs.lemmas.List.{map-append, drop-append-le, length-append, length-map, take-append-drop, take_more, take_all, map_more}
use Rattle.std.proofs.lemmas.List.Elements.{All-head, All-tail, All-cons, All-push}
use Rattle.std.proofs.lemmas.List.Sums.{sum_by-append}
use Rattle.std.proofs.lemmas.Grind.{flat_map-append}
use Rattle.dg_base.specs.declared.program.Term.{Term, out-Term}
use Rattle.dg_base.specs.declared.program.Term.TheBlock.{hidden-the_row-Term-0}
use Rattle.dg_base.specs.declared.program.Term.TheVariants.{Pair as Pair-Term, Closure as Closure-Term, outs-Closure}
use Rattle.dg_base.specs.declared.program.ClosureBody.{ClosureBody}
use Rattle.dg_base.specs.declared.program.CoreProgram.{CoreProgram}
use Rattle.dg_base.specs.Terms.{nodes}
use Rattle.dg_meaning.specs.Values.{Value, Closure, Var, Node, pair, node_parts, value_of_var, captured_values, value_of}
use Rattle.dg_meaning.specs.Cells.{captured_count, node_cells, cells}
use Rattle.dg_meaning.specs.Moves.{new_vars}
use Rattle.dg_unify.specs.Store.{State, Store, told, told_parts, Holds, Kept, Charged, HeapFull, Fresh, Made}
use Rattle.dg_unify.specs.declared.bindings.Ref.{Ref}
use Rattle.dg_unify.specs.declared.bindings.Full.{Full}
use Rattle.dg_unify.specs.declared.bindings.Full.TheVariants as full
use Rattle.dg_unify.proofs.StoreLemmas.{told_is, holds_some, kept_on, kept_holds, kept_told}
use Rattle.dg_terms.specs.Terms.{Overflows, Appended, Written, MadeVars, captured_in, listed, HeadsWritten}

-- ## Charges

pub charged_none : (s t : Store) → s.state.heap ≤ s.heap_limit → t.state ≡ s.state → Charged 0 s t
charged_none s t le e = record { fits = omega (arith, le); state = e ∙ ap (λ h. record s.state { heap = h }) (omega arith) }

pub charged_on : (m n k : ℕ) (s t u : Store) → k ≡ m + n → Kept s t → Charged m s t → Charged n t u → Charged k s u
charged_on m n k s t u e kept a b =
    let h : t.state.heap ≡ s.state.heap + m = ap (λ (x : State). x.heap) a.state in
    record {
      fits = omega (arith, b.fits, kept.heap_limit, h, e);
      state = b.state ∙ ap (λ (x : State). record x { heap = x.heap + n }) a.state ∙ ap (λ h. record s.state { heap = h }) (omega (arith, e));
    }

pub overflows_later : (m n k : ℕ) (s t : Store) → m + n ≤ k → Kept s t → Charged m s t → (e : Full) → Overflows n t e → Overflows k s e
overflows_later m n k s t le kept a full.Heap h =
    let same : t.state.heap ≡ s.state.heap + m = ap (λ (x : State). x.heap) a.state in
    omega (arith, h, kept.heap_limit, same, le)
overflows_later m n k s t le kept a full.Trail h = h
overflows_later m n k s t le kept a full.OutOfMemory h = tt

pub overflows_heap : (n : ℕ) (s t : Store) (e : Full) → HeapFull n s t e → Overflows n s e
overflows_heap n s t full.Heap h = h.0
overflows_heap n s t full.Trail h = h
overflows_heap n s t full.OutOfMemory h = tt

pub made_none : (s t : Store) (r : Ref) (v : Value) → s.state.heap ≤ s.heap_limit → t.state ≡ s.state → t.value r ≡ Some v → Made 0 s t r v
made_none s t r v le e h = record { charged = charged_none s t le e; value = h }

-- a value without parts was made
pub value_made : (s t : Store) (v w : Value) (n : ℕ) (result : Result Ref Full) → n ≡ 0 → s.state.heap ≤ s.heap_limit → t.state ≡ s.state → w ≡ v → MatchResult result (λ r. t.value r ≡ Some v) (λ e. ⊥) → MatchResult result (λ r. Made n s t r w) (λ e. Overflows n s e)
value_made s t v w n (Ok r) z le e is h = rw (z, is) (made_none s t r v le e h)
value_made s t v w n (Err x) z le e is h = absurd h

-- ## Lists of Refs

pub all_kept : (s t : Store) (rs : List Ref) → Kept s t → All (Holds s) rs → All (Holds t) rs
all_kept s t rs kept h = λ k d le. kept_holds s t _ kept (h k d le)

pub map_kept : (s t : Store) (rs : List Ref) → Kept s t → All (Holds s) rs → map (told t) rs ≡ map (told s) rs
map_kept s t [] kept h = refl
map_kept s t (r ∷ rs) kept h =
    let a = kept_told s t r kept (All-head (Holds s) r rs h) in
    let b = map_kept s t rs kept (All-tail (Holds s) r rs h) in
    cc

pub appended_none : (s : Store) (xs : List Ref) → Appended s [] xs xs
appended_none s xs = record { made = []; is = sym (append-nil xs); hold = λ k d h. absurd (omega (arith, h)); values = refl }

pub appended_on : (t u : Store) (vs ws : List Value) (v : Value) (xs ys zs : List Ref) (r : Ref) → Kept t u → Appended t vs xs ys → u.value r ≡ Some v → zs ≡ ys ++ r ∷ [] → ws ≡ vs ++ v ∷ [] → Appended u ws xs zs
appended_on t u vs ws v xs ys zs r kept a h e is = record {
  made = a.made ++ r ∷ [];
  is = e ∙ ap (λ l. l ++ r ∷ []) a.is ∙ append_assoc xs a.made (r ∷ []);
  hold = All-push (Holds u) a.made r (all_kept t u a.made kept a.hold) (holds_some u r v h);
  values =
      map-append (told u) a.made (r ∷ [])
      ∙ ap (λ l. l ++ told u r ∷ []) (map_kept t u a.made kept a.hold ∙ a.values)
      ∙ ap (λ x. vs ++ x ∷ []) (told_is u r v h)
      ∙ sym is;
}

-- ## New variables

new_vars_more : (n v : ℕ) → new_vars (suc n) v ≡ new_vars n v ++ Var (v + n) ∷ []
new_vars_more zero v = ap (λ x. Var x ∷ []) (omega arith)
new_vars_more (suc n) v = ap (λ l. Var v ∷ l) (new_vars_more n (suc v) ∙ ap (λ x. new_vars n (suc v) ++ Var x ∷ []) (omega arith))

pub vars_none : (s : Store) (xs : List Ref) → s.state.heap ≤ s.heap_limit → MadeVars 0 s s xs xs
vars_none s xs le = record {
  fits = omega (arith, le);
  state = ap (λ h. record s.state { heap = h }) (omega arith) ∙ ap (λ v. record s.state { vars = v; heap = s.state.heap + 0 }) (omega arith);
  appended = appended_none s xs;
}

pub vars_on : (n m : ℕ) (s t u : Store) (xs ys zs : List Ref) (r : Ref) → m ≡ n + 1 → Kept s t → Kept t u → MadeVars n s t xs ys → Fresh t u r → zs ≡ ys ++ r ∷ [] → MadeVars m s u xs zs
vars_on n m s t u xs ys zs r e k l a f is =
    let h : t.state.heap ≡ s.state.heap + n = ap (λ (x : State). x.heap) a.state in
    let v : t.state.vars ≡ s.state.vars + n = ap (λ (x : State). x.vars) a.state in
    let later : m ≡ suc n = omega (arith, e) in
    let more : new_vars m s.state.vars ≡ new_vars n s.state.vars ++ Var (s.state.vars + n) ∷ [] =
    ap (λ k. new_vars k s.state.vars) later ∙ new_vars_more n s.state.vars in
    let vars : s.state.vars + n + 1 ≡ s.state.vars + m = omega (arith, e) in
    let heap : s.state.heap + n + 1 ≡ s.state.heap + m = omega (arith, e) in
    record {
      fits = omega (arith, f.fits, k.heap_limit, h, e);
      state =
          f.state
          ∙ ap (λ (x : State). record x { vars = x.vars + 1; heap = x.heap + 1 }) a.state
          ∙ ap (λ x. record s.state { vars = x; heap = s.state.heap + n + 1 }) vars
          ∙ ap (λ x. record s.state { vars = s.state.vars + m; heap = x }) heap;
      appended = appended_on t u _ _ (Var t.state.vars) xs ys zs r l a.appended f.value is (more ∙ ap (λ x. new_vars n s.state.vars ++ Var x ∷ []) (sym v));
    }

pub vars_full : (n m : ℕ) (s t u : Store) (xs ys : List Ref) (e : Full) → n + 1 ≤ m → Kept s t → MadeVars n s t xs ys → HeapFull 1 t u e → Overflows m s e
vars_full n m s t u xs ys full.Heap le k a h =
    let same : t.state.heap ≡ s.state.heap + n = ap (λ (x : State). x.heap) a.state in
    omega (arith, h.0, k.heap_limit, same, le)
vars_full n m s t u xs ys full.Trail le k a h = h
vars_full n m s t u xs ys full.OutOfMemory le k a h = tt

-- ## Terms

-- the cells of one term
weight : CoreProgram → Term → ℕ
weight program t = sum_by (λ x. node_cells program (out-Term x)) (nodes t)

pub cells_append : (program : CoreProgram) (xs ys : List Term) → cells program (xs ++ ys) ≡ cells program xs + cells program ys
cells_append program xs ys =
    let f = λ (x : Term). node_cells program (out-Term x) in
    ap (sum_by f) (flat_map-append nodes xs ys) ∙ sum_by-append f (flat_map nodes xs) (flat_map nodes ys)

nodes_are : (h t : Term) → nodes (Pair-Term h t) ≡ Pair-Term h t ∷ ((nodes h ++ []) ++ (nodes t ++ []))
unfolding hidden-the_row-Term-0 denote.Hole.Carrier.hidden
nodes_are h t = refl

pair_cells : (program : CoreProgram) (h t : Term) → node_cells program (out-Term (Pair-Term h t)) ≡ 3
unfolding out-Term denote.Hole.Carrier.out
pair_cells program h t = refl

pub cells_pair : (program : CoreProgram) (h t : Term) → cells program (Pair-Term h t ∷ []) ≡ 3 + (cells program (h ∷ []) + cells program (t ∷ []))
cells_pair program h t =
    let f = λ (x : Term). node_cells program (out-Term x) in
    let e : cells program (Pair-Term h t ∷ []) ≡ sum_by f (Pair-Term h t ∷ (((nodes h ++ []) ++ (nodes t ++ [])) ++ [])) = ap (λ l. sum_by f (l ++ [])) (nodes_are h t) in
    let a = sum_by-append f (nodes h ++ []) (nodes t ++ []) in
    let b = sum_by-append f ((nodes h ++ []) ++ (nodes t ++ [])) [] in
    let first = sum_by-append f (Pair-Term h t ∷ []) (((nodes h ++ []) ++ (nodes t ++ [])) ++ []) in
    let top : sum_by f (Pair-Term h t ∷ []) ≡ 0 + f (Pair-Term h t) = refl in
    let head : cells program (h ∷ []) ≡ sum_by f (nodes h ++ []) = refl in
    let tail : cells program (t ∷ []) ≡ sum_by f (nodes t ++ []) = refl in
    let none : sum_by f [] ≡ 0 = refl in
    omega (arith, e, a, b, first, top, head, tail, none, pair_cells program h t)

pub value_pair : (program : CoreProgram) (env : List Value) (h t : Term) → value_of program env (Pair-Term h t) ≡ pair (value_of program env h) (value_of program env t)
unfolding hidden-the_row-Term-0 denote.Hole.Carrier.hidden
value_pair program env h t = refl

pub all_front : {A : Type 0} (P : A → Type 0) (xs ys : List A) → All P (xs ++ ys) → All P xs
all_front P [] ys h = λ k d le. absurd (omega (arith, le))
all_front P (x ∷ xs) ys h = All-cons P x xs (All-head P x (xs ++ ys) h) (all_front P xs ys (All-tail P x (xs ++ ys) h))

pub all_behind : {A : Type 0} (P : A → Type 0) (xs ys : List A) → All P (xs ++ ys) → All P ys
all_behind P [] ys h = h
all_behind P (x ∷ xs) ys h = all_behind P xs ys (All-tail P x (xs ++ ys) h)

pub nodes_pair : (h t : Term) → length (nodes (Pair-Term h t)) ≡ suc (length (nodes h) + length (nodes t))
nodes_pair h t =
    let a = length-append (nodes h ++ []) (nodes t ++ []) in
    let b = ap length (append-nil (nodes h)) in
    let c = ap length (append-nil (nodes t)) in
    omega (arith, ap length (nodes_are h t), a, b, c)

-- ## Lists in a term

pub listed_on : (vs : List Value) (v end : Value) → listed (vs ++ v ∷ []) end ≡ listed vs (pair v end)
listed_on [] v end = refl
listed_on (x ∷ vs) v end = ap (pair x) (listed_on vs v end)

pub popped_holds : (s : Store) (n : ℕ) (xs ys : List Ref) (r : Ref) → xs ≡ ys ++ r ∷ [] → n ≤ length ys → All (Holds s) (drop n xs) → All (Holds s) (drop n ys) × Holds s r
popped_holds s n xs ys r is le all =
    let e : drop n xs ≡ drop n ys ++ r ∷ [] = ap (drop n) is ∙ drop-append-le n ys (r ∷ []) le in
    let h : All (Holds s) (drop n ys ++ r ∷ []) = subst (All (Holds s)) e all in
    (all_front (Holds s) (drop n ys) (r ∷ []) h, All-head (Holds s) r [] (all_behind (Holds s) (drop n ys) (r ∷ []) h))

pub pairs_on : (s t u : Store) (rest : List Ref) (head list longer : Ref) (end : Value) → Kept s t → Holds s head → Made (3 * length rest) s t list (listed (map (told s) rest) end) → Made 3 t u longer (pair (told t head) (told t list)) → Made (3 * length (head ∷ rest)) s u longer (listed (map (told s) (head ∷ rest)) end)
pairs_on s t u rest head list longer end k h a b = record {
  charged = charged_on (3 * length rest) 3 (3 * length (head ∷ rest)) s t u (omega arith) k a.charged b.charged;
  value = b.value ∙ ap (λ v. Some (pair v (told t list))) (kept_told s t head k h) ∙ ap (λ v. Some (pair (told s head) v)) (told_is t list (listed (map (told s) rest) end) a.value);
}

pub pairs_full : (s t u : Store) (n k : ℕ) (list : Ref) (v : Value) → n + 3 ≤ k → Kept s t → Made n s t list v → (e : Full) → HeapFull 3 t u e → Overflows k s e
pairs_full s t u n k list v le kept a e h = overflows_later n 3 k s t le kept a.charged e (overflows_heap 3 t u e h)

pub pairs_left : (xs ys zs rest : List Ref) (r : Ref) (n : ℕ) → xs ≡ ys ++ rest → ys ≡ zs ++ r ∷ [] → n ≤ length zs → 3 * length rest + 3 ≤ 3 * (length xs - n)
pairs_left xs ys zs rest r n is last le = omega (arith, ap length is ∙ length-append ys rest, ap length last ∙ length-append zs (r ∷ []), le)

pub pairs_end : (s t : Store) (xs ys rest : List Ref) (n : ℕ) (list : Ref) (end : Value) → xs ≡ ys ++ rest → n ≡ length ys → Made (3 * length rest) s t list (listed (map (told s) rest) end) → Made (3 * (length xs - n)) s t list (listed (map (told s) (drop n xs)) end)
pairs_end s t xs ys rest n list end is e made =
    let behind : drop n xs ≡ rest = ap (drop n) is ∙ ap (λ k. drop k (ys ++ rest)) e ∙ drop-append_seam ys rest in
    let count : length rest ≡ length xs - n = omega (arith, ap length is ∙ length-append ys rest, e) in
    subst (λ rs. Made (3 * (length xs - n)) s t list (listed (map (told s) rs) end)) (sym behind) (subst (λ k. Made (3 * k) s t list (listed (map (told s) rest) end)) count made)

pub taken_end : (xs ys rest : List Ref) (n : ℕ) → xs ≡ ys ++ rest → n ≡ length ys → ys ≡ take n xs
taken_end xs ys rest n is e = sym (ap (take n) is ∙ ap (λ k. take k (ys ++ rest)) e ∙ take-append_seam ys rest)

-- ## The elements of a term

pub pair_nodes : (x h t : Term) → x ≡ Pair-Term h t → length (nodes x) ≡ suc (length (nodes h) + length (nodes t))
pair_nodes x h t e = ap (λ (y : Term). length (nodes y)) e ∙ nodes_pair h t

pub heads_full : (program : CoreProgram) (env : List Value) (fn term h t h' : Term) (s u : Store) (xs ys : List Ref) → Kept s u → HeadsWritten program env fn term s u xs ys → term ≡ Pair-Term h t → h' ≡ h → (e : Full) → Overflows (cells program (h' ∷ [])) u e → Overflows (cells program (fn ∷ [])) s e
heads_full program env fn term h t h' s u xs ys k w is eh e full =
    let a = ap (λ (x : Term). cells program (x ∷ [])) is ∙ cells_pair program h t in
    let b = ap (λ (x : Term). cells program (x ∷ [])) eh in
    overflows_later w.count (cells program (h' ∷ [])) (cells program (fn ∷ [])) s u (omega (arith, a, b, w.cells_are)) k w.written.charged e full

heads_on : (program : CoreProgram) (env : List Value) (fn term h t : Term) (s u v : Store) (xs ys zs : List Ref) (r : Ref) → Kept s u → Kept u v → HeadsWritten program env fn term s u xs ys → term ≡ Pair-Term h t → Made (cells program (h ∷ [])) u v r (value_of program env h) → zs ≡ ys ++ r ∷ [] → HeadsWritten program env fn t s v xs zs
heads_on program env fn term h t s u v xs ys zs r k l w is made e =
    let a = ap (λ (x : Term). cells program (x ∷ [])) is ∙ cells_pair program h t in
    let b = length-append w.heads (value_of program env h ∷ []) in
    record {
      count = w.count + cells program (h ∷ []);
      heads = w.heads ++ value_of program env h ∷ [];
      written = record {
        charged = charged_on w.count (cells program (h ∷ [])) (w.count + cells program (h ∷ [])) s u v refl k w.written.charged made.charged;
        appended = appended_on u v w.heads (w.heads ++ value_of program env h ∷ []) (value_of program env h) xs ys zs r l w.written.appended made.value e refl;
      };
      value = w.value ∙ ap (λ x. listed w.heads (value_of program env x)) is ∙ ap (listed w.heads) (value_pair program env h t) ∙ sym (listed_on w.heads (value_of program env h) (value_of program env t));
      cells_are = omega (arith, a, b, w.cells_are);
    }

pub heads_step : (program : CoreProgram) (env env' : List Value) (fn term h t h' t' : Term) (s u v : Store) (xs ys zs : List Ref) (r : Ref) → Kept s u → Kept u v → HeadsWritten program env fn term s u xs ys → term ≡ Pair-Term h t → h' ≡ h → t' ≡ t → env' ≡ env → Made (cells program (h' ∷ [])) u v r (value_of program env' h') → zs ≡ ys ++ r ∷ [] → HeadsWritten program env fn t' s v xs zs
heads_step program env env' fn term h t h' t' s u v xs ys zs r k l w is eh et ee made e =
    let made' : Made (cells program (h ∷ [])) u v r (value_of program env h) =
    subst (λ x. Made (cells program (x ∷ [])) u v r (value_of program env x)) eh (subst (λ x. Made (cells program (h' ∷ [])) u v r (value_of program x h')) ee made) in
    subst (λ x. HeadsWritten program env fn x s v xs zs) (sym et) (heads_on program env fn term h t s u v xs ys zs r k l w is made' e)

-- ## A whole term

pub appended_drop : (s : Store) (vs : List Value) (xs ys : List Ref) (n : ℕ) → (a : Appended s vs xs ys) → n ≡ length xs → drop n ys ≡ a.made
appended_drop s vs xs ys n a e = ap (drop n) a.is ∙ ap (λ k. drop k (xs ++ a.made)) e ∙ drop-append_seam xs a.made

pub appended_length : (s : Store) (vs : List Value) (xs ys : List Ref) → (a : Appended s vs xs ys) → length ys ≡ length xs + length vs
appended_length s vs xs ys a =
    let l = sym (length-map a.made (told s)) ∙ ap length a.values in
    ap length a.is ∙ length-append xs a.made ∙ ap (λ n. length xs + n) l

pub appended_hold : (s t : Store) (vs : List Value) (xs ys : List Ref) (n : ℕ) → Kept s t → Appended s vs xs ys → n ≡ length xs → All (Holds t) (drop n ys)
appended_hold s t vs xs ys n k a e = subst (All (Holds t)) (sym (appended_drop s vs xs ys n a e)) (all_kept s t a.made k a.hold)

pub leaf_full : (program : CoreProgram) (env : List Value) (fn last : Term) (s u : Store) (xs ys : List Ref) → Kept s u → HeadsWritten program env fn last s u xs ys → (e : Full) → Overflows (cells program (last ∷ [])) u e → Overflows (cells program (fn ∷ [])) s e
leaf_full program env fn last s u xs ys k w e h =
    overflows_later w.count (cells program (last ∷ [])) (cells program (fn ∷ [])) s u (omega (arith, w.cells_are)) k w.written.charged e h

pub term_written : (program : CoreProgram) (env env' : List Value) (fn last : Term) (s u v w : Store) (xs ys : List Ref) (n : ℕ) (tail : Ref) (result : Result Ref Full) → Kept s u → Kept u v → HeadsWritten program env fn last s u xs ys → env' ≡ env → Made (cells program (last ∷ [])) u v tail (value_of program env' last) → n ≡ length xs → MatchResult result (λ r. Made (3 * (length ys - n)) v w r (listed (map (told v) (drop n ys)) (told v tail))) (λ e. Overflows (3 * (length ys - n)) v e) → MatchResult result (λ r. Made (cells program (fn ∷ [])) s w r (value_of program env fn)) (λ e. Overflows (cells program (fn ∷ [])) s e)
term_written program env env' fn last s u v w xs ys n tail (Ok r) k l h ee made e m =
    let a = h.written.appended in
    let len = appended_length u h.heads xs ys a in
    let c = charged_on h.count (cells program (last ∷ [])) (h.count + cells program (last ∷ [])) s u v refl k h.written.charged made.charged in
    let vs : map (told v) (drop n ys) ≡ h.heads = ap (map (told v)) (appended_drop u h.heads xs ys n a e) ∙ map_kept u v a.made l a.hold ∙ a.values in
    let t : told v tail ≡ value_of program env last = told_is v tail (value_of program env' last) made.value ∙ ap (λ x. value_of program x last) ee in
    record {
      charged = charged_on (h.count + cells program (last ∷ [])) (3 * (length ys - n)) (cells program (fn ∷ [])) s v w (omega (arith, h.cells_are, len, e)) (kept_on s u v k l) c m.charged;
      value = m.value ∙ ap (λ x. Some (listed x (told v tail))) vs ∙ ap (λ x. Some (listed h.heads x)) t ∙ ap Some (sym h.value);
    }
term_written program env env' fn last s u v w xs ys n tail (Err x) k l h ee made e m =
    let a = h.written.appended in
    let len = appended_length u h.heads xs ys a in
    let c = charged_on h.count (cells program (last ∷ [])) (h.count + cells program (last ∷ [])) s u v refl k h.written.charged made.charged in
    overflows_later (h.count + cells program (last ∷ [])) (3 * (length ys - n)) (cells program (fn ∷ [])) s v (omega (arith, h.cells_are, len, e)) (kept_on s u v k l) c x m

pub stack_back : (s : Store) (vs : List Value) (xs ys zs : List Ref) (n : ℕ) (result : Result Ref Full) → Appended s vs xs ys → n ≡ length xs → OnOk result (zs ≡ take n ys) → OnOk result (zs ≡ xs)
stack_back s vs xs ys zs n (Ok r) a e h = h ∙ ap (take n) a.is ∙ ap (λ k. take k (xs ++ a.made)) e ∙ take-append_seam xs a.made
stack_back s vs xs ys zs n (Err x) a e h = tt

-- ## Several terms

pub cells_taken : (program : CoreProgram) (terms : List Term) (i : ℕ) (x : Term) → x ≡ get_or terms i x → i < length terms → cells program (take (i + 1) terms) ≡ cells program (take i terms) + cells program (x ∷ [])
cells_taken program terms i x is le =
    ap (cells program) (take_more terms i x le)
    ∙ cells_append program (take i terms) (get_or terms i x ∷ [])
    ∙ ap (λ y. cells program (take i terms) + cells program (y ∷ [])) (sym is)

cells_front : (program : CoreProgram) (terms : List Term) (i : ℕ) → cells program (take i terms) ≤ cells program terms
cells_front program terms i =
    let e = ap (cells program) (take-append-drop i terms) in
    omega (arith, e, cells_append program (take i terms) (drop i terms))

pub terms_full : (program : CoreProgram) (vs : List Value) (terms : List Term) (i : ℕ) (x : Term) (s u : Store) (xs ys : List Ref) → x ≡ get_or terms i x → i < length terms → Kept s u → Written (cells program (take i terms)) vs s u xs ys → (e : Full) → Overflows (cells program (x ∷ [])) u e → Overflows (cells program terms) s e
terms_full program vs terms i x s u xs ys is le k w e h =
    overflows_later (cells program (take i terms)) (cells program (x ∷ [])) (cells program terms) s u (omega (arith, cells_taken program terms i x is le, cells_front program terms (i + 1))) k w.charged e h

pub terms_step : (program : CoreProgram) (env env' : List Value) (terms : List Term) (i : ℕ) (x : Term) (s u v : Store) (xs ys zs : List Ref) (r : Ref) → x ≡ get_or terms i x → i < length terms → Kept s u → Kept u v → Written (cells program (take i terms)) (map (value_of program env) (take i terms)) s u xs ys → env' ≡ env → Made (cells program (x ∷ [])) u v r (value_of program env' x) → zs ≡ ys ++ r ∷ [] → Written (cells program (take (i + 1) terms)) (map (value_of program env) (take (i + 1) terms)) s v xs zs
terms_step program env env' terms i x s u v xs ys zs r is le k l w ee made e =
    let f = value_of program env in
    record {
      charged = charged_on (cells program (take i terms)) (cells program (x ∷ [])) (cells program (take (i + 1) terms)) s u v (cells_taken program terms i x is le) k w.charged made.charged;
      appended = appended_on u v (map f (take i terms)) (map f (take (i + 1) terms)) (f x) xs ys zs r l w.appended (made.value ∙ ap (λ y. Some (value_of program y x)) ee) e (map_more f terms i x le ∙ ap (λ y. map f (take i terms) ++ f y ∷ []) (sym is));
    }

pub terms_end : (program : CoreProgram) (env : List Value) (terms : List Term) (i : ℕ) (s u : Store) (xs ys : List Ref) → length terms ≤ i → Written (cells program (take i terms)) (map (value_of program env) (take i terms)) s u xs ys → Written (cells program terms) (map (value_of program env) terms) s u xs ys
terms_end program env terms i s u xs ys le w = subst (λ ts. Written (cells program ts) (map (value_of program env) ts) s u xs ys) (take_all i terms le) w

-- ## Closures

pub vars_step : (env env' : List Value) (vars : List ℕ) (i x : ℕ) (s u v : Store) (xs ys zs : List Ref) (r : Ref) → x ≡ get_or vars i 0 → i < length vars → Kept s u → Kept u v → Written 0 (map (value_of_var env) (take i vars)) s u xs ys → env' ≡ env → Made 0 u v r (value_of_var env' x) → zs ≡ ys ++ r ∷ [] → Written 0 (map (value_of_var env) (take (i + 1) vars)) s v xs zs
vars_step env env' vars i x s u v xs ys zs r is le k l w ee made e =
    let f = value_of_var env in
    record {
      charged = charged_on 0 0 0 s u v refl k w.charged made.charged;
      appended = appended_on u v (map f (take i vars)) (map f (take (i + 1) vars)) (f x) xs ys zs r l w.appended (made.value ∙ ap (λ y. Some (value_of_var y x)) ee) e (map_more f vars i 0 le ∙ ap (λ y. map f (take i vars) ++ f y ∷ []) (sym is));
    }

pub vars_end : (env : List Value) (vars : List ℕ) (i : ℕ) (s u : Store) (xs ys : List Ref) → length vars ≤ i → Written 0 (map (value_of_var env) (take i vars)) s u xs ys → Written 0 (map (value_of_var env) vars) s u xs ys
vars_end env vars i s u xs ys le w = subst (λ vs. Written 0 (map (value_of_var env) vs) s u xs ys) (take_all i vars le) w

captured_parts : (env : List Value) (o : Option ClosureBody) → captured_values env o ≡ node_parts (map (value_of_var env) (captured_in o))
captured_parts env None = refl
captured_parts env (Some closure) = refl

captured_many : (o : Option ClosureBody) → captured_count o ≡ length (captured_in o)
captured_many None = refl
captured_many (Some closure) = refl

closure_value : (program : CoreProgram) (env : List Value) (place : ℕ) → value_of program env (Closure-Term place) ≡ Node (Closure place) (node_parts (map (value_of_var env) (captured_in (slice_get program.closures place))))
unfolding out-Term denote.Hole.Carrier.out
closure_value program env place = ap (Node (Closure place)) (captured_parts env (slice_get program.closures place))

closure_cells : (program : CoreProgram) (place : ℕ) → cells program (Closure-Term place ∷ []) ≡ 3 + length (captured_in (slice_get program.closures place))
closure_cells program place =
    let top = ap (node_cells program) (outs-Closure place) in
    let alone : cells program (Closure-Term place ∷ []) ≡ 0 + node_cells program (out-Term (Closure-Term place)) = refl in
    omega (arith, top, alone, captured_many (slice_get program.closures place))

-- the values that a closure captures, and so many
captured_refs : (vs : List Value) (u : Store) (xs ys refs : List Ref) (n : ℕ) → (a : Appended u vs xs ys) → n ≡ length xs → refs ≡ take (length ys - n) (drop n ys) → refs ≡ a.made
captured_refs vs u xs ys refs n a e is =
    let behind : drop n ys ≡ a.made = appended_drop u vs xs ys n a e in
    let count : length a.made ≤ length ys - n = omega (arith, ap length a.is ∙ length-append xs a.made, e) in
    is ∙ ap (take (length ys - n)) behind ∙ take_all (length ys - n) a.made count

captured_length : (vs : List Value) (u : Store) (xs ys : List Ref) → (a : Appended u vs xs ys) → length a.made ≡ length vs
captured_length vs u xs ys a = sym (length-map a.made (told u)) ∙ ap length a.values

pub closure_written : (program : CoreProgram) (env : List Value) (place : ℕ) (vars : List ℕ) (s u v : Store) (xs ys refs : List Ref) (n : ℕ) (r : Ref) → vars ≡ captured_in (slice_get program.closures place) → Kept s u → Written 0 (map (value_of_var env) vars) s u xs ys → n ≡ length xs → refs ≡ take (length ys - n) (drop n ys) → Made (3 + length refs) u v r (Node (Closure place) (told_parts u refs)) → Made (cells program (Closure-Term place ∷ [])) s v r (value_of program env (Closure-Term place))
closure_written program env place vars s u v xs ys refs n r are k w e is made =
    let same = captured_refs (map (value_of_var env) vars) u xs ys refs n w.appended e is in
    let parts : told_parts u refs ≡ node_parts (map (value_of_var env) (captured_in (slice_get program.closures place))) = ap (told_parts u) same ∙ ap node_parts w.appended.values ∙ ap (λ ws. node_parts (map (value_of_var env) ws)) are in
    let many : length refs ≡ length (captured_in (slice_get program.closures place)) = ap length same ∙ captured_length (map (value_of_var env) vars) u xs ys w.appended ∙ length-map vars (value_of_var env) ∙ ap length are in
    record {
      charged = charged_on 0 (3 + length refs) (cells program (Closure-Term place ∷ [])) s u v (omega (arith, closure_cells program place, many)) k w.charged made.charged;
      value = made.value ∙ ap (λ ps. Some (Node (Closure place) ps)) parts ∙ ap Some (sym (closure_value program env place));
    }

pub closure_full : (program : CoreProgram) (env : List Value) (place : ℕ) (vars : List ℕ) (s u v : Store) (xs ys refs : List Ref) (n : ℕ) → vars ≡ captured_in (slice_get program.closures place) → Kept s u → Written 0 (map (value_of_var env) vars) s u xs ys → n ≡ length xs → refs ≡ take (length ys - n) (drop n ys) → (e : Full) → HeapFull (3 + length refs) u v e → Overflows (cells program (Closure-Term place ∷ [])) s e
closure_full program env place vars s u v xs ys refs n are k w e is x h =
    let same = captured_refs (map (value_of_var env) vars) u xs ys refs n w.appended e is in
    let many : length refs ≡ length (captured_in (slice_get program.closures place)) = ap length same ∙ captured_length (map (value_of_var env) vars) u xs ys w.appended ∙ length-map vars (value_of_var env) ∙ ap length are in
    overflows_later 0 (3 + length refs) (cells program (Closure-Term place ∷ [])) s u (omega (arith, closure_cells program place, many)) k w.charged x (overflows_heap (3 + length refs) u v x h)

-- a term that is a closure
pub closure_is : (program : CoreProgram) (env : List Value) (t : Term) (place : ℕ) (s u : Store) (result : Result Ref Full) → t ≡ Closure-Term place → MatchResult result (λ r. Made (cells program (Closure-Term place ∷ [])) s u r (value_of program env (Closure-Term place))) (λ e. Overflows (cells program (Closure-Term place ∷ [])) s e) → MatchResult result (λ r. Made (cells program (t ∷ [])) s u r (value_of program env t)) (λ e. Overflows (cells program (t ∷ [])) s e)
closure_is program env t place s u result is h = subst (λ x. MatchResult result (λ r. Made (cells program (x ∷ [])) s u r (value_of program env x)) (λ e. Overflows (cells program (x ∷ [])) s e)) (sym is) h
