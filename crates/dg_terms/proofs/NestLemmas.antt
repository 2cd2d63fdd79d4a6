-- What is left to write of a term, inside the lists that are written around it.
use Rattle.std.proofs.Common.{◌≡◌, ℕ, ◌+◌, ◌-◌, ◌*◌, ◌≤◌, List, [], ◌∷◌, ◌++◌, reverse, refl, sym, ap, ◌∙◌, arith, subst, length, append_assoc, Some}
use Rattle.std.specs.Prelude.{map, take, drop, MatchResult, Result, Ok, Err}
use Rattle.std.specs.List.{All}
use Rattle.std.proofs.Math.Seq.{drop-append-add, take-append-add}
use Rattle.std.proofs.lemmas.List.{map-append, take-map, drop-map, drop-append-le, take-append-le, take_at, take_all, drop_all, length-append, length-take-le, reverse-append}
use Rattle.std.proofs.lemmas.List.Elements.{All-append, All-take, All-drop}
use Rattle.dg_base.specs.declared.program.Term.{Term}
use Rattle.dg_base.specs.declared.program.Term.TheVariants.{Pair as Pair-Term}
use Rattle.dg_base.specs.declared.program.CoreProgram.{CoreProgram}
use Rattle.dg_meaning.specs.Values.{Value, pair, value_of}
use Rattle.dg_meaning.specs.Cells.{cells}
use Rattle.dg_unify.specs.Store.{Store, told, Holds, Kept, Made}
use Rattle.dg_unify.specs.declared.bindings.Ref.{Ref}
use Rattle.dg_unify.specs.declared.bindings.Full.{Full}
use Rattle.dg_unify.proofs.StoreLemmas.{told_is}
use Rattle.dg_terms.specs.Terms.{Overflows, Appended, Written, listed, HeadsWritten}
use Rattle.dg_terms.specs.declared.terms.Open.{Open}
use Rattle.dg_terms.proofs.TermLemmas.{charged_none, charged_on, overflows_later, all_kept, map_kept, appended_none, appended_on, appended_length, cells_pair, value_pair}

-- ## Lists inside lists

-- the value of the whole, where the elements of the innermost list begin at a height and this value follows them; n is where the stack began
abbrev whole_of : CoreProgram → List Value → ℕ → List Open → List Value → ℕ → Value → Value
whole_of program env n [] values height v = listed (drop (height - n) values) v
whole_of program env n (o ∷ os) values height v =
    whole_of program env n os (take (height - n) values) o.height (pair (listed (drop (height - n) values) v) (value_of program env o.left.now))

-- the cells that are left to take, where the stack is so high, but for those of the term that is written
abbrev cells_left : CoreProgram → List Open → ℕ → ℕ → ℕ
cells_left program [] top height = 3 * (top - height)
cells_left program (o ∷ os) top height = 3 * (top - height) + (3 + cells program (o.left.now ∷ []) + cells_left program os height o.height)

-- each list begins behind the one around it
abbrev Stacked : ℕ → List Open → ℕ → Type 0
Stacked n [] height = height ≡ n
Stacked n (o ∷ os) height = (o.height ≤ height) × Stacked n os o.height

-- The elements that a stack holds above its first ones were written, and this term is left of the innermost list, whose elements begin at a height.
pub record Writing (program : CoreProgram) (env : List Value) (whole term : Term) (os : List Open) (height : ℕ) (s u : Store) (xs ys : List Ref) : Type 0 where
  pub count : ℕ
  pub values : List Value
  pub written : Written count values s u xs ys
  pub value : value_of program env whole ≡ whole_of program env (length xs) os values height (value_of program env term)
  pub cells_are : cells program (whole ∷ []) ≡ count + cells_left program os (length ys) height + cells program (term ∷ [])
  pub stacked : Stacked (length xs) os height
  pub top : height ≤ length ys

listed_append : (vs ws : List Value) (v : Value) → listed (vs ++ ws) v ≡ listed vs (listed ws v)
listed_append [] ws v = refl
listed_append (x ∷ vs) ws v = ap (pair x) (listed_append vs ws v)

stacked_from : (n : ℕ) (os : List Open) (height : ℕ) → Stacked n os height → n ≤ height
stacked_from n [] height h = omega (arith, h)
stacked_from n (o ∷ os) height h = omega (arith, h.0, stacked_from n os o.height h.1)

listed_more : (k : ℕ) (values heads : List Value) (v : Value) → k ≤ length values → listed (drop k (values ++ heads)) v ≡ listed (drop k values) (listed heads v)
listed_more k values heads v le = ap (λ l. listed l v) (drop-append-le k values heads le) ∙ listed_append (drop k values) heads v

whole_more : (program : CoreProgram) (env : List Value) (n : ℕ) (os : List Open) (values heads : List Value) (height : ℕ) (v : Value) → height - n ≤ length values → whole_of program env n os (values ++ heads) height v ≡ whole_of program env n os values height (listed heads v)
whole_more program env n [] values heads height v le = listed_more (height - n) values heads v le
whole_more program env n (o ∷ os) values heads height v le =
    ap (λ l. whole_of program env n os l o.height (pair (listed (drop (height - n) (values ++ heads)) v) (value_of program env o.left.now))) (take-append-le (height - n) values heads le)
    ∙ ap (λ x. whole_of program env n os (take (height - n) values) o.height (pair x (value_of program env o.left.now))) (listed_more (height - n) values heads v le)

cells_more : (program : CoreProgram) (os : List Open) (top k height : ℕ) → height ≤ top → cells_left program os (top + k) height ≡ cells_left program os top height + 3 * k
cells_more program [] top k height le = omega (arith, le)
cells_more program (o ∷ os) top k height le = omega (arith, le)

cells_least : (program : CoreProgram) (os : List Open) (top height : ℕ) → 3 * (top - height) ≤ cells_left program os top height
cells_least program [] top height = omega arith
cells_least program (o ∷ os) top height = omega arith

-- ## Lists of Refs

written_both : (m n : ℕ) (vs ws : List Value) (s u v : Store) (xs ys zs : List Ref) → Kept s u → Kept u v → Written m vs s u xs ys → Written n ws u v ys zs → Written (m + n) (vs ++ ws) s v xs zs
written_both m n vs ws s u v xs ys zs k l a b = record {
  charged = charged_on m n (m + n) s u v refl k a.charged b.charged;
  appended = record {
    made = a.appended.made ++ b.appended.made;
    is = b.appended.is ∙ ap (λ l. l ++ b.appended.made) a.appended.is ∙ append_assoc xs a.appended.made b.appended.made;
    hold = All-append (Holds v) a.appended.made b.appended.made (all_kept u v a.appended.made l a.appended.hold) b.appended.hold;
    values =
        map-append (told v) a.appended.made b.appended.made
        ∙ ap (λ l. l ++ map (told v) b.appended.made) (map_kept u v a.appended.made l a.appended.hold ∙ a.appended.values)
        ∙ ap (λ l. vs ++ l) b.appended.values;
  };
}

-- what stands above a height
above : (s : Store) (vs : List Value) (xs ys : List Ref) (height : ℕ) → (a : Appended s vs xs ys) → length xs ≤ height → drop height ys ≡ drop (height - length xs) a.made
above s vs xs ys height a le =
    let e : height ≡ length xs + (height - length xs) = omega (arith, le) in
    ap (drop height) a.is ∙ ap (λ k. drop k (xs ++ a.made)) e ∙ drop-append-add xs a.made (height - length xs)

above_is : (s : Store) (vs : List Value) (xs ys : List Ref) (height : ℕ) → Appended s vs xs ys → length xs ≤ height → map (told s) (drop height ys) ≡ drop (height - length xs) vs
above_is s vs xs ys height a le =
    ap (map (told s)) (above s vs xs ys height a le) ∙ sym (drop-map (told s) (height - length xs) a.made) ∙ ap (drop (height - length xs)) a.values

-- what stands below it
below : (s : Store) (vs : List Value) (xs ys : List Ref) (height : ℕ) → (a : Appended s vs xs ys) → length xs ≤ height → take height ys ≡ xs ++ take (height - length xs) a.made
below s vs xs ys height a le =
    let e : height ≡ length xs + (height - length xs) = omega (arith, le) in
    ap (take height) a.is ∙ ap (λ k. take k (xs ++ a.made)) e ∙ take-append-add xs a.made (height - length xs)

appended_below : (s : Store) (vs : List Value) (xs ys : List Ref) (height : ℕ) → Appended s vs xs ys → length xs ≤ height → Appended s (take (height - length xs) vs) xs (take height ys)
appended_below s vs xs ys height a le = record {
  made = take (height - length xs) a.made;
  is = below s vs xs ys height a le;
  hold = All-take (Holds s) (height - length xs) a.made a.hold;
  values = sym (take-map (told s) (height - length xs) a.made) ∙ ap (take (height - length xs)) a.values;
}

-- the list that was made of what stands above a height
list_is : (program : CoreProgram) (env env' : List Value) (last : Term) (s : Store) (vs : List Value) (xs ys : List Ref) (height : ℕ) → Appended s vs xs ys → length xs ≤ height → env' ≡ env → listed (map (told s) (drop height ys)) (value_of program env' last) ≡ listed (drop (height - length xs) vs) (value_of program env last)
list_is program env env' last s vs xs ys height a le same =
    ap (λ l. listed l (value_of program env' last)) (above_is s vs xs ys height a le) ∙ ap (λ x. listed (drop (height - length xs) vs) (value_of program x last)) same

pub list_ended : (program : CoreProgram) (env : List Value) (last : Term) (s u v : Store) (xs ys : List Ref) (height : ℕ) (tail : Ref) (result : Result Ref Full) → Kept s u → ys ≡ xs → All (Holds s) (drop height xs) → Made (cells program (last ∷ [])) s u tail (value_of program env last) →
    MatchResult result (λ r. Made (3 * (length ys - height)) u v r (listed (map (told u) (drop height ys)) (told u tail))) (λ e. Overflows (3 * (length ys - height)) u e) →
    MatchResult result (λ r. Made (cells program (last ∷ []) + 3 * (length xs - height)) s v r (listed (map (told s) (drop height xs)) (value_of program env last))) (λ e. Overflows (cells program (last ∷ []) + 3 * (length xs - height)) s e)
list_ended program env last s u v xs ys height tail (Ok r) k is hold made pairs =
    let m : Made (3 * (length xs - height)) u v r (listed (map (told u) (drop height xs)) (told u tail)) = subst (λ l. Made (3 * (length l - height)) u v r (listed (map (told u) (drop height l)) (told u tail))) is pairs in
    record {
      charged = charged_on (cells program (last ∷ [])) (3 * (length xs - height)) (cells program (last ∷ []) + 3 * (length xs - height)) s u v refl k made.charged m.charged;
      value = m.value ∙ ap (λ l. Some (listed l (told u tail))) (map_kept s u (drop height xs) k hold) ∙ ap (λ x. Some (listed (map (told s) (drop height xs)) x)) (told_is u tail (value_of program env last) made.value);
    }
list_ended program env last s u v xs ys height tail (Err e) k is hold made full =
    let h : Overflows (3 * (length xs - height)) u e = subst (λ l. Overflows (3 * (length l - height)) u e) is full in
    overflows_later (cells program (last ∷ [])) (3 * (length xs - height)) (cells program (last ∷ []) + 3 * (length xs - height)) s u (omega arith) k made.charged e h

-- ## Steps

pub writing_starts : (program : CoreProgram) (env : List Value) (whole : Term) (height : ℕ) (s : Store) (xs : List Ref) → s.state.heap ≤ s.heap_limit → height ≡ length xs → Writing program env whole whole [] height s s xs xs
writing_starts program env whole height s xs within e =
    record {
      count = 0;
      values = [];
      written = record { charged = charged_none s s within refl; appended = appended_none s xs };
      value = sym (ap (λ (l : List Value). listed l (value_of program env whole)) (drop_all (height - length xs) [] (omega arith)));
      cells_are = omega (arith, e);
      stacked = e;
      top = omega (arith, e);
    }

pub writing_on : {program : CoreProgram} {env env' : List Value} {whole term last : Term} {os : List Open} {height : ℕ} {s u v : Store} {xs ys zs : List Ref} → Kept s u → Kept u v → env' ≡ env → Writing program env whole term os height s u xs ys → HeadsWritten program env' term last u v ys zs → Writing program env whole last os height s v xs zs
writing_on {program} {env} {env'} {whole} {term} {last} {os} {height} {s} {u} {v} {xs} {ys} {zs} k l same w h' =
    let h : HeadsWritten program env term last u v ys zs = subst (λ x. HeadsWritten program x term last u v ys zs) same h' in
    let n = length xs in
    let many = appended_length u w.values xs ys w.written.appended in
    let more = appended_length v h.heads ys zs h.written.appended in
    let within : height - n ≤ length w.values = omega (arith, many, w.top) in
    let left : cells_left program os (length zs) height ≡ cells_left program os (length ys) height + 3 * length h.heads =
    ap (λ m. cells_left program os m height) more ∙ cells_more program os (length ys) (length h.heads) height w.top in
    record {
      count = w.count + h.count;
      values = w.values ++ h.heads;
      written = written_both w.count h.count w.values h.heads s u v xs ys zs k l w.written h.written;
      value = w.value ∙ ap (whole_of program env n os w.values height) h.value ∙ sym (whole_more program env n os w.values h.heads height (value_of program env last) within);
      cells_are = omega (arith, w.cells_are, h.cells_are, left);
      stacked = w.stacked;
      top = omega (arith, w.top, more);
    }

pub writing_opens : {program : CoreProgram} {env : List Value} {whole term h t h' : Term} {os : List Open} (o : Open) {height top : ℕ} {s u : Store} {xs ys : List Ref} → term ≡ Pair-Term h t → h' ≡ h → o.left.now ≡ t → o.height ≡ height → top ≡ length ys → Writing program env whole term os height s u xs ys → Writing program env whole h' (o ∷ os) top s u xs ys
writing_opens {program} {env} {whole} {term} {h} {t} {h'} {os} o {height} {top} {s} {u} {xs} {ys} is eh et eo e w =
    let n = length xs in
    let f = value_of program env in
    let many = appended_length u w.values xs ys w.written.appended in
    let all : length w.values ≤ top - n = omega (arith, many, e) in
    let front : take (top - n) w.values ≡ w.values = take_all (top - n) w.values all in
    let none : drop (top - n) w.values ≡ [] = drop_all (top - n) w.values all in
    let head : listed (drop (top - n) w.values) (f h') ≡ f h = ap (λ l. listed l (f h')) none ∙ ap f eh in
    let tail : f o.left.now ≡ f t = ap f et in
    let inner : pair (listed (drop (top - n) w.values) (f h')) (f o.left.now) ≡ f term =
    ap (λ x. pair x (f o.left.now)) head ∙ ap (pair (f h)) tail ∙ sym (value_pair program env h t) ∙ ap f (sym is) in
    let both = ap (λ (x : Term). cells program (x ∷ [])) is ∙ cells_pair program h t in
    let first = ap (λ (x : Term). cells program (x ∷ [])) eh in
    let second = ap (λ (x : Term). cells program (x ∷ [])) et in
    let left : cells_left program os top o.height ≡ cells_left program os (length ys) height = ap (λ m. cells_left program os m o.height) e ∙ ap (cells_left program os (length ys)) eo in
    record {
      count = w.count;
      values = w.values;
      written = w.written;
      value =
          w.value
          ∙ ap (whole_of program env n os w.values height) (sym inner)
          ∙ ap (λ m. whole_of program env n os w.values m (pair (listed (drop (top - n) w.values) (f h')) (f o.left.now))) (sym eo)
          ∙ ap (λ l. whole_of program env n os l o.height (pair (listed (drop (top - n) w.values) (f h')) (f o.left.now))) (sym front);
      cells_are = omega (arith, w.cells_are, both, first, second, left, e);
      stacked = (omega (arith, eo, w.top, e), subst (Stacked n os) (sym eo) w.stacked);
      top = omega (arith, e);
    }

pub writing_full : {program : CoreProgram} {env : List Value} {whole term : Term} {os : List Open} {height : ℕ} {s u : Store} {xs ys : List Ref} → Kept s u → Writing program env whole term os height s u xs ys → (e : Full) → Overflows (cells program (term ∷ [])) u e → Overflows (cells program (whole ∷ [])) s e
writing_full {program} {env} {whole} {term} {os} {height} {s} {u} {xs} {ys} k w e full =
    overflows_later w.count (cells program (term ∷ [])) (cells program (whole ∷ [])) s u (omega (arith, w.cells_are)) k w.written.charged e full

pub writing_cut : {program : CoreProgram} {env : List Value} {whole last : Term} {os : List Open} {height : ℕ} {s u : Store} {xs ys : List Ref} → Kept s u → Writing program env whole last os height s u xs ys → (e : Full) → Overflows (cells program (last ∷ []) + 3 * (length ys - height)) u e → Overflows (cells program (whole ∷ [])) s e
writing_cut {program} {env} {whole} {last} {os} {height} {s} {u} {xs} {ys} k w e full =
    overflows_later w.count (cells program (last ∷ []) + 3 * (length ys - height)) (cells program (whole ∷ [])) s u (omega (arith, w.cells_are, cells_least program os (length ys) height)) k w.written.charged e full

pub writing_ends : {program : CoreProgram} {env env' : List Value} {whole last : Term} {height : ℕ} {s u v : Store} {xs ys : List Ref} {r : Ref} → Kept s u → env' ≡ env → Writing program env whole last [] height s u xs ys → Made (cells program (last ∷ []) + 3 * (length ys - height)) u v r (listed (map (told u) (drop height ys)) (value_of program env' last)) → Made (cells program (whole ∷ [])) s v r (value_of program env whole)
writing_ends {program} {env} {env'} {whole} {last} {height} {s} {u} {v} {xs} {ys} {r} k same w made =
    record {
      charged = charged_on w.count (cells program (last ∷ []) + 3 * (length ys - height)) (cells program (whole ∷ [])) s u v (omega (arith, w.cells_are)) k w.written.charged made.charged;
      value = made.value ∙ ap Some (list_is program env env' last u w.values xs ys height w.written.appended (omega (arith, w.stacked)) same ∙ sym w.value);
    }

pub writing_next : {program : CoreProgram} {env env' : List Value} {whole last : Term} {os : List Open} {o : Open} {height : ℕ} {s u v : Store} {xs ys zs ws : List Ref} {r : Ref} → Kept s u → Kept u v → env' ≡ env → Writing program env whole last (o ∷ os) height s u xs ys → Made (cells program (last ∷ []) + 3 * (length ys - height)) u v r (listed (map (told u) (drop height ys)) (value_of program env' last)) → zs ≡ take height ys → ws ≡ zs ++ r ∷ [] → Writing program env whole o.left.now os o.height s v xs ws
writing_next {program} {env} {env'} {whole} {last} {os} {o} {height} {s} {u} {v} {xs} {ys} {zs} {ws} {r} k l same w made taken pushed =
    let n = length xs in
    let from = stacked_from n (o ∷ os) height w.stacked in
    let many = appended_length u w.values xs ys w.written.appended in
    let front = take (height - n) w.values in
    let list = listed (drop (height - n) w.values) (value_of program env last) in
    let short : length front ≡ height - n = length-take-le (height - n) w.values (omega (arith, many, w.top)) in
    let high : length (take height ys) ≡ height = length-take-le height ys w.top in
    let end : ws ≡ take height ys ++ r ∷ [] = pushed ∙ ap (λ l. l ++ r ∷ []) taken in
    let size : length ws ≡ height + 1 = ap length end ∙ length-append (take height ys) (r ∷ []) ∙ ap (λ m. m + 1) high in
    let left : cells_left program os (length ws) o.height ≡ cells_left program os height o.height + 3 * 1 = ap (λ m. cells_left program os m o.height) size ∙ cells_more program os height 1 o.height w.stacked.0 in
    record {
      count = w.count + (cells program (last ∷ []) + 3 * (length ys - height));
      values = front ++ list ∷ [];
      written = record {
        charged = charged_on w.count (cells program (last ∷ []) + 3 * (length ys - height)) (w.count + (cells program (last ∷ []) + 3 * (length ys - height))) s u v refl k w.written.charged made.charged;
        appended = appended_on u v front (front ++ list ∷ []) list xs (take height ys) ws r l (appended_below u w.values xs ys height w.written.appended from) (made.value ∙ ap Some (list_is program env env' last u w.values xs ys height w.written.appended from same)) end refl;
      };
      value = w.value ∙ sym (whole_more program env n os front (list ∷ []) o.height (value_of program env o.left.now) (omega (arith, short, w.stacked.0)));
      cells_are = omega (arith, w.cells_are, left);
      stacked = w.stacked.1;
      top = omega (arith, size, w.stacked.0);
    }

-- ## The lists around, the innermost first

pub reverse_push : (os ps : List Open) (o : Open) → ps ≡ os ++ o ∷ [] → reverse ps ≡ o ∷ reverse os
reverse_push os ps o is = ap reverse is ∙ reverse-append os (o ∷ [])

-- nothing is left on the stack of the elements of a whole list
pub stack_back : {program : CoreProgram} {env : List Value} {whole last : Term} {height : ℕ} {s u : Store} {xs ys zs : List Ref} → Writing program env whole last [] height s u xs ys → zs ≡ take height ys → zs ≡ xs
stack_back {program} {env} {whole} {last} {height} {s} {u} {xs} {ys} {zs} w taken =
    taken ∙ ap (take height) w.written.appended.is ∙ take_at xs w.written.appended.made height (sym w.stacked)

-- what stands above the height is told
pub elements_hold : {program : CoreProgram} {env : List Value} {whole last : Term} {os : List Open} {height : ℕ} {s u : Store} {xs ys : List Ref} → Writing program env whole last os height s u xs ys → All (Holds u) (drop height ys)
elements_hold {program} {env} {whole} {last} {os} {height} {s} {u} {xs} {ys} w =
    let from = stacked_from (length xs) os height w.stacked in
    subst (All (Holds u)) (sym (above u w.values xs ys height w.written.appended from)) (All-drop (Holds u) (height - length xs) w.written.appended.made w.written.appended.hold)
