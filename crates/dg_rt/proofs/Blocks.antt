-- Kept values in a row: what they take, where they lie, and one of them that is taken out.
use Rattle.std.proofs.Common.{◌≡◌, ◌≢◌, ℕ, ◌+◌, ◌*◌, ◌<◌, ◌≤◌, inl, inr, Bool, true, false, List, [], ◌∷◌, ◌++◌, length, Option, Some, None, refl, sym, ap, ◌∙◌, subst, arith, length-append}
use Rattle.std.specs.Prelude.{◌==◌}
use Rattle.std.proofs.lemmas.Bool.{eqb-true, eq-eqb, ne_eqb, cond-true, cond-false}
use Rattle.std.proofs.lemmas.List.{length-map}
use Rattle.dg_base.specs.declared.cells.Cell.TheVariants as cell
use Rattle.dg_meaning.specs.Values.{Label, Num, Word, Object, Nil, Pair, Closure, Unknown, Value, Var, Node, Values, NoMore, More}
use Rattle.dg_meaning.specs.ValueCells.{count_of, label_cells, cells_of, cells_of_all}
use Rattle.dg_meaning.specs.Copies.{label_weight, copy_cells, all_copy_cells}
use Rattle.dg_meaning.specs.Unify.{size, sizes}
use Rattle.dg_rt.specs.Copies.{cell_word, words_of}
use Rattle.dg_rt.specs.Kept.{Block, block, total, value_in, without, BlocksIn, IsEntry, IsApart, IsBeside, HaveEntries, NoEntry}
use Rattle.dg_rt.proofs.CopySteps.{rows_keep}

-- ## What a value takes

label_some : (g : Label) (n : ℕ) → 1 ≤ length (label_cells g n)
label_some (Num k) n = omega arith
label_some (Word k) n = omega arith
label_some (Unknown xs) n = omega arith
label_some (Object k) n = omega arith
label_some Nil n = omega arith
label_some Pair n = omega arith
label_some (Closure place) n = omega arith

node_long : (g : Label) (vs : Values) → length (cells_of (Node g vs)) ≡ length (label_cells g (count_of vs)) + length (cells_of_all vs)
node_long g vs = length-append (label_cells g (count_of vs)) (cells_of_all vs)

more_long : (v : Value) (vs : Values) → length (cells_of_all (More v vs)) ≡ length (cells_of v) + length (cells_of_all vs)
more_long v vs = length-append (cells_of v) (cells_of_all vs)

mutual
  size_cells : (v : Value) → size v ≤ length (cells_of v)
  size_cells (Var x) = omega arith
  size_cells (Node g vs) = let a = label_some g (count_of vs) in let b = sizes_cells vs in let c = node_long g vs in omega arith

  sizes_cells : (vs : Values) → sizes vs ≤ length (cells_of_all vs)
  sizes_cells NoMore = omega arith
  sizes_cells (More v vs) = let a = size_cells v in let b = sizes_cells vs in let c = more_long v vs in omega arith

label_copied : (g : Label) (n : ℕ) → label_weight g n + 1 ≤ 4 * length (label_cells g n) + n
label_copied (Num k) n = omega arith
label_copied (Word k) n = omega arith
label_copied (Unknown xs) n = let e = length-map xs cell.Char in omega arith
label_copied (Object k) n = omega arith
label_copied Nil n = omega arith
label_copied Pair n = omega arith
label_copied (Closure place) n = omega arith

mutual
  copied_cells : (v : Value) → copy_cells v + 1 ≤ 4 * length (cells_of v)
  copied_cells (Var x) = omega arith
  copied_cells (Node g vs) = let a = label_copied g (count_of vs) in let b = all_copied_cells vs in let c = node_long g vs in omega arith

  all_copied_cells : (vs : Values) → all_copy_cells vs + count_of vs ≤ 4 * length (cells_of_all vs)
  all_copied_cells NoMore = omega arith
  all_copied_cells (More v vs) = let a = copied_cells v in let b = all_copied_cells vs in let c = more_long v vs in omega arith

pub words_long : (v : Value) → length (words_of v) ≡ length (cells_of v)
words_long v = length-map (cells_of v) cell_word

size_some : (v : Value) → 1 ≤ size v
size_some (Var x) = omega arith
size_some (Node g vs) = omega arith

pub size_words : (v : Value) → size v ≤ length (words_of v)
size_words v = let a = size_cells v in let b = words_long v in omega arith

pub words_some : (v : Value) → 1 ≤ length (words_of v)
words_some v = let a = size_words v in let b = size_some v in omega arith

pub copied_words : (v : Value) → copy_cells v ≤ 4 * length (words_of v)
copied_words v = let a = copied_cells v in let b = words_long v in omega arith

-- ## Lists

pub total_on : (xs ys : List Block) → total (xs ++ ys) ≡ total xs + total ys
total_on [] ys = omega arith
total_on (x ∷ xs) ys = let e = total_on xs ys in omega arith

pub blocks_on : (c : ℕ → ℕ) (j : ℕ) (xs ys : List Block) → BlocksIn c j xs → BlocksIn c (j + total xs) ys → BlocksIn c j (xs ++ ys)
blocks_on c j [] ys a b = subst (λ (i : ℕ). BlocksIn c i ys) (let e : j + 0 ≡ j = omega arith in e) b
blocks_on c j (x ∷ xs) ys a b = (a.0, blocks_on c (j + length (words_of x.value)) xs ys a.1 (subst (λ (i : ℕ). BlocksIn c i ys) (let e : j + (length (words_of x.value) + total xs) ≡ j + length (words_of x.value) + total xs = omega arith in e) b))

pub blocks_front : (c : ℕ → ℕ) (j : ℕ) (xs ys : List Block) → BlocksIn c j (xs ++ ys) → BlocksIn c j xs
blocks_front c j [] ys a = tt
blocks_front c j (x ∷ xs) ys a = (a.0, blocks_front c (j + length (words_of x.value)) xs ys a.1)

pub blocks_back : (c : ℕ → ℕ) (j : ℕ) (xs ys : List Block) → BlocksIn c j (xs ++ ys) → BlocksIn c (j + total xs) ys
blocks_back c j [] ys a = subst (λ (i : ℕ). BlocksIn c i ys) (let e : j ≡ j + 0 = omega arith in e) a
blocks_back c j (x ∷ xs) ys a = subst (λ (i : ℕ). BlocksIn c i ys) (let e : j + length (words_of x.value) + total xs ≡ j + (length (words_of x.value) + total xs) = omega arith in e) (blocks_back c (j + length (words_of x.value)) xs ys a.1)

-- ## Words that stay

-- The words of variables' own are the same.
abbrev pub EntriesSame : (ℕ → ℕ) → (ℕ → ℕ) → List Block → Type 0
EntriesSame c c' [] = Unit {0}
EntriesSame c c' (b ∷ bs) = (c' b.entry ≡ c b.entry) × ((c' (b.entry + 1) ≡ c (b.entry + 1)) × EntriesSame c c' bs)

pub blocks_keep : (c c' : ℕ → ℕ) (j : ℕ) (bs : List Block) → ((k : ℕ) → j ≤ k → k < j + total bs → c' k ≡ c k) → ((k : ℕ) → j + 500 ≤ k → k < j + total bs + 500 → c' k ≡ c k) → EntriesSame c c' bs → BlocksIn c j bs → BlocksIn c' j bs
blocks_keep c c' j [] area owners own h = tt
blocks_keep c c' j (b ∷ bs) area owners own h =
    let n = length (words_of b.value) in
    let some = words_some b.value in (
      record {
        begins = own.0 ∙ h.0.begins;
        long = own.1.0 ∙ h.0.long;
        owner = owners (j + 500) (omega arith) (omega arith) ∙ h.0.owner;
        row = rows_keep c c' j (words_of b.value) (λ k from to. area k from (omega arith)) h.0.row;
      },
      blocks_keep c c' (j + n) bs (λ k from to. area k (omega arith) (omega arith)) (λ k from to. owners k (omega arith) (omega arith)) own.1.1 h.1,
    )

module _ (z : ℕ) where
  -- No value's words lie among the areas that every story has.
  pub no_entry_low : (k : ℕ) (bs : List Block) → HaveEntries z bs → k < 15945 → NoEntry k bs
  no_entry_low k [] h lt = tt
  no_entry_low k (b ∷ bs) h lt = let from = h.0.from in ((λ (e : k ≡ b.entry). omega arith), no_entry_low k bs h.1.1 lt)

  pub have_back : (xs ys : List Block) → HaveEntries z (xs ++ ys) → HaveEntries z ys
  have_back [] ys h = h
  have_back (x ∷ xs) ys h = have_back xs ys h.1.1

pub apart_first : (h i k : ℕ) → IsApart h i → k ≡ h → k ≢ i
apart_first h i k (inl le) e = λ (q : k ≡ i). omega arith
apart_first h i k (inr le) e = λ (q : k ≡ i). omega arith

pub apart_second : (h i k : ℕ) → IsApart h i → k ≡ h + 1 → k ≢ i
apart_second h i k (inl le) e = λ (q : k ≡ i). omega arith
apart_second h i k (inr le) e = λ (q : k ≡ i). omega arith

pub apart_turned : (h i : ℕ) → IsApart h i → IsApart i h
apart_turned h i (inl le) = inr le
apart_turned h i (inr le) = inl le

pub beside_first : (h k : ℕ) (bs : List Block) → IsBeside h bs → k ≡ h → NoEntry k bs
beside_first h k [] a e = tt
beside_first h k (b ∷ bs) a e = (apart_first h b.entry k a.0 e, beside_first h k bs a.1 e)

pub beside_second : (h k : ℕ) (bs : List Block) → IsBeside h bs → k ≡ h + 1 → NoEntry k bs
beside_second h k [] a e = tt
beside_second h k (b ∷ bs) a e = (apart_second h b.entry k a.0 e, beside_second h k bs a.1 e)

pub beside_back : (h : ℕ) (xs ys : List Block) → IsBeside h (xs ++ ys) → IsBeside h ys
beside_back h [] ys a = a
beside_back h (x ∷ xs) ys a = beside_back h xs ys a.1

pub beside_front : (h : ℕ) (xs ys : List Block) → IsBeside h (xs ++ ys) → IsBeside h xs
beside_front h [] ys a = tt
beside_front h (x ∷ xs) ys a = (a.0, beside_front h xs ys a.1)

pub beside_on : (h : ℕ) (xs ys : List Block) → IsBeside h xs → IsBeside h ys → IsBeside h (xs ++ ys)
beside_on h [] ys a b = b
beside_on h (x ∷ xs) ys a b = (a.0, beside_on h xs ys a.1 b)

pub no_entry_on : (k : ℕ) (xs ys : List Block) → NoEntry k xs → NoEntry k ys → NoEntry k (xs ++ ys)
no_entry_on k [] ys a b = b
no_entry_on k (x ∷ xs) ys a b = (a.0, no_entry_on k xs ys a.1 b)

pub no_entry_back : (k : ℕ) (xs ys : List Block) → NoEntry k (xs ++ ys) → NoEntry k ys
no_entry_back k [] ys a = a
no_entry_back k (x ∷ xs) ys a = no_entry_back k xs ys a.1

-- Where words change that are among those of the values behind alone, those of the values in front stay.
pub front_same : (z : ℕ) (c c' : ℕ → ℕ) (xs ys : List Block) → HaveEntries z (xs ++ ys) → ((k : ℕ) → 15945 ≤ k → NoEntry k ys → c' k ≡ c k) → EntriesSame c c' xs
front_same z c c' [] ys h same = tt
front_same z c c' (x ∷ xs) ys h same =
    let from = h.0.from in
    let beside = beside_back x.entry xs ys h.1.0 in
    (same x.entry (omega arith) (beside_first x.entry x.entry ys beside refl), (same (x.entry + 1) (omega arith) (beside_second x.entry (x.entry + 1) ys beside refl), front_same z c c' xs ys h.1.1 same))

-- Where words of one variable change alone, those of others stay.
pub beside_same : (z : ℕ) (c c' : ℕ → ℕ) (h : ℕ) (bs : List Block) → HaveEntries z bs → IsBeside h bs → ((k : ℕ) → 15945 ≤ k → k ≢ h → k ≢ h + 1 → c' k ≡ c k) → EntriesSame c c' bs
beside_same z c c' h [] own beside same = tt
beside_same z c c' h (b ∷ bs) own beside same =
    let from = own.0.from in
    let turned = apart_turned h b.entry beside.0 in
    let first : (k : ℕ) → k ≡ h → k ≢ b.entry = λ k e. apart_first h b.entry k beside.0 e in
    let second : (k : ℕ) → k ≡ h + 1 → k ≢ b.entry = λ k e. apart_second h b.entry k beside.0 e in
    let first' : h ≢ b.entry + 1 = λ (q : h ≡ b.entry + 1). apart_second b.entry h (b.entry + 1) turned refl (sym q) in (
      same b.entry (omega arith) (λ (q : b.entry ≡ h). first b.entry q refl) (λ (q : b.entry ≡ h + 1). second b.entry q refl),
      (
        same (b.entry + 1) (omega arith) (λ (q : b.entry + 1 ≡ h). first' (sym q)) (λ (q : b.entry + 1 ≡ h + 1). first b.entry (let e : b.entry ≡ h = omega arith in e) refl),
        beside_same z c c' h bs own.1.1 beside.1 same,
      ),
    )

-- ## One of them

pub record Located (bs : List Block) (h : ℕ) (v : Value) : Type 0 where
  pub front : List Block
  pub one : Block
  pub back : List Block
  pub is : bs ≡ front ++ one ∷ back
  pub entry : one.entry ≡ h
  pub value : one.value ≡ v
  pub before : NoEntry h front

some_value : Value → Option Value
some_value v = Some v

pub located : (bs : List Block) (h : ℕ) (v : Value) → value_in bs h ≡ Some v → Located bs h v
located [] h v e = absurd (cc)
located (b ∷ bs) h v e = by (λ q. located bs h v q) (b.entry == h) refl
  where
    by : (value_in bs h ≡ Some v → Located bs h v) → (t : Bool) → (b.entry == h) ≡ t → Located (b ∷ bs) h v
    by rest true q =
        let here : Some b.value ≡ Some v = sym (cond-true (b.entry == h) (Some b.value) (value_in bs h) q) ∙ e in
        record { front = []; one = b; back = bs; is = refl; entry = eqb-true b.entry h q; value = cc; before = tt }
    by rest false q =
        let there : value_in bs h ≡ Some v = sym (cond-false (b.entry == h) (Some b.value) (value_in bs h) q) ∙ e in
        let l = rest there in
        record {
          front = b ∷ l.front;
          one = l.one;
          back = l.back;
          is = ap (λ (xs : List Block). b ∷ xs) l.is;
          entry = l.entry;
          value = l.value;
          before = ((λ (x : h ≡ b.entry). (let y : (b.entry == h) ≡ true = eq-eqb b.entry h (sym x) in cc)), l.before);
        }

pub none_there : (bs : List Block) (h : ℕ) → value_in bs h ≡ None → NoEntry h bs
none_there [] h e = tt
none_there (b ∷ bs) h e = by (λ q. none_there bs h q) (b.entry == h) refl
  where
    by : (value_in bs h ≡ None → NoEntry h bs) → (t : Bool) → (b.entry == h) ≡ t → NoEntry h (b ∷ bs)
    by rest true q =
        let here : Some b.value ≡ None = sym (cond-true (b.entry == h) (Some b.value) (value_in bs h) q) ∙ e in
        absurd (cc)
    by rest false q =
        let there : value_in bs h ≡ None = sym (cond-false (b.entry == h) (Some b.value) (value_in bs h) q) ∙ e in
        ((λ (x : h ≡ b.entry). (let y : (b.entry == h) ≡ true = eq-eqb b.entry h (sym x) in cc)), rest there)

pub without_none : (h : ℕ) (bs : List Block) → NoEntry h bs → without h bs ≡ bs
without_none h [] a = refl
without_none h (b ∷ bs) a = cond-false (b.entry == h) (without h bs) (b ∷ without h bs) (ne_eqb b.entry h (λ (q : b.entry ≡ h). a.0 (sym q))) ∙ ap (λ (xs : List Block). b ∷ xs) (without_none h bs a.1)

pub without_one : (h : ℕ) (xs ys : List Block) (b : Block) → NoEntry h xs → b.entry ≡ h → NoEntry h ys → without h (xs ++ b ∷ ys) ≡ xs ++ ys
without_one h [] ys b a e d = cond-true (b.entry == h) (without h ys) (b ∷ without h ys) (eq-eqb b.entry h e) ∙ without_none h ys d
without_one h (x ∷ xs) ys b a e d = cond-false (x.entry == h) (without h (xs ++ b ∷ ys)) (x ∷ without h (xs ++ b ∷ ys)) (ne_eqb x.entry h (λ (q : x.entry ≡ h). a.0 (sym q))) ∙ ap (λ (zs : List Block). x ∷ zs) (without_one h xs ys b a.1 e d)

-- ## Without one of them

beside_without : (h i : ℕ) (bs : List Block) → IsBeside i bs → IsBeside i (without h bs)
beside_without h i [] a = tt
beside_without h i (b ∷ bs) a = by (beside_without h i bs a.1) (b.entry == h) refl
  where
    by : IsBeside i (without h bs) → (t : Bool) → (b.entry == h) ≡ t → IsBeside i (without h (b ∷ bs))
    by rest true q = subst (IsBeside i) (sym (cond-true (b.entry == h) (without h bs) (b ∷ without h bs) q)) rest
    by rest false q = subst (IsBeside i) (sym (cond-false (b.entry == h) (without h bs) (b ∷ without h bs) q)) (a.0, rest)

pub have_without : (z : ℕ) (h : ℕ) (bs : List Block) → HaveEntries z bs → HaveEntries z (without h bs)
have_without z h [] a = tt
have_without z h (b ∷ bs) a = by (have_without z h bs a.1.1) (beside_without h b.entry bs a.1.0) (b.entry == h) refl
  where
    by : HaveEntries z (without h bs) → IsBeside b.entry (without h bs) → (t : Bool) → (b.entry == h) ≡ t → HaveEntries z (without h (b ∷ bs))
    by rest beside true q = subst (HaveEntries z) (sym (cond-true (b.entry == h) (without h bs) (b ∷ without h bs) q)) rest
    by rest beside false q = subst (HaveEntries z) (sym (cond-false (b.entry == h) (without h bs) (b ∷ without h bs) q)) (a.0, (beside, rest))

pub none_without : (h : ℕ) (bs : List Block) → NoEntry h (without h bs)
none_without h [] = tt
none_without h (b ∷ bs) = by (none_without h bs) (b.entry == h) refl
  where
    by : NoEntry h (without h bs) → (t : Bool) → (b.entry == h) ≡ t → NoEntry h (without h (b ∷ bs))
    by rest true q = subst (NoEntry h) (sym (cond-true (b.entry == h) (without h bs) (b ∷ without h bs) q)) rest
    by rest false q = subst (NoEntry h) (sym (cond-false (b.entry == h) (without h bs) (b ∷ without h bs) q)) ((λ (x : h ≡ b.entry). (let y : (b.entry == h) ≡ true = eq-eqb b.entry h (sym x) in cc)), rest)

pub have_on : (z : ℕ) (h : ℕ) (v : Value) (bs : List Block) → HaveEntries z bs → IsEntry z h → IsBeside h bs → HaveEntries z (bs ++ block h v ∷ [])
have_on z h v [] a e d = (e, (tt, tt))
have_on z h v (b ∷ bs) a e d = (a.0, (beside_on b.entry bs (block h v ∷ []) a.1.0 (apart_turned h b.entry d.0, tt), have_on z h v bs a.1.1 e d.1))
