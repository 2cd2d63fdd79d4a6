-- How the writing of a term goes on.
use Rattle.std.proofs.Common.{◌≡◌, ℕ, ◌+◌, ◌*◌, ◌<◌, ◌≤◌, List, [], ◌∷◌, ◌++◌, Option, Some, None, Result, Ok, Err, OnOk, refl, sym, ap, ◌∙◌, subst, arith, length}
use Rattle.dg_base.specs.declared.program.Term.{Term, out-Term}
use Rattle.dg_base.specs.declared.program.Term.TheVariants.{Pair as Pair-Term}
use Rattle.dg_base.specs.declared.program.CoreProgram.{CoreProgram}
use Rattle.dg_meaning.specs.Values.{Value, pair, value_of}
use Rattle.dg_unify.specs.Store.{State, Store, told, Holds, Kept, Charged, HeapFull, Made}
use Rattle.dg_unify.specs.declared.bindings.Ref.{Ref}
use Rattle.dg_unify.specs.declared.bindings.Full.{Full}
use Rattle.dg_unify.proofs.StoreLemmas.{told_is, holds_some, kept_on}
use Rattle.dg_arena.specs.declared.arena.Arena.{Arena}
use Rattle.dg_arena.specs.Held.{meaning_of}
use Rattle.dg_mid.proofs.FlatLemmas.{plain_cell, cells_pair}
use Rattle.dg_machine.specs.declared.now.Side.{Side}
use Rattle.dg_machine.specs.declared.now.Side.TheVariants.{Head, Tail}
use Rattle.dg_mid.specs.Heads.{IsPlain}
use Rattle.dg_machine.specs.inside.Writing.{part_of, reached, IsHead, AreGone, IsAtPart, cells_of, nodes_of, cells_around, cells_left, nodes_around, Overflows, Descends, HeadMade, Closes, ListWritten, Writes}
use Rattle.dg_machine.proofs.Opens.{heap_full}
use Rattle.dg_machine.proofs.PathLemmas.{value_pair, nodes_pair, some_node, head_part, tail_part, head_left, tail_left, reached_push, left_push, gone_push, gone_pop, least_left, gone_kept}

-- ## Results

pub ok_holds : {T E P : Type 0} (r : Result T E) → P → OnOk r P
ok_holds (Ok x) h = h
ok_holds (Err e) h = tt

-- ## Charges

pub charged_none : (s t : Store) → s.state.heap ≤ s.heap_limit → t.state ≡ s.state → Charged 0 s t
charged_none s t le e = let none : s.state.heap ≡ s.state.heap + 0 = omega arith in record { fits = omega (arith, le); state = e ∙ ap (λ h. record s.state { heap = h }) none }

pub charged_both : (m n k : ℕ) (s t u : Store) → k ≡ m + n → Kept s t → Charged m s t → Charged n t u → Charged k s u
charged_both m n k s t u e kept a b =
    let h : t.state.heap ≡ s.state.heap + m = ap (λ (x : State). x.heap) a.state in
    let all : s.state.heap + m + n ≡ s.state.heap + k = omega (arith, e) in
    record {
      fits = omega (arith, b.fits, kept.heap_limit, h, e);
      state = b.state ∙ ap (λ (x : State). record x { heap = x.heap + n }) a.state ∙ ap (λ h. record s.state { heap = h }) all;
    }

pub overflows_behind : (m n k : ℕ) (s t : Store) → m + n ≤ k → Kept s t → Charged m s t → Overflows n t → Overflows k s
overflows_behind m n k s t le kept a h =
    let same : t.state.heap ≡ s.state.heap + m = ap (λ (x : State). x.heap) a.state in
    omega (arith, h, kept.heap_limit, same, le)

pub overflows_more : (m n k : ℕ) (s : Store) → k ≡ m + n → Overflows m s → Overflows k s
overflows_more m n k s e over = omega (arith, e, over)

pub plain_made : (p : CoreProgram) (t : Term) (s u : Store) (r : Ref) (v : Value) → IsPlain (out-Term t) → s.state.heap ≤ s.heap_limit → u.state ≡ s.state → u.value r ≡ Some v → Made (cells_of p t) s u r v
plain_made p t s u r v plain le same value = record { charged = subst (λ n. Charged n s u) (sym (plain_cell p t plain)) (charged_none s u le same); value = value }

-- ## One side more

module _ (p : CoreProgram) (vs : List Value) (t : Term) where
  pub cells_head : (path : List Side) (x h tl : Term) → x ≡ reached path t → x ≡ Pair-Term h tl → cells_around p (path ++ Head ∷ []) t ≡ cells_around p path t + (3 + cells_of p tl)
  cells_head path x h tl at is = left_push 3 (cells_of p) path Head t ∙ ap (λ n. cells_around p path t + n) (head_left 3 (cells_of p) (reached path t) h tl (sym at ∙ is))

  pub cells_tail : (path : List Side) (r : Ref) (x h tl : Term) → x ≡ reached path t → x ≡ Pair-Term h tl → cells_around p (path ++ Tail r ∷ []) t ≡ cells_around p path t + 3
  cells_tail path r x h tl at is = left_push 3 (cells_of p) path (Tail r) t ∙ ap (λ n. cells_around p path t + n) (tail_left 3 (cells_of p) r (reached path t) h tl (sym at ∙ is))

  pub nodes_head : (path : List Side) (x h tl : Term) → x ≡ reached path t → x ≡ Pair-Term h tl → nodes_around (path ++ Head ∷ []) t ≡ nodes_around path t + (1 + nodes_of tl)
  nodes_head path x h tl at is = left_push 1 nodes_of path Head t ∙ ap (λ n. nodes_around path t + n) (head_left 1 nodes_of (reached path t) h tl (sym at ∙ is))

  pub nodes_tail : (path : List Side) (r : Ref) (x h tl : Term) → x ≡ reached path t → x ≡ Pair-Term h tl → nodes_around (path ++ Tail r ∷ []) t ≡ nodes_around path t + 1
  nodes_tail path r x h tl at is = left_push 1 nodes_of path (Tail r) t ∙ ap (λ n. nodes_around path t + n) (tail_left 1 nodes_of r (reached path t) h tl (sym at ∙ is))

  pub reached_head : (path : List Side) (x h tl : Term) → x ≡ reached path t → x ≡ Pair-Term h tl → reached (path ++ Head ∷ []) t ≡ h
  reached_head path x h tl at is = reached_push path Head t ∙ head_part (reached path t) h tl (sym at ∙ is)

  pub reached_tail : (path : List Side) (r : Ref) (x h tl : Term) → x ≡ reached path t → x ≡ Pair-Term h tl → reached (path ++ Tail r ∷ []) t ≡ tl
  reached_tail path r x h tl at is = reached_push path (Tail r) t ∙ tail_part r (reached path t) h tl (sym at ∙ is)

  -- ## Going on into a term

  pub descends_starts : (s : Store) (path : List Side) → s.state.heap ≤ s.heap_limit → AreGone s p vs path t → Descends p vs t s s path path
  descends_starts s path le gone = record { count = 0; charged = charged_none s s le refl; gone = gone; left = omega arith; fewer = omega arith }

  pub descends_head : (old s : Store) (before path : List Side) (x h tl : Term) → x ≡ reached path t → x ≡ Pair-Term h tl → Descends p vs t old s before path → Descends p vs t old s before (path ++ Head ∷ [])
  descends_head old s before path x h tl at is d =
      let around = cells_head path x h tl at is in
      let here = ap (cells_of p) (reached_head path x h tl at is) in
      let was = ap (cells_of p) (sym at) in
      let whole = cells_pair p x h tl is in
      let n_around = nodes_head path x h tl at is in
      let n_here = ap nodes_of (reached_head path x h tl at is) in
      let n_was = ap nodes_of (sym at) in
      let n_whole = nodes_pair x h tl is in
      record {
        count = d.count;
        charged = d.charged;
        gone = gone_push s p vs path Head t d.gone (record { head = h; tail = tl; is = sym at ∙ is; value = tt });
        left = omega (arith, around, here, was, whole, d.left);
        fewer = omega (arith, n_around, n_here, n_was, n_whole, d.fewer);
      }

  pub descends_tail : (old s u : Store) (before path : List Side) (x h tl : Term) (r : Ref) → Kept old s → Kept s u → x ≡ reached path t → x ≡ Pair-Term h tl → Made (cells_of p h) s u r (value_of p vs h) → Descends p vs t old s before path → Descends p vs t old u before (path ++ Tail r ∷ [])
  descends_tail old s u before path x h tl r kept_old kept at is made d =
      let around = cells_tail path r x h tl at is in
      let here = ap (cells_of p) (reached_tail path r x h tl at is) in
      let was = ap (cells_of p) (sym at) in
      let whole = cells_pair p x h tl is in
      let n_around = nodes_tail path r x h tl at is in
      let n_here = ap nodes_of (reached_tail path r x h tl at is) in
      let n_was = ap nodes_of (sym at) in
      let n_whole = nodes_pair x h tl is in
      record {
        count = d.count + cells_of p h;
        charged = charged_both d.count (cells_of p h) (d.count + cells_of p h) old s u refl kept_old d.charged made.charged;
        gone = gone_push u p vs path (Tail r) t (gone_kept s p vs u path t kept d.gone) (record { head = h; tail = tl; is = sym at ∙ is; value = made.value });
        left = omega (arith, around, here, was, whole, d.left);
        fewer = omega (arith, n_around, n_here, n_was, n_whole, d.fewer);
      }

  -- a path for which there is no room has too many cells
  pub descends_full : (old s : Store) (before path : List Side) (room : ℕ) (x h tl : Term) → Kept old s → x ≡ reached path t → x ≡ Pair-Term h tl → length path ≡ room → old.heap_limit < 3 * room + 3 → Descends p vs t old s before path → Overflows (cells_left p before t) old
  descends_full old s before path room x h tl kept at is full fits d =
      let least = least_left s p vs path t d.gone in
      let was = ap (cells_of p) (sym at) in
      let whole = cells_pair p x h tl is in
      let over : Overflows (cells_left p path t) s = omega (arith, least, was, whole, full, fits, kept.heap_limit) in
      overflows_behind d.count (cells_left p path t) (cells_left p before t) old s (omega (arith, d.left)) kept d.charged over

  -- and so it is where a head can't be written
  pub descends_over : (old s : Store) (before path : List Side) (x h tl : Term) → Kept old s → x ≡ reached path t → x ≡ Pair-Term h tl → Overflows (cells_of p h) s → Descends p vs t old s before path → Overflows (cells_left p before t) old
  descends_over old s before path x h tl kept at is over d =
      let was = ap (cells_of p) (sym at) in
      let whole = cells_pair p x h tl is in
      overflows_behind d.count (cells_of p h) (cells_left p before t) old s (omega (arith, d.left, was, whole)) kept d.charged over

  -- ## Pairs that are made

  -- a value is at hand, and the pairs inside the part to which the path led were made
  pub record Closing (old now : Store) (before path : List Side) (r : Ref) : Type 0 where
    pub count : ℕ
    pub charged : Charged count old now
    pub left : count + cells_around p path t ≡ cells_around p before t
    pub fewer : nodes_around path t ≤ nodes_around before t
    pub at : IsAtPart now p vs path t r

  pub closing_starts : (s : Store) (path : List Side) (r : Ref) → s.state.heap ≤ s.heap_limit → IsAtPart s p vs path t r → Closing s s path path r
  closing_starts s path r le at = record { count = 0; charged = charged_none s s le refl; left = omega arith; fewer = omega arith; at = at }

  -- the parts of the newest pair
  record Newest (s : Store) (path : List Side) (side : Side) (r : Ref) : Type 0 where
    pub head : Term
    pub tail : Term
    pub is : reached path t ≡ Pair-Term head tail
    pub gone : AreGone s p vs path t
    pub head_is : IsHead s side (value_of p vs head)
    pub value : s.value r ≡ Some (value_of p vs (part_of side (reached path t)))

  newest : (s : Store) (all path : List Side) (side : Side) (r : Ref) → all ≡ path ++ side ∷ [] → IsAtPart s p vs all t r → Newest s path side r
  newest s all path side r is at =
      let gone : AreGone s p vs (path ++ side ∷ []) t = subst (λ l. AreGone s p vs l t) is at.gone in
      let parts = gone_pop s p vs path side t gone in
      record {
        head = parts.1.head;
        tail = parts.1.tail;
        is = parts.1.is;
        gone = parts.0;
        head_is = parts.1.value;
        value = at.value ∙ ap (λ l. Some (value_of p vs (reached l t))) is ∙ ap (λ x. Some (value_of p vs x)) (reached_push path side t);
      }

  pub closing_holds : (s : Store) (all path : List Side) (head r : Ref) → all ≡ path ++ Tail head ∷ [] → IsAtPart s p vs all t r → Holds s head × Holds s r
  closing_holds s all path head r is at =
      let x = newest s all path (Tail head) r is at in
      (holds_some s head (value_of p vs x.head) x.head_is, holds_some s r (value_of p vs (reached all t)) at.value)

  pub closing_pair : (old now new : Store) (before all path : List Side) (head r made : Ref) → all ≡ path ++ Tail head ∷ [] → Kept old now → Kept now new → Made 3 now new made (pair (told now head) (told now r)) → Closing old now before all r → Closing old new before path made
  closing_pair old now new before all path head r made is kept kept' m c =
      let x = newest now all path (Tail head) r is c.at in
      let first : told now head ≡ value_of p vs x.head = told_is now head (value_of p vs x.head) x.head_is in
      let second : told now r ≡ value_of p vs x.tail = told_is now r (value_of p vs x.tail) (x.value ∙ ap (λ y. Some (value_of p vs y)) (tail_part head (reached path t) x.head x.tail x.is)) in
      let around = ap (λ l. cells_around p l t) is ∙ cells_tail path head (reached path t) x.head x.tail refl x.is in
      let n_around = ap (λ l. nodes_around l t) is ∙ nodes_tail path head (reached path t) x.head x.tail refl x.is in
      record {
        count = c.count + 3;
        charged = charged_both c.count 3 (c.count + 3) old now new refl kept c.charged m.charged;
        left = omega (arith, around, c.left);
        fewer = omega (arith, n_around, c.fewer);
        at = record {
          gone = gone_kept now p vs new path t kept' x.gone;
          value = m.value ∙ ap (λ v. Some (pair v (told now r))) first ∙ ap (λ v. Some (pair (value_of p vs x.head) v)) second ∙ ap Some (sym (value_pair p vs (reached path t) x.head x.tail x.is));
        };
      }

  pub closing_full : (old : Store) (a b : Arena) (before all path : List Side) (head r : Ref) (e : Full) → all ≡ path ++ Tail head ∷ [] → Kept old (meaning_of a) → HeapFull 3 (meaning_of a) (meaning_of b) e → Closing old (meaning_of a) before all r → Overflows (cells_around p before t) old
  closing_full old a b before all path head r e is kept f c =
      let x = newest (meaning_of a) all path (Tail head) r is c.at in
      let around = ap (λ l. cells_around p l t) is ∙ cells_tail path head (reached path t) x.head x.tail refl x.is in
      overflows_behind c.count 3 (cells_around p before t) old (meaning_of a) (omega (arith, around, c.left)) kept c.charged (heap_full 3 a b e f)

  pub closing_head : (old now : Store) (before all path new : List Side) (r : Ref) → all ≡ path ++ Head ∷ [] → new ≡ path ++ Tail r ∷ [] → Closing old now before all r → HeadMade p vs t old now before new
  closing_head old now before all path new r is pushed c =
      let x = newest now all path Head r is c.at in
      let at : reached path t ≡ reached path t = refl in
      let around = ap (λ l. cells_around p l t) is ∙ cells_head path (reached path t) x.head x.tail at x.is in
      let next = ap (λ l. cells_around p l t) pushed ∙ cells_tail path r (reached path t) x.head x.tail at x.is in
      let here = ap (λ l. cells_of p (reached l t)) pushed ∙ ap (cells_of p) (reached_tail path r (reached path t) x.head x.tail at x.is) in
      let n_around = ap (λ l. nodes_around l t) is ∙ nodes_head path (reached path t) x.head x.tail at x.is in
      let n_next = ap (λ l. nodes_around l t) pushed ∙ nodes_tail path r (reached path t) x.head x.tail at x.is in
      let n_here = ap (λ l. nodes_of (reached l t)) pushed ∙ ap nodes_of (reached_tail path r (reached path t) x.head x.tail at x.is) in
      record {
        count = c.count;
        charged = c.charged;
        gone = subst (λ l. AreGone now p vs l t) (sym pushed) (gone_push now p vs path (Tail r) t x.gone
            (record { head = x.head; tail = x.tail; is = x.is; value = x.value ∙ ap (λ y. Some (value_of p vs y)) (head_part (reached path t) x.head x.tail x.is) }));
        left = omega (arith, around, next, here, c.left);
        fewer = omega (arith, n_around, n_next, n_here, c.fewer);
      }

  pub closing_ends : (old now : Store) (before path : List Side) (r : Ref) → path ≡ [] → Closing old now before path r → Made (cells_around p before t) old now r (value_of p vs t)
  closing_ends old now before path r none c =
      let left : cells_around p path t ≡ 0 = ap (λ l. cells_around p l t) none in
      let all : c.count ≡ cells_around p before t = omega (arith, left, c.left) in
      record { charged = subst (λ n. Charged n old now) all c.charged; value = c.at.value ∙ ap (λ l. Some (value_of p vs (reached l t))) none }

  -- ## A list

  -- the end of a list was written
  module _ (old mid last : Store) (before path : List Side) (end : Term) (r : Ref) (is : end ≡ reached path t) (d : Descends p vs t old mid before path) (kept : Kept old mid) where
    end_cells : cells_of p (reached path t) ≡ cells_of p end
    end_cells = ap (cells_of p) (sym is)

    pub end_over : Overflows (cells_of p end) mid → Overflows (cells_left p before t) old
    end_over over = overflows_behind d.count (cells_of p end) (cells_left p before t) old mid (omega (arith, d.left, end_cells)) kept d.charged over

    module _ (made : Made (cells_of p end) mid last r (value_of p vs end)) (kept_last : Kept mid last) where
      charged_last : Charged (d.count + cells_of p end) old last
      charged_last = charged_both d.count (cells_of p end) (d.count + cells_of p end) old mid last refl kept d.charged made.charged

      all_left : d.count + cells_of p end + cells_around p path t ≡ cells_left p before t
      all_left = omega (arith, d.left, end_cells)

      to_last : Kept old last
      to_last = kept_on old mid last kept kept_last

      pub at_end : IsAtPart last p vs path t r
      at_end = record { gone = gone_kept mid p vs last path t kept_last d.gone; value = made.value ∙ ap (λ x. Some (value_of p vs x)) is }

      pub list_next : (new : Store) (behind : List Side) → HeadMade p vs t last new path behind → ListWritten p vs t old new before behind
      list_next new behind h = record {
        count = d.count + cells_of p end + h.count;
        charged = charged_both (d.count + cells_of p end) h.count (d.count + cells_of p end + h.count) old last new refl to_last charged_last h.charged;
        gone = h.gone;
        left = omega (arith, all_left, h.left);
        fewer =
            let some = some_node end in
            let here = ap nodes_of is in
            omega (arith, some, here, h.fewer, d.fewer);
      }

      pub list_ends : (new : Store) (q : Ref) → Made (cells_around p path t) last new q (value_of p vs t) → Made (cells_left p before t) old new q (value_of p vs t)
      list_ends new q m =
          record { charged = charged_both (d.count + cells_of p end) (cells_around p path t) (cells_left p before t) old last new (sym all_left) to_last charged_last m.charged; value = m.value }

      pub list_writes : (new : Store) (behind : List Side) (o : Option Ref) → Closes p vs t last new path behind o → Writes p vs t old new before behind o
      list_writes new behind None h = list_next new behind h
      list_writes new behind (Some q) m = list_ends new q m

      pub list_full : Overflows (cells_around p path t) last → Overflows (cells_left p before t) old
      list_full over = overflows_behind (d.count + cells_of p end) (cells_around p path t) (cells_left p before t) old last (omega (arith, all_left)) to_last charged_last over

  -- ## The whole

  -- so many cells are those that were taken and those that are left
  pub record IsWriting (all : ℕ) (old now : Store) (path : List Side) : Type 0 where
    pub count : ℕ
    pub charged : Charged count old now
    pub left : count + cells_left p path t ≡ all
    pub gone : AreGone now p vs path t

  pub writing_starts : (s : Store) (path : List Side) → s.state.heap ≤ s.heap_limit → AreGone s p vs path t → IsWriting (cells_left p path t) s s path
  writing_starts s path le gone = record { count = 0; charged = charged_none s s le refl; left = omega arith; gone = gone }

  pub nothing_gone : (s : Store) (path : List Side) → path ≡ [] → AreGone s p vs path t
  nothing_gone s path none = subst (λ l. AreGone s p vs l t) (sym none) tt

  pub nothing_around : (path : List Side) → path ≡ [] → cells_left p path t ≡ cells_of p t
  nothing_around path none = ap (λ l. cells_left p l t) none ∙ omega arith

  module _ (all : ℕ) (old now : Store) (path : List Side) (kept : Kept old now) (w : IsWriting all old now path) where
    pub writing_next : (new : Store) (behind : List Side) → ListWritten p vs t now new path behind → IsWriting all old new behind
    writing_next new behind l = record {
      count = w.count + l.count;
      charged = charged_both w.count l.count (w.count + l.count) old now new refl kept w.charged l.charged;
      left = omega (arith, w.left, l.left);
      gone = l.gone;
    }

    pub writing_ends : (new : Store) (q : Ref) (v : Value) → Made (cells_left p path t) now new q v → Made all old new q v
    writing_ends new q v m = record { charged = charged_both w.count (cells_left p path t) all old now new (sym w.left) kept w.charged m.charged; value = m.value }

    pub writing_cut : Overflows (cells_left p path t) now → Overflows all old
    writing_cut over = overflows_behind w.count (cells_left p path t) all old now (omega (arith, w.left)) kept w.charged over
