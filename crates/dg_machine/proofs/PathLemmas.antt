-- Paths into a term that is written.
use Rattle.std.proofs.Common.{◌≡◌, ℕ, suc, ◌+◌, ◌*◌, ◌<◌, ◌≤◌, List, [], ◌∷◌, ◌++◌, refl, sym, ap, ◌∙◌, arith, length, append-nil, append_assoc, take, get_or}
use Rattle.std.proofs.lemmas.List.{length-append, take_more, take-append-le}
use Rattle.dg_base.specs.declared.program.Term.{Term, Pair', out-Term}
use Rattle.dg_base.specs.declared.program.Term.TheBlock.{hidden-the_row-Term-0}
use Rattle.dg_base.specs.declared.program.Term.TheVariants.{Pair as Pair-Term, outs-Pair}
use Rattle.dg_base.specs.declared.program.CoreProgram.{CoreProgram}
use Rattle.dg_base.specs.Terms.{nodes}
use Rattle.dg_meaning.specs.Values.{Value, pair, value_of}
use Rattle.dg_unify.specs.Store.{Store, Kept}
use Rattle.dg_unify.specs.declared.bindings.Ref.{Ref}
use Rattle.dg_mid.proofs.FlatLemmas.{nodes_are}
use Rattle.dg_machine.specs.declared.now.Side.{Side}
use Rattle.dg_machine.specs.declared.now.Side.TheVariants.{Head, Tail}
use Rattle.dg_machine.specs.declared.paths.Mark.{Mark}
use Rattle.dg_machine.specs.inside.Writing.{part_in, part_of, reached, IsHead, IsGone, AreGone, left_in, left_around, cells_of, nodes_of, cells_around, GoesOn, FrontsStay, AreMarks, AreMarksBelow}

-- ## Pairs

pair_value : (p : CoreProgram) (vs : List Value) (h t : Term) → value_of p vs (Pair-Term h t) ≡ pair (value_of p vs h) (value_of p vs t)
unfolding hidden-the_row-Term-0 denote.Hole.Carrier.hidden
pair_value p vs h t = refl

pub value_pair : (p : CoreProgram) (vs : List Value) (x h t : Term) → x ≡ Pair-Term h t → value_of p vs x ≡ pair (value_of p vs h) (value_of p vs t)
value_pair p vs x h t is = ap (value_of p vs) is ∙ pair_value p vs h t

pub nodes_pair : (x h t : Term) → x ≡ Pair-Term h t → nodes_of x ≡ suc (nodes_of h + nodes_of t)
nodes_pair x h t is =
    let a = length-append (nodes h ++ []) (nodes t ++ []) in
    let b = ap length (append-nil (nodes h)) in
    let c = ap length (append-nil (nodes t)) in
    omega (arith, ap nodes_of is, ap length (nodes_are h t), a, b, c)

pub some_node : (x : Term) → 1 ≤ nodes_of x
some_node (Pair' s head t tail) = omega arith
some_node other = omega arith

-- ## Sides

pub head_part : (x h t : Term) → x ≡ Pair-Term h t → part_of Head x ≡ h
head_part x h t is = ap (part_of Head) is ∙ ap (λ o. part_in Head o (Pair-Term h t)) (outs-Pair h t)

pub tail_part : (r : Ref) (x h t : Term) → x ≡ Pair-Term h t → part_of (Tail r) x ≡ t
tail_part r x h t is = ap (part_of (Tail r)) is ∙ ap (λ o. part_in (Tail r) o (Pair-Term h t)) (outs-Pair h t)

pub head_left : (one : ℕ) (all : Term → ℕ) (x h t : Term) → x ≡ Pair-Term h t → left_in one all Head (out-Term x) ≡ one + all t
head_left one all x h t is = ap (λ y. left_in one all Head (out-Term y)) is ∙ ap (left_in one all Head) (outs-Pair h t)

pub tail_left : (one : ℕ) (all : Term → ℕ) (r : Ref) (x h t : Term) → x ≡ Pair-Term h t → left_in one all (Tail r) (out-Term x) ≡ one
tail_left one all r x h t is = ap (λ y. left_in one all (Tail r) (out-Term y)) is ∙ ap (left_in one all (Tail r)) (outs-Pair h t)

-- ## One side more

pub reached_push : (path : List Side) (side : Side) (t : Term) → reached (path ++ side ∷ []) t ≡ part_of side (reached path t)
reached_push [] side t = refl
reached_push (x ∷ path) side t = reached_push path side (part_of x t)

pub left_push : (one : ℕ) (all : Term → ℕ) (path : List Side) (side : Side) (t : Term) → left_around one all (path ++ side ∷ []) t ≡ left_around one all path t + left_in one all side (out-Term (reached path t))
left_push one all [] side t = omega arith
left_push one all (x ∷ path) side t = let rest = left_push one all path side (part_of x t) in omega (arith, rest)

pub reached_more : (path : List Side) (n : ℕ) (t : Term) → n < length path → reached (take (n + 1) path) t ≡ part_of (get_or path n Head) (reached (take n path) t)
reached_more path n t lt = ap (λ l. reached l t) (take_more path n Head lt) ∙ reached_push (take n path) (get_or path n Head) t

-- ## Fronts

pub goes_on : (before path new : List Side) (side : Side) → new ≡ path ++ side ∷ [] → GoesOn before path → GoesOn before new
goes_on before path new side is on = (on.0 ++ side ∷ [], is ∙ ap (λ l. l ++ side ∷ []) on.1 ∙ append_assoc before on.0 (side ∷ []))

pub goes_back : (before path all : List Side) (side : Side) → path ≡ before ++ side ∷ [] → GoesOn path all → GoesOn before all
goes_back before path all side is on = (side ∷ on.0, on.1 ∙ ap (λ l. l ++ on.0) is ∙ append_assoc before (side ∷ []) on.0)

-- a path was cut to a front, which goes on by one side at most
pub fronts_cut : (before behind front more : List Side) → GoesOn front before → behind ≡ front ++ more → length more ≤ 1 → FrontsStay before behind
fronts_cut before behind front more on is few n le lt =
    let within : n ≤ length front = omega (arith, ap length is, length-append front more, few) in
    ap (take n) is ∙ take-append-le n front more within ∙ sym (ap (take n) on.1 ∙ take-append-le n front on.0 within)

pub fronts_on : (before mid behind : List Side) → GoesOn before mid → FrontsStay mid behind → FrontsStay before behind
fronts_on before mid behind on stay n le lt =
    let longer : n ≤ length mid = omega (arith, ap length on.1, length-append before on.0, le) in
    stay n longer lt ∙ ap (take n) on.1 ∙ take-append-le n before on.0 le

-- ## Marks

pub marks_stay : (before behind : List Side) (t : Term) (marks : List Mark) → FrontsStay before behind → AreMarks before t marks → AreMarksBelow behind t marks
marks_stay before behind t marks stay are k d lt shorter = let mark = are k d lt in mark.at ∙ ap (λ l. reached l t) (sym (stay (get_or marks k d).depth mark.within shorter))

module _ (s : Store) (p : CoreProgram) (vs : List Value) where
  pub gone_push : (path : List Side) (side : Side) (t : Term) → AreGone s p vs path t → IsGone s p vs side (reached path t) → AreGone s p vs (path ++ side ∷ []) t
  gone_push [] side t h g = (g, tt)
  gone_push (x ∷ path) side t h g = (h.0, gone_push path side (part_of x t) h.1 g)

  pub gone_pop : (path : List Side) (side : Side) (t : Term) → AreGone s p vs (path ++ side ∷ []) t → AreGone s p vs path t × IsGone s p vs side (reached path t)
  gone_pop [] side t h = (tt, h.0)
  gone_pop (x ∷ path) side t h = let rest = gone_pop path side (part_of x t) h.1 in ((h.0, rest.0), rest.1)

  least_in : (side : Side) (t : Term) → IsGone s p vs side t → 3 ≤ left_in 3 (cells_of p) side (out-Term t)
  least_in Head t g = let e = head_left 3 (cells_of p) t g.head g.tail g.is in omega (arith, e)
  least_in (Tail r) t g = let e = tail_left 3 (cells_of p) r t g.head g.tail g.is in omega (arith, e)

  -- each pair of a path has its cells to come
  pub least_left : (path : List Side) (t : Term) → AreGone s p vs path t → 3 * length path ≤ cells_around p path t
  least_left [] t h = omega arith
  least_left (x ∷ path) t h = let first = least_in x t h.0 in let rest = least_left path (part_of x t) h.1 in omega (arith, first, rest)

  head_kept : (u : Store) (side : Side) (v : Value) → Kept s u → IsHead s side v → IsHead u side v
  head_kept u Head v kept h = tt
  head_kept u (Tail r) v kept h = kept.values r v h

  pub gone_kept : (u : Store) (path : List Side) (t : Term) → Kept s u → AreGone s p vs path t → AreGone u p vs path t
  gone_kept u [] t kept h = tt
  gone_kept u (x ∷ path) t kept h = (
    record { head = h.0.head; tail = h.0.tail; is = h.0.is; value = head_kept u x (value_of p vs h.0.head) kept h.0.value },
    gone_kept u path (part_of x t) kept h.1,
  )
