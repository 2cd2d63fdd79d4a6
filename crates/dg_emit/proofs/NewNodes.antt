-- Which routines unify arguments with the terms of a head, as they are found.
use Rattle.std.specs.Borrow.{Bor}
use Rattle.std.specs.Prelude.{◌&&◌, if◌then◌else◌}
use Rattle.std.proofs.Common.{◌≡◌, ◌+◌, ◌≤◌, ℕ, suc, Bool, true, false, None, List, [], ◌∷◌, ◌++◌, length, drop, refl, sym, ◌∙◌, ap, subst, arith, append_assoc}
use Rattle.dg_base.specs.declared.program.Term.{Term, out-Term}
use Rattle.dg_meaning.specs.Cells.{nodes_of}
use Rattle.z_lang.specs.declared.act.Act.{Act}
use Rattle.z_lang.specs.declared.act.Act.TheVariants as acts
use Rattle.z_lang.specs.declared.act.Args.TheVariants as args
use Rattle.z_lang.specs.declared.act.Atom.TheVariants as atoms
use Rattle.dg_turn.specs.Turns.{above_node, above, is_new, are_new, matcher, matchers, unifying_acts}
use Rattle.dg_emit.specs.inside.Left.{parts_of, those, left}
use Rattle.dg_emit.proofs.Left.{nodes_next, left_next}

-- One node is looked at, and what stands in it comes next.
pub above_left : (n : ℕ) (made rest more : List (Bor Term)) (t : Bor Term) → made ≡ rest ++ t ∷ [] → left more ≡ parts_of (out-Term t.now) ++ left rest → above n (nodes_of (left made)) ≡ above (above_node n (out-Term t.now)) (nodes_of (left more))
above_left n made rest more t e is =
    ap (λ (l : List Term). above n (nodes_of l)) (left_next made rest t e) ∙ ap (above n) (nodes_next t.now (left rest))
    ∙ ap (λ (l : List Term). above (above_node n (out-Term t.now)) (nodes_of l)) (sym is)

front_new : (n : ℕ) (made rest : List (Bor Term)) (t : Bor Term) → made ≡ rest ++ t ∷ [] → are_new n (nodes_of (left made)) ≡ (is_new n (out-Term t.now) && are_new (above_node n (out-Term t.now)) (nodes_of (parts_of (out-Term t.now) ++ left rest)))
front_new n made rest t e = ap (λ (l : List Term). are_new n (nodes_of l)) (left_next made rest t e) ∙ ap (are_new n) (nodes_next t.now (left rest))

-- so it is where it is new
pub new_left : (n : ℕ) (made rest more : List (Bor Term)) (t : Bor Term) → made ≡ rest ++ t ∷ [] → left more ≡ parts_of (out-Term t.now) ++ left rest → is_new n (out-Term t.now) ≡ true → are_new n (nodes_of (left made)) ≡ are_new (above_node n (out-Term t.now)) (nodes_of (left more))
new_left n made rest more t e is new =
    let k = above_node n (out-Term t.now) in
    front_new n made rest t e ∙ ap (λ (g : Bool). g && are_new k (nodes_of (parts_of (out-Term t.now) ++ left rest))) new ∙ ap (λ (l : List Term). are_new k (nodes_of l)) (sym is)

-- and where it isn't, none of them are
pub not_new : (n : ℕ) (made rest : List (Bor Term)) (t : Bor Term) → made ≡ rest ++ t ∷ [] → is_new n (out-Term t.now) ≡ false → are_new n (nodes_of (left made)) ≡ false
not_new n made rest t e old =
    front_new n made rest t e ∙ ap (λ (g : Bool). g && are_new (above_node n (out-Term t.now)) (nodes_of (parts_of (out-Term t.now) ++ left rest))) old

-- The first of some terms is unified.
pub unified_next : (acts' before : List Act) (v x n r above' : ℕ) (ts : List Term) (t : Term) → r ≡ matcher n (nodes_of (t ∷ [])) → above' ≡ above n (nodes_of (t ∷ [])) → acts' ≡ before ++ acts.Call None (atoms.Routine r) (args.Two (atoms.Var v) (atoms.Var x)) ∷ [] →
    acts' ++ unifying_acts (v + 1) (x + 1) (matchers above' ts) ≡ before ++ unifying_acts v x (matchers n (t ∷ ts))
unified_next acts' before v x n r above' ts t er ea e =
    let a : v + 1 ≡ suc v = omega arith in
    let b : x + 1 ≡ suc x = omega arith in
    let more = unifying_acts (suc v) (suc x) (matchers (above n (nodes_of (t ∷ []))) ts) in
    ap (λ (l : List Act). l ++ unifying_acts (v + 1) (x + 1) (matchers above' ts)) e
    ∙ append_assoc before (acts.Call None (atoms.Routine r) (args.Two (atoms.Var v) (atoms.Var x)) ∷ []) (unifying_acts (v + 1) (x + 1) (matchers above' ts))
    ∙ rw (a, b, er, ea) refl
