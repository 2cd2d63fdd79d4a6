use Rattle.std.proofs.Common.{◌≡◌, ℕ, ◌≤◌, ◌+◌, ◌-◌, List, [], ◌∷◌, ◌++◌, None, ap, sym, ◌∙◌, subst, arith, length, take, append-nil, append_assoc, slice_index_or}
use Rattle.dg_unify.specs.Links.{AreLinked}
use Rattle.std.proofs.Math.ListN.{length-set}
use Rattle.std.proofs.lemmas.List.{take_more}
use Rattle.dg_unify.specs.declared.slots.Link.{Link}
use Rattle.dg_unify.proofs.LinksLemmas.{linked_undo}
use Rattle.dg_unify.proofs.links.unbind.Goals as goal

-- the newest of so many is behind one fewer
one_fewer : (newest log : List Link) (n : ℕ) → 1 ≤ n → n ≤ length newest → log ++ take n newest ≡ (log ++ take (n - 1) newest) ++ slice_index_or newest (n - 1) (record { var = 0; to = record { 0 = 0 } }) ∷ []
one_fewer newest log n some le =
    let d : Link = record { var = 0; to = record { 0 = 0 } } in
    let l = slice_index_or newest (n - 1) d in
    let one : n ≡ n - 1 + 1 = omega (arith, some) in
    let is : take n newest ≡ take (n - 1) newest ++ l ∷ [] = ap (λ k. take k newest) one ∙ take_more newest (n - 1) d (omega (arith, one, le)) in
    ap (λ ls. log ++ ls) is ∙ sym (append_assoc log (take (n - 1) newest) (l ∷ []))

pub bounds-to-newest : goal.bounds-to-newest
bounds-to-newest c =
    let newest = c.args.newest.now in
    let vars = c.requires.0 in
    let log = c.requires.1 in
    let fewer = c.links.left - 1 in
    let d : Link = record { var = 0; to = record { 0 = 0 } } in
    let l = slice_index_or newest fewer d in
    (linked_undo vars c.links.to (log ++ take c.links.left newest) (log ++ take fewer newest) l (one_fewer newest log c.links.left (omega (arith, c.links-test.true)) c.links.invariant.within) (c.links.invariant.linked vars log c.requires.2)).0

pub returns-clause-linked : goal.returns-clause-linked
returns-clause-linked c vars log h =
    let none : c.links.left ≡ 0 = omega (arith, c.links-test.false) in
    let to = c.links.to in
    subst (AreLinked vars to) (append-nil log) (subst (λ n. AreLinked vars to (log ++ take n c.args.newest.now)) none (c.links.invariant.linked vars log h))

pub links-preserved : goal.links-preserved
links-preserved c =
    let newest = c.args.newest.now in
    let fewer = c.links.left - 1 in
    let d : Link = record { var = 0; to = record { 0 = 0 } } in
    let l = slice_index_or newest fewer d in
    record {
      within = omega (arith, c.links.invariant.within);
      vars = length-set c.links.to l.var None ∙ c.links.invariant.vars;
      linked = λ vars log h.
          (linked_undo vars c.links.to (log ++ take c.links.left newest) (log ++ take fewer newest) l (one_fewer newest log c.links.left (omega (arith, c.links-test.true)) c.links.invariant.within) (c.links.invariant.linked vars log h)).1;
    }
