use Rattle.std.proofs.Common.{◌≡◌, ◌+◌, ◌++◌, ◌∷◌, [], sym, arith, rules, ap, length, length-append, ◌∙◌}
use Rattle.dg_world.specs.Lists.{Lists, joined, starts_from}
use Rattle.dg_world.proofs.ListsLemmas.{cut_is, is_cut, starts_push, joined_push}
use Rattle.dg_world.proofs.area.Area.push.Goals as goal

pub invariant_of-self-2 : goal.invariant_of-self-2
invariant_of-self-2 c =
    let ls = c.args.self.now.lists in
    let l = c.args.cells.now in
    let are = ap (λ (v : Lists). v.lists) c.self.view_is in
    let row = c.self.invariant.0.row ∙ ap joined are in
    let place : c.len.result + length l ≡ 0 + length (joined ls) + length l = omega (arith, c.len.ensures, c.self.inside.cells.ok.0, ap length row) in
    let starts : c.push.new.self.items ≡ starts_from 0 (ls ++ l ∷ []) =
    c.in_ok-push.ensures.items ∙ ap (λ s. s ++ (c.len.result + length l) ∷ []) (c.self.invariant.0.begin ∙ ap (starts_from 0) are) ∙ ap (λ k. starts_from 0 ls ++ k ∷ []) place ∙ sym (starts_push 0 ls l) in
    let more : c.extend_from_slice.new.self.items ≡ c.self.inside.cells.items ++ l = search rules in
    let cells : c.extend_from_slice.new.self.items ≡ joined (ls ++ l ∷ []) = more ∙ ap (λ x. x ++ l) row ∙ sym (joined_push ls l) in
    (is_cut c.push.new.self.items c.extend_from_slice.new.self.items (ls ++ l ∷ []) starts cells, omega (arith, ap length more, length-append c.self.inside.cells.items l, ap length row, ap (λ (v : Lists). v.keep) c.self.view_is, c.requires), omega (arith, c.extend_from_slice.ensures.capacity, c.self.invariant.2))

pub returns : goal.returns
returns c =
    let ls = c.args.self.now.lists in
    let l = c.args.cells.now in
    let are = ap (λ (v : Lists). v.lists) c.self.view_is in
    let row = c.self.invariant.0.row ∙ ap joined are in
    let place : c.len.result + length l ≡ 0 + length (joined ls) + length l = omega (arith, c.len.ensures, c.self.inside.cells.ok.0, ap length row) in
    let starts : c.push.new.self.items ≡ starts_from 0 (ls ++ l ∷ []) =
    c.in_ok-push.ensures.items ∙ ap (λ s. s ++ (c.len.result + length l) ∷ []) (c.self.invariant.0.begin ∙ ap (starts_from 0) are) ∙ ap (λ k. starts_from 0 ls ++ k ∷ []) place ∙ sym (starts_push 0 ls l) in
    let more : c.extend_from_slice.new.self.items ≡ c.self.inside.cells.items ++ l = search rules in
    let cells : c.extend_from_slice.new.self.items ≡ joined (ls ++ l ∷ []) = more ∙ ap (λ x. x ++ l) row ∙ sym (joined_push ls l) in
    ap (λ x. record { lists = x; keep = c.self.inside.keep }) (cut_is c.push.new.self.items c.extend_from_slice.new.self.items (ls ++ l ∷ []) starts cells) ∙ ap (λ k. record { lists = ls ++ l ∷ []; keep = k }) (ap (λ (v : Lists). v.keep) c.self.view_is)
