use Rattle.std.proofs.Common.{◌≡◌, ◌+◌, ◌-◌, ◌<◌, ◌∙◌, refl, sym, ap, subst, arith, length, take}
use Rattle.std.proofs.lemmas.List.{take_all}
use Rattle.dg_arena.specs.Held.{meaning_of}
use Rattle.dg_lasting.specs.Finding.{counted}
use Rattle.dg_mid.specs.State.{Tries as TriesOf, place_of}
use Rattle.dg_mid.specs.Step.{inside, passed}
use Rattle.dg_machine.specs.declared.now.Way.TheVariants.{Tries}
use Rattle.dg_machine.specs.Layout.{Holds, FindAt, Lacks, WayAt}
use Rattle.dg_machine.specs.Measure.{choices_left, way_left}
use Rattle.dg_machine.proofs.Kept.{moved_to, refs_moved}
use Rattle.dg_machine.proofs.Leads.{height_now}
use Rattle.dg_machine.proofs.Opens.{left_more}
use Rattle.dg_machine.proofs.TermLemmas.{refs_length}
use Rattle.dg_machine.proofs.Trying.{first_none, first_last, first_full, first_others}
use Rattle.dg_machine.proofs.memory.Memory.try_first.Goals as goal

pub returns-then-from-end : goal.returns-then-from-end
returns-then-from-end c g l m f objects seeks around at is h = first_none c.args.code.now g l m c.args.search c.args.from c.args.end f objects c.args.self.now h is c.if-from-end.true

pub returns-then-next-end : goal.returns-then-next-end
returns-then-next-end c g l m f objects seeks around at is h =
    let code = c.args.code.now in
    let r = c.args.self.now in
    let next = c.if-next-end.true in
    let high = height_now code l m r c.heap-height.result h c.heap-height.ensures in
    first_last code g l m c.args.search c.args.from c.args.end f objects r h is c.try_object.new.self c.try_object.result c.if-from-end.false (omega (arith, next))
    (c.try_object.ensures g l (passed m) f (place_of m) seeks around at high h)

pub try_object-requires-in-Ok-clause-args : goal.try_object-requires-in-Ok-clause-args
try_object-requires-in-Ok-clause-args c =
    let r = c.args.self.now in
    let mid = c.open.new.self in
    let o = c.in-Ok.ensures.opened in
    refs_moved (meaning_of r.arena) (meaning_of mid.arena) r.args.items mid.args.items (ap (λ v. v.items) o.args) o.values c.requires.args

pub returns-in-Err : goal.returns-in-Err
returns-in-Err c g l m f objects seeks around at is h =
    let code = c.args.code.now in
    let r = c.args.self.now in
    let s = meaning_of r.arena in
    let from = c.args.from in
    let end = c.args.end in
    let n = c.len-count.result in
    let rest = counted (from + 1) (end - (from + 1)) in
    let lt : from + 1 < end = let a = c.if-from-end.false in let b = c.if-next-end.false in omega (arith, a, b) in
    let all : take n r.args.items ≡ r.args.items = take_all n r.args.items (omega (arith, c.len-count.ensures, r.args.ok.0)) in
    let count : n ≡ length f.args = omega (arith, c.len-count.ensures, r.args.ok.0, refs_length s r.args.items f.args at.args) in
    let way : WayAt code s (take n r.args.items) (Tries c.args.search (from + 1) end) (TriesOf f rest) = (subst (λ rs. FindAt s rs c.args.search f) (sym all) at, refl) in
    first_full code g l m c.args.search from end f objects r h is lt c.open.new.self (subst (λ k. Lacks (10 + k) l m.state.heap c.open.new.self) count (c.in-Err.ensures.held code l m (TriesOf f rest) h way))

pub returns-in-Ok : goal.returns-in-Ok
returns-in-Ok c g l m f objects seeks around at is h =
    let code = c.args.code.now in
    let r = c.args.self.now in
    let s = meaning_of r.arena in
    let mid = c.open.new.self in
    let t = meaning_of mid.arena in
    let o = c.in-Ok.ensures.opened in
    let from = c.args.from in
    let end = c.args.end in
    let n = c.len-count.result in
    let rest = counted (from + 1) (end - (from + 1)) in
    let lt : from + 1 < end = let a = c.if-from-end.false in let b = c.if-next-end.false in omega (arith, a, b) in
    let all : take n r.args.items ≡ r.args.items = take_all n r.args.items (omega (arith, c.len-count.ensures, r.args.ok.0)) in
    let count : n ≡ length f.args = omega (arith, c.len-count.ensures, r.args.ok.0, refs_length s r.args.items f.args at.args) in
    let way : WayAt code s (take n r.args.items) (Tries c.args.search (from + 1) end) (TriesOf f rest) = (subst (λ rs. FindAt s rs c.args.search f) (sym all) at, refl) in
    let held : Holds code l mid (inside (TriesOf f rest) (length f.args) m) = subst (λ k. Holds code l mid (inside (TriesOf f rest) k m)) count (c.in-Ok.ensures.held code l m (TriesOf f rest) h way) in
    let high = height_now code l m r c.heap-height.result h c.heap-height.ensures in
    let there : FindAt t mid.args.items c.args.search f = record { place = at.place; args = moved_to s t r.args.items mid.args.items f.args (ap (λ v. v.items) o.args) o.values at.args; many = at.many; next = at.next } in
    let left = ap choices_left o.choices ∙ left_more r.choices.items o.choice ∙ ap (λ w. choices_left r.choices.items + way_left w) o.goes in
    first_others code g l m c.args.search from end f objects r h is lt mid c.try_object-in-Ok.new.self c.try_object-in-Ok.result held left
    (c.try_object-in-Ok.ensures g l (inside (TriesOf f rest) (length f.args) m) f (place_of m) seeks around there high held)
