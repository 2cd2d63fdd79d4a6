use Rattle.std.proofs.Common.{◌∙◌, ap, map, sym, subst}
use Rattle.std.specs.List.{zip}
use Rattle.dg_meaning.specs.Values.{value_of}
use Rattle.dg_meaning.specs.Cells.{cells}
use Rattle.dg_meaning.specs.Moves.{new_vars}
use Rattle.dg_meaning.specs.Unify.{solve}
use Rattle.dg_arena.specs.Held.{meaning_of}
use Rattle.dg_mid.specs.Step.{bound}
use Rattle.dg_machine.specs.Layout.{headed_state, CallAt}
use Rattle.dg_machine.proofs.Kept.{row_kept, refs_moved, moved_to}
use Rattle.dg_machine.proofs.Opens.{fits}
use Rattle.dg_machine.proofs.Leaving.{enters, enters_full, enters_clash, enters_unmatched}
use Rattle.dg_machine.proofs.memory.Memory.enter_written.Goals as goal

pub match_args-requires-clause-args : goal.match_args-requires-clause-args
match_args-requires-clause-args c = refs_moved (meaning_of c.args.self.now.arena) (meaning_of c.make_head.new.self.arena) c.args.self.now.args.items c.make_head.new.self.args.items (ap (λ v. v.items) c.in-Ok.ensures.args) c.in-Ok.ensures.values c.requires.args

pub returns-in-Err : goal.returns-in-Err
returns-in-Err c code rest g is_of l m call ops at k h = enters_full code g l m c.args.self.now.call call c.args.vars c.args.head.now c.args.self.now c.make_head.new.self ops rest at h (c.in-Err.ensures.made code l m g.program is_of h)

pub returns-in-Err-match_args : goal.returns-in-Err-match_args
returns-in-Err-match_args c code rest g is_of l m call ops at k h =
    let made = c.in-Ok.ensures.made code l m g.program is_of h in
    let vs = new_vars c.args.vars m.state.vars in
    let mid = record m { state = headed_state c.args.vars (cells g.program c.args.head.now) m.state } in
    let ws = map (value_of g.program vs) c.args.head.now in
    let refs = moved_to (meaning_of c.args.self.now.arena) (meaning_of c.make_head.new.self.arena) c.args.self.now.args.items c.make_head.new.self.args.items call.args (ap (λ v. v.items) c.in-Ok.ensures.args) c.in-Ok.ensures.values k.args in
    enters_unmatched code g l m c.args.self.now.call call c.args.vars c.args.head.now c.args.self.now c.match_args.new.self ops rest at h (fits code l mid c.make_head.new.self made.held) (c.in-Err-match_args.ensures.matched code l mid call.args ws made.held refs made.heads)

pub returns-in-Ok-false : goal.returns-in-Ok-false
returns-in-Ok-false c code rest g is_of l m call ops at k h =
    let made = c.in-Ok.ensures.made code l m g.program is_of h in
    let vs = new_vars c.args.vars m.state.vars in
    let mid = record m { state = headed_state c.args.vars (cells g.program c.args.head.now) m.state } in
    let ws = map (value_of g.program vs) c.args.head.now in
    let refs = moved_to (meaning_of c.args.self.now.arena) (meaning_of c.make_head.new.self.arena) c.args.self.now.args.items c.make_head.new.self.args.items call.args (ap (λ v. v.items) c.in-Ok.ensures.args) c.in-Ok.ensures.values k.args in
    enters_clash code g l m c.args.self.now.call call c.args.vars c.args.head.now c.args.self.now c.match_args.new.self ops rest at h c.in-Ok-false.field-0 c.in-Ok-false.field-0-test (fits code l mid c.make_head.new.self made.held)
    (c.in-Ok-false.ensures.matched code l mid call.args ws made.held refs made.heads) (c.in-Ok-false.ensures.choices ∙ c.in-Ok.ensures.choices)

pub returns-in-Ok-true : goal.returns-in-Ok-true
returns-in-Ok-true c code rest g is_of l m call ops at k h =
    let made = c.in-Ok.ensures.made code l m g.program is_of h in
    let vs = new_vars c.args.vars m.state.vars in
    let mid = record m { state = headed_state c.args.vars (cells g.program c.args.head.now) m.state } in
    let ws = map (value_of g.program vs) c.args.head.now in
    let refs = moved_to (meaning_of c.args.self.now.arena) (meaning_of c.make_head.new.self.arena) c.args.self.now.args.items c.make_head.new.self.args.items call.args (ap (λ v. v.items) c.in-Ok.ensures.args) c.in-Ok.ensures.values k.args in
    let x = c.in-Ok-true.ensures.matched code l mid call.args ws made.held refs made.heads in
    let u = solve m.state.subst (zip call.args ws) in
    let here_k = subst (λ y. CallAt (meaning_of c.args.self.now.arena) c.args.self.now.args.items y call) (sym (c.in-Ok-true.ensures.call ∙ c.in-Ok.ensures.call)) k in
    let here = c.push_frame.ensures.held code l (bound u mid) call (meaning_of c.args.self.now.arena) c.args.self.now.args.items vs x.held here_k (row_kept (meaning_of c.make_head.new.self.arena) (meaning_of c.match_args.new.self.arena) c.in-Ok.row vs c.in-Ok-true.ensures.values made.row_is) in
    enters code g l m c.args.self.now.call call c.args.vars c.args.head.now c.args.self.now c.push_frame.new.self ops rest at h c.match_args.new.self c.in-Ok-true.field-0 c.in-Ok-true.field-0-test (fits code l mid c.make_head.new.self made.held) x here
    (c.push_frame.ensures.choices ∙ c.in-Ok-true.ensures.choices ∙ c.in-Ok.ensures.choices)
