use Rattle.std.proofs.Common.{◌≡◌, ◌∙◌, ◌++◌, [], ◌∷◌, refl, sym, ap, arith, ◌+◌, append-nil}
use Rattle.dg_unify.specs.Store.{State}
use Rattle.dg_unify.proofs.StoreLemmas.{kept_on}
use Rattle.dg_arena.specs.Held.{meaning_of}
use Rattle.dg_mid.specs.State.{Goes as GoesOf}
use Rattle.dg_machine.specs.declared.now.Way.TheVariants.{Goes}
use Rattle.dg_machine.specs.declared.memory.Memory.{Memory}
use Rattle.dg_machine.specs.Layout.{HasRoom, choice_here}
use Rattle.dg_machine.proofs.Opens.{parted_held, parted_room, lacks}
use Rattle.dg_machine.proofs.memory.Memory.open_part.Goals as goal

pub returns-in-Ok-clause-held : goal.returns-in-Ok-clause-held
returns-in-Ok-clause-held c code l m h =
    let r = c.args.self.now in
    let mark = c.mark-mark.result in
    let k = choice_here r (Goes c.args.alt) 0 mark in
    let new : Memory = record r { arena = c.charge.new.self; choices = c.push_reserved.new.self; stops = c.push_reserved-in-Ok.new.self; stop = c.len-self.result } in
    let marks = c.mark-mark.ensures in
    let taken = c.in-Ok.ensures in
    let items : c.push_reserved.new.self.items ≡ r.choices.items ++ k ∷ [] = c.push_reserved.ensures.items ∙ ap (λ x. r.choices.items ++ x ∷ []) c.choice_here-part.ensures in
    let stops : c.push_reserved-in-Ok.new.self.items ≡ r.stops.items ++ k ∷ [] = c.push_reserved-in-Ok.ensures.items ∙ ap (λ x. r.stops.items ++ x ∷ []) c.choice_here-part.ensures in
    let room : HasRoom new = parted_room r new c.mark-mark.new.self k c.requires.room marks.kept marks.same taken.kept taken.made items c.push_reserved.ensures.capacity stops c.push_reserved-in-Ok.ensures.capacity in (
      parted_held code l m (GoesOf c.args.alt) 0 0 r new c.mark-mark.new.self (Goes c.args.alt) mark h refl (omega arith) marks.kept marks.saved marks.same taken.kept taken.saved taken.made (sym (append-nil r.kept.items)) items
          c.args.alt new refl refl refl stops (omega (arith, c.len-self.ensures, c.push_reserved-in-Ok.new.self.ok.0)) room,
      h.1,
    )

pub returns-in-Ok-clause-opened : goal.returns-in-Ok-clause-opened
returns-in-Ok-clause-opened c =
    let r = c.args.self.now in
    let k = choice_here r (Goes c.args.alt) 0 c.mark-mark.result in
    let new : Memory = record r { arena = c.charge.new.self; choices = c.push_reserved.new.self; stops = c.push_reserved-in-Ok.new.self; stop = c.len-self.result } in
    let marks = c.mark-mark.ensures in
    let taken = c.in-Ok.ensures in
    let items : c.push_reserved.new.self.items ≡ r.choices.items ++ k ∷ [] = c.push_reserved.ensures.items ∙ ap (λ x. r.choices.items ++ x ∷ []) c.choice_here-part.ensures in
    let stops : c.push_reserved-in-Ok.new.self.items ≡ r.stops.items ++ k ∷ [] = c.push_reserved-in-Ok.ensures.items ∙ ap (λ x. r.stops.items ++ x ∷ []) c.choice_here-part.ensures in
    record {
      heap = ap (λ (s : State). s.heap) taken.made.state ∙ ap (λ (s : State). s.heap + 10) marks.same;
      values = kept_on (meaning_of r.arena) (meaning_of c.mark-mark.new.self) (meaning_of c.charge.new.self) marks.kept taken.kept;
      args = refl;
      inners = refl;
      frame = refl;
      inner = refl;
      room = parted_room r new c.mark-mark.new.self k c.requires.room marks.kept marks.same taken.kept taken.made items c.push_reserved.ensures.capacity stops c.push_reserved-in-Ok.ensures.capacity;
      choice = k;
      goes = refl;
      choices = items;
    }

pub returns-in-Err-clause-held : goal.returns-in-Err-clause-held
returns-in-Err-clause-held c code l m h =
    lacks code l m 10 c.args.self.now c.mark-mark.new.self c.charge.new.self c.in-Err.full h c.mark-mark.ensures.kept (ap (λ (s : State). s.heap) c.mark-mark.ensures.same) c.in-Err.ensures.kept c.in-Err.ensures.made
