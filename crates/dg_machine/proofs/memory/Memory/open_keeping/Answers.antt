use Rattle.std.proofs.Common.{◌≡◌, ◌∙◌, ◌++◌, [], ◌∷◌, refl, ap, ◌+◌, take}
use Rattle.dg_unify.specs.Store.{State}
use Rattle.dg_unify.proofs.StoreLemmas.{kept_on}
use Rattle.dg_arena.specs.Held.{meaning_of}
use Rattle.dg_machine.specs.Layout.{choice_here}
use Rattle.dg_machine.specs.declared.memory.Memory.{Memory}
use Rattle.dg_machine.proofs.Opens.{opened, opened_room, lacks}
use Rattle.dg_machine.proofs.memory.Memory.open_keeping.Goals as goal

pub returns-in-Ok-clause-held : goal.returns-in-Ok-clause-held
returns-in-Ok-clause-held c code l m on h way =
    let r = c.args.self.now in
    let n = c.args.count in
    let mark = c.mark-mark.result in
    let new : Memory = record r { arena = c.charge.new.self; choices = c.push_reserved.new.self; kept = c.push_refs.new.to } in
    let marks = c.mark-mark.ensures in
    let taken = c.in-Ok.ensures in
    let kept : c.push_refs.new.to.items ≡ r.kept.items ++ take n r.args.items = c.push_refs.ensures.items ∙ ap (λ xs. r.kept.items ++ take n xs) c.deref.ensures.value in
    let items : c.push_reserved.new.self.items ≡ r.choices.items ++ choice_here r c.args.way n mark ∷ [] = c.push_reserved.ensures.items ∙ ap (λ k. r.choices.items ++ k ∷ []) c.choice_here-choice.ensures in
    opened code l m on n c.args.counted r new c.mark-mark.new.self c.args.way mark h way c.requires.count marks.kept marks.saved marks.same taken.kept taken.saved taken.made kept items
    (opened_room n c.args.counted r new c.mark-mark.new.self (choice_here r c.args.way n mark) c.requires.room c.requires.count c.requires.few marks.kept marks.same taken.kept taken.made kept c.push_refs.ensures.capacity items c.push_reserved.ensures.capacity)

pub returns-in-Ok-clause-opened : goal.returns-in-Ok-clause-opened
returns-in-Ok-clause-opened c =
    let r = c.args.self.now in
    let n = c.args.count in
    let k = choice_here r c.args.way n c.mark-mark.result in
    let new : Memory = record r { arena = c.charge.new.self; choices = c.push_reserved.new.self; kept = c.push_refs.new.to } in
    let marks = c.mark-mark.ensures in
    let taken = c.in-Ok.ensures in
    let kept : c.push_refs.new.to.items ≡ r.kept.items ++ take n r.args.items = c.push_refs.ensures.items ∙ ap (λ xs. r.kept.items ++ take n xs) c.deref.ensures.value in
    let items : c.push_reserved.new.self.items ≡ r.choices.items ++ k ∷ [] = c.push_reserved.ensures.items ∙ ap (λ x. r.choices.items ++ x ∷ []) c.choice_here-choice.ensures in
    record {
      heap = ap (λ (s : State). s.heap) taken.made.state ∙ ap (λ (s : State). s.heap + (10 + c.args.counted)) marks.same;
      values = kept_on (meaning_of r.arena) (meaning_of c.mark-mark.new.self) (meaning_of c.charge.new.self) marks.kept taken.kept;
      args = refl;
      inners = refl;
      frame = refl;
      inner = refl;
      room = opened_room n c.args.counted r new c.mark-mark.new.self k c.requires.room c.requires.count c.requires.few marks.kept marks.same taken.kept taken.made kept c.push_refs.ensures.capacity items c.push_reserved.ensures.capacity;
      choice = k;
      goes = refl;
      choices = items;
    }

pub returns-in-Err-clause-held : goal.returns-in-Err-clause-held
returns-in-Err-clause-held c code l m on h way =
    lacks code l m (10 + c.args.counted) c.args.self.now c.mark-mark.new.self c.charge.new.self c.in-Err.full h c.mark-mark.ensures.kept (ap (λ (s : State). s.heap) c.mark-mark.ensures.same) c.in-Err.ensures.kept c.in-Err.ensures.made
