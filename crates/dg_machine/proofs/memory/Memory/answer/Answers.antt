use Rattle.std.proofs.Common.{◌≡◌, ◌∙◌, ap, sym, refl}
use Rattle.dg_machine.proofs.Hands.{cut_left}
use Rattle.dg_machine.proofs.Leaving.{left_frame, not_answered, answered_all, answered_one, cut_behind}
use Rattle.dg_machine.proofs.memory.Memory.answer.Goals as goal

pub returns-in-None : goal.returns-in-None
returns-in-None c g l m o b at h = not_answered c.args.code.now g l m c.args.self.now c.args.ops h (sym c.in-None.ensures)

pub returns-in-Some : goal.returns-in-Some
returns-in-Some c g l m o b at h =
    let f = c.in-Some.frame in
    let r = c.args.self.now in
    let x = left_frame c.args.code.now l m f r o h (sym c.in-Some.ensures) in
    answered_all c.args.code.now g l m f r (record r { frame = f.behind; inner = f.inner }) c.args.ops c.code_at.result c.requires.built c.requires.tidy c.code_at.ensures x c.if-frame.true refl refl

pub returns-in-Some-2 : goal.returns-in-Some-2
returns-in-Some-2 c g l m o b at h =
    let f = c.in-Some-2.frame in
    let same : c.in-Some-2.frame ≡ c.in-Some.frame = let a = c.in-Some.is in let b = c.in-Some-2.is in cc in
    let r = c.args.self.now in
    let mid = c.cut.new.self in
    let x = left_frame c.args.code.now l m f r o h (sym c.in-Some-2.ensures) in
    answered_one c.args.code.now g l m f r (record mid { frame = f.behind; inner = f.inner }) c.args.ops c.code_at-in-Some-2.result c.requires.built c.requires.tidy c.code_at-in-Some-2.ensures (record r { frame = f.behind; inner = f.inner }) x (ap (λ f. f.many) same ∙ c.if-frame.false) refl
    (cut_behind c.args.code.now l m f r mid x c.cut.ensures.below c.cut.ensures.capacity c.cut.ensures.fewer c.cut.ensures.same) (cut_left f.cut r.choices.items mid.choices.items c.cut.ensures.below)
