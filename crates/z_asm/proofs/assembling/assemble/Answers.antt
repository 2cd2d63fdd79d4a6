use Rattle.std.proofs.Common.{ℕ, List, length, ap, sym, subst, ◌∙◌, arith}
use Rattle.z_asm.proofs.Parts.{whole_long, story_is}
use Rattle.z_asm.specs.Assembled.{IsAssembled}
use Rattle.z_asm.proofs.Standing.{assembled}
use Rattle.z_asm.proofs.assembling.assemble.Goals as goal

pub with_header-requires-clause-short : goal.with_header-requires-clause-short
with_header-requires-clause-short c =
    let image = c.args.image.now in
    let a = ap length c.as_slice-4.ensures.value in
    let b = ap length c.in_ok-bytes.ensures in
    let d = whole_long image c.in_ok-plan.plan c.requires c.in_ok-plan.ensures.ok in
    let near = c.in_ok-plan.ensures.ok.near in
    omega arith

pub returns-clause-story : goal.returns-clause-story
returns-clause-story c =
    let image = c.args.image.now in
    let p = c.in_ok-plan.plan in
    story_is image p c.as_slice-4.result.now c.in_ok-story.story.items c.requires c.in_ok-plan.ensures.ok (c.as_slice-4.ensures.value ∙ c.in_ok-bytes.ensures) c.in_ok-story.ensures

pub returns-clause-assembled : goal.returns-clause-assembled
returns-clause-assembled c =
    let image = c.args.image.now in
    let plan = c.in_ok-plan.ensures.ok in
    let same = story_is image c.in_ok-plan.plan c.as_slice-4.result.now c.in_ok-story.story.items c.requires plan (c.as_slice-4.ensures.value ∙ c.in_ok-bytes.ensures) c.in_ok-story.ensures in
    subst (λ (l : List ℕ). IsAssembled image l) (sym same) (assembled image c.requires plan.readable plan.near)
