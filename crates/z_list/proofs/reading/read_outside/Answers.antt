use Rattle.std.proofs.Common.{◌≡◌, Bool, true, false, refl, arith}
use Rattle.z_list.proofs.FormLemmas.{match_map, match_none, match_some}
use Rattle.z_list.proofs.Steps.{row_outside, rule_outside, none_outside}
use Rattle.z_list.proofs.reading.read_outside.Goals as goal

differ : (b : Bool) → b ≡ true → b ≡ false → ⊥
differ b p q = cc

pub returns-then-not-full : goal.returns-then-not-full
returns-then-not-full c =
    let old = c.args.story.now.items in
    match_map c.read_mark.result _ _ _ _
    (λ none. none_outside c.args.full c.args.text.now old c.args.count c.args.line.now c.read_mark.new.line c.len-at.result (omega (arith, c.len-at.ensures, c.args.story.now.ok.0)) none.1
    (λ so. absurd (differ c.args.full so c.if-not-full.true)) none.0)
    (λ x e. rule_outside c.args.full c.args.text.now x.1.now old old c.args.count c.args.line.now c.read_mark.new.line c.len-at.result x.0 e.0 (omega (arith, c.len-at.ensures, c.args.story.now.ok.0)) e.1 c.requires.short refl e.3 e.2)
    c.read_mark.ensures

pub returns-in_default : goal.returns-in_default
returns-in_default c =
    let old = c.args.story.now.items in
    let unread = match_none c.in_ok-rest.field-0 _ _ c.in_default.is c.in_ok-rest.ensures in
    match_map c.read_mark-in_default.result _ _ _ _
    (λ none. none_outside c.args.full c.args.text.now old c.args.count c.args.line.now c.read_mark-in_default.new.line c.len-at.result (omega (arith, c.len-at.ensures, c.args.story.now.ok.0)) none.1 (λ _. unread.stuck) none.0)
    (λ x e. rule_outside c.args.full c.args.text.now x.1.now old c.data_line.new.story.items c.args.count c.args.line.now c.read_mark-in_default.new.line c.len-at.result x.0 e.0
    (omega (arith, c.len-at.ensures, c.args.story.now.ok.0)) e.1 c.requires.short unread.bytes e.3 e.2)
    c.read_mark-in_default.ensures

pub returns : goal.returns
returns c =
    row_outside c.args.full c.args.text.now c.in-Some.rest.now c.args.story.now.items c.data_line.new.story.items c.args.count c.args.line.now c.len-at.result c.len.result c.if-not-full.false
    (omega (arith, c.len-at.ensures, c.args.story.now.ok.0)) (omega (arith, c.len.ensures, c.data_line.new.story.ok.0)) c.requires.within c.requires.short
    (match_some c.in_ok-rest.field-0 _ _ c.in-Some.rest c.in-Some.is c.in_ok-rest.ensures)
