use Rattle.std.proofs.Common.{◌≡◌, ◌∙◌, ◌++◌, refl, ap, arith, rules}
use Rattle.dg_make.specs.declared.TheConstants.{PROGRAM}
use Rattle.dg_make.specs.Made.{room_line, thing_line, lines_to, program_text, made_source}
use Rattle.dg_make.proofs.make_source.Goals as goal

pub returns : goal.returns
returns c =
    let more : c.extend_from_slice.new.self.items ≡ c.things.text.items ++ PROGRAM.now = search rules in
    let same : PROGRAM.now ≡ program_text = refl in
    let all : c.things.thing ≡ c.args.n = omega (arith, c.things-test.false, c.things.auto.thing-end) in
    more ∙ ap (λ l. c.things.text.items ++ l) same ∙ ap (λ l. l ++ program_text) (c.things.invariant ∙ ap (λ k. lines_to room_line c.args.n ++ lines_to (thing_line c.args.n) k) all)
