use Rattle.std.proofs.Common.{◌≡◌, ◌<◌, length, Result, Ok, IsOk, sym, subst, ◌∙◌, arith}
use Rattle.z_model.specs.declared.end.Effect.TheVariants.{PrintsLine}
use Rattle.z_model.specs.Machine.{Machine}
use Rattle.z_model.specs.Flow.{returned}
use Rattle.z_model.specs.Effects.{prints_line}
use Rattle.z_play.specs.View.{layout_in, tables_of, machine}
use Rattle.z_play.proofs.Returns.{line_refused, line_kept, line_prints, line_tabled}
use Rattle.z_play.proofs.Rights.{none_open, tables_long}
use Rattle.z_play.specs.inside.Effects.{GivesEffect}
use Rattle.z_model.specs.declared.fault.ZFault.{ZFault}
use Rattle.z_model.specs.declared.end.Effect.{Effect}
use Rattle.z_play.proofs.engine.Engine.print_line.Goals as goal

pub returns-in-Some-clause-prints : goal.returns-in-Some-clause-prints
returns-in-Some-clause-prints c = line_refused (layout_in c.args.self.now) (machine c.args.self.now) c.args.at c.in-Some.fault (sym c.print_fault.ensures ∙ c.in-Some.is)

pub returns-in-Some-return_fault-clause-prints : goal.returns-in-Some-return_fault-clause-prints
returns-in-Some-return_fault-clause-prints c = line_kept (layout_in c.args.self.now) (machine c.args.self.now) c.args.at c.in-Some-return_fault.fault (none_open c.args.self.now (omega (arith, c.if-self-gt0.false))) (sym c.print_fault.ensures ∙ c.in_default.is) (sym (c.return_fault.ensures.fault 1) ∙ c.in-Some-return_fault.is)

pub returns-in-None-clause-prints : goal.returns-in-None-clause-prints
returns-in-None-clause-prints c = subst (λ (m : Machine). (prints_line (layout_in c.args.self.now) (machine c.args.self.now) c.args.at ≡ Ok (PrintsLine c.args.at, m)) × IsOk (returned (layout_in c.args.self.now) m 1)) (sym c.return_fault.ensures.same) (line_prints (layout_in c.args.self.now) (machine c.args.self.now) c.args.at (none_open c.args.self.now (omega (arith, c.if-self-gt0.false))) (sym c.print_fault.ensures ∙ c.in_default.is) (sym (c.return_fault.ensures.fault 1) ∙ c.in-None.is))

pub returns-then-self-gt0-clause-prints : goal.returns-then-self-gt0-clause-prints
returns-then-self-gt0-clause-prints c =
    let some : 0 < length (tables_of c.args.self.now) = omega (arith, tables_long c.args.self.now c.requires, c.if-self-gt0.true) in
    subst (λ (r : Result (Effect × Machine) ZFault). GivesEffect c.put_line.result (layout_in c.args.self.now) (machine c.put_line.new.self) r)
    (sym (line_tabled (layout_in c.args.self.now) (machine c.args.self.now) c.args.at some (sym c.print_fault.ensures ∙ c.in_default.is))) c.put_line.ensures.put
