use Rattle.std.proofs.Common.{sym, subst}
use Rattle.dg_mid.specs.declared.code.Code.{Code}
use Rattle.dg_mid.specs.Tidying.{BlocksTidy}
use Rattle.dg_mid.proofs.Rules.{made_codes, made_light, starting_neat, tidy_made, leaves_made}
use Rattle.dg_mid.proofs.programs.code_of.Goals as goal

pub returns-clause-codes : goal.returns-clause-codes
returns-clause-codes c p preds closures entry =
    made_codes p c.args.entry c.args.preds c.args.closures _ _ _ _ _ _ preds closures entry c.in_ok-writer.ensures c.in_ok-preds.ensures.blocks c.in_ok-closures.ensures.blocks c.in_ok-preds.ensures.stand c.in_ok-closures.ensures.stand c.blocks-2.ensures

pub returns-clause-tidy : goal.returns-clause-tidy
returns-clause-tidy c =
    tidy_made _ (subst BlocksTidy (sym c.blocks-2.ensures) (c.in_ok-closures.ensures.neat (c.in_ok-preds.ensures.neat (subst BlocksTidy (sym c.in_ok-writer.ensures) (starting_neat c.args.entry)))))

pub returns-clause-leave : goal.returns-clause-leave
returns-clause-leave c =
    let code : Code = record { blocks = c.blocks-2.result; preds = c.in_ok-preds.preds; closures = c.in_ok-closures.closures } in
    leaves_made code (subst BlocksTidy (sym c.blocks-2.ensures) (c.in_ok-closures.ensures.neat (c.in_ok-preds.ensures.neat (subst BlocksTidy (sym c.in_ok-writer.ensures) (starting_neat c.args.entry)))))

pub returns-clause-light : goal.returns-clause-light
returns-clause-light c p preds closures entry w =
    made_light w p c.args.entry c.args.preds c.args.closures _ _ _ _ c.in_ok-preds.preds c.in_ok-closures.closures preds closures entry c.in_ok-writer.ensures (c.in_ok-preds.ensures.light w) (c.in_ok-closures.ensures.light w) c.blocks-2.ensures
