use Rattle.std.proofs.Common.{◌≡◌, List, [], arith, subst}
use Rattle.std.proofs.lemmas.Grind.{common_steps}
use Rattle.z_lang.specs.declared.act.Act.{Act}
use Rattle.z_lang.specs.Constructs.{LabelsLead}
use Rattle.z_lang.specs.Lines.{first_label, flattened}
use Rattle.z_lang.proofs.Labels.{labels_lead}
use Rattle.z_lang.proofs.lines.flatten.Goals as goal

pub returns-clause-leads : goal.returns-clause-leads
returns-clause-leads c =
    let same : flattened first_label [] c.args.lines.now ≡ c.loop-line.acts.items = grind (arith, common_steps) in
    subst (λ (body : List Act). LabelsLead c.args.lines.now body) same (labels_lead c.args.lines.now)
