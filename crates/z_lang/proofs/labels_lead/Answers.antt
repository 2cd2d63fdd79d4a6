use Rattle.z_lang.proofs.Labels.{labels_lead}
use Rattle.z_lang.proofs.labels_lead.Goals as goal

pub returns : goal.returns
returns c = λ xs. labels_lead xs
