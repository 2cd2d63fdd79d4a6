use Rattle.std.proofs.Common.{◌∙◌, ap}
use Rattle.std.specs.Str.{bytes_eq}
use Rattle.dg_words.proofs.ClassLemmas.{same_as_bytes}
use Rattle.dg_words.proofs.classes.is_spelled.Goals as goal

pub returns : goal.returns
returns c = c.eq.ensures ∙ ap (λ l. bytes_eq l c.args.spelling.now) c.as_slice.ensures ∙ same_as_bytes c.args.word.now c.args.spelling.now
