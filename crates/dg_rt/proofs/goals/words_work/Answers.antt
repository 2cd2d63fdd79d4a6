use Rattle.dg_rt.proofs.Characters as characters
use Rattle.dg_rt.proofs.WordSpelled as spelling
use Rattle.dg_rt.proofs.goals.words_work.Goals as goal

pub returns : goal.returns
returns c = record { character = characters.character_works; spells = spelling.spell_works }
