use Rattle.std.proofs.Common.{◌≡◌, ◌∙◌, ℕ, List, take, ap, subst, sym}
use Rattle.z_model.specs.Story.{memory_of}
use Rattle.z_play.specs.Ready.{IsStory, IsLoaded}
use Rattle.z_play.proofs.Loading.{story_of, loaded_of}
use Rattle.z_play.proofs.player.Player.with_header.Goals as goal

pub with_memory-requires : goal.with_memory-requires
with_memory-requires c =
    let cut : c.truncate.new.self.items ≡ memory_of c.args.bytes.items = c.truncate.ensures.items ∙ ap (λ (n : ℕ). take n c.args.bytes.items) c.requires.length in
    subst (λ (s : List ℕ). IsStory s c.args.header.start c.args.header.layout) (sym cut) (story_of c.args.bytes.items c.args.header c.requires)

pub returns-in-Ok-clause-loaded : goal.returns-in-Ok-clause-loaded
returns-in-Ok-clause-loaded c =
    let cut : c.truncate.new.self.items ≡ memory_of c.args.bytes.items = c.truncate.ensures.items ∙ ap (λ (n : ℕ). take n c.args.bytes.items) c.requires.length in
    subst (λ (s : List ℕ). IsLoaded c.args.bytes.items s) (sym (c.in-Ok.ensures ∙ cut)) (loaded_of c.args.bytes.items c.args.header c.requires)
