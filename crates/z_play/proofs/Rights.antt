-- An engine whose story keeps its rights is sound; its open tables.
use Rattle.std.proofs.Common.{◌≡◌, ℕ, ◌+◌, ◌<◌, ◌≤◌, List, [], ◌∷◌, length, take, reverse, get_or, set, refl, ap, ◌∙◌, arith}
use Rattle.std.proofs.lemmas.List.{length-take, length-reverse, reverse-append, take_more, take_more_set}
use Rattle.z_model.specs.declared.end.OpenTable.{OpenTable}
use Rattle.z_model.specs.declared.story.Layout.{Layout}
use Rattle.z_full.specs.Calls.{SameRights}
use Rattle.z_memory.specs.declared.memory.Story.{Story}
use Rattle.z_memory.specs.Story.{story_memory}
use Rattle.z_memory.proofs.Rights.{same_story}
use Rattle.z_play.specs.declared.engine.Engine.{Engine}
use Rattle.z_play.specs.View.{tables_of, Sound, Kept}

abbrev layout_by : Engine → ℕ → Layout
layout_by e base = record { globals = e.globals; base = base; checksum_right = e.checksum_right }

-- An engine whose story keeps its rights is sound, wherever it goes on, and whatever tables are open.
pub tables_kept : (e : Engine) (story : Story) (pc : ℕ) (tables : List OpenTable) (opened : ℕ) → Sound e → SameRights (story_memory e.memory) (story_memory story) → length tables ≡ 16 → opened ≤ 16 →
    Kept e (record e { memory = story; pc = pc; tables = tables; opened = opened })
tables_kept e story pc tables opened sound same sixteen few =
    let s = same_story e.memory story (omega (arith, sound.from, sound.globals)) same in
    let size = s.size in
    let base = s.base in
    record {
      sound = record {
        size = omega (arith, size, sound.size);
        base = omega (arith, size, base, sound.base);
        from = sound.from;
        globals = omega (arith, base, sound.globals);
        nested = sound.nested;
        here = sound.here;
        words = sound.words;
        top = sound.top;
        room = sound.room;
        depth = sound.depth;
        sixteen = sixteen;
        opened = few;
      };
      layout = ap (λ (b : ℕ). layout_by e b) base;
      memory = size;
    }

pub rights_kept : (e : Engine) (story : Story) (pc : ℕ) → Sound e → SameRights (story_memory e.memory) (story_memory story) → Kept e (record e { memory = story; pc = pc })
rights_kept e story pc sound same = tables_kept e story pc e.tables e.opened sound same sound.sixteen sound.opened

pub kept_then : (a b c : Engine) → Kept a b → Kept b c → Kept a c
kept_then a b c p q = record { sound = q.sound; layout = q.layout ∙ p.layout; memory = q.memory ∙ p.memory }

-- ---- open tables

pub none_open : (e : Engine) → e.opened ≡ 0 → tables_of e ≡ []
none_open e none = rw none refl

pub tables_long : (e : Engine) → Sound e → length (tables_of e) ≡ e.opened
tables_long e sound = omega (arith, length-reverse (take e.opened e.tables), length-take e.opened e.tables, sound.sixteen, sound.opened)

-- the newest is the last
pub newest_is : (tables : List OpenTable) (n : ℕ) (d : OpenTable) → n < length tables → reverse (take (n + 1) tables) ≡ get_or tables n d ∷ reverse (take n tables)
newest_is tables n d lt = ap reverse (take_more tables n d lt) ∙ reverse-append (take n tables) (get_or tables n d ∷ [])

pub newest_set : (tables : List OpenTable) (n : ℕ) (t : OpenTable) → n < length tables → reverse (take (n + 1) (set tables n t)) ≡ t ∷ reverse (take n tables)
newest_set tables n t lt = ap reverse (take_more_set tables n t lt) ∙ reverse-append (take n tables) (t ∷ [])
