-- A program that isn't refused has a story.
use Rattle.std.proofs.Common.{◌≡◌, ℕ, ◌+◌, ◌*◌, ◌≤◌, List, [], ◌∷◌, ◌++◌, length, refl, map, Bool, false, inl, inr, arith, length-append}
use Rattle.std.proofs.lemmas.List.{length-map}
use Rattle.std.specs.List.{All}
use Rattle.dg_base.specs.declared.program.ClosureBody.{ClosureBody}
use Rattle.dg_base.specs.declared.program.CoreProgram.{CoreProgram}
use Rattle.dg_base.specs.Sound.{IsSound}
use Rattle.dg_mid.specs.declared.code.Code.{Code}
use Rattle.z_asm.specs.Layout.{table_bytes}
use Rattle.z_asm.specs.Story as image
use Rattle.z_story.specs.Parts.{image_of}
use Rattle.dg_rt.specs.Words.{word_starts, spellings, words_table}
use Rattle.dg_fits.specs.Laws as fits
use Rattle.dg_fits.specs.Sizes.{words_size}
use Rattle.dg_story.specs.Built.{story_tables, site_words, story_parts, HasNoStory}
use Rattle.dg_story.specs.inside.Stories.{IsWritten, HasStory}
use Rattle.dg_story.proofs.Mapped.{written_long}
use Rattle.dg_story.proofs.Rows.{from_kept_long, StartsFit}
use Rattle.dg_story.proofs.Begun.{starts_so}
use Rattle.dg_story.proofs.RefusalLemmas.{world_fits, words_fit, story_fits}

starts_long : (at : ℕ) (words : List (List ℕ)) → length (word_starts at words) ≡ 2 * length words
starts_long at [] = refl
starts_long at (word ∷ words) = let e = starts_long (at + length word + 1) words in omega arith

spellings_long : (words : List (List ℕ)) → length (spellings words) + 2 * length words ≡ words_size words
spellings_long [] = refl
spellings_long (word ∷ words) = let e = spellings_long words in omega (arith, length-append word (0 ∷ spellings words))

words_long : (words : List (List ℕ)) → length (words_table words) ≡ 2 + words_size words
words_long words =
    let starts = word_starts (2 + 2 * length words) words in
    omega (arith, length-append starts (spellings words), starts_long (2 + 2 * length words) words, spellings_long words)

-- what isn't written takes a byte for each closure, and what words count
told_long : (program : CoreProgram) (code : Code) → length (table_bytes false (story_tables program code)) ≡ length program.closures + (2 + words_size program.words)
told_long program code =
    let bytes = map (λ (c : ClosureBody). length c.captured) program.closures in
    omega (arith, length-append bytes (words_table program.words ++ []), length-append (words_table program.words) [], words_long program.words, length-map program.closures (λ (c : ClosureBody). length c.captured))

module _ (fit : fits.StoriesFit) (suit : fits.CodesSuit) (assembled : fits.RoutinesFit) (program : CoreProgram) (code : Code) (written : IsWritten program code) where
  sized : fits.IsSized program code
  sized = record {
    sound = written.sound;
    once = written.once;
    world = world_fits program written.fits;
    words = words_fit program written.fits;
    size = story_fits program written.fits;
    heads = written.heads;
    goals = written.goals;
    codes = written.codes;
    light = written.light;
  }

  pub starts : StartsFit program
  starts = starts_so program written.sound written.fits

  pub suits : fits.CodeSuits program code
  suits = suit program code sized

  short : fits.AreShort program (story_tables program code)
  short = record { written = omega (arith, written_long program code, from_kept_long program (site_words code), starts.small, suits.sites_few); told = omega (arith, told_long program code, words_fit program written.fits) }

  front_fits : (keeps : Bool) → image.front_of (image_of (story_parts program code keeps)) ≤ 65536
  front_fits keeps = (fit program code sized).near (story_tables program code) keeps short

  pub small : (keeps : Bool) → image.IsTooLarge (image_of (story_parts program code keeps)) → ⊥
  small keeps large = (fit program code sized).small (story_tables program code) keeps (front_fits keeps) large

  none_is : (keeps : Bool) → HasNoStory code (story_parts program code keeps) → ⊥
  none_is keeps (inl many) = let few = (fit program code sized).numbered in omega arith
  none_is keeps (inr large) = small keeps large

  pub has_story : HasStory program code
  has_story = record {
    fits = suits.fits;
    parts = λ keeps. assembled program code sized keeps (story_tables program code) (omega arith);
    some = none_is;
  }

-- Closures capture few variables each.
pub captures_few : (program : CoreProgram) → IsSound program → All (λ (c : ClosureBody). length c.captured ≤ 255) program.closures
captures_few program sound = λ k d lt. let few = (sound.closures k d lt).few in omega arith
