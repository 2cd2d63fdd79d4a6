-- The newest table: codes that go into it, and its end.
use Rattle.std.proofs.Common.{◌≡◌, ℕ, ◌+◌, ◌-◌, ◌%◌, ◌<◌, List, ◌∷◌, length, take, reverse, get_or, set, Result, Ok, Err, refl, sym, ap, subst, ◌∙◌, arith}
use Rattle.z_model.specs.declared.fault.ZFault.{ZFault}
use Rattle.z_model.specs.declared.end.OpenTable.{OpenTable}
use Rattle.z_model.specs.Memory.{guarded, with_word, with_bytes}
use Rattle.z_model.specs.Machine.{Machine}
use Rattle.z_model.specs.Streams.{with_more, into_table, stream_closed}
use Rattle.z_memory.specs.declared.memory.Story.{Story}
use Rattle.z_play.specs.declared.engine.Engine.{Engine}
use Rattle.z_memory.specs.Story.{story_memory}
use Rattle.z_play.specs.inside.Effects.{into_first, into_newest}
use Rattle.z_play.specs.View.{machine, layout_in, tables_of, Sound}
use Rattle.z_play.proofs.Rights.{newest_is, newest_set}

abbrev no_table : OpenTable
no_table = record { at = 0; count = 0 }

abbrev pub newest : Engine → OpenTable
newest e = get_or e.tables (e.opened - 1) no_table

abbrev others : Engine → List OpenTable
others e = reverse (take (e.opened - 1) e.tables)

-- with so many codes more
abbrev pub counted : OpenTable → ℕ → OpenTable
counted t n = record { at = t.at; count = (t.count + n % 65536) % 65536 }

module _ (e : Engine) (sound : Sound e) (some : 0 < e.opened) where
  one_less : e.opened - 1 + 1 ≡ e.opened
  one_less = omega arith

  tables_are : tables_of e ≡ newest e ∷ others e
  tables_are = ap (λ (n : ℕ). reverse (take n e.tables)) (sym one_less) ∙ newest_is e.tables (e.opened - 1) no_table (omega (arith, sound.sixteen, sound.opened))

  tables_behind : (t : OpenTable) → reverse (take e.opened (set e.tables (e.opened - 1) t)) ≡ t ∷ others e
  tables_behind t = ap (λ (n : ℕ). reverse (take n (set e.tables (e.opened - 1) t))) (sym one_less) ∙ newest_set e.tables (e.opened - 1) t (omega (arith, sound.sixteen, sound.opened))

  module _ (codes : List ℕ) where
    abbrev place : ℕ
    place = (((newest e).at + 2) % 65536 + (newest e).count) % 65536

    same_place : (at count : ℕ) → ((at + 2) % 65536 + count) % 65536 ≡ (at + 2 + count) % 65536
    same_place at count = omega arith

    pub codes_failed : (fault : ZFault) → with_bytes (story_memory e.memory) place codes ≡ Err fault → into_newest (layout_in e) (machine e) codes ≡ Err fault
    unfolding into_table
    codes_failed fault bad =
        let here : with_bytes (guarded (layout_in e) (machine e).memory) (((newest e).at + 2 + (newest e).count) % 65536) codes ≡ Err fault =
        subst (λ (n : ℕ). with_bytes (story_memory e.memory) n codes ≡ Err fault) (same_place (newest e).at (newest e).count) bad in
        ap (λ (tables : List OpenTable). into_first (layout_in e) (machine e) tables codes) tables_are ∙ rw here refl

    pub codes_written : (story : Story) → with_bytes (story_memory e.memory) place codes ≡ Ok (story_memory story) →
        into_newest (layout_in e) (machine e) codes ≡ Ok (machine (record e { memory = story; tables = set e.tables (e.opened - 1) (counted (newest e) (length codes)) }))
    unfolding into_table
    codes_written story good =
        let here : with_bytes (guarded (layout_in e) (machine e).memory) (((newest e).at + 2 + (newest e).count) % 65536) codes ≡ Ok (story_memory story) =
        subst (λ (n : ℕ). with_bytes (story_memory e.memory) n codes ≡ Ok (story_memory story)) (same_place (newest e).at (newest e).count) good in
        let count : ((newest e).count + length codes) % 65536 ≡ ((newest e).count + length codes % 65536) % 65536 = omega arith in
        let same : with_more (newest e) codes ≡ counted (newest e) (length codes) = ap (λ (n : ℕ). open_at (newest e).at n) count in
        let behind : with_more (newest e) codes ∷ others e ≡ reverse (take e.opened (set e.tables (e.opened - 1) (counted (newest e) (length codes)))) =
        ap (λ (t : OpenTable). t ∷ others e) same ∙ sym (tables_behind (counted (newest e) (length codes))) in
        ap (λ (tables : List OpenTable). into_first (layout_in e) (machine e) tables codes) tables_are
        ∙ rw here refl
        ∙ ap (λ (tables : List OpenTable). changed story tables) behind
      where
        open_at : ℕ → ℕ → OpenTable
        open_at at count = record { at = at; count = count }

        changed : Story → List OpenTable → Result Machine ZFault
        changed story tables = Ok (record (machine e) { memory = story.bytes.items; tables = tables })

  pub close_failed : (fault : ZFault) → with_word (story_memory e.memory) (newest e).at (newest e).count ≡ Err fault → stream_closed (layout_in e) (machine e) (tables_of e) ≡ Err fault
  close_failed fault bad =
      let here : with_word (guarded (layout_in e) (machine e).memory) (newest e).at (newest e).count ≡ Err fault = bad in
      ap (λ (tables : List OpenTable). stream_closed (layout_in e) (machine e) tables) tables_are ∙ rw here refl

  pub is_closed : (story : Story) → with_word (story_memory e.memory) (newest e).at (newest e).count ≡ Ok (story_memory story) →
      stream_closed (layout_in e) (machine e) (tables_of e) ≡ Ok (machine (record e { memory = story; opened = e.opened - 1 }))
  is_closed story good =
      let here : with_word (guarded (layout_in e) (machine e).memory) (newest e).at (newest e).count ≡ Ok (story_memory story) = good in
      ap (λ (tables : List OpenTable). stream_closed (layout_in e) (machine e) tables) tables_are ∙ rw here refl
